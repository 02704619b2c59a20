-- There are as many classes as codes found.
use Rattle.std.proofs.Common.{arith}
use Rattle.std.proofs.lemmas.List.{length-take}
use Rattle.build.proofs.Ends.{discovered_at}
use Rattle.build.proofs.building.build_found.Goals as goal

pub find_firsts-requires-clause-appears : goal.find_firsts-requires-clause-appears
find_firsts-requires-clause-appears g c = λ s h.
    let w = c.refine-count.ensures.first s (omega (arith, h, c.from.ensures, length-take c.from.result c.refine-count.new.next)) in
    (w.0, omega (arith, w.1, length-take c.in_ok-len.len c.discover.new.codes, c.in_ok-len.ensures, c.requires.ready.codes_lent, c.discover.auto.codes, c.split_at_mut-classes.ensures.front_len), w.2, w.3)
