-- One field more.
use Rattle.std.proofs.Common.{ℕ, List, [], ◌∷◌, map, get_or, take, decimal, sym, ap, ◌∙◌, arith}
use Rattle.std.proofs.lemmas.List.{take_more, map-append}
use Rattle.tables.specs.Texts.{fields}
use Rattle.listing.proofs.Takings.{takes_is, takes_field}
use Rattle.listing.proofs.text.put_fields.Goals as goal

pub loop-byte-preserved : goal.loop-byte-preserved
loop-byte-preserved g c of is =
    let b : ℕ = get_or c.args.bytes.now c.loop-byte.byte-index 0 in
    let before : List ℕ = take c.loop-byte.byte-index c.args.bytes.now in
    let more = take_more c.args.bytes.now c.loop-byte.byte-index 0 c.loop-byte-test.true in
    takes_is (ap fields (sym (ap (map of) more ∙ map-append of before (b ∷ []))))
    (takes_field (map of before) (of b) (c.loop-byte.invariant of is)
    (takes_is (ap (λ (n : ℕ). 44 ∷ decimal n) (is b c.number.result (search arith) c.number.ensures)) c.put_field.ensures))
