-- The machine is the atom's.
use Rattle.automata.specs.Rules.{sub, lab}
use Rattle.racks.specs.Promises.{lent_by}
use Rattle.filling.proofs.Ends.{atom_made}
use Rattle.filling.proofs.builds.build_atom.Goals as goal

pub returns-in_ok-new-in-Sub-clause-made : goal.returns-in_ok-new-in-Sub-clause-made
returns-in_ok-new-in-Sub-clause-made c =
    let made = c.in_ok-new-in-Sub.ensures in
    rw c.in-Sub.is (atom_made c.args.slot (sub c.in-Sub.i c.in-Sub.j) _ made.1.is made.0 (lent_by c.args.working.now) _ _ c.build_in.ensures.made)

pub returns-in_ok-new-in-Lab-clause-made : goal.returns-in_ok-new-in-Lab-clause-made
returns-in_ok-new-in-Lab-clause-made c =
    let made = c.in_ok-new-in-Lab.ensures in
    rw c.in-Lab.is (atom_made c.args.slot (lab c.in-Lab.i c.in-Lab.a) _ made.1.is made.0 (lent_by c.args.working.now) _ _ c.build_in-in-Lab.ensures.made)
