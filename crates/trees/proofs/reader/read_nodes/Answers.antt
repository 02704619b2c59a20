use Rattle.std.proofs.Common.{◌≡◌, ℕ, ◌≤◌, Bool, length, get_or, None, ◌∙◌, subst, arith, length-drop, rules}
use Rattle.std.proofs.lemmas.List.{take_rest}
use Rattle.trees.specs.Reading.{node_refusal}
use Rattle.trees.proofs.Turns.{turn_refusal, turn_parts, opened_le}
use Rattle.trees.proofs.reader.read_nodes.Goals as goal

pub loop-bytes-preserved : goal.loop-bytes-preserved
loop-bytes-preserved g c =
    let bs = c.loop-bytes.bytes.now in
    let sh = c.args.shape in
    let k = c.loop-bytes.reading.place in
    let n = c.loop-bytes.reading.height in
    let two : 2 ≤ length bs = search rules in
    let h = c.in_ok-read_node.ensures in
    let kept = c.loop-bytes.invariant in
    let none : node_refusal sh (g.F.Fold.room c.args.fold.now) k n (get_or bs 0 0) (get_or bs 1 0) ≡ None
    = subst (λ (room : ℕ → Bool). node_refusal sh room k n (get_or bs 0 0) (get_or bs 1 0) ≡ None) kept.same h.due in
    let low = opened_le sh n (get_or bs 0 0) in
    record {
      due = rw h.place (turn_refusal sh (g.F.Fold.room c.args.fold.now) n _ bs _ two (take_rest bs 2) h.height k none ∙ kept.due);
      place = simp (take_rest, length-drop) (omega (arith, h.place));
      height = omega (arith, h.place, h.height);
      same = c.read_node.ensures.same ∙ kept.same;
      made = λ held. turn_parts sh (g.F.Fold.room c.args.fold.now) n _ bs _ two (take_rest bs 2) h.height
          (g.F.Fold.holds c.args.fold.now c.loop-bytes.fold) (g.F.Fold.holds c.args.fold.now c.read_node.new.fold) k _ none (h.made c.args.fold.now) (kept.made held);
    }
