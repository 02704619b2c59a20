-- The automaton of Sing: lawful, and accepts where the track has exactly one node.
use Rattle.std.proofs.Common.{◌≡◌, ℕ, ◌+◌, ◌<◌, min, Bool, T, eqb, ◌↔◌, sym, ap, ◌∙◌, subst, ap₂, arith, lit≤}
use Rattle.trees.specs.declared.shape.Shape.{Shape}
use Rattle.trees.specs.Shapes.{LeafLabel, InnerLabel, Marks}
use Rattle.trees.specs.Trees.{Tree, leaf, inner, Shaped}
use Rattle.trees.specs.Nodes.{bit}
use Rattle.automata.specs.Automata.{Lawful, code, accepts}
use Rattle.automata.specs.Rules.{AtomHolds, sing}
use Rattle.automata.specs.Atoms.{one_if, sing_automaton}
use Rattle.automata.proofs.Guards.{guard_leaf, guard_inner, guard_final, guarded_lawful}
use Rattle.automata.proofs.Tallies.{tally, tally_lt, tally_one, one_if_le}

module _ (sh : Shape) (i : ℕ) where
  pub sing_lawful : Lawful (sing_automaton sh i)
  sing_lawful = guarded_lawful sh 3 _ _ _ (omega arith) (lit≤ tt) (λ a m h k. omega (arith, one_if_le (bit i m))) (λ a m x y h k p q. omega arith)

  pub sing_leaf : (a m : ℕ) → LeafLabel sh a → Marks sh m → (sing_automaton sh i).leaf_step a m ≡ one_if (bit i m)
  sing_leaf a m h k = guard_leaf sh a m _ h k

  pub sing_inner : (a m x y : ℕ) → InnerLabel sh a → Marks sh m → x < 3 → y < 3 → (sing_automaton sh i).inner_step a m x y ≡ min 2 (one_if (bit i m) + (x + y))
  sing_inner a m x y h k p q = guard_inner sh 3 a m x y _ h k p q

  sing_code : (t : Tree) → Shaped sh t → code (sing_automaton sh i) t ≡ tally i t
  sing_code (leaf a m) h = sing_leaf a m h.0 h.1
  sing_code (inner a m l r) h =
      ap₂ ((sing_automaton sh i).inner_step a m) (sing_code l h.2) (sing_code r h.3)
      ∙ sing_inner a m (tally i l) (tally i r) h.0 h.1 (tally_lt i l) (tally_lt i r)

  pub sing_accepts : (t : Tree) → Shaped sh t → T (accepts (sing_automaton sh i) t) ↔ AtomHolds (sing i) t
  sing_accepts t h =
      let e : accepts (sing_automaton sh i) t ≡ eqb (tally i t) 1
      = ap (sing_automaton sh i).final (sing_code t h) ∙ guard_final 3 (tally i t) _ (tally_lt i t) in
      subst (λ (b : Bool). T b ↔ AtomHolds (sing i) t) (sym e) (tally_one i t)
