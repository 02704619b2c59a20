-- A rule on each node by itself, and its two cases Sub and Lab: lawful, and accepts where no node is bad.
use Rattle.std.proofs.Common.{◌≡◌, ℕ, ◌+◌, ◌^◌, ◌<◌, ◌≤◌, min, Bool, true, false, cond, not, ◌&&◌, T, eqb, ◌↔◌, sym, refl, ap, ◌∙◌, subst, ap₂, arith, lit≤, eqb→eq}
use lib.Dec.{eqb_refl}
use Rattle.trees.specs.declared.shape.Shape.{Shape}
use Rattle.trees.specs.Trees.{Tree, leaf, inner, Shaped, label, marks}
use Rattle.trees.specs.Nodes.{Node, root, left, right, part, bit}
use Rattle.automata.specs.Automata.{Lawful, code, accepts}
use Rattle.automata.specs.Rules.{AtomHolds, sub, lab}
use Rattle.automata.specs.Atoms.{one_if, every_automaton, sub_bad, lab_bad, sub_automaton, lab_automaton}
use Rattle.automata.proofs.Guards.{guard_leaf, guard_inner, guard_final, guarded_lawful}

zero_iff : (b : Bool) → (one_if b ≡ 0) ↔ T (not b)
zero_iff true = ((λ e. absurd (omega arith)), λ h. elim h [ ])
zero_iff false = ((λ e. tt), λ h. refl)

module _ (bad : ℕ → ℕ → Bool) where
  abbrev worst : Tree → ℕ
  worst (leaf a m) = one_if (bad a m)
  worst (inner a m l r) = min 1 (one_if (bad a m) + (worst l + worst r))

  abbrev Good : Tree → Type 0
  Good t = (p : Node t) → T (not (bad (label (part p)) (marks (part p))))

  good_of : (t : Tree) → worst t ≡ 0 → Good t
  good_of (leaf a m) e root = (zero_iff (bad a m)).0 e
  good_of (inner a m l r) e root = (zero_iff (bad a m)).0 (omega arith)
  good_of (inner a m l r) e (left p) = good_of l (omega arith) p
  good_of (inner a m l r) e (right p) = good_of r (omega arith) p

  of_good : (t : Tree) → Good t → worst t ≡ 0
  of_good (leaf a m) h = (zero_iff (bad a m)).1 (h root)
  of_good (inner a m l r) h =
      omega (arith, (zero_iff (bad a m)).1 (h root), of_good l (λ p. h (left p)), of_good r (λ p. h (right p)))

  -- one code is enough only where no node is bad
  module _ (sh : Shape) (c : ℕ) (low : 1 ≤ c) (enough : (a m : ℕ) → T (bad a m) → 2 ≤ c) where
    one_if_lt : (a m : ℕ) → one_if (bad a m) < c
    one_if_lt a m = go (bad a m) (enough a m)
      where
        go : (b : Bool) → (T b → 2 ≤ c) → one_if b < c
        go true k = k tt
        go false k = low

    pub every_lawful : c ≤ 2 → Lawful (every_automaton sh c bad)
    every_lawful high =
        guarded_lawful sh c _ _ _ low (let z : 2 ≤ 2 ^ 32 = lit≤ tt in omega arith)
        (λ a m h k. one_if_lt a m) (λ a m x y h k p q. omega (arith, one_if_lt a m))

    worst_lt : (t : Tree) → worst t < c
    worst_lt (leaf a m) = one_if_lt a m
    worst_lt (inner a m l r) = omega (arith, one_if_lt a m, worst_lt l, worst_lt r)

    every_code : (t : Tree) → Shaped sh t → code (every_automaton sh c bad) t ≡ worst t
    every_code (leaf a m) h = guard_leaf sh a m _ h.0 h.1
    every_code (inner a m l r) h =
        ap₂ ((every_automaton sh c bad).inner_step a m) (every_code l h.2) (every_code r h.3)
        ∙ guard_inner sh c a m (worst l) (worst r) _ h.0 h.1 (worst_lt l) (worst_lt r)

    every_accepts : (t : Tree) → Shaped sh t → T (accepts (every_automaton sh c bad) t) ↔ Good t
    every_accepts t h =
        let e : accepts (every_automaton sh c bad) t ≡ eqb (worst t) 0
        = ap (every_automaton sh c bad).final (every_code t h) ∙ guard_final c (worst t) _ (worst_lt t) in
        ((λ z. good_of t (eqb→eq (worst t) 0 (subst T e z))), λ g. subst T (sym e) (subst (λ (n : ℕ). T (eqb n 0)) (sym (of_good t g)) tt))

-- a node in i is not bad: what the atoms ask of it
imply : (a b : Bool) → T (not (a && not b)) ↔ (T a → T b)
imply true true = ((λ h k. tt), λ f. tt)
imply true false = ((λ h k. h), λ f. f tt)
imply false b = ((λ h k. elim k [ ]), λ f. tt)

eqb_iff : (x y : ℕ) → T (eqb x y) ↔ (x ≡ y)
eqb_iff x y = (eqb→eq x y, λ e. subst (λ (z : ℕ). T (eqb x z)) e (eqb_refl x))

module _ (sh : Shape) (i b : ℕ) where
  pub lab_lawful : Lawful (lab_automaton sh i b)
  lab_lawful = every_lawful (lab_bad i b) sh 2 (omega arith) (λ a m z. omega arith) (omega arith)

  pub lab_accepts : (t : Tree) → Shaped sh t → T (accepts (lab_automaton sh i b) t) ↔ AtomHolds (lab i b) t
  lab_accepts t h =
      let w = every_accepts (lab_bad i b) sh 2 (omega arith) (λ a m z. omega arith) t h in (
        (λ z p k. (eqb_iff (label (part p)) b).0 ((imply (bit i (marks (part p))) (eqb (label (part p)) b)).0 (w.0 z p) k)),
        λ f. w.1 (λ p. (imply (bit i (marks (part p))) (eqb (label (part p)) b)).1 (λ k. (eqb_iff (label (part p)) b).1 (f p k))),
      )

module _ (sh : Shape) (i j : ℕ) where
  abbrev sub_count : ℕ
  sub_count = cond (eqb i j) 1 2

  count_of : (b : Bool) → (1 ≤ cond b 1 2) × (cond b 1 2 ≤ 2)
  count_of true = (omega arith, omega arith)
  count_of false = (omega arith, omega arith)

  -- with i = j no node is bad
  sub_enough : (a m : ℕ) → T (sub_bad i j a m) → 2 ≤ sub_count
  sub_enough a m h = go (eqb i j) refl
    where
      never : (b : Bool) → T (b && not b) → ⊥
      never true z = z
      never false z = z

      go : (b : Bool) → eqb i j ≡ b → 2 ≤ cond b 1 2
      go true e = absurd (never (bit i m) (subst (λ (k : ℕ). T (bit i m && not (bit k m))) (sym (eqb→eq i j (subst T (sym e) tt))) h))
      go false e = omega arith

  pub sub_lawful : Lawful (sub_automaton sh i j)
  sub_lawful = every_lawful (sub_bad i j) sh sub_count (count_of (eqb i j)).0 sub_enough (count_of (eqb i j)).1

  pub sub_accepts : (t : Tree) → Shaped sh t → T (accepts (sub_automaton sh i j) t) ↔ AtomHolds (sub i j) t
  sub_accepts t h =
      let w = every_accepts (sub_bad i j) sh sub_count (count_of (eqb i j)).0 sub_enough t h in (
        (λ z p. (imply (bit i (marks (part p))) (bit j (marks (part p)))).0 (w.0 z p)),
        λ f. w.1 (λ p. (imply (bit i (marks (part p))) (bit j (marks (part p)))).1 (f p)),
      )
