-- Left, Right and Below: lawful, and accepts where both tracks have one node and the two are related.
use Rattle.std.proofs.Common.{◌≡◌, ℕ, ◌≤◌, Bool, true, false, cond, not, ◌&&◌, ◌||◌, T, eqb, ltb, leb, ◌↔◌, sym, refl, ap, ◌∙◌, subst, ap₂, inl, inr, arith, lit≤, le→leb, eqb→eq}
use Rattle.trees.specs.declared.shape.Shape.{Shape}
use Rattle.trees.specs.Trees.{Tree, leaf, inner, Shaped, marks}
use Rattle.trees.specs.Nodes.{Node, root, bit, In}
use Rattle.automata.specs.Automata.{Automaton, Lawful, code, accepts}
use Rattle.automata.specs.Rules.{Ones}
use Rattle.automata.specs.declared.standing.Standing.{Standing}
use Rattle.automata.specs.declared.standing.Standing.TheVariants.{Neither, Waiting, Done, Dead}
use Rattle.automata.specs.Atoms.{number, standing, Step, leaf_standing, standings_automaton, ones_automaton}
use Rattle.automata.proofs.Tests.{and_iff, or_iff}
use Rattle.automata.proofs.Guards.{guard_leaf, guard_inner, guard_final, guarded_lawful}
use Rattle.automata.proofs.Tallies.{tally, tally_lt, tally_one, tally_some}
use Rattle.automata.proofs.Standings.{number_back, number_lt, is_done, number_done, Meets, stands, can, all_count, step_counts, leaf_counts}
use Rattle.automata.proofs.Relations.{Relation, Pair, Related}

can_of : (x y : ℕ) (e r : Bool) → (T e → (1 ≤ x) × (1 ≤ y)) → (T r → 1 ≤ y) → T (can x y e r)
can_of x y e r h k = (and_iff (not e || (leb 1 x && leb 1 y)) (not r || leb 1 y)).1 (counts e h, counted r k)
  where
    counts : (e : Bool) → (T e → (1 ≤ x) × (1 ≤ y)) → T (not e || (leb 1 x && leb 1 y))
    counts true h = (and_iff (leb 1 x) (leb 1 y)).1 (le→leb 1 x (h tt).0, le→leb 1 y (h tt).1)
    counts false h = tt

    counted : (r : Bool) → (T r → 1 ≤ y) → T (not r || leb 1 y)
    counted true k = le→leb 1 y (k tt)
    counted false k = tt

-- the standing that is done, by its counts
done_iff : (deep : Bool) (x y : ℕ) (e r : Bool) → T (is_done (stands deep x y e r)) ↔ (T (eqb x 1) × T (eqb y 1) × T e)
done_iff deep x y e r = (to, from)
  where
    last : (a b c : Bool) → T (is_done (cond a Neither (cond b Waiting (cond c Done Dead)))) → T c
    last true b c h = elim h [ ]
    last false true c h = elim h [ ]
    last false false true h = tt
    last false false false h = elim h [ ]

    to : T (is_done (stands deep x y e r)) → T (eqb x 1) × T (eqb y 1) × T e
    to z =
        let c = last (eqb x 0 && eqb y 0) (eqb x 0 && eqb y 1 && (r || deep)) (eqb x 1 && eqb y 1 && e) z in
        let u = (and_iff (eqb x 1 && eqb y 1) e).0 c in
        let v = (and_iff (eqb x 1) (eqb y 1)).0 u.0 in
        (v.0, v.1, u.1)

    known : (x y : ℕ) (e : Bool) → x ≡ 1 → y ≡ 1 → T e → T (is_done (stands deep x y e r))
    known x y true p q h = subst (λ (n : ℕ). T (is_done (stands deep n y true r))) (sym p) (subst (λ (n : ℕ). T (is_done (stands deep 1 n true r))) (sym q) tt)
    known x y false p q h = elim h [ ]

    from : T (eqb x 1) × T (eqb y 1) × T e → T (is_done (stands deep x y e r))
    from (p, q, h) = known x y e (eqb→eq x 1 p) (eqb→eq y 1 q) h

-- the standing of a tree
module _ (step : Step) (i j : ℕ) where
  abbrev st : Tree → Standing
  st (leaf a m) = leaf_standing (bit i m) (bit j m)
  st (inner a m l r) = step (bit i m) (bit j m) (st l) (st r)

-- whether a tree has a related pair
module _ (meets : Meets) (i j : ℕ) where
  abbrev met_here : ℕ → Tree → Tree → Bool
  met_here m l r = bit i m && meets (tally j l) (bit j (marks l)) (tally j r) (bit j (marks r))

  abbrev found : Tree → Bool
  found (leaf a m) = false
  found (inner a m l r) = met_here m l r || (found l || found r)

module _ (R : Relation) (step : Step) (meets : Meets) (deep : Bool) (ok : T (all_count step meets deep)) (rel : Related R meets) (i j : ℕ) where
  found_of : (t : Tree) → T (found meets i j t) → Pair R i j t
  found_of (leaf a m) h = elim h [ ]
  found_of (inner a m l r) h = elim ((or_iff (met_here meets i j m l r) _).0 h) [
    | inl z ↦ rel.at_root i j a m l r ((and_iff (bit i m) _).0 z)
    | inr z ↦ elim ((or_iff (found meets i j l) _).0 z) [
      | inl u ↦ rel.in_left i j a m l r (found_of l u)
      | inr u ↦ rel.in_right i j a m l r (found_of r u)
    ]
  ]

  of_found : (t : Tree) → Pair R i j t → T (found meets i j t)
  of_found (leaf a m) s = absurd (rel.no_leaf a m s.0 s.1 s.4)
  of_found (inner a m l r) s = elim (rel.split i j a m l r s.0 s.1 s.2 s.3 s.4) [
    | inl z ↦ (or_iff (met_here meets i j m l r) _).1 (inl ((and_iff (bit i m) _).1 z))
    | inr z ↦ (or_iff (met_here meets i j m l r) _).1 (inr ((or_iff (found meets i j l) _).1 (elim z [
      | inl u ↦ inl (of_found l u)
      | inr u ↦ inr (of_found r u)
    ])))
  ]

  can_be : (t : Tree) → T (can (tally i t) (tally j t) (found meets i j t) (bit j (marks t)))
  can_be t = can_of (tally i t) (tally j t) (found meets i j t) (bit j (marks t))
      (λ h. let s = found_of t h in ((tally_some i t).1 (s.0, s.2), (tally_some j t).1 (s.1, s.3))) (λ h. (tally_some j t).1 (root, h))

  st_counts : (t : Tree) → st step i j t ≡ stands deep (tally i t) (tally j t) (found meets i j t) (bit j (marks t))
  st_counts (leaf a m) = leaf_counts deep (bit i m) (bit j m)
  st_counts (inner a m l r) =
      ap₂ (step (bit i m) (bit j m)) (st_counts l) (st_counts r)
      ∙ step_counts step meets deep (tally i l) (tally j l) (found meets i j l) (bit j (marks l))
      (tally i r) (tally j r) (found meets i j r) (bit j (marks r)) (bit i m) (bit j m) ok
      (tally_lt i l) (tally_lt j l) (tally_lt i r) (tally_lt j r) (can_be l) (can_be r)

  done_ones : (t : Tree) → T (is_done (st step i j t)) ↔ Ones t (R t) i j
  done_ones t = (to, from)
    where
      d : T (is_done (stands deep (tally i t) (tally j t) (found meets i j t) (bit j (marks t))))
          ↔ (T (eqb (tally i t) 1) × T (eqb (tally j t) 1) × T (found meets i j t))
      d = done_iff deep (tally i t) (tally j t) (found meets i j t) (bit j (marks t))

      to : T (is_done (st step i j t)) → Ones t (R t) i j
      to z =
          let w = d.0 (subst (λ (s : Standing). T (is_done s)) (st_counts t) z) in
          let P = (tally_one i t).0 w.0 in
          let Q = (tally_one j t).0 w.1 in
          let s = found_of t w.2 in (
            P.0,
            Q.0,
            P.1,
            Q.1,
            subst (λ (p : Node t). R t p Q.0) (P.1.1 s.0 s.2) (subst (λ (q : Node t). R t s.0 q) (Q.1.1 s.1 s.3) s.4),
          )

      from : Ones t (R t) i j → T (is_done (st step i j t))
      from o =
          subst (λ (s : Standing). T (is_done s)) (sym (st_counts t))
          (d.1 ((tally_one i t).1 (o.0, o.2), (tally_one j t).1 (o.1, o.3), of_found t (o.0, o.1, o.2.0, o.3.0, o.4)))

-- a node is not related to itself
pub same_never : {R : Relation} {meets : Meets} → Related R meets → (i j : ℕ) → i ≡ j → (t : Tree) → ¬ Ones t (R t) i j
same_never {R} rel i j e t o = rel.never t o.0 (subst (R t o.0) (o.2.1 o.1 (subst (λ (k : ℕ). In k o.1) (sym e) o.3.0)) o.4)

-- the automaton
module _ (step : Step) (sh : Shape) (i j : ℕ) where
  abbrev of : Bool → Bool → Automaton
  of same b = standings_automaton same b step sh i j

  pub ones_lawful : Lawful (ones_automaton step sh i j)
  ones_lawful = go (eqb i j)
    where
      go : (same : Bool) → Lawful (of same (ltb i j))
      go true = guarded_lawful sh 1 _ _ _ (omega arith) (lit≤ tt) (λ a m h k. omega arith) (λ a m x y h k p q. omega arith)
      go false = guarded_lawful sh 4 _ _ _ (omega arith) (lit≤ tt)
          (λ a m h k. number_lt (ltb i j) (leaf_standing (bit i m) (bit j m)))
          (λ a m x y h k p q. number_lt (ltb i j) (step (bit i m) (bit j m) (standing (ltb i j) x) (standing (ltb i j) y)))

module _ (R : Relation) (step : Step) (meets : Meets) (deep : Bool) (ok : T (all_count step meets deep)) (rel : Related R meets) (sh : Shape) (i j : ℕ) where
  abbrev St : Tree → Standing
  St = st step i j

  apart_code : (b : Bool) (t : Tree) → Shaped sh t → code (of step sh i j false b) t ≡ number b (St t)
  apart_code b (leaf a m) h = guard_leaf sh a m _ h.0 h.1
  apart_code b (inner a m l r) h =
      ap₂ ((of step sh i j false b).inner_step a m) (apart_code b l h.2) (apart_code b r h.3)
      ∙ (guard_inner sh 4 a m (number b (St l)) (number b (St r)) _
      h.0 h.1 (number_lt b (St l)) (number_lt b (St r))
      ∙ ap₂ (λ (x y : Standing). number b (step (bit i m) (bit j m) x y)) (number_back b (St l)) (number_back b (St r)))

  apart_accepts : (b : Bool) (t : Tree) → Shaped sh t → T (accepts (of step sh i j false b) t) ↔ Ones t (R t) i j
  apart_accepts b t h =
      let e : accepts (of step sh i j false b) t ≡ is_done (St t)
      = ap (of step sh i j false b).final (apart_code b t h)
      ∙ (guard_final 4 (number b (St t)) _ (number_lt b (St t)) ∙ number_done b (St t)) in
      subst (λ (c : Bool). T c ↔ Ones t (R t) i j) (sym e) (done_ones R step meets deep ok rel i j t)

  pub ones_accepts : (t : Tree) → Shaped sh t → T (accepts (ones_automaton step sh i j) t) ↔ Ones t (R t) i j
  ones_accepts t h = go (eqb i j) refl
    where
      nothing : (x : ℕ) → T (ltb x 1 && eqb x 3) → ⊥
      nothing x z = let w = (and_iff (ltb x 1) (eqb x 3)).0 z in let e = eqb→eq x 3 w.1 in subst (λ (n : ℕ). T (ltb n 1)) e w.0

      go : (same : Bool) → eqb i j ≡ same → T (accepts (of step sh i j same (ltb i j)) t) ↔ Ones t (R t) i j
      go true e = (
        (λ z. absurd (nothing (code (of step sh i j true (ltb i j)) t) z)),
        λ o. absurd (same_never rel i j (eqb→eq i j (subst T (sym e) tt)) t o),
      )
      go false e = apart_accepts (ltb i j) t h
