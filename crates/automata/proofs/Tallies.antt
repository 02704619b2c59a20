-- The number of nodes of a track, counted up to 2: what 0, 1 and 2 say of the nodes.
use Rattle.std.proofs.Common.{◌≡◌, ℕ, ◌+◌, ◌<◌, ◌≤◌, min, Bool, true, false, T, eqb, ◌↔◌, sym, refl, ap, ◌∙◌, subst, arith}
use Rattle.trees.specs.Trees.{Tree, leaf, inner}
use Rattle.trees.specs.Nodes.{Node, root, left, right, bit, In, IsRoot}
use Rattle.automata.specs.Rules.{TheOne, AtomHolds, sing}
use Rattle.automata.specs.Atoms.{one_if}

abbrev pub tally : ℕ → Tree → ℕ
tally i (leaf a m) = one_if (bit i m)
tally i (inner a m l r) = min 2 (one_if (bit i m) + (tally i l + tally i r))

pub one_if_le : (b : Bool) → one_if b ≤ 1
one_if_le true = omega arith
one_if_le false = omega arith

pub tally_lt : (i : ℕ) (t : Tree) → tally i t < 3
tally_lt i (leaf a m) = omega (arith, one_if_le (bit i m))
tally_lt i (inner a m l r) = omega arith

-- the ways into an inner node's nodes do not meet
un_left : {a m : ℕ} {l r : Tree} → Node l → Node (inner a m l r) → Node l
un_left d root = d
un_left d (left q) = q
un_left d (right q) = d

un_right : {a m : ℕ} {l r : Tree} → Node r → Node (inner a m l r) → Node r
un_right d root = d
un_right d (left q) = d
un_right d (right q) = q

abbrev IsLeft : {t : Tree} → Node t → Type 0
IsLeft root = ⊥
IsLeft (left q) = Unit {0}
IsLeft (right q) = ⊥

abbrev None : ℕ → Tree → Type 0
None i t = (p : Node t) → In i p → ⊥

abbrev One : ℕ → Tree → Type 0
One i t = (p : Node t) × TheOne i p

abbrev Two : ℕ → Tree → Type 0
Two i t = (p : Node t) × (q : Node t) × In i p × In i q × (p ≡ q → ⊥)

data Tallied (i : ℕ) (t : Tree) : ℕ → Type 0 where
  zero_of : None i t → Tallied i t 0
  one_of : One i t → Tallied i t 1
  two_of : Two i t → Tallied i t 2

module _ (i a m : ℕ) where
  at_leaf : (b : Bool) → bit i m ≡ b → Tallied i (leaf a m) (one_if b)
  at_leaf true e = one_of (root, (subst T (sym e) tt, only))
    where
      only : (q : Node (leaf a m)) → In i q → q ≡ root
      only root k = refl
  at_leaf false e = zero_of no_node
    where
      no_node : None i (leaf a m)
      no_node root k = subst T e k

module _ (i a m : ℕ) (l r : Tree) where
  none_at : bit i m ≡ false → None i l → None i r → None i (inner a m l r)
  none_at e f g root k = subst T e k
  none_at e f g (left p) k = f p k
  none_at e f g (right p) k = g p k

  one_root : bit i m ≡ true → None i l → None i r → One i (inner a m l r)
  one_root e f g = (root, (subst T (sym e) tt, only))
    where
      only : (q : Node (inner a m l r)) → In i q → q ≡ root
      only root k = refl
      only (left q) k = absurd (f q k)
      only (right q) k = absurd (g q k)

  one_left : bit i m ≡ false → One i l → None i r → One i (inner a m l r)
  one_left e (p, (k, u)) g = (left p, (k, only))
    where
      only : (q : Node (inner a m l r)) → In i q → q ≡ left p
      only root z = absurd (subst T e z)
      only (left q) z = ap left (u q z)
      only (right q) z = absurd (g q z)

  one_right : bit i m ≡ false → None i l → One i r → One i (inner a m l r)
  one_right e f (p, (k, u)) = (right p, (k, only))
    where
      only : (q : Node (inner a m l r)) → In i q → q ≡ right p
      only root z = absurd (subst T e z)
      only (left q) z = absurd (f q z)
      only (right q) z = ap right (u q z)

  two_left : Two i l → Two i (inner a m l r)
  unfolding un_left
  two_left (p, q, h, k, ne) = (left p, left q, h, k, λ e. ne (ap (un_left p) e))

  two_right : Two i r → Two i (inner a m l r)
  unfolding un_right
  two_right (p, q, h, k, ne) = (right p, right q, h, k, λ e. ne (ap (un_right p) e))

  two_root_left : bit i m ≡ true → One i l → Two i (inner a m l r)
  two_root_left e (p, (k, u)) = (root, left p, subst T (sym e) tt, k, λ z. subst IsRoot z tt)

  two_root_right : bit i m ≡ true → One i r → Two i (inner a m l r)
  two_root_right e (p, (k, u)) = (root, right p, subst T (sym e) tt, k, λ z. subst IsRoot z tt)

  two_sides : One i l → One i r → Two i (inner a m l r)
  two_sides (p, (h, u)) (q, (k, v)) = (left p, right q, h, k, λ z. subst IsLeft z tt)

  at_inner : {x y : ℕ} (b : Bool) → bit i m ≡ b → Tallied i l x → Tallied i r y → Tallied i (inner a m l r) (min 2 (one_if b + (x + y)))
  at_inner true e (zero_of f) (zero_of g) = one_of (one_root e f g)
  at_inner true e (zero_of f) (one_of g) = two_of (two_root_right e g)
  at_inner true e (zero_of f) (two_of g) = two_of (two_right g)
  at_inner true e (one_of f) (zero_of g) = two_of (two_root_left e f)
  at_inner true e (one_of f) (one_of g) = two_of (two_sides f g)
  at_inner true e (one_of f) (two_of g) = two_of (two_right g)
  at_inner true e (two_of f) (zero_of g) = two_of (two_left f)
  at_inner true e (two_of f) (one_of g) = two_of (two_left f)
  at_inner true e (two_of f) (two_of g) = two_of (two_left f)
  at_inner false e (zero_of f) (zero_of g) = zero_of (none_at e f g)
  at_inner false e (zero_of f) (one_of g) = one_of (one_right e f g)
  at_inner false e (zero_of f) (two_of g) = two_of (two_right g)
  at_inner false e (one_of f) (zero_of g) = one_of (one_left e f g)
  at_inner false e (one_of f) (one_of g) = two_of (two_sides f g)
  at_inner false e (one_of f) (two_of g) = two_of (two_right g)
  at_inner false e (two_of f) (zero_of g) = two_of (two_left f)
  at_inner false e (two_of f) (one_of g) = two_of (two_left f)
  at_inner false e (two_of f) (two_of g) = two_of (two_left f)

tallied : (i : ℕ) (t : Tree) → Tallied i t (tally i t)
tallied i (leaf a m) = at_leaf i a m (bit i m) refl
tallied i (inner a m l r) = at_inner i a m l r (bit i m) refl (tallied i l) (tallied i r)

pub tally_one : (i : ℕ) (t : Tree) → T (eqb (tally i t) 1) ↔ AtomHolds (sing i) t
tally_one i t = go (tallied i t)
  where
    go : {n : ℕ} → Tallied i t n → T (eqb n 1) ↔ AtomHolds (sing i) t
    go (zero_of f) = (λ h. elim h [ ], λ o. f o.0 o.1.0)
    go (one_of o) = ((λ h. o), λ h. tt)
    go (two_of w) = (λ h. elim h [ ], λ o. w.4 (o.1.1 w.0 w.2 ∙ sym (o.1.1 w.1 w.3)))

pub tally_some : (i : ℕ) (t : Tree) → (1 ≤ tally i t) ↔ ((q : Node t) × In i q)
tally_some i t = go (tallied i t)
  where
    go : {n : ℕ} → Tallied i t n → (1 ≤ n) ↔ ((q : Node t) × In i q)
    go (zero_of f) = ((λ h. absurd (omega arith)), λ w. absurd (f w.0 w.1))
    go (one_of o) = ((λ h. (o.0, o.1.0)), λ w. omega arith)
    go (two_of w) = ((λ h. (w.0, w.2)), λ u. omega arith)
