-- Exactly the listings of trees are read to the end, each of one tree.
use Rattle.std.proofs.Common.{◌≡◌, ℕ, ◌+◌, ◌-◌, ◌^◌, ◌<◌, ◌≤◌, Bool, true, false, cond, not, ◌||◌, ltb, leb, List, [], ◌∷◌, ◌++◌, length, Some, None, Option, sym, refl, ap, ◌∙◌, subst, ap₂, append_assoc, append-nil, arith}
use mathlib.Core.List.{head-eq_of_cons-eq}
use Rattle.std.proofs.lemmas.Bool.{ltb-false, lt-ltb, le-ltb, le-leb, eqb-true, ltb-true}
use Rattle.trees.specs.declared.shape.Shape.{Shape}
use Rattle.trees.specs.declared.refusal.Refusal.{Refusal}
use Rattle.trees.specs.Shapes.{labels}
use Rattle.trees.specs.Trees.{Tree, leaf, inner, Shaped, listing, size}
use Rattle.trees.specs.Stacks.{under, grown, parts}
use Rattle.trees.specs.Reading.{check, or_else, node_refusal, opened, rest_refusal, stack_need, Stacked}
use Rattle.trees.proofs.Turns.{passed, Fine, fine, grown_length}

-- a check that holds
holds_check : (ok : Bool) (e : Refusal) (rest : Option Refusal) → ok ≡ true → check ok e rest ≡ rest
holds_check ok e rest h = ap (λ (b : Bool). check b e rest) h

-- a free place, by another name of its number
pub free_at : (room : ℕ → Bool) {n m : ℕ} → n ≡ m → room n ≡ true → room m ≡ true
free_at room e h = subst (λ (x : ℕ). room x ≡ true) e h

-- the listing of an inner node, and what follows it
pub listing_then : (a m : ℕ) (l r : Tree) (rest : List ℕ) → listing (inner a m l r) ++ rest ≡ listing l ++ (listing r ++ (a ∷ m ∷ rest))
listing_then a m l r rest =
    append_assoc (listing l) (listing r ++ (a ∷ m ∷ [])) rest ∙ ap (λ (x : List ℕ). listing l ++ x) (append_assoc (listing r) (a ∷ m ∷ []) rest)

module _ (sh : Shape) (room : ℕ → Bool) where
  none_due : (k n a m : ℕ) → a < labels sh → m < 2 ^ sh.tracks → (ltb a sh.leaves || leb 2 n) ≡ true → (not (ltb a sh.leaves) || room n) ≡ true
      → node_refusal sh room k n a m ≡ None
  none_due k n a m h i j o =
      holds_check _ _ _ (lt-ltb a (labels sh) h) ∙ (holds_check _ _ _ (lt-ltb m (2 ^ sh.tracks) i) ∙ (holds_check _ _ _ j ∙ holds_check _ _ _ o))

  past : (k n n' a m : ℕ) (rest : List ℕ) → node_refusal sh room k n a m ≡ None → opened sh n a ≡ n'
      → rest_refusal sh room k n (a ∷ m ∷ rest) ≡ rest_refusal sh room (k + 1) n' rest
  past k n n' a m rest e o =
      ap (λ (x : Option Refusal). or_else x (rest_refusal sh room (k + 1) (opened sh n a) rest)) e ∙ ap (λ (x : ℕ). rest_refusal sh room (k + 1) x rest) o

  past_leaf : (k n a m : ℕ) (rest : List ℕ) → a < sh.leaves → m < 2 ^ sh.tracks → room n ≡ true
      → rest_refusal sh room k n (a ∷ m ∷ rest) ≡ rest_refusal sh room (k + 1) (n + 1) rest
  past_leaf k n a m rest h i o =
      let t = lt-ltb a sh.leaves h in
      past k n (n + 1) a m rest
      (none_due k n a m (omega arith) i (ap (λ (b : Bool). b || leb 2 n) t) (ap (λ (b : Bool). not b || room n) t ∙ o))
      (ap (λ (b : Bool). cond b (n + 1) (n - 1)) t)

  past_inner : (k n a m : ℕ) (rest : List ℕ) → sh.leaves ≤ a → a < labels sh → m < 2 ^ sh.tracks → 2 ≤ n
      → rest_refusal sh room k n (a ∷ m ∷ rest) ≡ rest_refusal sh room (k + 1) (n - 1) rest
  past_inner k n a m rest g h i o =
      let t = le-ltb a sh.leaves g in
      past k n (n - 1) a m rest
      (none_due k n a m h i (ap (λ (b : Bool). b || leb 2 n) t ∙ le-leb 2 n o) (ap (λ (b : Bool). not b || room n) t))
      (ap (λ (b : Bool). cond b (n + 1) (n - 1)) t)

  -- t finds its places above n open parts
  abbrev pub Above : ℕ → Tree → Type 0
  Above n t = (p : ℕ) → p < stack_need t → room (n + p) ≡ true

  above_left : (n a m : ℕ) (l r : Tree) → Above n (inner a m l r) → Above n l
  above_left n a m l r f p h = f p (omega arith)

  above_right : (n a m : ℕ) (l r : Tree) → Above n (inner a m l r) → Above (n + 1) r
  above_right n a m l r f p h = free_at room (omega arith) (f (1 + p) (omega arith))

  pub above_join : (n a m : ℕ) (l r : Tree) → Above n l → Above (n + 1) r → Above n (inner a m l r)
  above_join n a m l r f g p h = go (ltb p (stack_need l)) refl
    where
      go : (b : Bool) → ltb p (stack_need l) ≡ b → room (n + p) ≡ true
      go true e = f p (ltb-true p (stack_need l) e)
      go false e =
          let past_l : stack_need l ≤ p = ltb-false p (stack_need l) e in
          let one : 1 ≤ p = omega (arith, need_pos l) in
          free_at room (omega arith) (g (p - 1) (omega arith))
        where
          need_pos : (t : Tree) → 1 ≤ stack_need t
          need_pos (leaf a m) = omega arith
          need_pos (inner a m u v) = omega arith

  -- a tree's listing opens one part more
  pub past_tree : (t : Tree) → Shaped sh t → (k n : ℕ) (rest : List ℕ) → Above n t
      → rest_refusal sh room k n (listing t ++ rest) ≡ rest_refusal sh room (k + size t) (n + 1) rest
  past_tree (leaf a m) h k n rest f =
      past_leaf k n a m rest h.0 h.1 (free_at room (omega arith) (f 0 (omega arith)))
  past_tree (inner a m l r) h k n rest f =
      ap (rest_refusal sh room k n) (listing_then a m l r rest)
      ∙ (past_tree l h.2 k n (listing r ++ (a ∷ m ∷ rest)) (above_left n a m l r f)
      ∙ (past_tree r h.3 (k + size l) (n + 1) (a ∷ m ∷ rest) (above_right n a m l r f)
      ∙ (past_inner (k + size l + size r) (n + 1 + 1) a m rest h.0.0 h.0.1 h.1 (omega arith)
      ∙ ap₂ (λ (x y : ℕ). rest_refusal sh room x y rest) (omega arith) (omega arith))))

  pub read_listing : (t : Tree) → Shaped sh t → Stacked room t → rest_refusal sh room 0 0 (listing t) ≡ None
  read_listing t h f =
      ap (rest_refusal sh room 0 0) (sym (append-nil (listing t)))
      ∙ past_tree t h 0 0 [] (λ p l. free_at room (omega arith) (f p l))

-- the bytes of open parts, the newest first, and of what follows them
abbrev pub spelled : List Tree → List ℕ → List ℕ
spelled [] rest = rest
spelled (t ∷ ts) rest = spelled ts (listing t ++ rest)

module _ (sh : Shape) (room : ℕ → Bool) where
  -- open parts of the shape, each with its places above those before it
  abbrev pub Held : List Tree → Type 0
  Held [] = Unit {0}
  Held (t ∷ ts) = Shaped sh t × Above sh room (length ts) t × Held ts

  -- a node where nothing is due, read on top of held parts
  pub held_grown : (a m : ℕ) (ts : List Tree) → Held ts → Fine sh room (length ts) a m → Held (grown sh.leaves a m ts)
  held_grown a m ts held f = go (ltb a sh.leaves) refl
    where
      joined : sh.leaves ≤ a → (us : List Tree) → Held us → 2 ≤ length us → Held (under a m us)
      joined g [] h two = absurd (omega arith)
      joined g (t ∷ []) h two = absurd (omega arith)
      joined g (r ∷ l ∷ us) h two = (
        ((g, f.known), f.marked, h.2.0, h.0),
        above_join sh room (length us) a m l r h.2.1 (λ p q. free_at room (omega arith) (h.1 p q)),
        h.2.2,
      )

      go : (b : Bool) → ltb a sh.leaves ≡ b → Held (cond b (leaf a m ∷ ts) (under a m ts))
      go true e =
          ((ltb-true a sh.leaves e, f.marked), (λ p q. free_at room (omega arith) (f.finds e)), held)
      go false e = joined (ltb-false a sh.leaves e) ts held (f.joins e)

  pub spelled_grown : (a m : ℕ) (ts : List Tree) (rest : List ℕ) → Fine sh room (length ts) a m → spelled (grown sh.leaves a m ts) rest ≡ spelled ts (a ∷ m ∷ rest)
  spelled_grown a m ts rest f = go (ltb a sh.leaves) refl
    where
      joined : (us : List Tree) → 2 ≤ length us → spelled (under a m us) rest ≡ spelled us (a ∷ m ∷ rest)
      joined [] two = absurd (omega arith)
      joined (t ∷ []) two = absurd (omega arith)
      joined (r ∷ l ∷ us) two = ap (spelled us) (listing_then a m l r rest)

      go : (b : Bool) → ltb a sh.leaves ≡ b → spelled (cond b (leaf a m ∷ ts) (under a m ts)) rest ≡ spelled ts (a ∷ m ∷ rest)
      go true e = refl
      go false e = joined ts (f.joins e)

  neither_due : (o rest : Option Refusal) → or_else o rest ≡ None → (o ≡ None) × (rest ≡ None)
  neither_due None rest e = (refl, e)
  neither_due (Some x) rest e = cc

  Whole : List ℕ → Type 0
  Whole bs = (t : Tree) × Shaped sh t × Stacked room t × (bs ≡ listing t)

  -- held parts, and bytes of which nothing is due, make one tree
  read_held : (bs : List ℕ) (ts : List Tree) (k : ℕ) → Held ts → rest_refusal sh room k (length ts) bs ≡ None → Whole (spelled ts bs)
  unfolding Whole
  read_held [] ts k held e = one ts held (eqb-true (length ts) 1 (passed _ _ _ e).0)
    where
      one : (us : List Tree) → Held us → length us ≡ 1 → Whole (spelled us [])
      one [] h l = absurd (omega arith)
      one (t ∷ []) h l = (t, h.0, (λ p q. free_at room (omega arith) (h.1 p q)), append-nil (listing t))
      one (t ∷ u ∷ us) h l = absurd (omega arith)
  read_held (a ∷ []) ts k held e = cc
  read_held (a ∷ m ∷ bs) ts k held e =
      let d = neither_due _ _ e in
      let f = fine sh room k (length ts) a m d.0 in
      let n = grown_length sh room (length ts) a m ts f refl in
      subst Whole (spelled_grown a m ts bs f)
      (read_held bs (grown sh.leaves a m ts) (k + 1) (held_grown a m ts held f) (ap (λ (x : ℕ). rest_refusal sh room (k + 1) x bs) n ∙ d.1))

  pub listed : (bs : List ℕ) → rest_refusal sh room 0 0 bs ≡ None → (t : Tree) × Shaped sh t × Stacked room t × (bs ≡ listing t)
  unfolding Whole
  listed bs e = read_held bs [] 0 tt e

-- the open parts after a tree's listing
parts_tree : (sh : Shape) (t : Tree) → Shaped sh t → (rest : List ℕ) (ts : List Tree) → parts sh.leaves (listing t ++ rest) ts ≡ parts sh.leaves rest (t ∷ ts)
parts_tree sh (leaf a m) h rest ts =
    ap (λ (b : Bool). parts sh.leaves rest (cond b (leaf a m ∷ ts) (under a m ts))) (lt-ltb a sh.leaves h.0)
parts_tree sh (inner a m l r) h rest ts =
    ap (λ (x : List ℕ). parts sh.leaves x ts) (listing_then a m l r rest)
    ∙ (parts_tree sh l h.2 (listing r ++ (a ∷ m ∷ rest)) ts
    ∙ (parts_tree sh r h.3 (a ∷ m ∷ rest) (l ∷ ts)
    ∙ ap (λ (b : Bool). parts sh.leaves rest (cond b (leaf a m ∷ r ∷ l ∷ ts) (inner a m l r ∷ ts))) (le-ltb a sh.leaves h.0.0)))

pub parts_listing : (sh : Shape) (t : Tree) → Shaped sh t → parts sh.leaves (listing t) [] ≡ t ∷ []
parts_listing sh t h = ap (λ (x : List ℕ). parts sh.leaves x []) (sym (append-nil (listing t))) ∙ parts_tree sh t h [] []

pub one_tree : (sh : Shape) (t u : Tree) → Shaped sh t → Shaped sh u → listing t ≡ listing u → t ≡ u
one_tree sh t u h k e =
    head-eq_of_cons-eq (sym (parts_listing sh t h) ∙ (ap (λ (x : List ℕ). parts sh.leaves x []) e ∙ parts_listing sh u k))
