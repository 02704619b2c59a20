-- One node more is read.
use Rattle.std.proofs.Common.{◌≡◌, ℕ, ◌+◌, ◌-◌, ◌^◌, ◌<◌, ◌≤◌, Bool, true, false, cond, not, ◌||◌, ltb, List, [], ◌∷◌, length, get_or, drop, None, Option, sym, refl, ap, ◌∙◌, arith}
use Rattle.std.proofs.lemmas.Bool.{leb-true, ltb-true}
use Rattle.trees.specs.declared.shape.Shape.{Shape}
use Rattle.trees.specs.declared.refusal.Refusal.{Refusal}
use Rattle.trees.specs.Shapes.{labels}
use Rattle.trees.specs.Trees.{Tree, leaf}
use Rattle.trees.specs.Stacks.{under, grown, parts}
use Rattle.trees.specs.Reading.{check, or_else, node_refusal, opened, rest_refusal}

pub passed : (ok : Bool) (e : Refusal) (rest : Option Refusal) → check ok e rest ≡ None → (ok ≡ true) × (rest ≡ None)
passed true e rest h = (refl, h)
passed false e rest h = cc

-- what holds at a node where nothing is due
pub record Fine (sh : Shape) (room : ℕ → Bool) (n a m : ℕ) : Type 0 where
  pub known : a < labels sh
  pub marked : m < 2 ^ sh.tracks
  pub joins : ltb a sh.leaves ≡ false → 2 ≤ n
  pub finds : ltb a sh.leaves ≡ true → room n ≡ true

or_false : (x y : Bool) → (x || y) ≡ true → x ≡ false → y ≡ true
or_false true y h e = cc
or_false false y h e = h

pub fine : (sh : Shape) (room : ℕ → Bool) (k n a m : ℕ) → node_refusal sh room k n a m ≡ None → Fine sh room n a m
fine sh room k n a m e =
    let p = passed _ _ _ e in
    let q = passed _ _ _ p.1 in
    let r = passed _ _ _ q.1 in
    let s = passed _ _ _ r.1 in
    record {
      known = ltb-true a (labels sh) p.0;
      marked = ltb-true m (2 ^ sh.tracks) q.0;
      joins = λ h. leb-true 2 n (or_false _ _ r.0 h);
      finds = λ h. or_false _ _ s.0 (ap not h);
    }

pub rest_more : (sh : Shape) (room : ℕ → Bool) (k n : ℕ) (bs : List ℕ) → 2 ≤ length bs → node_refusal sh room k n (get_or bs 0 0) (get_or bs 1 0) ≡ None
    → rest_refusal sh room (k + 1) (opened sh n (get_or bs 0 0)) (drop 2 bs) ≡ rest_refusal sh room k n bs
rest_more sh room k n [] two e = absurd (omega arith)
rest_more sh room k n (a ∷ []) two e = absurd (omega arith)
rest_more sh room k n (a ∷ m ∷ bs) two e =
    sym (ap (λ (o : Option Refusal). or_else o (rest_refusal sh room (k + 1) (opened sh n a) bs)) e)

pub parts_more : (F : ℕ) (bs : List ℕ) (ts : List Tree) → 2 ≤ length bs → parts F (drop 2 bs) (grown F (get_or bs 0 0) (get_or bs 1 0) ts) ≡ parts F bs ts
parts_more F [] ts two = absurd (omega arith)
parts_more F (a ∷ []) ts two = absurd (omega arith)
parts_more F (a ∷ m ∷ bs) ts two = refl

under_length : (a m : ℕ) (ts : List Tree) → 2 ≤ length ts → length (under a m ts) ≡ length ts - 1
under_length a m [] two = absurd (omega arith)
under_length a m (t ∷ []) two = absurd (omega arith)
under_length a m (r ∷ l ∷ ts) two = omega arith

pub grown_length : (sh : Shape) (room : ℕ → Bool) (n a m : ℕ) (ts : List Tree) → Fine sh room n a m → length ts ≡ n → length (grown sh.leaves a m ts) ≡ opened sh n a
grown_length sh room n a m ts f e = go (ltb a sh.leaves) refl
  where
    go : (b : Bool) → ltb a sh.leaves ≡ b → length (cond b (leaf a m ∷ ts) (under a m ts)) ≡ cond b (n + 1) (n - 1)
    go true h = omega arith
    go false h = under_length a m ts (let two = f.joins h in omega arith) ∙ ap (λ (x : ℕ). x - 1) e

pub opened_pos : (sh : Shape) (room : ℕ → Bool) (n a m : ℕ) → Fine sh room n a m → 1 ≤ opened sh n a
opened_pos sh room n a m f = go (ltb a sh.leaves) refl
  where
    go : (b : Bool) → ltb a sh.leaves ≡ b → 1 ≤ cond b (n + 1) (n - 1)
    go true e = omega arith
    go false e = let two = f.joins e in omega arith

pub opened_le : (sh : Shape) (n a : ℕ) → opened sh n a ≤ n + 1
opened_le sh n a = go (ltb a sh.leaves)
  where
    go : (b : Bool) → cond b (n + 1) (n - 1) ≤ n + 1
    go true = omega arith
    go false = omega arith

-- a turn of the reader's loop: `rest` is what is left of the bytes past the node
module _ (sh : Shape) (room : ℕ → Bool) (n n' : ℕ) (bs rest : List ℕ) (two : 2 ≤ length bs) (r : rest ≡ drop 2 bs) (e : n' ≡ opened sh n (get_or bs 0 0)) where
  pub turn_refusal : (k : ℕ) → node_refusal sh room k n (get_or bs 0 0) (get_or bs 1 0) ≡ None → rest_refusal sh room (k + 1) n' rest ≡ rest_refusal sh room k n bs
  turn_refusal k h = let f = rest_more sh room k n bs two h in cc

  pub turn_parts : (P Q : List Tree → Type 0) (k : ℕ) (all : List Tree) → node_refusal sh room k n (get_or bs 0 0) (get_or bs 1 0) ≡ None
      → ((ts : List Tree) → length ts ≡ n → P ts → Q (grown sh.leaves (get_or bs 0 0) (get_or bs 1 0) ts))
      → (ts : List Tree) × (length ts ≡ n) × (parts sh.leaves bs ts ≡ all) × P ts
      → (ts : List Tree) × (length ts ≡ n') × (parts sh.leaves rest ts ≡ all) × Q ts
  turn_parts P Q k all h made (ts, len, whole, held) = (
    grown sh.leaves (get_or bs 0 0) (get_or bs 1 0) ts,
    grown_length sh room n (get_or bs 0 0) (get_or bs 1 0) ts (fine sh room k n _ _ h) len ∙ sym e,
    (let f = parts_more sh.leaves bs ts two in cc),
    made ts len held,
  )
