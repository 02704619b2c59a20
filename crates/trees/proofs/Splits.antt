-- A listing ends in the root's own two bytes, and before them stand the listings of its parts.
use Rattle.std.proofs.Common.{◌≡◌, ℕ, ◌+◌, ◌-◌, ◌*◌, ◌<◌, ◌≤◌, Bool, List, [], ◌∷◌, ◌++◌, length, get_or, take, drop, sym, refl, ap, ◌∙◌, append_assoc, arith, Bor}
use Rattle.std.proofs.lemmas.List.{length-append, get_or_at, get_or-append-add, take_at, drop_at}
use Rattle.trees.specs.declared.shape.Shape.{Shape}
use Rattle.trees.specs.Trees.{Tree, leaf, inner, listing, size, label, marks}
use Rattle.trees.specs.Reading.{Reads}
use Rattle.trees.specs.declared.parts.Root.TheVariants.{Leaf, Inner}
use Rattle.trees.specs.Parts.{capped, RightAbove, Heads}

abbrev body : Tree → List ℕ
body (leaf a m) = []
body (inner a m l r) = listing l ++ listing r

listing_ends : (t : Tree) → listing t ≡ body t ++ (label t ∷ marks t ∷ [])
listing_ends (leaf a m) = refl
listing_ends (inner a m l r) = sym (append_assoc (listing l) (listing r) (a ∷ m ∷ []))

pub length_listing : (t : Tree) → length (listing t) ≡ size t * 2
length_listing (leaf a m) = refl
length_listing (inner a m l r) = simp length-append (omega (arith, length_listing l, length_listing r))

size_pos : (t : Tree) → 1 ≤ size t
size_pos (leaf a m) = omega arith
size_pos (inner a m l r) = omega arith

module _ (bs : List ℕ) (t : Tree) (e : bs ≡ listing t) where
  ends : bs ≡ body t ++ (label t ∷ marks t ∷ [])
  ends = e ∙ listing_ends t

  body_length : length (body t) ≡ length bs - 2
  body_length = let n = ap length ends ∙ length-append (body t) (label t ∷ marks t ∷ []) in omega arith

  root_label : get_or bs (length bs - 2) 0 ≡ label t
  root_label = ap (λ (x : List ℕ). get_or x (length bs - 2) 0) ends ∙ get_or_at (body t) (label t) (marks t ∷ []) 0 (length bs - 2) body_length

  root_marks : get_or bs (length bs - 1) 0 ≡ marks t
  root_marks =
      let n : length bs - 1 ≡ length (body t) + 1 = omega (arith, body_length, ap length e, length_listing t, size_pos t) in
      ap (λ (x : List ℕ). get_or x (length bs - 1) 0) ends
      ∙ (ap (λ (k : ℕ). get_or (body t ++ (label t ∷ marks t ∷ [])) k 0) n ∙ get_or-append-add (body t) (label t ∷ marks t ∷ []) 1 0)

  before_root : take (length bs - 2) bs ≡ body t
  before_root = ap (take (length bs - 2)) ends ∙ take_at (body t) (label t ∷ marks t ∷ []) (length bs - 2) body_length

pub leaf_heads : (sh : Shape) (room : ℕ → Bool) (bs : List ℕ) (t : Tree) → Reads sh room bs t → get_or bs (length bs - 2) 0 < sh.leaves
    → Heads t (Leaf (get_or bs (length bs - 2) 0) (get_or bs (length bs - 1) 0))
leaf_heads sh room bs (leaf a m) reads low = (root_label bs (leaf a m) reads.listed, root_marks bs (leaf a m) reads.listed)
leaf_heads sh room bs (inner a m l r) reads low = absurd (omega (arith, reads.shaped.0.0, root_label bs (inner a m l r) reads.listed))

-- an inner root, whose parts are cut by the size of the right one, which stands at place 1 of the stack
module _ (sh : Shape) (room : ℕ → Bool) (bs : List ℕ) (xs : List ℕ) (high : sh.leaves ≤ get_or bs (length bs - 2) 0) where
  abbrev Above : Tree → Type 0
  Above t = RightAbove (λ v t. v ≡ capped (size t)) xs (t ∷ [])

  not_leaf : (a m : ℕ) → Reads sh room bs (leaf a m) → ⊥
  not_leaf a m reads = omega (arith, reads.shaped.0, root_label bs (leaf a m) reads.listed)

  parts_length : (a m : ℕ) (l r : Tree) → Reads sh room bs (inner a m l r) → length (take (length bs - 2) bs) ≡ size l * 2 + size r * 2
  parts_length a m l r reads = ap length (before_root bs (inner a m l r) reads.listed) ∙ simp length-append (omega (arith, length_listing l, length_listing r))

  exact : (a m : ℕ) (l r : Tree) → Reads sh room bs (inner a m l r) → Above (inner a m l r) → get_or xs 1 0 ≡ size r
  exact a m l r reads above = omega (arith, above.1 0, reads.short, ap length reads.listed, length_listing (inner a m l r))

  pub right_fits : (t : Tree) → Reads sh room bs t → Above t → 2 * get_or xs 1 0 ≤ length (take (length bs - 2) bs)
  right_fits (leaf a m) reads above = absurd (not_leaf a m reads)
  right_fits (inner a m l r) reads above = omega (arith, exact a m l r reads above, parts_length a m l r reads)

  pub inner_heads : (t : Tree) → Reads sh room bs t → Above t → (x y : Bor (List ℕ))
      → x.now ≡ take (length (take (length bs - 2) bs) - 2 * get_or xs 1 0) (take (length bs - 2) bs)
      → y.now ≡ drop (length (take (length bs - 2) bs) - 2 * get_or xs 1 0) (take (length bs - 2) bs)
      → Heads t (Inner (get_or bs (length bs - 2) 0) (get_or bs (length bs - 1) 0) x y)
  inner_heads (leaf a m) reads above x y p q = absurd (not_leaf a m reads)
  inner_heads (inner a m l r) reads above x y p q =
      let e = reads.listed in
      let k = length (take (length bs - 2) bs) - 2 * get_or xs 1 0 in
      let c : length (listing l) ≡ k = omega (arith, parts_length a m l r reads, exact a m l r reads above, length_listing l) in (
        root_label bs (inner a m l r) e,
        root_marks bs (inner a m l r) e,
        p ∙ (ap (take k) (before_root bs (inner a m l r) e) ∙ take_at (listing l) (listing r) k c),
        q ∙ (ap (drop k) (before_root bs (inner a m l r) e) ∙ drop_at (listing l) (listing r) k c),
      )
