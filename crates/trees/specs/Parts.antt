-- A tree's root, the listings of its two parts, and a stack with a value for each open part.
-- Words:
--   places xs         room for as many parts as xs has places
--   ValuesOf P xs ts  the stack xs has at the place of each open part of ts, the oldest at place 0, a value of which P holds
--   capped            a number of nodes as 16 bits hold it
--   RightAbove P xs ts    where the newest part is an inner node, the place above it has a value of which P holds with its right part
--   Held P xs ts      xs holds the values of ts, and that of the newest part's right part above
--   Heads t r         r is the root of t, with the listings of its parts
--   Shorter r n       the listings of the parts are shorter than n bytes by the root's own two
use Rattle.std.specs.Prelude.{◌≡◌, ℕ, ◌+◌, ◌<◌, min, Bool, List, [], ◌∷◌, length, nat_lt, slice_index_or}
use Rattle.trees.specs.declared.parts.Root.{Root}
use Rattle.trees.specs.declared.parts.Root.TheVariants.{Leaf, Inner}
use Rattle.trees.specs.Trees.{Tree, leaf, inner, listing}

abbrev pub places : {V : Type 0} → List V → ℕ → Bool
places xs n = nat_lt n (length xs)

abbrev pub ValuesOf : {V : Type 0} → (V → Tree → Type 0) → List V → List Tree → Type 0
ValuesOf P xs [] = Unit {0}
ValuesOf {V} P xs (t ∷ ts) = (length ts < length xs) × ((d : V) → P (slice_index_or xs (length ts) d) t) × ValuesOf P xs ts

abbrev pub capped : ℕ → ℕ
capped n = min n 65535

abbrev pub RightAbove : {V : Type 0} → (V → Tree → Type 0) → List V → List Tree → Type 0
RightAbove P xs [] = Unit {0}
RightAbove P xs (leaf a m ∷ ts) = Unit {0}
RightAbove {V} P xs (inner a m l r ∷ ts) = (length (l ∷ ts) < length xs) × ((d : V) → P (slice_index_or xs (length (l ∷ ts)) d) r)

abbrev pub Held : {V : Type 0} → (V → Tree → Type 0) → List V → List Tree → Type 0
Held P xs ts = ValuesOf P xs ts × RightAbove P xs ts

abbrev pub Heads : Tree → Root → Type 0
Heads (leaf a m) (Leaf b k) = (b ≡ a) × (k ≡ m)
Heads (leaf a m) (Inner b k x y) = ⊥
Heads (inner a m l r) (Leaf b k) = ⊥
Heads (inner a m l r) (Inner b k x y) = (b ≡ a) × (k ≡ m) × (x.now ≡ listing l) × (y.now ≡ listing r)

abbrev pub Shorter : Root → ℕ → Type 0
Shorter (Leaf b k) n = Unit {0}
Shorter (Inner b k x y) n = length x.now + length y.now + 2 ≡ n
