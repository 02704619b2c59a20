-- Shapes.
-- Words:
--   within low high n    low ≤ n ≤ high, as a test
--   limits               1 to 8 leaf labels, 1 to 4 inner labels, 1 to 6 tracks
--   labels               the number of labels: those of leaves, then those of inner nodes
--   LeafLabel, InnerLabel, Marks    what a leaf or an inner node of the shape may carry
use Rattle.std.specs.Prelude.{◌≡◌, ℕ, ◌+◌, ◌^◌, ◌<◌, ◌≤◌, Bool, true, ◌&&◌, nat_le}
use Rattle.trees.specs.declared.shape.Shape.{Shape}

abbrev pub within : ℕ → ℕ → ℕ → Bool
within low high n = nat_le low n && nat_le n high

abbrev pub limits : ℕ → ℕ → ℕ → Bool
limits leaves inners tracks = within 1 8 leaves && (within 1 4 inners && within 1 6 tracks)

-- a shape within its limits
abbrev pub Limited : Shape → Type 0
Limited sh = limits sh.leaves sh.inners sh.tracks ≡ true

abbrev pub labels : Shape → ℕ
labels sh = sh.leaves + sh.inners

abbrev pub LeafLabel : Shape → ℕ → Type 0
LeafLabel sh a = a < sh.leaves

abbrev pub InnerLabel : Shape → ℕ → Type 0
InnerLabel sh a = (sh.leaves ≤ a) × (a < labels sh)

abbrev pub Marks : Shape → ℕ → Type 0
Marks sh m = m < 2 ^ sh.tracks
