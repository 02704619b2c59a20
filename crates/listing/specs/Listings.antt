-- The listing of a slot, written into a buffer.
-- Words:
--   listable sh N bs                  the shape and N are within their limits, and the bytes are at least an image
--   Listed sh N bs before after r     what the answer says of the buffer: written with its length, too short for it and left alone, or not listable and left alone
--   Tells sh N bs                     another slot has the same text exactly if it has the same shape and the same table
use Rattle.std.specs.Prelude.{◌≡◌, ℕ, ◌<◌, ◌≤◌, Bool, true, false, ◌&&◌, ◌↔◌, List, ◌++◌, length, drop, Ok, Err, Result, nat_le}
use Rattle.trees.specs.declared.shape.Shape.{Shape}
use Rattle.trees.specs.Shapes.{Limited}
use Rattle.tables.specs.Tables.{SameTable}
use Rattle.tables.specs.Images.{width, fits}
use Rattle.tables.specs.Slots.{slot_table}
use Rattle.tables.specs.Canonical.{slot_text}
use Rattle.listing.specs.declared.listing.Unwritten.{Unwritten}
use Rattle.listing.specs.declared.listing.Unwritten.TheVariants.{Short, Unserved}

abbrev pub listable : Shape → ℕ → List ℕ → Bool
listable sh N bs = fits sh N && nat_le (width sh N) (length bs)

abbrev pub Listed : Shape → ℕ → List ℕ → List ℕ → List ℕ → Result ℕ Unwritten → Type 0
Listed sh N bs before after (Ok n) =
    (listable sh N bs ≡ true) × (n ≡ length (slot_text sh N bs)) × (n ≤ length before) × (after ≡ slot_text sh N bs ++ drop n before)
Listed sh N bs before after (Err (Short n)) = (listable sh N bs ≡ true) × (n ≡ length (slot_text sh N bs)) × (length before < n) × (after ≡ before)
Listed sh N bs before after (Err Unserved) = (listable sh N bs ≡ false) × (after ≡ before)

abbrev pub Tells : Shape → ℕ → List ℕ → Type 0
Tells sh N bs = (sh' : Shape) (N' : ℕ) (cs : List ℕ) → Limited sh → Limited sh'
    → (slot_text sh N bs ≡ slot_text sh' N' cs) ↔ ((sh ≡ sh') × SameTable sh (slot_table sh N bs) (slot_table sh' N' cs))
