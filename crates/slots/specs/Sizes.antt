-- Which tables have addresses.
-- Words:
--   sized sh N    the numbers are small enough for addresses: at most 6 tracks, N from 1 to 32
use Rattle.std.specs.Prelude.{◌≡◌, ℕ, ◌≤◌, Bool, true, ◌&&◌, nat_le}
use Rattle.std.proofs.lemmas.Bool.{and_parts, leb-true}
use Rattle.trees.specs.declared.shape.Shape.{Shape}

abbrev pub sized : Shape → ℕ → Bool
sized sh N = nat_le sh.tracks 6 && (nat_le 1 N && nat_le N 32)

pub sized_few : (sh : Shape) (N : ℕ) → sized sh N ≡ true → N ≤ 32
sized_few sh N e =
    leb-true N 32 (and_parts (nat_le 1 N) (nat_le N 32) (and_parts (nat_le sh.tracks 6) (nat_le 1 N && nat_le N 32) e).1).1
