-- The limits of a shape, as inequalities.
use Rattle.std.proofs.Common.{◌≡◌, ℕ, ◌≤◌, true, ◌&&◌, leb}
use Rattle.std.proofs.lemmas.Bool.{leb-true, and_parts}
use Rattle.trees.specs.declared.shape.Shape.{Shape}
use Rattle.trees.specs.Shapes.{within, Limited}

within_bounds : (low high n : ℕ) → within low high n ≡ true → (low ≤ n) × (n ≤ high)
within_bounds low high n h =
    let p = and_parts (leb low n) (leb n high) h in
    (leb-true low n p.0, leb-true n high p.1)

pub record Bounds (sh : Shape) : Type 0 where
  pub leaves : (1 ≤ sh.leaves) × (sh.leaves ≤ 8)
  pub inners : (1 ≤ sh.inners) × (sh.inners ≤ 4)
  pub tracks : (1 ≤ sh.tracks) × (sh.tracks ≤ 6)

pub bounds : (sh : Shape) → Limited sh → Bounds sh
bounds sh h =
    let p = and_parts (within 1 8 sh.leaves) (within 1 4 sh.inners && within 1 6 sh.tracks) h in
    let q = and_parts (within 1 4 sh.inners) (within 1 6 sh.tracks) p.1 in
    record {
      leaves = within_bounds 1 8 sh.leaves p.0;
      inners = within_bounds 1 4 sh.inners q.0;
      tracks = within_bounds 1 6 sh.tracks q.1;
    }
