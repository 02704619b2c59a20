-- Sets of codes, each as one number: k is a member where bit k is set.
-- Words:
--   one_of p q      the set of p and q
--   gathered c G X  the k that G names at some member of X, below c
--   Empty X         X has no member
--   Took X x Y      x is a member of X, and Y has the others
--   Next X r Y      what comes next of X: none where X is empty, else a member, and Y has the others
use Rattle.std.specs.Prelude.{◌≡◌, ℕ, ◌<◌, Bool, true, false, ◌&&◌, ◌||◌, ◌⊎◌, Some, None, Option, ◌==◌}
use Rattle.trees.specs.Nodes.{bit}
use Rattle.automata.specs.Layers.{any}

abbrev pub one_of : ℕ → ℕ → ℕ → Bool
one_of p q k = k == p || k == q

abbrev pub gathered : ℕ → (ℕ → ℕ → Bool) → ℕ → ℕ → Bool
gathered c G X k = any c (λ x. bit x X && G x k)

abbrev pub Empty : ℕ → Type 0
Empty X = (k : ℕ) → bit k X ≡ false

pub record Took (X x Y : ℕ) : Type 0 where
  pub member : bit x X ≡ true
  pub others : (k : ℕ) → bit k X ≡ true → (k ≡ x) ⊎ (bit k Y ≡ true)
  pub only : (k : ℕ) → bit k Y ≡ true → bit k X ≡ true
  pub fewer : Y < X

abbrev pub Next : ℕ → Option ℕ → ℕ → Type 0
Next X None Y = Empty X
Next X (Some x) Y = Took X x Y
