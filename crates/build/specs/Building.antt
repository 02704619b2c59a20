-- What a build answers, and what it leaves in the cells.
-- Words:
--   Builds M N codes cells classes after r
--                                 what a build with so much memory lent says by r: where numbers and memory serve, that the first cells are the image of M's table,
--                                 which has k states, or TooMany, where more than N codes are reached; Unserved where they do not serve
--   image_width M N               the number of bytes of an image of M's table
--   Imaged M N k bs               bs is the image of M's table, which has k states, and no more than N codes are reached
--   Leaves M N n after r          what is in n cells after a build in them: where k states are answered the image of M's table, on TooMany zeros; Unserved is no answer
--   TableBuilt M N codes classes before after k
--                                 the memory served, no more than N codes are reached, the first cells are the image of M's table, which has k states,
--                                 with what such bytes owe, and the cells past the image are as before
--   Answers M N codes classes before after r
--                                 what a build with so many codes and classes lent says by r, and makes of the cells
use Rattle.std.specs.Prelude.{◌≡◌, ℕ, true, false, List, ◌++◌, length, take, drop, replicate, Result, Ok, Err}
use Rattle.automata.specs.Automata.{Automaton}
use Rattle.tables.specs.Tables.{TooMany as TooManyCodes}
use Rattle.tables.specs.Images.{width}
use Rattle.tables.specs.Canonical.{TableIn, CanonicalSlot}
use Rattle.build.specs.Imaging.{serves, Built}
use Rattle.build.specs.declared.unbuilt.Unbuilt.{Unbuilt}
use Rattle.build.specs.declared.unbuilt.Unbuilt.TheVariants.{TooMany, Unserved}

abbrev pub Builds : Automaton → ℕ → ℕ → ℕ → ℕ → List ℕ → Result ℕ Unbuilt → Type 0
Builds M N codes cells classes after (Ok k) = (serves M N codes cells classes ≡ true) × Built M N k after
Builds M N codes cells classes after (Err TooMany) = (serves M N codes cells classes ≡ true) × TooManyCodes M N
Builds M N codes cells classes after (Err Unserved) = serves M N codes cells classes ≡ false

abbrev pub image_width : Automaton → ℕ → ℕ
image_width M N = width M.shape N

pub record Imaged (M : Automaton) (N k : ℕ) (bs : List ℕ) : Type 0 where
  pub table : TableIn M N k bs
  pub enough : ¬ TooManyCodes M N

abbrev pub Leaves : Automaton → ℕ → ℕ → List ℕ → Result ℕ Unbuilt → Type 0
Leaves M N n after (Ok k) = Imaged M N k (take (image_width M N) after)
Leaves M N n after (Err TooMany) = TooManyCodes M N × (after ≡ replicate n 0)
Leaves M N n after (Err Unserved) = ⊥

pub record TableBuilt (M : Automaton) (N codes classes : ℕ) (before after : List ℕ) (k : ℕ) : Type 0 where
  pub served : serves M N codes (length before) classes ≡ true
  pub enough : ¬ TooManyCodes M N
  pub table : TableIn M N k (take (image_width M N) after)
  pub canonical : CanonicalSlot M N k (take (image_width M N) after)
  pub rest : drop (image_width M N) after ≡ drop (image_width M N) before

abbrev pub Answers : Automaton → ℕ → ℕ → ℕ → List ℕ → List ℕ → Result ℕ Unbuilt → Type 0
Answers M N codes classes before after (Ok k) = TableBuilt M N codes classes before after k
Answers M N codes classes before after (Err TooMany) =
    (serves M N codes (length before) classes ≡ true) × TooManyCodes M N × (after ≡ replicate (image_width M N) 0 ++ drop (image_width M N) before)
Answers M N codes classes before after (Err Unserved) = (serves M N codes (length before) classes ≡ false) × (after ≡ before)
