-- The open parts that bytes make, the newest first.
-- Words:
--   grown F a m ts   the open parts after a node on top of ts: a leaf where its label is below F, else a node over the newest two
--   parts F bs ts    the open parts after all nodes of bs
use Rattle.std.specs.Prelude.{ℕ, cond, List, [], ◌∷◌, nat_lt}
use Rattle.trees.specs.Trees.{Tree, leaf, inner}

abbrev pub under : ℕ → ℕ → List Tree → List Tree
under a m [] = []
under a m (t ∷ []) = []
under a m (r ∷ l ∷ ts) = inner a m l r ∷ ts

abbrev pub grown : ℕ → ℕ → ℕ → List Tree → List Tree
grown F a m ts = cond (nat_lt a F) (leaf a m ∷ ts) (under a m ts)

abbrev pub parts : ℕ → List ℕ → List Tree → List Tree
parts F [] ts = ts
parts F (a ∷ []) ts = ts
parts F (a ∷ m ∷ bs) ts = parts F bs (grown F a m ts)
