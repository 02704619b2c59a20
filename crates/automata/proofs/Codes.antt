-- Codes of trees, and of trees with an open place.
use Rattle.std.proofs.Common.{◌≡◌, ℕ, ◌<◌, refl, ap}
use Rattle.trees.specs.Trees.{Tree, leaf, inner}
use Rattle.automata.specs.Automata.{Automaton, Lawful, code, Context, hole, in_left, in_right, fill, code_in}

pub code_lt : (M : Automaton) → Lawful M → (t : Tree) → code M t < M.count
code_lt M ok (leaf a m) = ok.leaf_in a m
code_lt M ok (inner a m l r) = ok.inner_in a m (code M l) (code M r)

pub code_fill : (M : Automaton) (c : Context) (t : Tree) → code_in M c (code M t) ≡ code M (fill c t)
code_fill M hole t = refl
code_fill M (in_left a m c r) t = ap (λ (x : ℕ). M.inner_step a m x (code M r)) (code_fill M c t)
code_fill M (in_right a m l c) t = ap (M.inner_step a m (code M l)) (code_fill M c t)
