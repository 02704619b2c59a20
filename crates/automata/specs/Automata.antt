-- Automata that read marked trees from the leaves up.
-- Words:
--   Automaton          the answers to five questions: shape, count of codes, leaf step, inner step, which codes are final
--   LeafAsked, InnerAsked    a question of a step inside shape and count
--   Lawful M           every code answered is below the count; a question outside gets code 0 and "not final"
--   code M t           the code of t
--   accepts M t        the code of t is final
--   Reached M x        some tree of the shape has the code x
--   Context            a tree in which the place of one part is left open
--   fill c t           the tree that c is with t in the open place
--   code_in M c x      the code of c's root where the part in the open place has the code x
--   Alike M x y        in every open place, x and y make the root both final or both not
use Rattle.std.specs.Prelude.{◌≡◌, ℕ, ◌^◌, ◌<◌, ◌≤◌, Bool, false}
use Rattle.trees.specs.declared.shape.Shape.{Shape}
use Rattle.trees.specs.Shapes.{LeafLabel, InnerLabel, Marks}
use Rattle.trees.specs.Trees.{Tree, leaf, inner, Shaped}

pub record Automaton : Type 0 where
  pub shape : Shape
  pub count : ℕ
  pub leaf_step : ℕ → ℕ → ℕ
  pub inner_step : ℕ → ℕ → ℕ → ℕ → ℕ
  pub final : ℕ → Bool

abbrev pub LeafAsked : Automaton → ℕ → ℕ → Type 0
LeafAsked M a m = LeafLabel M.shape a × Marks M.shape m

abbrev pub InnerAsked : Automaton → ℕ → ℕ → ℕ → ℕ → Type 0
InnerAsked M a m x y = InnerLabel M.shape a × Marks M.shape m × (x < M.count) × (y < M.count)

pub record Lawful (M : Automaton) : Type 0 where
  pub count_fits : (1 ≤ M.count) × (M.count ≤ 2 ^ 32)
  pub leaf_in : (a m : ℕ) → M.leaf_step a m < M.count
  pub inner_in : (a m x y : ℕ) → M.inner_step a m x y < M.count
  pub leaf_out : (a m : ℕ) → ¬ LeafAsked M a m → M.leaf_step a m ≡ 0
  pub inner_out : (a m x y : ℕ) → ¬ InnerAsked M a m x y → M.inner_step a m x y ≡ 0
  pub final_out : (x : ℕ) → M.count ≤ x → M.final x ≡ false

abbrev pub code : Automaton → Tree → ℕ
code M (leaf a m) = M.leaf_step a m
code M (inner a m l r) = M.inner_step a m (code M l) (code M r)

abbrev pub accepts : Automaton → Tree → Bool
accepts M t = M.final (code M t)

abbrev pub Reached : Automaton → ℕ → Type 0
Reached M x = (t : Tree) × Shaped M.shape t × (code M t ≡ x)

pub data Context : Type 0 where
  hole : Context
  in_left : ℕ → ℕ → Context → Tree → Context
  in_right : ℕ → ℕ → Tree → Context → Context

abbrev pub ContextShaped : Shape → Context → Type 0
ContextShaped sh hole = Unit {0}
ContextShaped sh (in_left a m c r) = InnerLabel sh a × Marks sh m × ContextShaped sh c × Shaped sh r
ContextShaped sh (in_right a m l c) = InnerLabel sh a × Marks sh m × Shaped sh l × ContextShaped sh c

abbrev pub fill : Context → Tree → Tree
fill hole t = t
fill (in_left a m c r) t = inner a m (fill c t) r
fill (in_right a m l c) t = inner a m l (fill c t)

abbrev pub code_in : Automaton → Context → ℕ → ℕ
code_in M hole x = x
code_in M (in_left a m c r) x = M.inner_step a m (code_in M c x) (code M r)
code_in M (in_right a m l c) x = M.inner_step a m (code M l) (code_in M c x)

abbrev pub Alike : Automaton → ℕ → ℕ → Type 0
Alike M x y = (c : Context) → ContextShaped M.shape c → M.final (code_in M c x) ≡ M.final (code_in M c y)
