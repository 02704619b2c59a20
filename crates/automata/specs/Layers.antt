-- Layers: automata over automata.
-- Words:
--   sum_of P c      the sum of 2 ^ k over the k below c that P names: a set of numbers below c as one number
--   any c P         P names a number below c
--   not_layer       complement: the same codes, final inside the count where those of the automaton are not
--   pair_layer op   product: left code × count of the right + right code, finals joined by op: && for both, || for either
--   some_layer i    projection: a code is the set of the codes that the sets in track i may give, final where a member is
use Rattle.std.specs.Prelude.{ℕ, zero, suc, ◌+◌, ◌*◌, ◌/◌, ◌%◌, ◌^◌, Bool, true, false, cond, not, ◌&&◌, ◌||◌, ◌==◌, nat_lt}
use Rattle.trees.specs.Nodes.{bit, put_bit}
use Rattle.automata.specs.Automata.{Automaton}
use Rattle.automata.specs.Atoms.{guarded}

unfoldable pub sum_of : (ℕ → Bool) → ℕ → ℕ
sum_of P zero = 0
sum_of P (suc c) = sum_of P c + cond (P c) (2 ^ c) 0

unfoldable pub any : ℕ → (ℕ → Bool) → Bool
any zero P = false
any (suc c) P = any c P || P c

abbrev pub not_layer : Automaton → Automaton
not_layer M = record {
  shape = M.shape;
  count = M.count;
  leaf_step = M.leaf_step;
  inner_step = M.inner_step;
  final = λ x. nat_lt x M.count && not (M.final x);
}

abbrev pub pair_layer : (Bool → Bool → Bool) → Automaton → Automaton → Automaton
pair_layer op A B = guarded A.shape (A.count * B.count)
    (λ a m. A.leaf_step a m * B.count + B.leaf_step a m)
    (λ a m x y. A.inner_step a m (x / B.count) (y / B.count) * B.count + B.inner_step a m (x % B.count) (y % B.count))
    (λ x. op (A.final (x / B.count)) (B.final (x % B.count)))

-- k is what a step gives at one of the two values of track i of the marks m
abbrev pub given : ℕ → (ℕ → ℕ) → ℕ → ℕ → Bool
given i step m k = k == step (put_bit i false m) || k == step (put_bit i true m)

abbrev pub some_layer : ℕ → Automaton → Automaton
some_layer i M = guarded M.shape (2 ^ M.count)
    (λ a m. sum_of (given i (M.leaf_step a) m) M.count)
    (λ a m X Y. sum_of
    (λ k. any M.count (λ x. bit x X && any M.count (λ y. bit y Y && given i (λ n. M.inner_step a n x y) m k))) M.count)
    (λ X. any M.count (λ x. bit x X && M.final x))
