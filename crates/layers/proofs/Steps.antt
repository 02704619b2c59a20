-- The steps of a projection, from what the code has computed.
use Rattle.std.proofs.Common.{◌≡◌, ℕ, ◌^◌, Bool, true, false, cond, ap, ap₂, sym, ◌∙◌}
use lib.Bits.{bit_or}
use Rattle.trees.specs.Nodes.{put_bit}
use Rattle.automata.specs.Automata.{Automaton, Lawful}
use Rattle.automata.specs.Atoms.{inner_asked}
use Rattle.layers.specs.Projection.{some_fits, some_meaning, leaf_code, pair_code, inner_code}
use Rattle.layers.proofs.Sets.{two_are}

module _ (M : Automaton) (ok : Lawful M) where
  pub pair_step : (a p q u v x y r : ℕ) → x ≡ M.inner_step a p u v → y ≡ M.inner_step a q u v → r ≡ bit_or (2 ^ x) (2 ^ y)
      → r ≡ pair_code M a p q u v
  pair_step a p q u v x y r e d f = two_are M.count _ _ x y r (ok.inner_in a p u v) (ok.inner_in a q u v) e d f

  -- p and q are the marks m at the two values of track i
  pub leaf_step : (i a m p q x y r : ℕ) → p ≡ put_bit i false m → q ≡ put_bit i true m → x ≡ M.leaf_step a p → y ≡ M.leaf_step a q
      → r ≡ bit_or (2 ^ x) (2 ^ y) → r ≡ leaf_code i M a m
  leaf_step i a m p q x y r absent present e d f =
      two_are M.count _ _ x y r (ok.leaf_in a _) (ok.leaf_in a _) (e ∙ ap (M.leaf_step a) absent) (d ∙ ap (M.leaf_step a) present) f

pub inner_step : (i : ℕ) (M : Automaton) (a m X Y r : ℕ) → some_fits i M ≡ true → inner_asked M.shape (2 ^ M.count) a m X Y ≡ true
    → r ≡ inner_code i M a m X Y → r ≡ (some_meaning i M).inner_step a m X Y
inner_step i M a m X Y r fits asked e =
    e ∙ sym (ap₂ (λ (b d : Bool). cond b (cond d (inner_code i M a m X Y) 0) 0) fits asked)
