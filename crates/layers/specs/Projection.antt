-- Projections.
-- Words:
--   some_fits i M       the codes of M are so few that a set of them is a code, and i is a bit of a byte
--   some_refusal i M    the first refusal due to Some at track i over M: 6 where there is no such track, then 12 where the codes are too many
--   leaf_code i M       the set of codes that a leaf gives at the two values of track i
--   pair_set, pair_code    that which x and y give under label a, at the marks p and q: as a test, and as one number
--   row_set, row_code   that which x gives with the members of Y
--   rows_code           that which the members of X give with those of Y
--   inner_code i M      the same, at the two values of track i
--   has_final M X       a member of X is final
--   some_meaning i M    the projection where it fits, else idle
--   exists_meaning      what an Exists means, by what the machine below means
--   MadeSome i M N      N is M with track i projected away: it accepts exactly the trees that some set, put in the track, makes one that M accepts
use Rattle.std.specs.Prelude.{◌≡◌, ℕ, Bool, true, false, ◌&&◌, T, ◌↔◌, None, Option, nat_le, nat_lt}
use Rattle.std.proofs.lemmas.Bool.{leb-true, and_parts}
use Rattle.trees.specs.declared.refusal.Refusal.{Refusal}
use Rattle.trees.specs.declared.refusal.Reason.TheVariants.{NoSuchTrack, CountTooLarge}
use Rattle.trees.specs.Reading.{check}
use Rattle.trees.specs.Shapes.{Limited}
use Rattle.trees.specs.Trees.{Tree, Shaped}
use Rattle.trees.specs.Nodes.{Nodes, bit, put_bit, put}
use Rattle.automata.specs.Automata.{Automaton, Lawful, accepts}
use Rattle.automata.specs.Layers.{sum_of, any, given, some_layer}
use Rattle.automata.proofs.Projections.{some_lawful}
use Rattle.machine.specs.Making.{refusal}
use Rattle.layers.specs.declared.projection.Exists.{Exists}
use Rattle.layers.specs.Fitted.{fitted, fitted_lawful}
use Rattle.layers.specs.Sets.{one_of, gathered}

abbrev pub some_fits : ℕ → Automaton → Bool
some_fits i M = nat_le M.count 32 && nat_lt i 8

abbrev pub some_refusal : ℕ → Automaton → Option Refusal
some_refusal i M =
    check (nat_lt i M.shape.tracks) (refusal NoSuchTrack) (check (nat_le M.count 32) (refusal CountTooLarge) None)

abbrev pub leaf_code : ℕ → Automaton → ℕ → ℕ → ℕ
leaf_code i M a m = sum_of (given i (M.leaf_step a) m) M.count

abbrev pub pair_set : Automaton → ℕ → ℕ → ℕ → ℕ → ℕ → ℕ → Bool
pair_set M a p q x y = one_of (M.inner_step a p x y) (M.inner_step a q x y)

abbrev pub pair_code : Automaton → ℕ → ℕ → ℕ → ℕ → ℕ → ℕ
pair_code M a p q x y = sum_of (pair_set M a p q x y) M.count

abbrev pub row_set : Automaton → ℕ → ℕ → ℕ → ℕ → ℕ → ℕ → Bool
row_set M a p q Y x = gathered M.count (pair_set M a p q x) Y

abbrev pub row_code : Automaton → ℕ → ℕ → ℕ → ℕ → ℕ → ℕ
row_code M a p q Y x = sum_of (row_set M a p q Y x) M.count

abbrev pub rows_code : Automaton → ℕ → ℕ → ℕ → ℕ → ℕ → ℕ
rows_code M a p q X Y = sum_of (gathered M.count (row_set M a p q Y) X) M.count

abbrev pub inner_code : ℕ → Automaton → ℕ → ℕ → ℕ → ℕ → ℕ
inner_code i M a m X Y = rows_code M a (put_bit i false m) (put_bit i true m) X Y

abbrev pub has_final : Automaton → ℕ → Bool
has_final M X = any M.count (λ x. bit x X && M.final x)

abbrev pub some_meaning : ℕ → Automaton → Automaton
some_meaning i M = fitted (some_fits i M) (some_layer i M)

pub some_meaning_lawful : (i : ℕ) (M : Automaton) → Lawful M → Lawful (some_meaning i M)
some_meaning_lawful i M ok =
    fitted_lawful (some_fits i M) (some_layer i M) (λ e. some_lawful i M ok (leb-true _ _ (and_parts (nat_le M.count 32) (nat_lt i 8) e).0))

abbrev pub exists_meaning : {M : Type 0} → (M → Automaton) → Exists M → Automaton
exists_meaning meaning s = some_meaning s.track (meaning s.of)

pub record MadeSome (i : ℕ) (M N : Automaton) : Type 0 where
  pub due : some_refusal i M ≡ None
  pub layer : Limited M.shape → N ≡ some_layer i M
  pub accepted : Limited M.shape → (t : Tree) → Shaped M.shape t → T (accepts N t) ↔ ((S : Nodes t) × T (accepts M (put i t S)))
