-- An automaton whose codes are its states is its own table, found by exploring and merging without a change.
use Rattle.std.proofs.Common.{◌≡◌, ℕ, ◌<◌, refl, ap, subst}
use Rattle.automata.specs.Automata.{Automaton, Lawful, Reached, Alike, code_in}
use Rattle.automata.specs.Numbering.{Question, at_leaf, at_inner, answer, Over, own_table, CodesAreStates}
use Rattle.automata.proofs.Codes.{code_lt}
use Rattle.tables.specs.Tables.{Closed, TableOf}
use Rattle.tables.specs.Exploring.{ask, Explored}
use Rattle.tables.specs.Merging.{Merged}

pub reached_lt : (M : Automaton) → Lawful M → (x : ℕ) → Reached M x → x < M.count
reached_lt M ok x r = subst (λ (y : ℕ). y < M.count) r.2 (code_lt M ok r.0)

pub alike_same : (M : Automaton) (x y : ℕ) → x ≡ y → Alike M x y
alike_same M x y e c k = ap (λ (z : ℕ). M.final (code_in M c z)) e

-- an automaton whose codes are its states is its own table
pub own_table_of : (M : Automaton) → ((x : ℕ) → Reached M x → x < M.count) → CodesAreStates M → TableOf M (own_table M)
own_table_of M in_count is = record {
  state = λ x. x;
  state_in = in_count;
  state_of = λ s h. (s, is.reached s h, refl);
  classes = λ x y rx ry. (alike_same M x y, is.apart x y (in_count x rx) (in_count y ry));
  finals = λ x r. refl;
  leaves = λ a m h k. refl;
  inners = λ a m x y h k rx ry. refl;
  met = is.met;
}

module _ (M : Automaton) (ok : Lawful M) (is : CodesAreStates M) where
  pub own_explored : Explored M (λ x. x) (own_table M)
  own_explored = record { inside = inside; is = same; apart = λ x y h k e. e; met = is.met }
    where
      inside : Closed M.shape (own_table M)
      inside (at_leaf a m) o = ok.leaf_in a m
      inside (at_inner a m x y) o = ok.inner_in a m x y

      same : (q : Question) → Over M.shape M.count q → answer (own_table M) q ≡ ask M (λ x. x) q
      same (at_leaf a m) o = refl
      same (at_inner a m x y) o = refl

  pub own_merged : Merged M (λ x. x) (own_table M) M.count (λ x. x) (λ x. x)
  own_merged = record {
    class_in = λ x h. h;
    first_in = λ s h. h;
    first_is = λ s h. refl;
    before = λ s x h l. l;
    classes = λ x y h k. (alike_same M x y, is.apart x y h k);
  }
