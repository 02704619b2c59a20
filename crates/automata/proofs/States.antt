-- When the codes of an automaton are its states: it is enough that they are numbered as first met, and that each but one has a test.
use Rattle.std.proofs.Common.{◌≡◌, ℕ, zero, suc, ◌<◌, ◌≤◌, eqb, ◌≢◌, ◌⊎◌, sym, refl, ◌∙◌, subst, ap₂, inl, inr, arith, pow_pos}
use Rattle.std.proofs.lemmas.Bool.{and_parts, leb-true, cases_eq, eqb-true, eq-eqb}
use Rattle.trees.specs.declared.shape.Shape.{Shape}
use Rattle.trees.specs.Shapes.{Limited, LeafLabel, InnerLabel, Marks}
use Rattle.trees.specs.Trees.{leaf, inner}
use Rattle.automata.specs.Automata.{Automaton, Lawful, Reached, Context, ContextShaped, code_in, Alike}
use Rattle.automata.specs.Numbering.{Question, at_leaf, at_inner, MetAt, FirstMet, own_table, CodesAreStates}

module _ (sh : Shape) (ok : Limited sh) where
  pub has_leaf : LeafLabel sh 0
  has_leaf = leb-true 1 sh.leaves (and_parts _ _ (and_parts _ _ ok).0).0

  has_inner : 1 ≤ sh.inners
  has_inner = leb-true 1 sh.inners (and_parts _ _ (and_parts _ _ (and_parts _ _ ok).1).0).0

  pub first_inner : InnerLabel sh sh.leaves
  first_inner = (omega arith, omega (arith, has_inner))

pub no_marks : (sh : Shape) → Marks sh 0
no_marks sh = pow_pos sh.tracks

-- a context that is final exactly where the code x is in the open place
pub record Test (M : Automaton) (x : ℕ) : Type 0 where
  pub context : Context
  pub shaped : ContextShaped M.shape context
  pub tells : (y : ℕ) → y < M.count → M.final (code_in M context y) ≡ eqb y x

module _ (M : Automaton) where
  met_reached : FirstMet M.shape (own_table M) → (n x : ℕ) → x < n → x < M.count → Reached M x
  met_reached met zero x l h = absurd (omega arith)
  met_reached met (suc n) x l h = go (met x h).0 (met x h).1 (met_reached met n)
    where
      go : (q : Question) → MetAt M.shape (own_table M) x q → ((y : ℕ) → y < n → y < M.count → Reached M y) → Reached M x
      go (at_leaf a m) w ih = (leaf a m, w.over, w.is)
      go (at_inner a m y z) w ih =
          let L = ih y (omega arith) (omega arith) in
          let R = ih z (omega arith) (omega arith) in
          (inner a m L.0 R.0, (w.over.0, w.over.1, L.1, R.1), ap₂ (M.inner_step a m) L.2 R.2 ∙ w.is)

  tested : (x y : ℕ) → x < M.count → y < M.count → Test M x → Alike M x y → x ≡ y
  tested x y h k w al =
      sym (eqb-true y x (sym (w.tells y k) ∙ (sym (al w.context w.shaped) ∙ (w.tells x h ∙ eq-eqb x x refl))))

  -- the code d has no test: it is the one that no test accepts
  pub codes_are_states : (d : ℕ) → FirstMet M.shape (own_table M) → ((x : ℕ) → x < M.count → x ≢ d → Test M x) → CodesAreStates M
  codes_are_states d met test = record { reached = λ x h. met_reached met (suc x) x (omega arith) h; apart = apart; met = met }
    where
      apart : (x y : ℕ) → x < M.count → y < M.count → Alike M x y → x ≡ y
      apart x y h k al = go (cases_eq x d) (cases_eq y d)
        where
          go : (x ≡ d) ⊎ (x ≡ d → ⊥) → (y ≡ d) ⊎ (y ≡ d → ⊥) → x ≡ y
          go (inl p) (inl q) = p ∙ sym q
          go (inl p) (inr q) = sym (tested y x k h (test y k q) (λ c s. sym (al c s)))
          go (inr p) q = tested x y h k (test x h p) al

-- nothing comes before the first leaf step
pub zero_met : (M : Automaton) → Limited M.shape → M.leaf_step 0 0 ≡ 0 → MetAt M.shape (own_table M) 0 (at_leaf 0 0)
zero_met M ok e = record { over = (has_leaf M.shape ok, no_marks M.shape); is = e; first = λ q o l. absurd (omega (arith, l)) }

pub one_state : (M : Automaton) → Lawful M → Limited M.shape → M.count ≡ 1 → CodesAreStates M
one_state M ok limited one =
    codes_are_states M 0
    (λ s h. let z : 0 ≡ s = omega arith in
    subst (λ (n : ℕ). (q : Question) × MetAt M.shape (own_table M) n q) z (at_leaf 0 0, zero_met M limited (omega (arith, ok.leaf_in 0 0))))
    (λ x h ne. absurd (ne (omega arith)))
