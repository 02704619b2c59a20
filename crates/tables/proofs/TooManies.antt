-- When more than N codes are reached.
use Rattle.std.proofs.Common.{◌≡◌, ℕ, suc, ◌<◌, ◌≤◌, ◌⊎◌, List, [], ◌∷◌, ◌++◌, length, sym, ap, ◌∙◌, inl, inr, arith, length-append}
use native.Mathlib.Decide.{dec_lt}
use Rattle.std.proofs.lemmas.Bool.{cases_order}
use Rattle.automata.specs.Automata.{Automaton, Lawful, Reached}
use Rattle.automata.specs.Numbering.{Table, Question, Over, place}
use Rattle.tables.specs.Tables.{TableOf, TooMany}
use Rattle.tables.specs.Exploring.{code_at, ask, Known, Upto, Explored}
use Rattle.tables.proofs.Pigeons.{or_else, or_else_all, pigeon}
use Rattle.tables.proofs.OwnTables.{reached_lt}
use Rattle.tables.proofs.Founds.{answers_reached, reached_found}
use Rattle.tables.proofs.Discovers.{new_step}

-- where reached codes have different numbers below c, more than N of them need N < c
module _ (M : Automaton) (N c : ℕ) (many : TooMany M N) where
  pub too_many_lt : (g : (x : ℕ) → Reached M x → ℕ) → ((x : ℕ) (r : Reached M x) → g x r < c)
      → ((x y : ℕ) (r : Reached M x) (s : Reached M y) → g x r ≡ g y s → x ≡ y) → N < c
  too_many_lt g low inj =
      pigeon c (suc N) (λ i h. g (many.codes i) (many.reached i (omega arith))) (λ i h. low (many.codes i) (many.reached i (omega arith)))
      (λ i j h k e. apart i j (omega arith) (omega arith) (inj _ _ _ _ e) (cases_order i j))
    where
      apart : (i j : ℕ) → i ≤ N → j ≤ N → many.codes i ≡ many.codes j → (i ≡ j) ⊎ ((i < j) ⊎ (j < i)) → i ≡ j
      apart i j h k e (inl z) = z
      apart i j h k e (inr (inl z)) = absurd (many.apart i j z k e)
      apart i j h k e (inr (inr z)) = absurd (many.apart j i z h (sym e))

pub too_many_count : (M : Automaton) (N : ℕ) → Lawful M → TooMany M N → N < M.count
too_many_count M N ok many = too_many_lt M N M.count many (λ x r. x) (reached_lt M ok) (λ x y r s e. e)

pub too_many_found : (M : Automaton) (codes : ℕ → ℕ) (E : Table) → Explored M codes E → (N : ℕ) → TooMany M N → N < E.states
too_many_found M codes E ex N many =
    too_many_lt M N E.states many (λ x r. (reached_found M codes E ex x r).0) (λ x r. (reached_found M codes E ex x r).1)
    (λ x y r s e. sym (reached_found M codes E ex x r).2 ∙ (ap codes e ∙ (reached_found M codes E ex y s).2))

-- a list of codes found that is longer than N
pub too_many_upto : (M : Automaton) (cs : List ℕ) (p N : ℕ) → Upto M cs p → N < length cs → TooMany M N
too_many_upto M cs p N up more = record {
  codes = code_at cs;
  reached = λ i h. answers_reached M (code_at cs) (length cs) (λ s l. let w = up.found s l in (w.0, w.2.over, w.2.is)) i (omega arith);
  apart = λ i j l h e. omega (arith, up.apart i j (omega arith) (omega arith) e);
}

-- a new code, and N are found already
pub too_many_new : (M : Automaton) (cs : List ℕ) (q : Question) (N : ℕ) → Upto M cs (place M.shape q) → Over M.shape (length cs) q
    → ¬ Known cs (length cs) (ask M (code_at cs) q) → N ≤ length cs → TooMany M N
too_many_new M cs q N up o new full =
    too_many_upto M (cs ++ (ask M (code_at cs) q ∷ [])) (suc (place M.shape q)) N (new_step M cs q up o new)
    (omega (arith, length-append cs (ask M (code_at cs) q ∷ [])))

-- more than N states are more than N codes
pub too_many_states : (M : Automaton) (T : Table) (N : ℕ) → TableOf M T → N < T.states → TooMany M N
too_many_states M T N o more = record {
  codes = at;
  reached = λ i h. all_at (λ s x. Reached M x) (λ s k. (o.state_of s k).1) i (omega arith);
  apart = λ i j l h z. omega (arith, sym (state_of_at i (omega arith)) ∙ (ap o.state z ∙ state_of_at j (omega arith)));
}
  where
    at : ℕ → ℕ
    at s = or_else T.states (λ s h. (o.state_of s h).0) 0 s (dec_lt s T.states)

    all_at : (P : ℕ → ℕ → Type 0) → ((s : ℕ) (h : s < T.states) → P s (o.state_of s h).0) → (s : ℕ) → s < T.states → P s (at s)
    all_at P all s h = or_else_all P T.states (λ s h. (o.state_of s h).0) 0 all s h (dec_lt s T.states)

    state_of_at : (s : ℕ) → s < T.states → o.state (at s) ≡ s
    state_of_at = all_at (λ s x. o.state x ≡ s) (λ s h. (o.state_of s h).2)
