-- One question more: its code is known, or it is new and goes to the end of the list.
use Rattle.std.proofs.Common.{◌≡◌, ℕ, suc, ◌<◌, ◌≤◌, ◌⊎◌, List, [], ◌∷◌, ◌++◌, length, sym, refl, ap, ◌∙◌, subst, ap₂, inl, inr, arith, length-append}
use Rattle.std.proofs.lemmas.List.{get_or_append_left, get_or_push}
use Rattle.std.proofs.lemmas.Bool.{cases_lt, cases_order}
use Rattle.trees.specs.declared.shape.Shape.{Shape}
use Rattle.automata.specs.Automata.{Automaton}
use Rattle.automata.specs.Numbering.{Question, at_leaf, at_inner, Over, place}
use Rattle.automata.proofs.Places.{place_inj}
use Rattle.tables.specs.Exploring.{code_at, ask, Known, FoundAt, Upto}
use Rattle.tables.proofs.SameTables.{over_more}
use Rattle.tables.proofs.LatePlaces.{late}

pub none_asked : (M : Automaton) → Upto M [] 0
none_asked M = record {
  apart = λ i j h k e. absurd (omega arith);
  asked = λ q o l. absurd (omega arith);
  found = λ s h. absurd (omega arith);
}

module _ (M : Automaton) (cs : List ℕ) (q : Question) (up : Upto M cs (place M.shape q)) (o : Over M.shape (length cs) q) where
  abbrev sh : Shape
  sh = M.shape

  -- the questions up to q are those before q, and q
  at_or_before : (q' : Question) → Over sh (length cs) q' → place sh q' < suc (place sh q) → (place sh q' < place sh q) ⊎ (q' ≡ q)
  at_or_before q' p l = go (cases_order (place sh q') (place sh q))
    where
      go : (place sh q' ≡ place sh q) ⊎ ((place sh q' < place sh q) ⊎ (place sh q < place sh q')) → (place sh q' < place sh q) ⊎ (q' ≡ q)
      go (inl e) = inr (place_inj sh (length cs) q' q p o e)
      go (inr (inl h)) = inl h
      go (inr (inr h)) = absurd (omega (arith, l, h))

  pub known_step : Known cs (length cs) (ask M (code_at cs) q) → Upto M cs (suc (place M.shape q))
  known_step k = record {
    apart = up.apart;
    asked = λ q' p l. pick q' p (at_or_before q' p l);
    found = λ s h. let w = up.found s h in (w.0, omega (arith, w.1), w.2);
  }
    where
      pick : (q' : Question) → Over sh (length cs) q' → (place sh q' < place sh q) ⊎ (q' ≡ q) → Known cs (length cs) (ask M (code_at cs) q')
      pick q' p (inl h) = up.asked q' p h
      pick q' p (inr e) = subst (λ (z : Question). Known cs (length cs) (ask M (code_at cs) z)) (sym e) k

  module _ (new : ¬ Known cs (length cs) (ask M (code_at cs) q)) where
    abbrev ds : List ℕ
    ds = cs ++ (ask M (code_at cs) q ∷ [])

    len : length ds ≡ suc (length cs)
    len = length-append cs (ask M (code_at cs) q ∷ []) ∙ omega arith

    old : (i : ℕ) → i < length cs → code_at ds i ≡ code_at cs i
    old i h = get_or_append_left cs (ask M (code_at cs) q ∷ []) 0 i h

    last : code_at ds (length cs) ≡ ask M (code_at cs) q
    last = get_or_push cs (ask M (code_at cs) q) 0 (length cs) refl

    ask_old : (q' : Question) → Over sh (length cs) q' → ask M (code_at ds) q' ≡ ask M (code_at cs) q'
    ask_old (at_leaf a m) p = refl
    ask_old (at_inner a m x y) p = ap₂ (M.inner_step a m) (old x p.2) (old y p.3)

    keep : (n x : ℕ) → n ≤ length cs → Known cs n x → Known ds n x
    keep n x h (i, l, e) = (i, l, old i (omega arith) ∙ e)

    -- a question up to q is over the codes before
    early : (q' : Question) → Over sh (length ds) q' → place sh q' < suc (place sh q) → Over sh (length cs) q'
    early q' p l = pick (late sh (length cs) q q' o (subst (λ (n : ℕ). Over sh n q') len p))
      where
        pick : Over sh (length cs) q' ⊎ (place sh q < place sh q') → Over sh (length cs) q'
        pick (inl z) = z
        pick (inr z) = absurd (omega (arith, l, z))

    known_early : (s : ℕ) → s ≤ length cs → (q' : Question) → Over sh (length cs) q' → Known cs s (ask M (code_at cs) q') → Known ds s (ask M (code_at ds) q')
    known_early s h q' p k = subst (Known ds s) (sym (ask_old q' p)) (keep s (ask M (code_at cs) q') h k)

    apart : (i j : ℕ) → i < length ds → j < length ds → code_at ds i ≡ code_at ds j → i ≡ j
    apart i j h k e = go (cases_lt i (length cs)) (cases_lt j (length cs))
      where
        end : (n : ℕ) → n < length ds → length cs ≤ n → n ≡ length cs
        end n l z = omega (arith, len, l, z)

        go : (i < length cs) ⊎ (length cs ≤ i) → (j < length cs) ⊎ (length cs ≤ j) → i ≡ j
        go (inl a) (inl b) = up.apart i j a b (sym (old i a) ∙ (e ∙ old j b))
        go (inl a) (inr b) = absurd (new (i, a, sym (old i a) ∙ (e ∙ (ap (code_at ds) (end j k b) ∙ last))))
        go (inr a) (inl b) = absurd (new (j, b, sym (old j b) ∙ (sym e ∙ (ap (code_at ds) (end i h a) ∙ last))))
        go (inr a) (inr b) = end i h a ∙ sym (end j k b)

    asked : (q' : Question) → Over sh (length ds) q' → place sh q' < suc (place sh q) → Known ds (length ds) (ask M (code_at ds) q')
    asked q' p l = go (early q' p l) (at_or_before q' (early q' p l) l)
      where
        go : Over sh (length cs) q' → (place sh q' < place sh q) ⊎ (q' ≡ q) → Known ds (length ds) (ask M (code_at ds) q')
        go p' (inl h) = let w = known_early (length cs) (omega arith) q' p' (up.asked q' p' h) in (w.0, omega (arith, len, w.1), w.2)
        go p' (inr e) = (length cs, omega (arith, len), last ∙ (ap (ask M (code_at cs)) (sym e) ∙ sym (ask_old q' p')))

    found : (s : ℕ) → s < length ds → (r : Question) × (place sh r < suc (place sh q)) × FoundAt M ds s r
    found s h = go (cases_lt s (length cs))
      where
        go : (s < length cs) ⊎ (length cs ≤ s) → (r : Question) × (place sh r < suc (place sh q)) × FoundAt M ds s r
        go (inl a) =
            let w = up.found s a in
            let r = w.0 in
            let f = w.2 in (
              w.0,
              omega (arith, w.1),
              record {
                over = f.over;
                is = ask_old r (over_more sh s (length cs) r (omega arith) f.over) ∙ (f.is ∙ sym (old s a));
                first = λ q' p l. let p' = early q' p (omega (arith, l, w.1)) in known_early s (omega arith) q' p' (f.first q' p' l);
              },
            )
        go (inr a) =
            let e : length cs ≡ s = omega (arith, len, h, a) in
            subst (λ (n : ℕ). (r : Question) × (place sh r < suc (place sh q)) × FoundAt M ds n r) e (
              q,
              omega arith,
              record {
                over = o;
                is = ask_old q o ∙ sym last;
                first = λ q' p l. let p' = early q' p (omega (arith, l)) in known_early (length cs) (omega arith) q' p' (up.asked q' p' l);
              },
            )

    pub new_step : Upto M (cs ++ (ask M (code_at cs) q ∷ [])) (suc (place M.shape q))
    new_step = record { apart = apart; asked = asked; found = found }
