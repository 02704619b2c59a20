-- One question more: the codes found and the cells written are those of the next place.
use Rattle.std.proofs.Common.{◌≡◌, ℕ, suc, ◌<◌, ◌≤◌, ◌⊎◌, List, [], ◌∷◌, length, get_or, set, sym, refl, ap, ◌∙◌, subst, ap₂, inl, inr, arith}
use Rattle.std.proofs.lemmas.List.{get_or_append_left, length_push, get_or-set_same, get_or-set_other}
use Rattle.std.proofs.lemmas.Bool.{cases_order}
use Rattle.trees.specs.declared.shape.Shape.{Shape}
use Rattle.automata.specs.Automata.{Automaton}
use Rattle.automata.specs.Numbering.{Question, at_leaf, at_inner, Over, place}
use Rattle.automata.proofs.Places.{place_inj}
use Rattle.tables.specs.Tables.{TooMany}
use Rattle.tables.specs.Exploring.{code_at, ask, Known, Upto}
use Rattle.tables.proofs.SameTables.{over_more}
use Rattle.tables.proofs.LatePlaces.{late}
use Rattle.tables.proofs.Discovers.{known_step, new_step}
use Rattle.tables.proofs.TooManies.{too_many_new}
use Rattle.tables.specs.Images.{address}
use Rattle.build.specs.Discovery.{Met, Full, Sofar}
use Rattle.tables.proofs.Questions.{address_inj}

module _ (M : Automaton) (N : ℕ) (cs cells : List ℕ) (q : Question) (so : Sofar M N cs cells (place M.shape q)) (o : Over M.shape (length cs) q) where
  abbrev sh : Shape
  sh = M.shape

  -- the codes found stay, and a question up to this one is over them
  record Kept (ds : List ℕ) : Type 0 where
    longer : length cs ≤ length ds
    old : (i : ℕ) → i < length cs → code_at ds i ≡ code_at cs i
    early : (q' : Question) → Over M.shape (length ds) q' → place M.shape q' < suc (place M.shape q) → Over M.shape (length cs) q'
    upto : Upto M ds (suc (place M.shape q))

  met_kept : (ds : List ℕ) (i : ℕ) → Met cs ds (ask M (code_at cs) q) i → Kept ds
  met_kept ds i met = elim met.grown [
    | inl e ↦ subst Kept (sym e) (record {
      longer = omega arith;
      old = λ i h. refl;
      early = λ q' p l. p;
      upto = known_step M cs q so.upto o (subst (λ (xs : List ℕ). Known xs (length xs) (ask M (code_at cs) q)) e (i, met.within, met.is));
    })
    | inr w ↦ subst Kept (sym w.1) (record {
      longer = omega (arith, length_push cs (ask M (code_at cs) q));
      old = λ i h. get_or_append_left cs (ask M (code_at cs) q ∷ []) 0 i h;
      early = λ q' p l. elim (late sh (length cs) q q' o (subst (λ (n : ℕ). Over sh n q') (length_push cs (ask M (code_at cs) q) ∙ omega arith) p)) [ inl z ↦ z | inr z ↦ absurd (omega (arith, l, z)) ];
      upto = new_step M cs q so.upto o w.0;
    })
  ]

  ask_old : (ds : List ℕ) → Kept ds → (q' : Question) → Over M.shape (length cs) q' → ask M (code_at ds) q' ≡ ask M (code_at cs) q'
  ask_old ds k (at_leaf a m) p = refl
  ask_old ds k (at_inner a m x y) p = ap₂ (M.inner_step a m) (k.old x p.2) (k.old y p.3)

  pub sofar_next : (ds : List ℕ) (i : ℕ) → Met cs ds (ask M (code_at cs) q) i → length ds ≤ N → address M.shape N q < length cells
      → Sofar M N ds (set cells (address M.shape N q) i) (suc (place M.shape q))
  sofar_next ds i met room low = record { room = room; upto = k.upto; written = λ q' p l. at q' p l (cases_order (place sh q') (place sh q)) }
    where
      k : Kept ds
      k = met_kept ds i met

      at : (q' : Question) → Over sh (length ds) q' → place sh q' < suc (place sh q)
          → (place sh q' ≡ place sh q) ⊎ ((place sh q' < place sh q) ⊎ (place sh q < place sh q'))
          → (get_or (set cells (address sh N q) i) (address sh N q') 0 < length ds) × (code_at ds (get_or (set cells (address sh N q) i) (address sh N q') 0) ≡ ask M (code_at ds) q')
      at q' p l (inr (inl h)) =
          let p' = k.early q' p l in
          let w = so.written q' p' h in
          let apart : address sh N q' ≡ address sh N q → ⊥
          = λ e. let z = address_inj sh N q' q (over_more sh (length cs) N q' so.room p') (over_more sh (length cs) N q so.room o) e in omega (arith, h, ap (place sh) z) in
          let same : get_or (set cells (address sh N q) i) (address sh N q') 0 ≡ get_or cells (address sh N q') 0 = get_or-set_other cells (address sh N q) (address sh N q') i 0 apart in
          subst (λ (v : ℕ). (v < length ds) × (code_at ds v ≡ ask M (code_at ds) q')) (sym same)
          (omega (arith, w.0, k.longer), k.old (get_or cells (address sh N q') 0) w.0 ∙ (w.1 ∙ sym (ask_old ds k q' p')))
      at q' p l (inl h) =
          let p' = k.early q' p l in
          let z : q' ≡ q = place_inj sh (length cs) q' q p' o h in
          subst (λ (r : Question). (get_or (set cells (address sh N q) i) (address sh N r) 0 < length ds) × (code_at ds (get_or (set cells (address sh N q) i) (address sh N r) 0) ≡ ask M (code_at ds) r)) (sym z)
          (subst (λ (v : ℕ). (v < length ds) × (code_at ds v ≡ ask M (code_at ds) q)) (sym (get_or-set_same cells (address sh N q) i 0 low)) (met.within, met.is ∙ sym (ask_old ds k q o)))
      at q' p l (inr (inr h)) = absurd (omega (arith, l, h))

  pub full_too_many : Full cs N (ask M (code_at cs) q) → TooMany M N
  full_too_many f = too_many_new M cs q N so.upto o f.new (omega (arith, f.full))
