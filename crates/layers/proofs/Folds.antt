-- An iterator over the members of a set, run: what a fold over it gathers, and what a test of them finds.
use Rattle.std.proofs.Common.{◌≡◌, ℕ, ◌^◌, ◌<◌, Bool, true, false, List, [], ◌∷◌, ◌⊎◌, MatchBool, Some, None, Option, sym, refl, ap, ◌∙◌, subst, inl, inr}
use Rattle.std.specs.Iterator.{Yields, FoldTurn, FoldsItems, ChecksAny, ActsAs, ActsAsOnTwo}
use Rattle.std.specs.List.{FoldsTo}
use denote.Param.Members.{Mut, Called}
use lib.Bits.{bit_or}
use Rattle.std.proofs.lemmas.Bool.{both_ways}
use Rattle.trees.specs.Nodes.{bit}
use Rattle.automata.specs.Layers.{sum_of}
use Rattle.layers.specs.Sets.{gathered, Empty, Next}
use Rattle.layers.proofs.Gatherings.{Gathering, gathering_none, gathering_more, gathering_all}

module _ {S : Type 0} (rest : S → ℕ) where
  abbrev Takes : S → Option ℕ → S → Type 0
  Takes s r t = Next (rest s) r (rest t)

  module _ {F : Type 0} (g : Mut F (ℕ × (ℕ × Unit {0})) ℕ) (f : F) (c : ℕ) (G : ℕ → ℕ → Bool)
      (acts : ActsAsOnTwo g f (λ s x. bit_or s (sum_of (G x) c))) (X : ℕ) where
    turns : (xs : List ℕ) (s t u : S) (p q : F × ℕ) → p.0 ≡ f → Gathering c G X p.1 (rest s)
        → Yields Takes s xs t → Takes t None u → FoldsTo {P = F × ℕ} (FoldTurn g) p xs q → q.1 ≡ sum_of (gathered c G X) c
    turns [] s t u p q same i there none ran =
        ap (λ (w : F × ℕ). w.1) (sym ran)
        ∙ gathering_all c G X p.1 (rest s) i (subst (λ (v : S). Empty (rest v)) (sym there) none)
    turns (x ∷ xs) s t u p q same i (j, took, more) none (w, turn, others) =
        let act = acts p.1 x w.1 w.0 (subst (λ (v : F). Called g v (p.1, (x, tt)) w.1 w.0) same turn) in
        turns xs j t u w q act.0
        (subst (λ (n : ℕ). Gathering c G X n (rest j)) (sym act.1) (gathering_more c G X p.1 x (rest s) (rest j) _ i took refl))
        more none others

    pub fold_gathers : (s : S) (r : ℕ) → rest s ≡ X → X < 2 ^ c → FoldsItems Takes g s f 0 r → r ≡ sum_of (gathered c G X) c
    fold_gathers s r is below (xs, f', (u, (t, there, none)), ran) =
        turns xs s t u (f, 0) (f', r) refl (gathering_none c G X (rest s) below is) there none ran

  module _ {F : Type 0} (g : Mut F (ℕ × Unit {0}) Bool) (f : F) (P : ℕ → Bool) (acts : ActsAs g f P) where
    passed_over : (xs : List ℕ) (s t : S) (p q : F) → p ≡ f → Yields Takes s xs t → FoldsTo (λ p x q. Called g p (x, tt) false q) p xs q
        → (q ≡ f) × ((k : ℕ) → bit k (rest s) ≡ true → (P k ≡ false) ⊎ (bit k (rest t) ≡ true)) × ((k : ℕ) → bit k (rest t) ≡ true → bit k (rest s) ≡ true)
    passed_over [] s t p q same there ran =
        (sym ran ∙ same, λ k m. inr (subst (λ (v : S). bit k (rest v) ≡ true) there m), λ k m. subst (λ (v : S). bit k (rest v) ≡ true) (sym there) m)
    passed_over (x ∷ xs) s t p q same (j, took, more) (w, turn, others) =
        let act = acts x false w (subst (λ (v : F). Called g v (x, tt) false w) same turn) in
        let after = passed_over xs j t w q act.0 more others in
        (after.0, λ k m. go k (took.others k m) after.1, λ k m. took.only k (after.2 k m))
      where
        go : (k : ℕ) → (k ≡ x) ⊎ (bit k (rest j) ≡ true) → ((k : ℕ) → bit k (rest j) ≡ true → (P k ≡ false) ⊎ (bit k (rest t) ≡ true))
            → (P k ≡ false) ⊎ (bit k (rest t) ≡ true)
        go k (inl e) after = inl (ap P e ∙ sym (acts x false w (subst (λ (v : F). Called g v (x, tt) false w) same turn)).1)
        go k (inr m) after = after k m

    pub any_finds : (X : ℕ) (s u : S) (r : Bool) → rest s ≡ X → ChecksAny Takes g s f r u
        → MatchBool r ((k : ℕ) × (bit k X ≡ true) × (P k ≡ true)) ((k : ℕ) → bit k X ≡ true → P k ≡ false)
    any_finds X s u r is (xs, None, f', (t, there, none), ran, ends) =
        let after = passed_over xs s t f f' refl there ran in
        rw ends (λ k m. go k (after.1 k (rw is m)))
      where
        go : (k : ℕ) → (P k ≡ false) ⊎ (bit k (rest t) ≡ true) → P k ≡ false
        go k (inl e) = e
        go k (inr m) = absurd (both_ways (bit k (rest t)) (none k) m)
    any_finds X s u r is (xs, Some x, f', (t, there, took), ran, ends) =
        let after = passed_over xs s t f f' refl there ran in
        let found = acts x true ends.1.0 (subst (λ (v : F). Called g v (x, tt) true ends.1.0) after.0 ends.1.1) in
        rw ends.0 (x, rw (sym is) (after.2 x took.member), sym found.1)
