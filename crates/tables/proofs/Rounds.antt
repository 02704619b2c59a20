-- Rounds of refining: no round loses a class, and a round that parts none has found the classes of alike codes.
use Rattle.std.proofs.Common.{◌≡◌, ℕ, ◌<◌, ◌≤◌, sym, refl, ap, ◌∙◌, subst, arith}
use native.Mathlib.Bridge.{le_prop}
use Rattle.automata.specs.Automata.{Automaton, Alike, hole}
use Rattle.automata.specs.Atoms.{one_if}
use Rattle.automata.specs.Numbering.{Table, at_inner}
use Rattle.tables.specs.Exploring.{Explored}
use Rattle.tables.specs.Merging.{Stable, Merged}
use Rattle.tables.specs.Rounds.{Agree, Numbering, Coarse}
use Rattle.tables.proofs.Pigeons.{pigeon, pigeon_onto}
use Rattle.tables.proofs.Founds.{cells_alike}
use Rattle.tables.proofs.Refines.{stable_alike}
use Rattle.tables.proofs.Numberings.{Equivalence}
use Rattle.tables.proofs.Flags.{one_if_inj}

pub agree_equivalence : (M : Automaton) (E : Table) (class : ℕ → ℕ) → Equivalence (Agree M E class)
agree_equivalence M E class = record {
  same = λ x. record { here = refl; left = λ a m z h k l. refl; right = λ a m z h k l. refl };
  turn = λ x y p. record { here = sym p.here; left = λ a m z h k l. sym (p.left a m z h k l); right = λ a m z h k l. sym (p.right a m z h k l) };
  join = λ x y z p q. record {
    here = p.here ∙ q.here;
    left = λ a m w h k l. p.left a m w h k l ∙ q.left a m w h k l;
    right = λ a m w h k l. p.right a m w h k l ∙ q.right a m w h k l;
  };
}

-- the finals part before the first round
pub finals_coarse : (M : Automaton) (codes : ℕ → ℕ) (E : Table) (class : ℕ → ℕ)
    → ((x : ℕ) → x < E.states → class x ≡ one_if (M.final (codes x))) → Coarse M codes E class 0
finals_coarse M codes E class is = record {
  alike = λ x y hx hy al. is x hx ∙ (ap one_if (al hole tt) ∙ sym (is y hy));
  finals = λ x y hx hy e. one_if_inj (M.final (codes x)) (M.final (codes y)) (sym (is x hx) ∙ (e ∙ is y hy));
  spread = λ s h. absurd (omega (arith, h));
}

module _ (M : Automaton) (codes : ℕ → ℕ) (E : Table) (ex : Explored M codes E) (class : ℕ → ℕ) (k : ℕ) (co : Coarse M codes E class k) where
  alike_agree : (x y : ℕ) → x < E.states → y < E.states → Alike M (codes x) (codes y) → Agree M E class x y
  alike_agree x y hx hy al = record {
    here = co.alike x y hx hy al;
    left = λ a m z h l hz. co.alike _ _ (ex.inside (at_inner a m x z) (h, l, hx, hz)) (ex.inside (at_inner a m y z) (h, l, hy, hz))
        (cells_alike M codes E ex a m x z y z h l hx hz hy hz al (λ c _. refl));
    right = λ a m z h l hz. co.alike _ _ (ex.inside (at_inner a m z x) (h, l, hz, hx)) (ex.inside (at_inner a m z y) (h, l, hz, hy))
        (cells_alike M codes E ex a m z x z y h l hz hx hz hy (λ c _. refl) al);
  }

  -- f numbers the classes of the next round
  module _ (f : ℕ → ℕ) (k' : ℕ) (nu : Numbering (Agree M E class) f E.states k') where
    pub next_coarse : Coarse M codes E f k'
    next_coarse = record {
      alike = λ x y hx hy al. (nu.same x y hx hy).1 (alike_agree x y hx hy al);
      finals = λ x y hx hy e. co.finals x y hx hy ((nu.same x y hx hy).0 e).here;
      spread = λ s h. let w = nu.first s h in (w.0, w.1, w.2);
    }

    -- the next number of a class is that of one of its indices, here of the one that is known
    abbrev next : (s : ℕ) → s < k → ℕ
    next s h = f (co.spread s h).0

    next_in : (s : ℕ) (h : s < k) → next s h < k'
    next_in s h = nu.below (co.spread s h).0 (co.spread s h).1

    -- an index with the next number of s is of class s
    next_of : (x s : ℕ) (h : s < k) → x < E.states → f x ≡ next s h → class x ≡ s
    next_of x s h hx e = let u = co.spread s h in ((nu.same x u.0 hx u.1).0 e).here ∙ u.2

    next_apart : (s t : ℕ) (h : s < k) (l : t < k) → next s h ≡ next t l → s ≡ t
    next_apart s t h l e = sym (co.spread s h).2 ∙ next_of (co.spread s h).0 t l (co.spread s h).1 e

    next_same : (s t : ℕ) (h : s < k) (l : t < k) → s ≡ t → next s h ≡ next t l
    next_same s t h l e = subst (λ (t : ℕ). (l : t < k) → next s h ≡ next t l) e (λ l. ap (next s) (le_prop h l)) l

    pub no_class_lost : k ≤ k'
    no_class_lost = pigeon k' k next next_in next_apart

    module _ (still : k' ≡ k) where
      -- each number is the next number of a class
      comes_from : (x : ℕ) → x < E.states → (s : ℕ) × (h : s < k) × (next s h ≡ f x)
      comes_from x hx =
          pigeon_onto k next (λ s h. subst (λ (n : ℕ). next s h < n) still (next_in s h)) next_apart
          (f x) (subst (λ (n : ℕ). f x < n) still (nu.below x hx))

      as_before : (x y : ℕ) → x < E.states → y < E.states → class x ≡ class y → f x ≡ f y
      as_before x y hx hy e =
          let u = comes_from x hx in
          let v = comes_from y hy in
          let z : u.0 ≡ v.0 = sym (next_of x u.0 u.1 hx (sym u.2)) ∙ (e ∙ next_of y v.0 v.1 hy (sym v.2)) in
          sym u.2 ∙ (next_same u.0 v.0 u.1 v.1 z ∙ v.2)

      stable : Stable M codes E f
      stable = record {
        final = λ x y hx hy e. co.finals x y hx hy ((nu.same x y hx hy).0 e).here;
        left_step = λ a m x y z h l hx hy hz e. as_before _ _ (ex.inside (at_inner a m x z) (h, l, hx, hz)) (ex.inside (at_inner a m y z) (h, l, hy, hz))
            (((nu.same x y hx hy).0 e).left a m z h l hz);
        right_step = λ a m x y z h l hx hy hz e. as_before _ _ (ex.inside (at_inner a m z x) (h, l, hz, hx)) (ex.inside (at_inner a m z y) (h, l, hz, hy))
            (((nu.same x y hx hy).0 e).right a m z h l hz);
      }

      pub alike_numbered : Numbering (λ x y. Alike M (codes x) (codes y)) f E.states k
      alike_numbered = subst (Numbering (λ x y. Alike M (codes x) (codes y)) f E.states) still (record {
        few = nu.few;
        below = nu.below;
        first = nu.first;
        same = λ x y hx hy. (stable_alike M codes E ex f stable x y hx hy, λ al. (nu.same x y hx hy).1 (alike_agree x y hx hy al));
      })

-- numbered classes of alike codes are merged, with any list of their first indices
pub numbered_merged : (M : Automaton) (codes : ℕ → ℕ) (E : Table) (class first : ℕ → ℕ) (k : ℕ)
    → Numbering (λ x y. Alike M (codes x) (codes y)) class E.states k
    → ((s : ℕ) → s < k → (first s < E.states) × (class (first s) ≡ s) × ((x : ℕ) → x < first s → class x < s))
    → Merged M codes E k class first
numbered_merged M codes E class first k nu fs = record {
  class_in = nu.below;
  first_in = λ s h. (fs s h).0;
  first_is = λ s h. (fs s h).1;
  before = λ s x h l. (fs s h).2 x l;
  classes = nu.same;
}
