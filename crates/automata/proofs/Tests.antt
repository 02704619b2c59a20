-- What a joined test tells of its parts.
use Rattle.std.proofs.Common.{Bool, true, false, not, ◌&&◌, ◌||◌, T, ◌⊎◌, ◌↔◌, inl, inr}

pub not_iff : (b : Bool) → T (not b) ↔ (¬ T b)
not_iff true = ((λ h k. h), λ f. f tt)
not_iff false = ((λ h k. k), λ f. tt)

pub and_iff : (a b : Bool) → T (a && b) ↔ (T a × T b)
and_iff true b = ((λ h. (tt, h)), λ p. p.1)
and_iff false b = ((λ h. elim h [ ]), λ p. p.0)

pub or_iff : (a b : Bool) → T (a || b) ↔ (T a ⊎ T b)
or_iff true b = ((λ h. inl tt), λ p. tt)
or_iff false b = ((λ h. inr h), λ p. elim p [ inl x ↦ elim x [ ] | inr y ↦ y ])
