-- What a build in the image's cells leaves is what the whole build answers.
use Rattle.std.proofs.Common.{Result, Ok, Err, ◌≡◌, ℕ, true, List, ◌++◌, length, take, drop, replicate, sym, ap, ◌∙◌, subst, ap₂, arith}
use Rattle.std.proofs.lemmas.List.{take_at, drop_at, take_all}
use Rattle.std.proofs.lemmas.Bool.{and_parts}
use Rattle.automata.specs.Automata.{Automaton}
use Rattle.tables.specs.Canonical.{TableIn}
use Rattle.tables.proofs.Slots.{canonical_slot}
use Rattle.build.specs.Building.{image_width, Leaves, Answers}
use Rattle.build.specs.Imaging.{serves}
use Rattle.build.specs.declared.unbuilt.Unbuilt.{Unbuilt}
use Rattle.build.specs.declared.unbuilt.Unbuilt.TheVariants.{TooMany, Unserved}

module _ (M : Automaton) (N codes classes : ℕ) (before image : List ℕ) (w n : ℕ) (served : serves M N codes (length before) classes ≡ true)
    (e : w ≡ image_width M N) (f : length image ≡ w) (i : n ≡ w) where
  front : take (image_width M N) (image ++ drop w before) ≡ take (image_width M N) image
  front = take_at image (drop w before) (image_width M N) (f ∙ e) ∙ sym (take_all (image_width M N) image (omega (arith, e, f)))

  back : drop (image_width M N) (image ++ drop w before) ≡ drop (image_width M N) before
  back = drop_at image (drop w before) (image_width M N) (f ∙ e) ∙ ap (λ (m : ℕ). drop m before) e

  pub answers : (r : Result ℕ Unbuilt) → Leaves M N n image r → Answers M N codes classes before (image ++ drop w before) r
  answers (Ok s) h =
      let t = subst (TableIn M N s) (sym front) h.table in
      record { served = served; enough = h.enough; table = t; canonical = canonical_slot M N s _ (and_parts _ _ served).0 t; rest = back }
  answers (Err TooMany) h = (
    served,
    h.0,
    ap₂ (λ (xs ys : List ℕ). xs ++ ys) (h.1 ∙ ap (λ (m : ℕ). replicate m 0) (i ∙ e)) (ap (λ (m : ℕ). drop m before) e),
  )
  answers (Err Unserved) h = absurd h
