-- The layers over slots: a product is always made, and Some is refused for its track alone.
use Rattle.std.proofs.Common.{◌≡◌, ℕ, ◌*◌, ◌^◌, ◌≤◌, Bool, true, false, ltb, List, Some, None, Ok, Err, Option, Result, sym, refl, ap, ◌∙◌, ap₂, arith, lit≤, MatchResult}
use Rattle.std.proofs.lemmas.Nat.{mul-le}
use Rattle.std.proofs.lemmas.Bool.{le-leb, and_from, eq-eqb}
use Rattle.trees.specs.declared.shape.Shape.{Shape}
use Rattle.trees.specs.declared.refusal.Reason.TheVariants.{NoSuchTrack, ShapesDiffer, CountTooLarge}
use Rattle.trees.specs.declared.refusal.Refusal.{Refusal}
use Rattle.trees.specs.Reading.{check}
use Rattle.automata.specs.Automata.{Automaton}
use Rattle.automata.specs.Layers.{pair_layer}
use Rattle.tables.specs.SlotLaws.{slot_few}
use Rattle.machine.specs.Making.{refusal}
use Rattle.layers.specs.Product.{same_shape, pair_fits, pair_refusal, MadePair}
use Rattle.layers.specs.Projection.{some_refusal}
use Rattle.racks.specs.declared.rack.Rack.{Rack}
use Rattle.racks.specs.Racks.{slot, slot_machine}

-- a refusal is not none
pub no_refusal : {A : Type 0} (o : Option Refusal) (e : Refusal) → o ≡ None → o ≡ Some e → A
no_refusal o e p q = absurd (cc)

few : (R : Rack) (store : List ℕ) (k : ℕ) → (slot_machine R store k).count ≤ 32
few R store k = slot_few R.shape R.most (slot R store k)

one_shape : (sh : Shape) → same_shape sh sh ≡ true
one_shape sh = and_from _ _ (eq-eqb sh.leaves sh.leaves refl) (and_from _ _ (eq-eqb sh.inners sh.inners refl) (eq-eqb sh.tracks sh.tracks refl))

pair_few : (R : Rack) (store : List ℕ) (x y : ℕ) → pair_fits (slot_machine R store x) (slot_machine R store y) ≡ true
pair_few R store x y =
    let m : (slot_machine R store x).count * (slot_machine R store y).count ≤ 32 * 32 = mul-le _ _ 32 32 (few R store x) (few R store y) in
    let p : 32 * 32 ≤ 2 ^ 32 = lit≤ tt in
    le-leb _ _ (omega arith)

slots_paired : (R : Rack) (store : List ℕ) (x y : ℕ) → pair_refusal (slot_machine R store x) (slot_machine R store y) ≡ None
slots_paired R store x y =
    ap₂ (λ (a b : Bool). check a (refusal ShapesDiffer) (check b (refusal CountTooLarge) None)) (one_shape R.shape) (pair_few R store x y)

pub paired : (R : Rack) (store : List ℕ) (x y : ℕ) (A B : Automaton) → A ≡ slot_machine R store x → B ≡ slot_machine R store y → pair_refusal A B ≡ None
paired R store x y A B e f = ap₂ pair_refusal e f ∙ slots_paired R store x y

pub product_made : {X : Type 0} (op : Bool → Bool → Bool) (of : X → Automaton) (A B A' B' : Automaton) (r : Result X Refusal) → A' ≡ A → B' ≡ B → pair_refusal A' B' ≡ None
    → MatchResult r (λ n. MadePair op A' B' (of n)) (λ e. pair_refusal A' B' ≡ Some e) → MatchResult r (λ n. of n ≡ pair_layer op A B) (λ _. ⊥)
product_made op of A B A' B' (Ok n) e f none made = made.layer ∙ ap₂ (pair_layer op) e f
product_made op of A B A' B' (Err x) e f none made = no_refusal (pair_refusal A' B') x none made

abbrev no_track : Refusal
no_track = refusal NoSuchTrack

some_due : (R : Rack) (store : List ℕ) (x i : ℕ) → some_refusal i (slot_machine R store x) ≡ check (ltb i R.shape.tracks) no_track None
some_due R store x i = ap (λ (b : Bool). check (ltb i R.shape.tracks) no_track (check b (refusal CountTooLarge) None)) (le-leb _ _ (few R store x))

passed : (b : Bool) (x : Refusal) (rest : Option Refusal) → check b x None ≡ None → check b x rest ≡ rest
passed true x rest h = refl
passed false x rest h = no_refusal None x refl (sym h)

module _ (R : Rack) (store : List ℕ) (x i : ℕ) (M : Automaton) (is : M ≡ slot_machine R store x) where
  due_is : some_refusal i M ≡ check (ltb i R.shape.tracks) no_track None
  due_is = ap (some_refusal i) is ∙ some_due R store x i

  pub track_passed : (rest : Option Refusal) → some_refusal i M ≡ None → check (ltb i R.shape.tracks) no_track rest ≡ rest
  track_passed rest h = passed _ _ rest (sym due_is ∙ h)
