-- Products.
-- Words:
--   pair_refusal A B     the first refusal due to a product of A and B: 11 where the shapes differ, then 12 where the codes are too many
--   same_shape           two shapes have the same numbers
--   pair_fits A B        the codes of a product are not too many
--   pair_counts A B      the counts of the product and of B, where the codes are not too many
--   pair_meaning op A B  the product where it fits, else idle
--   product_meaning      what a Product means, by its connective and what the machines below mean
--   MadePair op A B N    N is the product of A and B, its finals joined by op
--   MadeJoined op joins A B N    and so accepts exactly the trees of which "A accepts it" and "B accepts it", joined, hold
--   MadeBoth A B N       so those that both accept
--   MadeEither A B N     so those that one of them accepts
use Rattle.std.specs.Prelude.{◌≡◌, ℕ, ◌*◌, ◌^◌, Bool, cond, ◌&&◌, ◌||◌, T, ◌⊎◌, ◌↔◌, Some, None, Option, ◌==◌, nat_le}
use Rattle.std.proofs.lemmas.Bool.{leb-true}
use Rattle.trees.specs.declared.shape.Shape.{Shape}
use Rattle.trees.specs.declared.refusal.Refusal.{Refusal}
use Rattle.trees.specs.declared.refusal.Reason.TheVariants.{ShapesDiffer, CountTooLarge}
use Rattle.trees.specs.Reading.{check}
use Rattle.trees.specs.Trees.{Tree, Shaped}
use Rattle.automata.specs.Automata.{Automaton, Lawful, accepts}
use Rattle.automata.specs.Layers.{pair_layer}
use Rattle.automata.proofs.Products.{pair_lawful}
use Rattle.machine.specs.Making.{refusal}
use Rattle.layers.specs.declared.product.Product.{Product}
use Rattle.layers.specs.Fitted.{fitted, fitted_lawful}

abbrev pub same_shape : Shape → Shape → Bool
same_shape x y = x.leaves == y.leaves && (x.inners == y.inners && x.tracks == y.tracks)

abbrev pub pair_fits : Automaton → Automaton → Bool
pair_fits A B = nat_le (A.count * B.count) (2 ^ 32)

abbrev pub pair_counts : Automaton → Automaton → Option (ℕ × ℕ)
pair_counts A B = cond (pair_fits A B) (Some (A.count * B.count, B.count)) None

abbrev pub pair_refusal : Automaton → Automaton → Option Refusal
pair_refusal A B =
    check (same_shape A.shape B.shape) (refusal ShapesDiffer) (check (pair_fits A B) (refusal CountTooLarge) None)

abbrev pub pair_meaning : (Bool → Bool → Bool) → Automaton → Automaton → Automaton
pair_meaning op A B = fitted (pair_fits A B) (pair_layer op A B)

pub pair_meaning_lawful : (op : Bool → Bool → Bool) (A B : Automaton) → Lawful A → Lawful B → Lawful (pair_meaning op A B)
pair_meaning_lawful op A B okA okB =
    fitted_lawful (pair_fits A B) (pair_layer op A B) (λ e. pair_lawful op A B okA okB (leb-true _ _ e))

abbrev pub product_meaning : {C A B : Type 0} → (Bool → Bool → Bool) → (A → Automaton) → (B → Automaton) → Product C A B → Automaton
product_meaning op left_meaning right_meaning s = pair_meaning op (left_meaning s.left) (right_meaning s.right)

pub record MadePair (op : Bool → Bool → Bool) (A B N : Automaton) : Type 0 where
  pub due : pair_refusal A B ≡ None
  pub layer : N ≡ pair_layer op A B

pub record MadeJoined (op : Bool → Bool → Bool) (joins : Type 0 → Type 0 → Type 0) (A B N : Automaton) : Type 0 where
  pub due : pair_refusal A B ≡ None
  pub layer : N ≡ pair_layer op A B
  pub accepted : (t : Tree) → Shaped A.shape t → T (accepts N t) ↔ joins (T (accepts A t)) (T (accepts B t))

abbrev pub MadeBoth : Automaton → Automaton → Automaton → Type 0
MadeBoth = MadeJoined ◌&&◌ (λ P Q. P × Q)

abbrev pub MadeEither : Automaton → Automaton → Automaton → Type 0
MadeEither = MadeJoined ◌||◌ (λ P Q. P ⊎ Q)
