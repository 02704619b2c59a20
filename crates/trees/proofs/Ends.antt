-- What a reading answers, and what its fold holds then.
use Rattle.std.proofs.Common.{◌≡◌, ℕ, Bool, List, [], ◌∷◌, IfOk, Some, None, Ok, Err, Option, Result, refl, ap, ◌∙◌, subst, MatchResult}
use Rattle.trees.specs.declared.shape.Shape.{Shape}
use Rattle.trees.specs.declared.refusal.Refusal.{Refusal}
use Rattle.trees.specs.Trees.{Tree}
use Rattle.trees.specs.Stacks.{parts}
use Rattle.trees.specs.Reading.{first_refusal, outcome, Reads, Answers}
use Rattle.trees.proofs.Listed.{parts_listing}
use Rattle.trees.proofs.Fronts.{answers}

pub tree_held : (sh : Shape) (room : ℕ → Bool) (bs : List ℕ) (P : Type 0) (Q : List Tree → Type 0) (r : Result (Unit {0}) Refusal)
    → MatchResult r (λ _. first_refusal sh room bs ≡ None) (λ e. first_refusal sh room bs ≡ Some e) → IfOk r (λ _. P → Q (parts sh.leaves bs []))
    → (t : Tree) → Reads sh room bs t → P → Q (t ∷ [])
tree_held sh room bs P Q (Ok u) due made t reads p =
    subst Q (ap (λ (x : List ℕ). parts sh.leaves x []) reads.listed ∙ parts_listing sh t reads.shaped) (made p)
tree_held sh room bs P Q (Err e) due made t reads p = let n = (answers sh room bs).reads.1 (t, reads) in cc

none_due : (o : Option Refusal) (u : Unit {0}) → Ok u ≡ outcome o → o ≡ None
none_due None u e = refl
none_due (Some x) u e = cc

-- an answered reading has read a tree
pub read_tree : (sh : Shape) (room : ℕ → Bool) (bs : List ℕ) (u : Unit {0}) → Answers sh room bs → Ok u ≡ outcome (first_refusal sh room bs) → (t : Tree) × Reads sh room bs t
read_tree sh room bs u a e = a.reads.0 (none_due _ u e)

-- and a refused one is due its refusal
pub refusal_due : (o : Option Refusal) (x : Refusal) → Err x ≡ outcome o → o ≡ Some x
refusal_due None x e = cc
refusal_due (Some y) x e = cc
