-- How a listing is read: the first refusal due, or the one tree whose listing it is.
-- Words:
--   height            the number of open parts: those that are read and not yet under an inner node
--   room n            whether the stack has a free place for one more part when n parts are open
--   node_refusal      the first refusal due at one node: 14, 15, 16, 17 in this order
--   rest_refusal      the first refusal due from node k on, with so many parts open before it
--   first_refusal     the first refusal due of the whole listing: 13 before any node is looked at
--   outcome           what a reading answers: the refusal, or nothing where none is due
--   stack_need t      the most parts that are open at once while the listing of t is read
--   Reads .. t        the bytes are the listing of t, a tree of the shape, within the stack and 8,192 bytes
--   GoesOn            the bytes begin the listing of some tree of the shape within the stack
--   front n bs        the bytes of the first n nodes
use Rattle.std.specs.Prelude.{◌≡◌, ℕ, ◌+◌, ◌-◌, ◌*◌, ◌%◌, ◌^◌, ◌<◌, ◌≤◌, max, Bool, true, cond, not, ◌&&◌, ◌||◌, ◌↔◌, List, [], ◌∷◌, ◌++◌, length, take, Some, None, Ok, Err, Option, Result, ◌==◌, nat_le, nat_lt}
use Rattle.trees.specs.declared.shape.Shape.{Shape}
use Rattle.trees.specs.declared.refusal.Reason.{Reason}
use Rattle.trees.specs.declared.refusal.Reason.TheVariants.{BadLength, UnknownLabel, UnknownMarks, MissingParts, StackFull, NotOneTree}
use Rattle.trees.specs.declared.refusal.Origin.TheVariants.{Trees}
use Rattle.trees.specs.declared.refusal.Refusal.{Refusal}
use Rattle.trees.specs.Refusals.{number}
use Rattle.trees.specs.Shapes.{labels, Limited}
use Rattle.trees.specs.Trees.{Tree, leaf, inner, Shaped, listing}

-- a refusal that arises in trees
abbrev pub refusal : Reason → ℕ → Refusal
refusal why k = record { reason = why; place = k; origin = Trees }

-- the refusal where the check fails, else what is due after it
abbrev pub check : Bool → Refusal → Option Refusal → Option Refusal
check ok e rest = cond ok rest (Some e)

abbrev pub or_else : Option Refusal → Option Refusal → Option Refusal
or_else None rest = rest
or_else (Some e) rest = Some e

abbrev pub node_refusal : Shape → (ℕ → Bool) → ℕ → ℕ → ℕ → ℕ → Option Refusal
node_refusal sh room k height a m =
    check (nat_lt a (labels sh)) (refusal UnknownLabel k)
    (check (nat_lt m (2 ^ sh.tracks)) (refusal UnknownMarks k)
    (check (nat_lt a sh.leaves || nat_le 2 height) (refusal MissingParts k)
    (check (not (nat_lt a sh.leaves) || room height) (refusal StackFull k) None)))

-- the number of open parts after a node with the label a
abbrev pub opened : Shape → ℕ → ℕ → ℕ
opened sh height a = cond (nat_lt a sh.leaves) (height + 1) (height - 1)

abbrev pub rest_refusal : Shape → (ℕ → Bool) → ℕ → ℕ → List ℕ → Option Refusal
rest_refusal sh room k height [] = check (height == 1) (refusal NotOneTree k) None
rest_refusal sh room k height (a ∷ []) = Some (refusal BadLength 0)
rest_refusal sh room k height (a ∷ m ∷ bs) =
    or_else (node_refusal sh room k height a m) (rest_refusal sh room (k + 1) (opened sh height a) bs)

abbrev pub first_refusal : Shape → (ℕ → Bool) → List ℕ → Option Refusal
first_refusal sh room bs =
    check (nat_le (length bs) 8192 && length bs % 2 == 0) (refusal BadLength 0) (rest_refusal sh room 0 0 bs)

-- what a reading answers
abbrev pub outcome : Option Refusal → Result (Unit {0}) Refusal
outcome None = Ok tt
outcome (Some e) = Err e

abbrev pub stack_need : Tree → ℕ
stack_need (leaf a m) = 1
stack_need (inner a m l r) = max (stack_need l) (1 + stack_need r)

abbrev pub Stacked : (ℕ → Bool) → Tree → Type 0
Stacked room t = (n : ℕ) → n < stack_need t → room n ≡ true

pub record Reads (sh : Shape) (room : ℕ → Bool) (bs : List ℕ) (t : Tree) : Type 0 where
  pub shaped : Shaped sh t
  pub stacked : Stacked room t
  pub listed : bs ≡ listing t
  pub short : length bs ≤ 8192

abbrev pub GoesOn : Shape → (ℕ → Bool) → List ℕ → Type 0
GoesOn sh room bs = (t : Tree) × (more : List ℕ) × Shaped sh t × Stacked room t × (bs ++ more ≡ listing t)

abbrev pub front : ℕ → List ℕ → List ℕ
front n bs = take (n * 2) bs

-- a reason that is about one node
abbrev pub AtNode : Reason → Type 0
AtNode why = (14 ≤ number why) × (number why ≤ 17)

-- node k is the first with which no listing of a tree of the shape, within the stack, goes on
pub record Stops (sh : Shape) (room : ℕ → Bool) (bs : List ℕ) (k : ℕ) : Type 0 where
  pub there : (k + 1) * 2 ≤ length bs
  pub before : (n : ℕ) → 1 ≤ n → n ≤ k → GoesOn sh room (front n bs)
  pub here : ¬ GoesOn sh room (front (k + 1) bs)

-- what the first refusal due says of the bytes
pub record Answers (sh : Shape) (room : ℕ → Bool) (bs : List ℕ) : Type 0 where
  -- none is due exactly where the bytes are the listing of a tree, within the limits and the stack
  pub reads : (first_refusal sh room bs ≡ None) ↔ ((t : Tree) × Reads sh room bs t)
  -- of one tree only
  pub one_tree : (t u : Tree) → Reads sh room bs t → Reads sh room bs u → t ≡ u
  -- 14 to 17 name the first node with which no listing goes on
  pub stops : Limited sh → (e : Refusal) → first_refusal sh room bs ≡ Some e → AtNode e.reason → Stops sh room bs e.place
