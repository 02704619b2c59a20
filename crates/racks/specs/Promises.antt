-- What a call promises of its outcome and of the store.
-- Words:
--   lent codes cells classes   the lengths of lent memory
--   lent_by w                  those lengths of a call's working memory
--   Zeroed before after        every place of the slice is 0 afterwards
--   AllZeroed w codes cells classes   so it is of each slice of the working memory
--   rack_of F I K N S          the rack of these numbers
--   MakesRack R before after r what Make answers: the rack, its slots' bytes zeroed and no other touched, and kept under the empty log; or the first refusal due
--   filled_by r after    the outcome of a call that writes the store: filled with what is there after, or the refusal
--   judged_by r          the outcome of a call that says a verdict
--   listed_by r buffer   the outcome of a call that writes a text: the first bytes of the buffer
--   VerdictLogged R log k bs places r    a verdict answered on a rack that is kept under the log is right by the log
--   ListLogged R log k r buffer     a text listed there agrees with other lists exactly as the logged rules agree
--   ListedIn text before after r    the buffer has the text, its length is answered, and all bytes behind it are as they were; a refusal changes none
--   Done R c before after o    o is the effect of the call, the store afterwards is what it leaves, and a rack that was kept is kept under the log with this call
use Rattle.std.specs.Prelude.{◌≡◌, ℕ, Bool, List, [], ◌∷◌, ◌++◌, length, take, drop, replicate, Some, None, Ok, Err, Result}
use Rattle.trees.specs.declared.refusal.Refusal.{Refusal}
use Rattle.racks.specs.declared.rack.Rack.{Rack}
use Rattle.racks.specs.declared.working.Working.{Working}
use Rattle.racks.specs.Racks.{store_bytes}
use Rattle.racks.specs.Calls.{Lent, Call, check_open, Outcome, refused, filled, judged, listed, Effect, store_after}
use Rattle.racks.specs.Log.{Log, entry, KeptIn}
use Rattle.racks.specs.Guarantee.{VerdictRight, ListsRight}

abbrev pub lent : List ℕ → List ℕ → List ℕ → Lent
lent codes cells classes = record { codes = length codes; cells = length cells; classes = length classes }

abbrev pub lent_by : Working → Lent
lent_by w = lent w.codes.now w.cells.now w.classes.now

abbrev pub Zeroed : List ℕ → List ℕ → Type 0
Zeroed before after = after ≡ replicate (length before) 0

abbrev pub AllZeroed : Working → List ℕ → List ℕ → List ℕ → Type 0
AllZeroed w codes cells classes = Zeroed w.codes.now codes × Zeroed w.cells.now cells × Zeroed w.classes.now classes

abbrev pub rack_of : ℕ → ℕ → ℕ → ℕ → ℕ → Rack
rack_of F I K N S = record { shape = record { leaves = F; inners = I; tracks = K }; most = N; slots = S }

abbrev pub MakesRack : Rack → List ℕ → List ℕ → Result Rack Refusal → Type 0
MakesRack R before after (Ok made) =
    (check_open R before None ≡ None) × (made ≡ R) × (after ≡ replicate (store_bytes R) 0 ++ drop (store_bytes R) before) × KeptIn R [] after
MakesRack R before after (Err e) = (check_open R before None ≡ Some e) × (after ≡ before)

abbrev pub filled_by : Result (Unit {0}) Refusal → List ℕ → Outcome
filled_by (Ok u) after = filled after
filled_by (Err e) after = refused e

abbrev pub judged_by : Result Bool Refusal → Outcome
judged_by (Ok b) = judged b
judged_by (Err e) = refused e

abbrev pub listed_by : Result ℕ Refusal → List ℕ → Outcome
listed_by (Ok n) buffer = listed (take n buffer)
listed_by (Err e) buffer = refused e

pub record Done (R : Rack) (c : Call) (before after : List ℕ) (o : Outcome) : Type 0 where
  pub effect : Effect R before c o
  pub leaves : after ≡ store_after before o
  pub kept : (log : Log) → KeptIn R log before → KeptIn R (entry c o ∷ log) after

abbrev pub VerdictLogged : Rack → Log → ℕ → List ℕ → ℕ → Result Bool Refusal → Type 0
VerdictLogged R log k bs places (Ok b) = VerdictRight R log k bs places b
VerdictLogged R log k bs places (Err e) = Unit {0}

abbrev pub ListLogged : Rack → Log → ℕ → Result ℕ Refusal → List ℕ → Type 0
ListLogged R log k (Ok n) buffer = ListsRight R log k (take n buffer)
ListLogged R log k (Err e) buffer = Unit {0}

abbrev pub ListedIn : List ℕ → List ℕ → List ℕ → Result ℕ Refusal → Type 0
ListedIn text before after (Ok n) = (n ≡ length text) × (after ≡ text ++ drop n before)
ListedIn text before after (Err e) = after ≡ before
