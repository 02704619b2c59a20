-- Refusals to make a machine.
-- Words:
--   refusal    a refusal that arises in machines; its place is 0
use Rattle.trees.specs.declared.refusal.Reason.{Reason}
use Rattle.trees.specs.declared.refusal.Origin.TheVariants.{Machines}
use Rattle.trees.specs.declared.refusal.Refusal.{Refusal}

abbrev pub refusal : Reason → Refusal
refusal why = record { reason = why; place = 0; origin = Machines }
