-- The number of each reason to refuse.
use Rattle.std.specs.Prelude.{ℕ}
use Rattle.trees.specs.declared.refusal.Reason.{Reason}
use Rattle.trees.specs.declared.refusal.Reason.TheVariants.{OutsideLimits, StoreTooShort, NoSuchSlot, SlotTaken, SlotEmpty, NoSuchTrack, NoSuchLabel, MemoryTooShort, TooManyStates, BufferTooShort, ShapesDiffer, CountTooLarge, BadLength, UnknownLabel, UnknownMarks, MissingParts, StackFull, NotOneTree}

abbrev pub number : Reason → ℕ
number OutsideLimits = 1
number StoreTooShort = 2
number NoSuchSlot = 3
number SlotTaken = 4
number SlotEmpty = 5
number NoSuchTrack = 6
number NoSuchLabel = 7
number MemoryTooShort = 8
number TooManyStates = 9
number BufferTooShort = 10
number ShapesDiffer = 11
number CountTooLarge = 12
number BadLength = 13
number UnknownLabel = 14
number UnknownMarks = 15
number MissingParts = 16
number StackFull = 17
number NotOneTree = 18
