-- Why a line is refused.
-- Words:
--   fault_of   what is wrong with a word that is no number
--   text       what is printed of a fault
use Rattle.std.specs.Prelude.{ℕ, List, ◌++◌, codes}
use Rattle.std.specs.declared.num.IntErrorKind.{IntErrorKind}
use Rattle.std.specs.declared.num.IntErrorKind.TheVariants.{PosOverflow}
use Rattle.console.specs.declared.fault.Fault.{Fault}
use Rattle.console.specs.declared.fault.Fault.TheVariants.{UnknownWord, NotANumber, TooLarge, TooMany, TooFew, NoShape, NoRule, NoMemory}

abbrev pub fault_of : IntErrorKind → Fault
fault_of PosOverflow = TooLarge
fault_of _ = NotANumber

abbrev pub text : Fault → List ℕ
text (UnknownWord words) = codes "bad line: it begins with none of " ++ words.now
text NotANumber = codes "bad line: not a decimal number"
text TooLarge = codes "bad line: a number is too large"
text TooMany = codes "bad line: too many numbers"
text TooFew = codes "bad line: too few numbers"
text NoShape = codes "bad line: a shape has 1 to 8 leaf labels, 1 to 4 inner labels and 1 to 6 tracks"
text (NoRule names) = codes "bad line: a rule is one of " ++ names.now
text NoMemory = codes "out of memory"
