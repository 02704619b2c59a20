-- Images that are built.
-- Words:
--   IsImage M N i    i is the image of M's table with room for N states
--   Due M N why      why there is none: too many codes are reached, or shape and N are outside their limits
--   Told M N f       where the fault is that no table is built, that is due
use Rattle.std.specs.Prelude.{◌≡◌, ℕ, true, false}
use Rattle.automata.specs.Automata.{Automaton}
use Rattle.tables.specs.Tables.{TooMany as TooManyCodes}
use Rattle.tables.specs.Images.{fits}
use Rattle.build.specs.Imaging.{Built}
use Rattle.build.specs.declared.unbuilt.Unbuilt.{Unbuilt}
use Rattle.build.specs.declared.unbuilt.Unbuilt.TheVariants.{TooMany, Unserved}
use Rattle.images.specs.declared.fault.Fault.{Fault}
use Rattle.images.specs.declared.fault.Fault.TheVariants.{Io, Refused, Unbuilt as NotBuilt}
use Rattle.images.specs.declared.image.Image.{Image}

pub record IsImage (M : Automaton) (N : ℕ) (i : Image) : Type 0 where
  pub shape : i.layout.shape ≡ M.shape
  pub room : i.layout.most ≡ N
  pub built : Built M N i.states i.cells.items

abbrev pub Due : Automaton → ℕ → Unbuilt → Type 0
Due M N TooMany = (fits M.shape N ≡ true) × TooManyCodes M N
Due M N Unserved = fits M.shape N ≡ false

abbrev pub Told : Automaton → ℕ → Fault → Type 0
Told M N (Io e) = Unit {0}
Told M N (Refused e) = Unit {0}
Told M N (NotBuilt why) = Due M N why
