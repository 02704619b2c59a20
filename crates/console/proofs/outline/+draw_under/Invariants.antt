use Rattle.std.proofs.Common.{length}
use Rattle.console.proofs.outline.+draw_under.Given as goal

abbrev pub decreases-draw_under : goal.decreases-draw_under
decreases-draw_under g l = length l.listing.now
