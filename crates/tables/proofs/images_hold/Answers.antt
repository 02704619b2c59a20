use Rattle.tables.proofs.images_hold.Goals as goal
use Rattle.std.proofs.Common.{sym, subst}
use Rattle.tables.specs.Images.{Image}
use Rattle.tables.proofs.Images.{image_bytes, image_table, image_answers, image_accepts}
use Rattle.tables.proofs.MadeImages.{made_bytes, image_made}

pub returns : goal.returns
returns c = record {
  one = λ sh N A B bs cs p q. ((λ e. image_table sh N A B bs p (subst (Image sh N B) (sym e) q)), image_bytes sh N A B bs cs p q);
  made = λ sh N T few. (made_bytes sh N T, image_made sh N T few);
  answers = image_answers;
  accepts = image_accepts;
}
