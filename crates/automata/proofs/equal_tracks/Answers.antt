use Rattle.automata.proofs.equal_tracks.Goals as goal
use Rattle.automata.proofs.EqualTracks.{sub_same, left_same, right_same, below_same}

pub returns : goal.returns
returns c = record { sub_holds = sub_same; left_never = left_same; right_never = right_same; below_never = below_same }
