use Rattle.sound.proofs.Constants.{constants_hold}
use Rattle.sound.proofs.laws.constants_hold.Goals as goal

pub returns : goal.returns
returns c = constants_hold
