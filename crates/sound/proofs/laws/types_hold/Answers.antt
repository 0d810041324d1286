use Rattle.sound.proofs.Types.{types_hold}
use Rattle.sound.proofs.laws.types_hold.Goals as goal

pub returns : goal.returns
returns c = types_hold
