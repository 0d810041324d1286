use Rattle.sound.proofs.Describing.{types_tell, constants_tell}
use Rattle.sound.proofs.laws.describing_is_above.Goals as goal

pub returns : goal.returns
returns c = record { types = types_tell; constants = constants_tell }
