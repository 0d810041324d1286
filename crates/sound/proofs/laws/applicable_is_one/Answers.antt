use Rattle.sound.proofs.Applicable.{applicable_is_one}
use Rattle.sound.proofs.laws.applicable_is_one.Goals as goal

pub returns : goal.returns
returns c = applicable_is_one
