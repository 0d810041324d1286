use Rattle.bytecode.proofs.Units.{same_unit}
use Rattle.bytecode.proofs.unit.Unit.turn_to.Goals as goal

pub returns : goal.returns
returns c = same_unit _ c.args.other.now c.turn_to_code.ensures.locals c.turn_to_code.ensures.len c.turn_to_code.ensures.code
