use Rattle.keep.proofs.UnitsKept.{rules_keep_units}
use Rattle.keep.proofs.laws.rules_keep_units.Goals as goal

pub returns : goal.returns
returns c = rules_keep_units
