use Rattle.std.proofs.Common.{arith}
use Rattle.rewrite.proofs.Rules.{number_low}
use Rattle.rewrite.proofs.yields.lowest_rule.Goals as goal

pub returns : goal.returns
returns c = λ r new y. c.loop-rule.invariant r (omega (arith, number_low r)) (new, y)
