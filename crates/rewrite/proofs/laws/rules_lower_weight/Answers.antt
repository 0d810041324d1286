use Rattle.rewrite.proofs.Weights.{rule_lowers, rule_lowers_code}
use Rattle.rewrite.proofs.laws.rules_lower_weight.Goals as goal

pub returns-clause-instr : goal.returns-clause-instr
returns-clause-instr c = rule_lowers

pub returns-clause-code : goal.returns-clause-code
returns-clause-code c = rule_lowers_code
