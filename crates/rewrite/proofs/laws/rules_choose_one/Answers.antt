use Rattle.rewrite.proofs.Rules.{yields_one}
use Rattle.rewrite.proofs.Choices.{one_lowest_rule, one_lowest_change}
use Rattle.rewrite.proofs.laws.rules_choose_one.Goals as goal

pub returns-clause-instr : goal.returns-clause-instr
returns-clause-instr c = yields_one

pub returns-clause-rule : goal.returns-clause-rule
returns-clause-rule c = one_lowest_rule

pub returns-clause-change : goal.returns-clause-change
returns-clause-change c = one_lowest_change
