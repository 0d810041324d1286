use Rattle.rewrite.specs.Rules.{Yields}
use Rattle.rewrite.proofs.Rules.{NoneUpTo}
use Rattle.rewrite.proofs.yields.some_rule_yields.Given as goal

abbrev pub invariant-loop-rule : goal.invariant-loop-rule
invariant-loop-rule l = NoneUpTo (λ r. Yields r l.fn.instr l.fn.known l.fn.live l.fn.new) l.rule-index
