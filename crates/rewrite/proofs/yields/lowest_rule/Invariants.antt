use Rattle.bytecode.specs.declared.instr.Instr.{Instr}
use Rattle.rewrite.specs.Rules.{Yields}
use Rattle.rewrite.proofs.Rules.{NoneUpTo}
use Rattle.rewrite.proofs.yields.lowest_rule.Given as goal

abbrev pub invariant-loop-rule : goal.invariant-loop-rule
invariant-loop-rule l = NoneUpTo (λ r. (new : Instr) × Yields r l.fn.instr l.fn.known l.fn.live new) l.rule-index
