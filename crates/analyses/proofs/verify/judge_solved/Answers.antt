use Rattle.std.proofs.Common.{ap, arith}
use Rattle.bytecode.specs.declared.unit.Unit.{Unit as TheUnit}
use Rattle.dataflow.specs.Takes.{at}
use Rattle.analyses.specs.Frameworks.{types_of}
use Rattle.analyses.proofs.Clashes.{accepts_without_clash}
use Rattle.analyses.proofs.verify.judge_solved.Goals as goal

pub returns : goal.returns
returns c = λ solved.
    let u = c.args.graph.now in
    let len = ap (λ (v : TheUnit). v.len) c.unit.ensures in
    accepts_without_clash u (at (types_of u) c.args.facts.now) solved (λ p lt. c.loop-place.invariant p (omega (arith, lt, len, c.loop-place-test.false)))
