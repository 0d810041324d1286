use Rattle.dataflow.specs.Takes.{at}
use Rattle.analyses.specs.Frameworks.{types_of}
use Rattle.analyses.proofs.Verdicts.{SoFar}
use Rattle.analyses.proofs.verify.judge.Given as goal

abbrev pub invariant-loop-place : goal.invariant-loop-place
invariant-loop-place l = SoFar l.fn.graph (at (types_of l.fn.graph) l.fn.facts) l.place l.clash
