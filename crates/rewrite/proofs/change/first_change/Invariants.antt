use Rattle.dataflow.specs.Takes.{at}
use Rattle.analyses.specs.Frameworks.{constants_of, live_of}
use Rattle.rewrite.specs.Choices.{NothingBelow}
use Rattle.rewrite.proofs.change.first_change.Given as goal

abbrev pub invariant-loop-place : goal.invariant-loop-place
invariant-loop-place l = NothingBelow l.fn.unit (at (constants_of l.fn.unit) l.fn.known) (at (live_of l.fn.unit) l.fn.live) l.place
