use Rattle.dataflow.specs.Highest.{NoneMarked}
use Rattle.dataflow.proofs.highest.highest_below.Given as goal

abbrev pub invariant-loop-node : goal.invariant-loop-node
invariant-loop-node l = NoneMarked l.marks l.node l.end
