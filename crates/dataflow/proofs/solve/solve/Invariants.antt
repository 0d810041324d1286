use Rattle.dataflow.specs.Takes.{at, SamePast}
use Rattle.dataflow.proofs.Between.{potential}
use Rattle.dataflow.proofs.Running.{Counted}
use Rattle.dataflow.proofs.solve.solve.Given as goal

abbrev pub invariant-loop-node : goal.invariant-loop-node
invariant-loop-node g l =
    let M = g.A.Analysis.meaning l.code in
    Counted M (at M l.facts) (g.P.Policy.pending l.policy) l.takes × SamePast M l.fn.facts l.facts

abbrev pub decreases-loop-node : goal.decreases-loop-node
decreases-loop-node g l = let M = g.A.Analysis.meaning l.code in potential M (at M l.facts) (g.P.Policy.pending l.policy)
