use Rattle.std.proofs.Common.{◌-◌}
use Rattle.dataflow.proofs.Spreading.{Following, reached}
use Rattle.dataflow.proofs.solve.spread_copy.Given as goal

abbrev pub invariant-loop-out : goal.invariant-loop-out
invariant-loop-out g l =
    let M = g.A.Analysis.meaning l.code in
    Following M l.node l.fact l.initial.facts (g.P.Policy.pending l.initial.policy) l.facts (g.P.Policy.pending l.policy) l.out

abbrev pub decreases-loop-out : goal.decreases-loop-out
decreases-loop-out g l = let M = g.A.Analysis.meaning l.code in M.edges - reached M l.out
