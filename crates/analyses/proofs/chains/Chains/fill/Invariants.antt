use Rattle.std.proofs.Common.{length}
use Rattle.analyses.specs.Graphs.{Chained, key_at}
use Rattle.analyses.proofs.chains.Chains.fill.Given as goal

abbrev pub invariant-loop-edge : goal.invariant-loop-edge
invariant-loop-edge l = Chained (key_at l.side l.edges) (length l.edges) l.edge l.self.first l.self.next
