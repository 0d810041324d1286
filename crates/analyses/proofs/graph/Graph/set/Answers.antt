use Rattle.std.proofs.Common.{sym, subst}
use Rattle.analyses.specs.Graphs.{IsGraph}
use Rattle.analyses.proofs.Alike.{same_graph}
use Rattle.analyses.proofs.graph.Graph.set.Goals as goal

pub invariant_of-self-else-not-alike : goal.invariant_of-self-else-not-alike
invariant_of-self-else-not-alike c =
    let g = c.self.inside in
    subst (λ u. IsGraph u g.edges g.out g.into) (sym c.turn_to.ensures) (same_graph g.unit c.args.unit.now g.edges g.out g.into (c.leads_alike-alike.ensures.0 c.if-not-alike.false) c.self.invariant)
