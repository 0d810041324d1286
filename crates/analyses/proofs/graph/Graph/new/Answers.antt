use Rattle.std.proofs.Common.{arith}
use Rattle.analyses.specs.Ways.{start_inside, end_inside}
use Rattle.analyses.proofs.graph.Graph.new.Goals as goal

pub new-out-requires-clause-within : goal.new-out-requires-clause-within
new-out-requires-clause-within c =
    let u = c.args.unit.now in
    rw (c.as_slice.ensures, c.of-edges.ensures) (λ e below. omega (arith, start_inside u e below, u.most))

pub new-into-requires-clause-within : goal.new-into-requires-clause-within
new-into-requires-clause-within c =
    let u = c.args.unit.now in
    rw (c.as_slice-2.ensures, c.of-edges.ensures) (λ e below. omega (arith, end_inside u e below, u.most))
