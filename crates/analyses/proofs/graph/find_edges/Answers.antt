use Rattle.std.proofs.Common.{arith}
use Rattle.analyses.specs.Ways.{length-edges_of, start_inside, end_inside}
use Rattle.analyses.proofs.graph.find_edges.Goals as goal

pub fill-requires-2-clause-within : goal.fill-requires-2-clause-within
fill-requires-2-clause-within c =
    let u = c.args.unit.now in
    rw (c.as_slice.ensures, c.fill.ensures) (λ e below. omega (arith, start_inside u e below, u.most))

pub fill-requires-3-clause-within : goal.fill-requires-3-clause-within
fill-requires-3-clause-within c =
    let u = c.args.unit.now in
    rw (c.as_slice-2.ensures, c.fill.ensures) (λ e below. omega (arith, end_inside u e below, u.most))

pub fill-requires-2-clause-few : goal.fill-requires-2-clause-few
fill-requires-2-clause-few c =
    let u = c.args.unit.now in
    rw (c.as_slice.ensures, c.fill.ensures) (omega (arith, length-edges_of u, u.most))

pub fill-requires-3-clause-few : goal.fill-requires-3-clause-few
fill-requires-3-clause-few c =
    let u = c.args.unit.now in
    rw (c.as_slice-2.ensures, c.fill.ensures) (omega (arith, length-edges_of u, u.most))
