use Rattle.std.proofs.Common.{◌≡◌, ℕ, ◌<◌}
use Rattle.dataflow.specs.Takes.{at, SamePast}
use Rattle.dataflow.proofs.solve.start.Given as goal

abbrev pub invariant-loop-node : goal.invariant-loop-node
invariant-loop-node g l =
    let M = g.A.Analysis.meaning l.code in
    ((v : ℕ) → v < l.node → at M l.facts v ≡ M.seed v) × SamePast M l.initial.facts l.facts
