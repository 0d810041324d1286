use Rattle.std.proofs.Common.{◌≡◌, ◌*◌, ◌≤◌, ◌++◌, length, drop}
use Rattle.bytecode.specs.Files.{held}
use Rattle.analyses.specs.Edges.{edges_from, edges_of}
use Rattle.analyses.proofs.edges.Edges.fill.Given as goal

abbrev pub invariant-loop-place : goal.invariant-loop-place
invariant-loop-place l = (l.self ++ edges_from l.unit.len l.place (drop l.place (held l.unit)) ≡ edges_of l.unit) × (length l.self ≤ 2 * l.place)
