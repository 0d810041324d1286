use Rattle.std.proofs.Common.{subst, ◌<◌, arith}
use Rattle.analyses.specs.Ways.{start_inside}
use Rattle.analyses.proofs.graph.Graph.instr_at_start.Goals as goal

pub instr_within-requires : goal.instr_within-requires
instr_within-requires c = rw c.edge.ensures (start_inside c.args.self.now c.args.edge c.requires)
