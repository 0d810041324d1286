use Rattle.std.proofs.Common.{◌≡◌, ◌+◌, ◌<◌, ◌≤◌}
use Rattle.bytecode.specs.Files.{held}
use Rattle.rewrite.specs.Weights.{weight_of}
use Rattle.workspace.specs.Policies.{AreEmpty}
use Rattle.workspace.specs.Stored.{contents_of}
use Rattle.workspace.proofs.Tidying.{TidiedTo}
use Rattle.workspace.proofs.held.Held.tidy.Given as goal

abbrev pub invariant-loop-change : goal.invariant-loop-change
invariant-loop-change g l = record {
  few : l.made + weight_of (held l.self.unit) ≤ 256;
  tidied : TidiedTo (contents_of l.initial.self) l.made l.self;
  unchanged : l.made ≡ 0 → l.self ≡ l.initial.self;
  graph : 0 < l.made → l.graph ≡ l.self.unit;
  emptied : AreEmpty g.T.Policy.pending g.C.Policy.pending g.L.Policy.pending l.policies;
}

abbrev pub decreases-loop-change : goal.decreases-loop-change
decreases-loop-change g l = weight_of (held l.self.unit)
