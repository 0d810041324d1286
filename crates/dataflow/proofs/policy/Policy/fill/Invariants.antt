use Rattle.std.proofs.Common.{◌≡◌, ℕ, ltb}
use Rattle.dataflow.proofs.policy.Policy.fill.Given as goal

abbrev pub invariant-loop-node : goal.invariant-loop-node
invariant-loop-node g l = (v : ℕ) → g.Self.Policy.pending l.self v ≡ ltb v l.node
