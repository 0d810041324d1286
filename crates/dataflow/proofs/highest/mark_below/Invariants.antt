use Rattle.std.proofs.Common.{◌≡◌, ℕ, ltb}
use Rattle.dataflow.specs.Highest.{is_marked}
use Rattle.dataflow.proofs.highest.mark_below.Given as goal

abbrev pub invariant-loop-node : goal.invariant-loop-node
invariant-loop-node l = (v : ℕ) → is_marked l.marks v ≡ ltb v l.node
