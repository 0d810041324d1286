use Rattle.std.proofs.Common.{◌≡◌, ◌≤◌, length, drop}
use Rattle.tokens.specs.Tokens.{count_at}
use Rattle.tokens.proofs.table.latest.Given as goal

abbrev pub invariant-loop-index : goal.invariant-loop-index
invariant-loop-index l = (l.index ≤ length l.tokens) × (count_at l.depth (drop l.index l.tokens) ≡ 0)

abbrev pub decreases-loop-index : goal.decreases-loop-index
decreases-loop-index l = l.index
