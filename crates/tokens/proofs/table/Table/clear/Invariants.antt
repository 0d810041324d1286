use Rattle.std.proofs.Common.{length}
use Rattle.tokens.proofs.table.Table.clear.Given as goal

abbrev pub decreases-loop-side : goal.decreases-loop-side
decreases-loop-side l = length l.table.tokens.items
