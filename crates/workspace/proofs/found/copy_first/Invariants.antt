use Rattle.std.proofs.Common.{◌≡◌, take}
use Rattle.workspace.proofs.found.copy_first.Given as goal

abbrev pub invariant-loop-k : goal.invariant-loop-k
invariant-loop-k g l = take l.k l.to ≡ take l.k l.from
