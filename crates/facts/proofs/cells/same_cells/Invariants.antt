use Rattle.std.proofs.Common.{◌≡◌, take}
use Rattle.facts.proofs.cells.same_cells.Given as goal

abbrev pub invariant-loop-k : goal.invariant-loop-k
invariant-loop-k g l = take l.k l.a ≡ take l.k l.b
