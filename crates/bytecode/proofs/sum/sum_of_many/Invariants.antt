use Rattle.std.proofs.Common.{◌≡◌, take}
use Rattle.bytecode.specs.Layout.{check}
use Rattle.bytecode.proofs.sum.sum_of_many.Given as goal

abbrev pub invariant-loop-byte : goal.invariant-loop-byte
invariant-loop-byte l = l.sum ≡ check (take l.byte-index l.part)
