use Rattle.std.proofs.Common.{◌≡◌, ◌*◌, ◌≤◌, sum, take}
use Rattle.bytecode.proofs.sum.sum_of_few.Given as goal

abbrev pub invariant-loop-byte : goal.invariant-loop-byte
invariant-loop-byte l = record {
  is : l.sum ≡ sum (take l.byte-index l.part);
  low : l.sum ≤ 255 * l.byte-index;
}
