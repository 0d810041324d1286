use Rattle.std.proofs.Common.{arith}
use Rattle.dataflow.proofs.Queues.{IsRing-none}
use Rattle.dataflow.proofs.first_in.FirstIn.new.Goals as goal

pub invariant_of-result : goal.invariant_of-result
invariant_of-result c = IsRing-none 0 _ (omega arith)
