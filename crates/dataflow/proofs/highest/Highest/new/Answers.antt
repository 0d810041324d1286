use Rattle.std.proofs.Common.{arith}
use Rattle.dataflow.proofs.Queues.{none_marked}
use Rattle.dataflow.proofs.highest.Highest.new.Goals as goal

pub invariant_of-result : goal.invariant_of-result
invariant_of-result c = record { within = omega arith; past = λ v from. none_marked 128 v }

pub returns : goal.returns
returns c = none_marked 128
