use Rattle.std.proofs.Common.{arith}
use Rattle.dataflow.proofs.Queues.{none_marked}
use Rattle.dataflow.proofs.highest.HighestPolicy.clear.Goals as goal

pub invariant_of-self : goal.invariant_of-self
invariant_of-self c = record { within = omega arith; past = λ v from. none_marked 128 v }

pub returns-then-self-gt0 : goal.returns-then-self-gt0
returns-then-self-gt0 c = none_marked 128
