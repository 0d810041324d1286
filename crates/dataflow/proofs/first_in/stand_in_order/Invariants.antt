use Rattle.std.proofs.Common.{◌≡◌}
use Rattle.dataflow.specs.FirstIn.{rising, window, IsRing}
use Rattle.dataflow.proofs.first_in.stand_in_order.Given as goal

abbrev pub invariant-loop-node : goal.invariant-loop-node
invariant-loop-node l = IsRing 0 l.node l.slots l.marks × (window 0 l.node l.slots ≡ rising l.node)
