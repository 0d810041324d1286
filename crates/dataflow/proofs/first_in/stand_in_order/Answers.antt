use Rattle.std.proofs.Common.{refl, ◌∙◌, arith}
use Rattle.dataflow.proofs.Below.{IsRing-unmarked, rising_next}
use Rattle.dataflow.proofs.first_in.stand_in_order.Goals as goal

pub loop-node-init : goal.loop-node-init
loop-node-init c = (IsRing-unmarked c.args.slots.now c.args.marks.now c.requires.unmarked, refl)

pub loop-node-preserved : goal.loop-node-preserved
loop-node-preserved c =
    rising_next c.loop-node.slots c.loop-node.marks c.loop-node.node (omega arith) (omega arith) (omega arith) c.loop-node.invariant
