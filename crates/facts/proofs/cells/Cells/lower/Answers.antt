use Rattle.facts.proofs.Fields.{some_held, Within-lower, held-lower}
use Rattle.facts.proofs.cells.Cells.lower.Goals as goal

pub overflow_sub-self : goal.overflow_sub-self
overflow_sub-self g c = some_held g.C.Cell.zero c.loop.self-inside _ _ _ _ c.loop.invariant.lowered c.loop-test.true c.requires

pub loop-preserved : goal.loop-preserved
loop-preserved g c = record {
  within =
      rw c.zero.ensures
      (Within-lower g.C.Cell.zero c.loop.self-inside _ _ _ _ c.loop.invariant.lowered c.loop-test.true c.requires c.loop.invariant.within);
  lowered = rw c.zero.ensures (held-lower g.C.Cell.zero c.loop.self-inside _ _ _ _ c.loop.invariant.lowered c.loop-test.true c.requires);
}
