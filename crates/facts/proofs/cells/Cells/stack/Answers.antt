use Rattle.facts.specs.Cells.{stack_cells-held}
use Rattle.facts.proofs.cells.Cells.stack.Goals as goal

pub returns : goal.returns
returns g c = rw (← c.self.view_is, stack_cells-held _ _ c.self.invariant)
