use Rattle.facts.specs.Cells.{length-below}
use Rattle.facts.proofs.cells.Cells.height.Goals as goal

pub returns-clause-height : goal.returns-clause-height
returns-clause-height g c = rw (← c.self.view_is, length-below)
