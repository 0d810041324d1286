use Rattle.std.proofs.Common.{sym}
use Rattle.facts.specs.Cells.{length-below}
use Rattle.workspace.proofs.trail.Trail.depth.Goals as goal

pub returns-clause-depth : goal.returns-clause-depth
returns-clause-depth c = rw (← c.self.view_is) (sym (length-below 0 c.self.inside.marks c.self.inside.depth))
