use Rattle.std.proofs.Common.{◌≤◌, length, arith}
use Rattle.facts.proofs.Below.{get_or-below, get_or-below_past}
use Rattle.facts.proofs.cells.Cells.cell.Goals as goal

pub returns-then-depth-self : goal.returns-then-depth-self
returns-then-depth-self g c =
    let le : c.self.inside.height ≤ length c.self.inside.stack = omega arith in
    rw (← c.self.view_is) (get_or-below _ _ _ _ _ _ c.if-depth-self.true le)

pub returns-else-depth-self : goal.returns-else-depth-self
returns-else-depth-self g c = rw (← c.self.view_is, get_or-below_past _ _ _ _ _ c.if-depth-self.false) c.top.ensures
