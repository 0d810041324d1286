use Rattle.workspace.proofs.held.Held.take_counts.Goals as goal

pub returns : goal.returns
returns c = rw (← c.self.view_is) (c.takes.ensures c.self.inside.unit)
