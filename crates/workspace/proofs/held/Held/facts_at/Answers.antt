use Rattle.workspace.proofs.held.Held.facts_at.Goals as goal

pub returns : goal.returns
returns c =
    let inside = rw (← c.self.view_is) at c.requires in
    rw (← c.self.view_is) (c.at.ensures c.self.inside.unit inside)
