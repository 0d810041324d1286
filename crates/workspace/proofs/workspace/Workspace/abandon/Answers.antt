use Rattle.std.proofs.Common.{◌≡◌, false, not, Some, refl, ap, ◌∙◌}
use Rattle.workspace.specs.Does.{is_not_innermost}
use Rattle.workspace.specs.Stored.{contents_of}
use Rattle.workspace.proofs.workspace.Workspace.abandon.Goals as goal

pub returns-clause-does : goal.returns-clause-does
returns-clause-does g c =
    let innermost : is_not_innermost (Some (contents_of c.self.inside.held)) c.args.attempt ≡ false =
    c.is_innermost.ensures ∙ ap not c.if-not-is_innermost.false in
    let back = c.abandon.ensures.reverts in
    rw (← c.self.view_is, c.if-not-self.false, innermost) (refl, back.0, back.1, back.2, back.3)
