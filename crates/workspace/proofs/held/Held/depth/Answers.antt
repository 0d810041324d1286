use Rattle.std.proofs.Common.{sym, ◌∙◌}
use Rattle.bytecode.specs.Files.{held}
use Rattle.workspace.proofs.Records.{length-codes_at}
use Rattle.workspace.proofs.held.Held.depth.Goals as goal

pub returns-clause-depth : goal.returns-clause-depth
returns-clause-depth c =
    rw (← c.self.view_is) (c.depth.ensures.depth ∙ sym (length-codes_at (held c.self.inside.unit) c.self.inside.trail.changes c.self.inside.trail.marks))
