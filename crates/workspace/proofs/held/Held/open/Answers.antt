use Rattle.std.proofs.Common.{ap, length, arith}
use Rattle.bytecode.specs.Files.{held}
use Rattle.workspace.specs.Record.{Recorded}
use Rattle.workspace.proofs.Records.{length-codes_at}
use Rattle.workspace.proofs.held.Held.open.Goals as goal

pub open-requires : goal.open-requires
open-requires c =
    let few = rw (← c.self.view_is) at c.requires in
    omega (arith, few, length-codes_at (held c.self.inside.unit) c.self.inside.trail.changes c.self.inside.trail.marks)

pub returns-clause-depth : goal.returns-clause-depth
returns-clause-depth c =
    rw (← c.self.view_is)
    (omega (
      arith,
      c.depth.ensures.depth,
      ap (λ (t : Recorded). length t.marks) c.open.ensures,
      length-codes_at (held c.self.inside.unit) c.self.inside.trail.changes c.self.inside.trail.marks,
    ))
