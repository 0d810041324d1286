use Rattle.std.proofs.Common.{[], refl}
use Rattle.workspace.proofs.Holding.{holds_solved}
use Rattle.workspace.proofs.Records.{record_new}
use Rattle.workspace.proofs.held.Held.load.Goals as goal

pub invariant_of-self : goal.invariant_of-self
invariant_of-self g c = rw c.reset.ensures (record_new c.turn_to.new.self)

pub returns-clause-holds : goal.returns-clause-holds
returns-clause-holds g c =
    rw (c.reset.ensures, c.turn_to.ensures, c.unit.ensures)
    (holds_solved c.args.graph.now c.args.graph.now c.with_types.new.self [] [] refl c.with_types.ensures.solved refl)
