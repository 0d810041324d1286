use Rattle.workspace.proofs.Holding.{holds_solved}
use Rattle.workspace.proofs.Records.{record_reverted, codes_reverted}
use Rattle.workspace.proofs.held.Held.abandon.Goals as goal

pub invariant_of-self : goal.invariant_of-self
invariant_of-self g c =
    record_reverted
    c.self.inside.unit
    c.put_back.new.unit
    c.self.inside.trail
    c.close-mark.new.self
    c.put_back.new.trail
    c.close-mark.result
    c.self.invariant
    c.close-mark.ensures.marks
    c.close-mark.ensures.changes
    c.put_back.ensures

pub returns-clause-reverts : goal.returns-clause-reverts
returns-clause-reverts g c =
    let codes =
    codes_reverted
    c.self.inside.unit
    c.put_back.new.unit
    c.self.inside.trail
    c.close-mark.new.self
    c.put_back.new.trail
    c.close-mark.result
    c.self.invariant
    c.close-mark.ensures.marks
    c.close-mark.ensures.changes
    c.put_back.ensures in
    rw (← c.self.view_is) (
      c.put_back.new.unit,
      c.put_back.ensures.locals,
      codes.0,
      holds_solved c.set.new.self c.put_back.new.unit c.solve.new.self _ _ c.set.ensures c.solve.ensures.solved codes.1,
    )
