use Rattle.workspace.proofs.Records.{record_new}
use Rattle.workspace.proofs.held.Held.new.Goals as goal

pub invariant_of-result : goal.invariant_of-result
invariant_of-result c = rw c.new-2.ensures (record_new c.halt.result)
