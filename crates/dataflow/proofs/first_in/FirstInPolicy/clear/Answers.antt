use Rattle.dataflow.proofs.Queues.{IsRing-none}
use Rattle.dataflow.proofs.first_in.FirstInPolicy.clear.Goals as goal

pub invariant_of-self : goal.invariant_of-self
invariant_of-self c = IsRing-none c.self.inside.head c.self.inside.slots c.self.invariant.head_within
