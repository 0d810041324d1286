use Rattle.facts.proofs.LiveSets.{has_bit-union}
use Rattle.facts.proofs.live.LiveSet.union.Goals as goal

pub returns-clause-members : goal.returns-clause-members
returns-clause-members c =
    rw (← c.self.view_is, ← c.other.view_is) (λ n. has_bit-union n c.self.inside.bits c.other.inside.bits)
