use Rattle.std.proofs.Common.{rules}
use Rattle.facts.proofs.LiveSets.{has_bit_from_and}
use Rattle.facts.proofs.live.LiveSet.contains.Goals as goal

pub returns : goal.returns
returns c = rw (c.bit.ensures, ← c.self.view_is) (has_bit_from_and c.args.local c.self.inside.bits (search rules))
