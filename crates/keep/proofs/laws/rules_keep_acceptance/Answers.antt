use Rattle.keep.proofs.AcceptanceKept.{rules_keep_acceptance}
use Rattle.keep.proofs.laws.rules_keep_acceptance.Goals as goal

pub returns : goal.returns
returns c = rules_keep_acceptance
