use Rattle.keep.proofs.RunsKept.{rules_keep_runs}
use Rattle.keep.proofs.laws.rules_keep_runs.Goals as goal

pub returns : goal.returns
returns c = rules_keep_runs
