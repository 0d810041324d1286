use Rattle.workspace.proofs.Promise.{promise_kept}
use Rattle.workspace.proofs.workspace.Workspace.new.Goals as goal

pub returns-clause-promise : goal.returns-clause-promise
returns-clause-promise c = promise_kept
