use Rattle.workspace.proofs.LeftPolicies.{left_by}
use Rattle.workspace.proofs.workspace.replay.tidy.Goals as goal

pub returns-in-Ok-clause-policies : goal.returns-in-Ok-clause-policies
returns-in-Ok-clause-policies g c = left_by g.T.Policy.pending g.C.Policy.pending g.L.Policy.pending c.tidy-result.result c.args.policies.now c.tidy-result.new.policies c.tidy-result.ensures.policies

pub returns-in-Err-clause-policies : goal.returns-in-Err-clause-policies
returns-in-Err-clause-policies g c = left_by g.T.Policy.pending g.C.Policy.pending g.L.Policy.pending c.tidy-result.result c.args.policies.now c.tidy-result.new.policies c.tidy-result.ensures.policies
