use Rattle.workspace.proofs.LeftPolicies.{left_by_load}
use Rattle.workspace.proofs.workspace.replay.load.Goals as goal

pub returns-in-Ok-clause-policies : goal.returns-in-Ok-clause-policies
returns-in-Ok-clause-policies g c = left_by_load g.T.Policy.pending g.C.Policy.pending g.L.Policy.pending c.load.result c.args.policies.now c.load.new.policies c.load.ensures.policies

pub returns-in-Err-clause-policies : goal.returns-in-Err-clause-policies
returns-in-Err-clause-policies g c = left_by_load g.T.Policy.pending g.C.Policy.pending g.L.Policy.pending c.load.result c.args.policies.now c.load.new.policies c.load.ensures.policies
