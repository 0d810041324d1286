use Rattle.workspace.specs.Stored.{model_of}
use Rattle.callers.proofs.Refused.{unchanged_after}
use Rattle.callers.proofs.keep_or_change.Goals as goal

pub returns-in-Err-clause-policies : goal.returns-in-Err-clause-policies
returns-in-Err-clause-policies g c =
    unchanged_after g.T.Policy.pending g.C.Policy.pending g.L.Policy.pending c.args.policies.now c.propose-answer.new.policies
    c.args.attempt c.args.place c.args.instr (model_of c.args.workspace.now) (model_of c.keep.new.self) (model_of c.propose-answer.new.self)
    c.in-Err.refusal c.in-Err.attempt c.propose-answer.result c.in-Err.ensures c.propose-answer.ensures.does c.propose-answer.ensures.policies
