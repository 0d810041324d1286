use Rattle.std.proofs.Common.{inr}
use Rattle.workspace.specs.Stored.{model_of}
use Rattle.callers.proofs.Refused.{emptied_after}
use Rattle.callers.proofs.change_or_abandon.Goals as goal

pub returns-in-Err-clause-does : goal.returns-in-Err-clause-does
returns-in-Err-clause-does g c = (model_of c.propose.new.self, inr (c.in-Err.field-0, c.in-Err.ensures.does, c.abandon.ensures.does))

pub returns-in-Err-clause-policies : goal.returns-in-Err-clause-policies
returns-in-Err-clause-policies g c = rw c.in-Err.ensures.policies at c.abandon.ensures.policies

pub returns-clause-policies : goal.returns-clause-policies
returns-clause-policies g c =
    emptied_after g.T.Policy.pending g.C.Policy.pending g.L.Policy.pending c.args.policies.now c.propose.new.policies
    c.args.attempt c.args.place c.args.instr (model_of c.args.workspace.now) (model_of c.propose.new.self) (model_of c.keep.new.self)
    c.keep.result c.in_default.ensures.does c.in_default.ensures.policies c.keep.ensures
