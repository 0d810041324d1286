use Rattle.std.proofs.Common.{◌≡◌, None, length, take, drop}
use Rattle.workspace.specs.Histories.{Runs}
use Rattle.workspace.specs.Policies.{EmptyOrSame}
use Rattle.workspace.specs.Replay.{history}
use Rattle.workspace.specs.Stored.{model_of}
use Rattle.workspace.proofs.workspace.replay.replay.Given as goal

abbrev pub invariant-loop-i : goal.invariant-loop-i
invariant-loop-i g l = record {
  made : Runs None (history (take l.i l.calls) (take l.i l.replies)) (model_of l.workspace);
  policies : EmptyOrSame g.T.Policy.pending g.C.Policy.pending g.L.Policy.pending l.initial.policies l.policies;
  rest : drop (length l.calls) l.replies ≡ drop (length l.calls) l.initial.replies;
}
