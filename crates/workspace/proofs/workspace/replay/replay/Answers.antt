use Rattle.std.proofs.Common.{◌<◌, length, arith}
use Rattle.std.proofs.lemmas.List.{drop-set-lt}
use Rattle.workspace.specs.Stored.{model_of}
use Rattle.workspace.proofs.Promise.{promise_kept}
use Rattle.workspace.proofs.LeftPolicies.{left_after}
use Rattle.workspace.proofs.Replayed.{replayed_more, replayed_all, history_calls}
use Rattle.workspace.proofs.workspace.replay.replay.Goals as goal

pub loop-i-preserved : goal.loop-i-preserved
loop-i-preserved g c =
    let calls = c.args.calls.now in
    let replies = c.loop-i.replies in
    let i = c.loop-i.i in
    let room : i < length replies = omega arith in
    record {
      made =
          replayed_more
          calls
          replies
          i
          _
          c.enter.new.reply
          (model_of c.loop-i.workspace)
          (model_of c.enter.new.workspace)
          c.loop-i-test.true
          room
          c.loop-i.invariant.made
          c.enter.ensures.does;
      policies =
          left_after
          g.T.Policy.pending
          g.C.Policy.pending
          g.L.Policy.pending
          c.args.policies.now
          c.loop-i.policies
          c.enter.new.policies
          c.loop-i.invariant.policies
          c.enter.ensures.policies;
      rest = rw (drop-set-lt (length calls) replies i c.enter.new.reply c.loop-i-test.true) c.loop-i.invariant.rest;
    }

pub returns-clause-made : goal.returns-clause-made
returns-clause-made g c = history_calls c.args.calls.now c.loop-i.replies (omega arith)

pub returns-clause-promise : goal.returns-clause-promise
returns-clause-promise g c =
    let m = model_of c.loop-i.workspace in
    promise_kept _ m (replayed_all c.args.calls.now c.loop-i.replies c.loop-i.i m (omega arith) c.loop-i.invariant.made)
