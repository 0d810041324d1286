use Rattle.std.proofs.Common.{pos}
use Rattle.workspace.specs.Calls.{run, ran, not_run}
use Rattle.workspace.specs.Does.{Does}
use Rattle.workspace.specs.Stored.{model_of}
use Rattle.workspace.proofs.Buffers.{holds_of_front}
use Rattle.workspace.proofs.workspace.replay.run.Goals as goal

pub returns-in-Ok : goal.returns-in-Ok
returns-in-Ok c =
    let m = model_of c.args.workspace.now in
    holds_of_front
    (λ given after. Does (run c.args.inputs.now given c.args.budget) m (ran c.in-Ok.answer after) m)
    128
    (pos 0)
    c.args.room
    c.min-room.result
    c.run.new.outputs
    _
    c.min-room.ensures
    c.run.auto.outputs
    c.in-Ok.ensures

pub returns-in-Err : goal.returns-in-Err
returns-in-Err c =
    let m = model_of c.args.workspace.now in
    holds_of_front
    (λ given after. Does (run c.args.inputs.now given c.args.budget) m (not_run c.in-Err.refusal after) m)
    128
    (pos 0)
    c.args.room
    c.min-room.result
    c.run.new.outputs
    _
    c.min-room.ensures
    c.run.auto.outputs
    c.in-Err.ensures
