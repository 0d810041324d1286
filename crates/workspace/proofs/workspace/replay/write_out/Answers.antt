use Rattle.workspace.specs.Calls.{write_out, written, not_written}
use Rattle.workspace.specs.Does.{Does}
use Rattle.workspace.specs.Stored.{model_of}
use Rattle.workspace.proofs.Buffers.{holds_of_front}
use Rattle.workspace.proofs.workspace.replay.write_out.Goals as goal

pub returns-in-Ok : goal.returns-in-Ok
returns-in-Ok c =
    let m = model_of c.args.workspace.now in
    holds_of_front
    (λ given after. Does (write_out given) m (written c.in-Ok.length after) m)
    774
    0
    c.args.room
    c.min-room.result
    c.write_out.new.buffer
    _
    c.min-room.ensures
    c.write_out.auto.buffer
    c.in-Ok.ensures

pub returns-in-Err : goal.returns-in-Err
returns-in-Err c =
    let m = model_of c.args.workspace.now in
    holds_of_front
    (λ given after. Does (write_out given) m (not_written c.in-Err.refusal after) m)
    774
    0
    c.args.room
    c.min-room.result
    c.write_out.new.buffer
    _
    c.min-room.ensures
    c.write_out.auto.buffer
    c.in-Err.ensures
