use Rattle.sound.proofs.LiveTurns.{turns_alike, runs_alike}
use Rattle.sound.proofs.live.live_hold.Goals as goal

pub returns-clause-turns : goal.returns-clause-turns
returns-clause-turns c = turns_alike

pub returns-clause-runs : goal.returns-clause-runs
returns-clause-runs c = runs_alike
