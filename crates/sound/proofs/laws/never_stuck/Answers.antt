use Rattle.sound.proofs.Types.{no_stuck_turn, never_stuck}
use Rattle.sound.proofs.laws.never_stuck.Goals as goal

pub returns : goal.returns
returns c = record { turns = no_stuck_turn; runs = never_stuck }
