-- What each call answers, as the model has it. Assumes nothing.
use Rattle.std.specs.Prelude.{ℕ, List, [], take, ℤ, Ok, Err, Result}
use Rattle.std.specs.Borrow.{Bor}
use Rattle.bytecode.specs.declared.unit.Unit.{Unit as TheUnit}
use Rattle.machine.specs.declared.answer.Answer.{Answer as RunAnswer}
use Rattle.workspace.specs.declared.refusal.LoadFault.{LoadFault}
use Rattle.workspace.specs.declared.refusal.Refusal.{Refusal}
use Rattle.workspace.specs.declared.shown.Facts.{Facts}
use Rattle.workspace.specs.declared.shown.TakeCounts.{TakeCounts}
use Rattle.workspace.specs.declared.workspace.Attempt.{Attempt as Token}
use Rattle.dataflow.specs.Takes.{at}
use Rattle.facts.specs.declared.cell.TypeCell.{TypeCell}
use Rattle.facts.specs.declared.frame.Frame.{Frame}
use Rattle.facts.specs.Frames.{Fitting}
use Rattle.analyses.specs.Frameworks.{types_of}
use Rattle.workspace.specs.Contents.{IsSolution}
use Rattle.workspace.specs.Does.{Model, Holds, LoadsAt}
use Rattle.workspace.specs.Calls.{Answer, loaded, opened, changed, tidied, ran, written, shown, counted, is_unit, not_loaded, refused, returned, not_run, not_written}

abbrev pub loading : Result (Unit {0}) LoadFault → Answer
loading (Ok t) = loaded
loading (Err fault) = not_loaded fault

abbrev pub opening : Result Token Refusal → Answer
opening (Ok attempt) = opened attempt
opening (Err r) = refused r

abbrev pub proposing : Result (Unit {0}) Refusal → Answer
proposing (Ok t) = changed
proposing (Err r) = refused r

abbrev pub tidying : Result ℕ Refusal → Answer
tidying (Ok n) = tidied n
tidying (Err r) = refused r

-- the answer a where the token is spent
abbrev pub spending : Answer → Result (Unit {0}) (Refusal × Token) → Answer
spending a (Ok t) = a
spending a (Err back) = returned back.0 back.1

-- with the buffer after
abbrev pub running : Result RunAnswer Refusal → List ℤ → Answer
running (Ok r) after = ran r after
running (Err r) after = not_run r after

abbrev pub writing : Result ℕ Refusal → List ℕ → Answer
writing (Ok n) after = written n after
writing (Err r) after = not_written r after

abbrev pub showing : Result Facts Refusal → Answer
showing (Ok facts) = shown facts
showing (Err r) = refused r

abbrev pub counting : Result TakeCounts Refusal → Answer
counting (Ok takes) = counted takes
counting (Err r) = refused r

abbrev pub telling : Result (Bor TheUnit) Refusal → Answer
telling (Ok u) = is_unit u.now
telling (Err r) = refused r

-- what a file is found to be, where no attempt is open: the unit u, whose types are solved, or refused
abbrev pub ExaminedIn : List ℕ → TheUnit → List (Frame TypeCell) → ℕ → Result (Unit {0}) LoadFault → Type 0
ExaminedIn file u types takes (Ok t) =
    ((m m' : Model) → Holds u [] m' → LoadsAt 0 file m loaded m')
    × IsSolution Fitting (types_of u) (at (types_of u) (take u.len types)) takes
ExaminedIn file u types takes (Err fault) = (m : Model) → LoadsAt 0 file m (not_loaded fault) m
