-- What frames that solve the equations of a unit say of its runs. Assumes nothing.
use Rattle.std.specs.Prelude.{◌≡◌, ◌≢◌, ℕ, ◌<◌, ◌≤◌, ◌↔◌, List, length, ℤ}
use Rattle.std.specs.Option.{is_none}
use Rattle.bytecode.specs.declared.instr.Instr.{Instr}
use Rattle.bytecode.specs.declared.unit.Unit.{Unit as TheUnit}
use Rattle.bytecode.specs.Instructions.{row, local}
use Rattle.bytecode.specs.Files.{held}
use Rattle.machine.specs.declared.ending.Ending.TheVariants.{Stuck}
use Rattle.machine.specs.Machine.{State, ends, turn, whole_run, row_in, applicable}
use Rattle.machine.specs.Laws.{Reached}
use Rattle.dataflow.specs.Analysis.{Solution}
use Rattle.facts.specs.declared.cell.TypeCell.{TypeCell}
use Rattle.facts.specs.declared.cell.ConstCell.{ConstCell}
use Rattle.facts.specs.declared.frame.Frame.{Frame}
use Rattle.facts.specs.declared.frame.Frame.TheVariants.{At}
use Rattle.facts.specs.TypeCells.{join_types}
use Rattle.facts.specs.ConstCells.{join_consts}
use Rattle.facts.specs.Frames.{IsBelow, Fitting}
use Rattle.facts.specs.Types.{reason_at}
use Rattle.analyses.specs.Frameworks.{types_of, constants_of}
use Rattle.analyses.specs.Verdicts.{Accepts}
use Rattle.sound.specs.Describes.{kinds_of, values_of, TypeTells, ConstTells, Describes}

-- an instruction, which names one of the 16 locals if it names one, is applicable in a state exactly where the kinds of its values give no reason
-- against it; every instruction that the machine has is such
abbrev pub ApplicableIsOne : Type 0
ApplicableIsOne =
    (i : Instr) → ((n : ℕ) → (row i).operands ≡ local n → n < 16) → (inputs : List ℤ) (room : ℕ) (s : State) →
    applicable (row_in inputs room s i) s.stack ≡ is_none (reason_at i (kinds_of s))

-- a machine state has at most 8 values and 16 locals
pub record Sized (s : State) : Type 0 where
  pub values : length s.stack ≤ 8
  pub sixteen : length s.locals ≡ 16

-- a type frame describes a state exactly where it is at or above the kinds of the state's values
abbrev pub TypesTell : Type 0
TypesTell =
    (f : Frame TypeCell) → Fitting f → (s : State) → Sized s →
    IsBelow join_types (At (kinds_of s)) f ↔ Describes TypeTells f s

-- a constant frame describes a state exactly where it is at or above the state's values
abbrev pub ConstantsTell : Type 0
ConstantsTell =
    (f : Frame ConstCell) → Fitting f → (s : State) → Sized s →
    IsBelow join_consts (At (values_of s)) f ↔ Describes ConstTells f s

-- type frames that solve the equations describe every state that a run comes to
abbrev pub TypesHold : Type 0
TypesHold =
    (u : TheUnit) (f : ℕ → Frame TypeCell) → Solution Fitting (types_of u) f → (inputs : List ℤ) (room : ℕ) (s : State) →
    Reached (held u) inputs room s → Describes TypeTells (f s.place) s

-- constant frames that solve the equations, the least or others, describe every state that a run comes to
abbrev pub ConstantsHold : Type 0
ConstantsHold =
    (u : TheUnit) (f : ℕ → Frame ConstCell) → Solution Fitting (constants_of u) f → (inputs : List ℤ) (room : ℕ) (s : State) →
    Reached (held u) inputs room s → Describes ConstTells (f s.place) s

-- where the verifier accepts a unit by its type frames, no turn of its runs is stuck
abbrev pub NoStuckTurn : Type 0
NoStuckTurn =
    (u : TheUnit) (f : ℕ → Frame TypeCell) → Solution Fitting (types_of u) f → Accepts u f → (inputs : List ℤ) (room : ℕ) (s : State) →
    Reached (held u) inputs room s → turn (held u) inputs room s ≢ ends Stuck

-- and no run ends stuck
abbrev pub NeverStuck : Type 0
NeverStuck =
    (u : TheUnit) (f : ℕ → Frame TypeCell) → Solution Fitting (types_of u) f → Accepts u f → (inputs : List ℤ) (room budget : ℕ) →
    (whole_run (held u) inputs room budget).ending ≢ Stuck
