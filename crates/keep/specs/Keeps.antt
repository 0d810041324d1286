-- What the rules keep. Assumes nothing.
use Rattle.std.specs.Prelude.{◌≡◌, ◌≢◌, ℕ, ◌<◌, true, List, ℤ, slice_set}
use Rattle.bytecode.specs.declared.instr.Instr.{Instr}
use Rattle.bytecode.specs.declared.unit.Unit.{Unit as TheUnit}
use Rattle.bytecode.specs.Instructions.{standing}
use Rattle.bytecode.specs.Files.{held}
use Rattle.machine.specs.declared.ending.Ending.TheVariants.{Stuck}
use Rattle.machine.specs.Machine.{State, ends, turn}
use Rattle.machine.specs.Laws.{Reached, SameAnswers}
use Rattle.dataflow.specs.Analysis.{Solution, LeastSolution}
use Rattle.facts.specs.declared.cell.TypeCell.{TypeCell}
use Rattle.facts.specs.declared.cell.ConstCell.{ConstCell}
use Rattle.facts.specs.declared.frame.Frame.{Frame}
use Rattle.facts.specs.Frames.{Fitting}
use Rattle.facts.specs.Live.{IsSet}
use Rattle.analyses.specs.Edges.{instr_at}
use Rattle.analyses.specs.Frameworks.{types_of, constants_of, live_of}
use Rattle.analyses.specs.Verdicts.{Accepts}
use Rattle.rewrite.specs.declared.rule.Rule.{Rule}
use Rattle.rewrite.specs.Rules.{Yields}

-- no turn of a run of the code is stuck
abbrev pub IsNeverStuck : List Instr → Type 0
IsNeverStuck code = (inputs : List ℤ) (room : ℕ) (s : State) → Reached code inputs room s → turn code inputs room s ≢ ends Stuck

-- frames of constants and sets of live locals that solve the equations of the unit, least or not
pub record Solves (u : TheUnit) (known : ℕ → Frame ConstCell) (live : ℕ → ℕ) : Type 0 where
  pub constants : Solution Fitting (constants_of u) known
  pub lives : Solution IsSet (live_of u) live

-- the rule makes new of the instruction at place p, by the facts there
pub record YieldsAt (r : Rule) (u : TheUnit) (known : ℕ → Frame ConstCell) (live : ℕ → ℕ) (p : ℕ) (new : Instr) : Type 0 where
  pub inside : p < u.len
  pub yields : Yields r (instr_at u p) (known p) (live p) new

-- the unit v is u with new at place p
pub record IsChanged (u : TheUnit) (p : ℕ) (new : Instr) (v : TheUnit) : Type 0 where
  pub locals : v.locals ≡ u.locals
  pub len : v.len ≡ u.len
  pub code : v.code ≡ slice_set u.code p new

-- the changed unit's runs give the same whole answers, and none of them is stuck
abbrev pub RulesKeepRuns : Type 0
RulesKeepRuns = (r : Rule) (u v : TheUnit) (known : ℕ → Frame ConstCell) (live : ℕ → ℕ) (p : ℕ) (new : Instr)
    → IsNeverStuck (held u) → Solves u known live → YieldsAt r u known live p new → IsChanged u p new v
    → SameAnswers (held u) (held v) × IsNeverStuck (held v)

-- what a rule makes may stand where the instruction stood
abbrev pub RulesKeepUnits : Type 0
RulesKeepUnits = (r : Rule) (u : TheUnit) (known : ℕ → Frame ConstCell) (live : ℕ → ℕ) (p : ℕ) (new : Instr)
    → YieldsAt r u known live p new → standing u.locals p u.len new ≡ true

-- some frames of types solve the equations and leave every instruction applicable that a run may come to
abbrev pub IsAccepted : TheUnit → Type 0
IsAccepted u = (f : ℕ → Frame TypeCell) × Solution Fitting (types_of u) f × Accepts u f

-- the verifier accepts the changed unit where it accepts the unit, and the frames of constants are the least
abbrev pub RulesKeepAcceptance : Type 0
RulesKeepAcceptance = (r : Rule) (u v : TheUnit) (known : ℕ → Frame ConstCell) (live : ℕ → ℕ) (p : ℕ) (new : Instr)
    → LeastSolution Fitting (constants_of u) known → Solution IsSet (live_of u) live → YieldsAt r u known live p new → IsChanged u p new v
    → IsAccepted u → IsAccepted v
