-- What a workspace holds once a unit is loaded. Assumes nothing.
use Rattle.std.specs.Prelude.{◌≡◌, ℕ, ◌≤◌, List, length}
use Rattle.bytecode.specs.declared.instr.Instr.{Instr}
use Rattle.bytecode.specs.declared.unit.Unit.{Unit as TheUnit}
use Rattle.dataflow.specs.Analysis.{Framework, LeastSolution}
use Rattle.dataflow.specs.Takes.{Legal}
use Rattle.facts.specs.declared.cell.TypeCell.{TypeCell}
use Rattle.facts.specs.declared.cell.ConstCell.{ConstCell}
use Rattle.facts.specs.declared.frame.Frame.{Frame}
use Rattle.facts.specs.Frames.{Fitting}
use Rattle.facts.specs.Live.{IsSet}
use Rattle.analyses.specs.Frameworks.{types_of, constants_of, live_of}
use Rattle.workspace.specs.declared.shown.TakeCounts.{TakeCounts}

pub record Contents : Type 0 where
  pub unit : TheUnit
  -- the facts at each place, and past the last the least
  pub types : ℕ → Frame TypeCell
  pub constants : ℕ → Frame ConstCell
  pub lives : ℕ → ℕ
  -- of the last solving of each
  pub takes : TakeCounts
  -- the code that was held when each open attempt was opened, the innermost first
  pub opened : List (List Instr)

-- the least solution, and the count of a legal list of takes that ends in it
pub record IsSolution {F : Type 0} (Valid : F → Type 0) (M : Framework F) (f : ℕ → F) (takes : ℕ) : Type 0 where
  pub least : LeastSolution Valid M f
  pub past : (v : ℕ) → M.nodes ≤ v → f v ≡ M.least
  pub legal : (vs : List ℕ) × (length vs ≡ takes) × Legal M vs f

-- the facts are the least solutions for the held unit
pub record IsSolved (c : Contents) : Type 0 where
  pub types : IsSolution Fitting (types_of c.unit) c.types c.takes.types
  pub constants : IsSolution Fitting (constants_of c.unit) c.constants c.takes.constants
  pub lives : IsSolution IsSet (live_of c.unit) c.lives c.takes.lives
