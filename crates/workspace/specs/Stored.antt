-- What the fields of a workspace stand for. Assumes nothing.
use Rattle.std.specs.Prelude.{◌≡◌, ℕ, List, [], take, drop, Some, None, Option, slice_index_or}
use Rattle.bytecode.specs.declared.instr.Instr.{Instr}
use Rattle.bytecode.specs.declared.unit.Unit.{Unit as TheUnit}
use Rattle.bytecode.specs.Files.{held}
use Rattle.dataflow.specs.Takes.{at}
use Rattle.analyses.specs.Frameworks.{types_of, constants_of, live_of}
use Rattle.rewrite.specs.declared.rule.Rule.{Rule}
use Rattle.rewrite.specs.Rules.{Yields}
use Rattle.analyses.specs.Edges.{instr_at}
use Rattle.keep.specs.Keeps.{IsChanged}
use Rattle.workspace.specs.declared.shown.Facts.{Facts}
use Rattle.workspace.specs.declared.solutions.Solutions.{Solutions as TheSolutions}
use Rattle.facts.specs.Frames.{Fitting}
use Rattle.facts.specs.Live.{IsSet}
use Rattle.workspace.specs.Contents.{Contents, IsSolution, IsSolved}
use Rattle.workspace.specs.Does.{Model, Holds}

-- the data of the contents, facts in lists; those past the unit's last place are of no unit that is held
pub record Stored : Type 0 where
  pub unit : TheUnit
  pub solutions : TheSolutions
  pub opened : List (List Instr)

abbrev pub contents_of : Stored → Contents
contents_of s = record {
  unit = s.unit;
  types = at (types_of s.unit) (take s.unit.len s.solutions.types.facts);
  constants = at (constants_of s.unit) (take s.unit.len s.solutions.constants.facts);
  lives = at (live_of s.unit) (take s.unit.len s.solutions.lives.facts);
  takes = record { types = s.solutions.types.takes; constants = s.solutions.constants.takes; lives = s.solutions.lives.takes };
  opened = s.opened;
}

abbrev pub model_of : Option Stored → Model
model_of None = None
model_of (Some s) = Some (contents_of s)

-- the types are solved for the unit
abbrev pub TypesAreSolved : TheUnit → TheSolutions → Type 0
TypesAreSolved u s = IsSolution Fitting (types_of u) (at (types_of u) (take u.len s.types.facts)) s.types.takes

-- what the rules look at is solved for the unit
pub record RestIsSolved (u : TheUnit) (s : TheSolutions) : Type 0 where
  pub constants : IsSolution Fitting (constants_of u) (at (constants_of u) (take u.len s.constants.facts)) s.constants.takes
  pub lives : IsSolution IsSet (live_of u) (at (live_of u) (take u.len s.lives.facts)) s.lives.takes

-- the solutions are those of the unit
abbrev pub AreSolutions : TheUnit → TheSolutions → Type 0
AreSolutions u s = (codes : List (List Instr)) → IsSolved (contents_of (record { unit = u; solutions = s; opened = codes }))

-- what is shown of a place
abbrev pub facts_of : Contents → ℕ → Facts
facts_of c p = record { types = c.types p; constants = c.constants p; live = c.lives p }

-- some rule makes i of the instruction at place p
abbrev pub IsYielded : Contents → ℕ → Instr → Type 0
IsYielded c p i = (r : Rule) × Yields r (instr_at c.unit p) (c.constants p) (c.lives p) i

-- i stands at place p now, and all else is solved anew
abbrev pub Changes : Contents → ℕ → Instr → Contents → Type 0
Changes c p i d = (u : TheUnit) × IsChanged c.unit p i u × Holds u c.opened (Some d)

-- i stands at place p now, and what the rules look at is solved anew; of the types nothing is said
pub record Amends (s : Stored) (p : ℕ) (i : Instr) (t : Stored) : Type 0 where
  pub changed : IsChanged s.unit p i t.unit
  pub opened : t.opened ≡ s.opened
  pub rest : RestIsSolved t.unit t.solutions

-- the code is what the innermost attempt was opened on, and all else is solved anew
abbrev pub Reverts : Contents → Contents → Type 0
Reverts c d = (u : TheUnit) × (u.locals ≡ c.unit.locals) × (held u ≡ slice_index_or c.opened 0 []) × Holds u (drop 1 c.opened) (Some d)
