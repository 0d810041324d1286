-- A change after another, as a tidy makes them.
use Rattle.std.proofs.Common.{◌≡◌, ℕ, zero, suc, ◌+◌, ◌<◌, Some, refl, ap, subst, arith}
use Rattle.bytecode.specs.declared.instr.Instr.{Instr}
use Rattle.bytecode.specs.declared.unit.Unit.{Unit as TheUnit}
use Rattle.bytecode.specs.Files.{held}
use Rattle.facts.specs.declared.cell.TypeCell.{TypeCell}
use Rattle.facts.specs.declared.frame.Frame.{Frame}
use Rattle.facts.specs.Frames.{Fitting}
use Rattle.analyses.specs.Frameworks.{types_of}
use Rattle.analyses.specs.Lawful.{types_lawful}
use Rattle.rewrite.specs.declared.change.Change.{Change}
use Rattle.rewrite.specs.Choices.{NothingToDo, LowestChange}
use Rattle.rewrite.specs.Weights.{weight_of}
use Rattle.keep.proofs.ChangedUnits.{held_changed}
use Rattle.workspace.specs.Contents.{Contents, IsSolution}
use Rattle.workspace.specs.Does.{Model, Tidies}
use Rattle.workspace.specs.Stored.{Stored, contents_of, IsYielded, TypesAreSolved, Amends}
use Rattle.workspace.proofs.Solvable.{solvable}
use Rattle.workspace.proofs.Yielded.{yield_lowers}

-- a change lowers the weight
pub amends_lower : (s t : Stored) (p : ℕ) (i : Instr) → p < s.unit.len → IsYielded (contents_of s) p i → Amends s p i t
    → weight_of (held t.unit) < weight_of (held s.unit)
amends_lower s t p i inside y amended =
    omega (arith, yield_lowers (contents_of s) p i inside y, ap weight_of (held_changed s.unit p i t.unit inside amended.changed))

-- the contents with other types
abbrev pub retyped : Contents → (ℕ → Frame TypeCell) → ℕ → Contents
retyped c types takes = record {
  unit = c.unit;
  types = types;
  constants = c.constants;
  lives = c.lives;
  takes = record { types = takes; constants = c.takes.constants; lives = c.takes.lives };
  opened = c.opened;
}

-- types of u with which so many changes can have been made since e: before the first those of e, and then solved ones
abbrev pub TypesFit : Contents → ℕ → TheUnit → (ℕ → Frame TypeCell) → ℕ → Type 0
TypesFit e zero u types takes = (types ≡ e.types) × (takes ≡ e.takes.types)
TypesFit e (suc made) u types takes = IsSolution Fitting (types_of u) types takes

-- the changes made since e lead to s, with whichever types fit
abbrev pub TidiedTo : Contents → ℕ → Stored → Type 0
TidiedTo e made s =
    (types : ℕ → Frame TypeCell) (takes : ℕ) → TypesFit e made s.unit types takes →
    (n : ℕ) (m : Model) → Tidies n (retyped (contents_of s) types takes) m → Tidies (made + n) e m

types_fit : (e : Contents) (made : ℕ) (u : TheUnit) → (types : ℕ → Frame TypeCell) × (takes : ℕ) × TypesFit e made u types takes
types_fit e zero u = (e.types, e.takes.types, (refl, refl))
types_fit e (suc made) u = solvable (types_lawful u)

pub tidied_none : (s : Stored) → TidiedTo (contents_of s) 0 s
tidied_none s types takes fit n m t =
    let count : n ≡ 0 + n = omega arith in
    subst (λ k. Tidies k (contents_of s) m) count (rw (fit.0, fit.1) at t)

pub tidied_more : (e : Contents) (s t : Stored) (x : Change) (made : ℕ) → LowestChange s.unit (contents_of s).constants (contents_of s).lives x
    → Amends s x.place x.instr t → TidiedTo e made s → TidiedTo e (made + 1) t
tidied_more e s t x made low amended before types takes fit n m rest =
    let next : made + 1 ≡ suc made = omega arith in
    let solved : IsSolution Fitting (types_of t.unit) types takes = subst (λ k. TypesFit e k t.unit types takes) next fit in
    let old = types_fit e made s.unit in
    let count : made + suc n ≡ made + 1 + n = omega arith in
    subst (λ k. Tidies k e m) count
    (before old.0 old.1 old.2 (suc n) m (
      x,
      low,
      t.unit,
      amended.changed,
      retyped (contents_of t) types takes,
      record {
        contents = retyped (contents_of t) types takes;
        is = refl;
        unit = refl;
        opened = amended.opened;
        solved = record { types = solved; constants = amended.rest.constants; lives = amended.rest.lives };
      },
      rest,
    ))

pub tidied_all : (e : Contents) (s : Stored) (made : ℕ) → 0 < made → TypesAreSolved s.unit s.solutions
    → NothingToDo s.unit (contents_of s).constants (contents_of s).lives → TidiedTo e made s → Tidies made e (Some (contents_of s))
tidied_all e s zero some solved done before = absurd (omega (arith, some))
tidied_all e s (suc made) some solved done before =
    let count : suc made + 0 ≡ suc made = omega arith in
    subst (λ k. Tidies k e (Some (contents_of s))) count
    (before (contents_of s).types (contents_of s).takes.types solved 0 (Some (contents_of s)) (done, refl))
