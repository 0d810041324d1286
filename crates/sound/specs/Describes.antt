-- What is exactly known of a state, and when a frame describes one. Assumes nothing.
use Rattle.std.specs.Prelude.{◌≡◌, Bool, List, [], ◌∷◌, map, ℤ, Some, None, Option}
use Rattle.machine.specs.declared.value.Value.{Value}
use Rattle.machine.specs.declared.value.Value.TheVariants as V
use Rattle.machine.specs.Machine.{State}
use Rattle.facts.specs.declared.cell.TypeCell.{TypeCell}
use Rattle.facts.specs.declared.cell.TypeCell.TheVariants as T
use Rattle.facts.specs.declared.cell.ConstCell.{ConstCell}
use Rattle.facts.specs.declared.cell.ConstCell.TheVariants as K
use Rattle.facts.specs.declared.frame.Frame.{Frame}
use Rattle.facts.specs.declared.frame.Frame.TheVariants.{Unreached, At, Clash}
use Rattle.facts.specs.Held.{Held}
use Rattle.facts.specs.Constants.{known}

abbrev pub type_of : Value → TypeCell
type_of (V.Num n) = T.Num
type_of (V.Flag b) = T.Flag

-- of an unset local nothing is known
abbrev pub local_cell : {C : Type 0} → (Value → C) → C → Option Value → C
local_cell f top None = top
local_cell f top (Some v) = f v

-- the cell of each value on the stack and of each local, where f gives the cell of a value
abbrev pub held_of : {C : Type 0} → (Value → C) → C → State → Held C
held_of f top s = record { stack = map f s.stack; locals = map (local_cell f top) s.locals }

abbrev pub kinds_of : State → Held TypeCell
kinds_of = held_of type_of T.Unusable

abbrev pub values_of : State → Held ConstCell
values_of = held_of known K.Varies

-- the value is there, and is of the cell's kind
abbrev pub TypeTells : TypeCell → Option Value → Type 0
TypeTells T.Num o = (n : ℤ) × (o ≡ Some (V.Num n))
TypeTells T.Flag o = (b : Bool) × (o ≡ Some (V.Flag b))
TypeTells T.Unusable o = Unit {0}

-- the value is there, and is the cell's
abbrev pub ConstTells : ConstCell → Option Value → Type 0
ConstTells (K.Num n) o = o ≡ Some (V.Num n)
ConstTells (K.Flag b) o = o ≡ Some (V.Flag b)
ConstTells K.Varies o = Unit {0}

-- as many cells as values, and what each cell tells holds
abbrev pub AllTell : {C : Type 0} → (C → Option Value → Type 0) → List C → List (Option Value) → Type 0
AllTell tells [] [] = Unit {0}
AllTell tells [] (o ∷ os) = ⊥
AllTell tells (c ∷ cs) [] = ⊥
AllTell tells (c ∷ cs) (o ∷ os) = tells c o × AllTell tells cs os

pub record HeldTells {C : Type 0} (tells : C → Option Value → Type 0) (a : Held C) (s : State) : Type 0 where
  pub stack : AllTell tells a.stack (map (λ v. Some v) s.stack)
  pub locals : AllTell tells a.locals s.locals

-- Unreached describes no state, and Clash every one
abbrev pub Describes : {C : Type 0} → (C → Option Value → Type 0) → Frame C → State → Type 0
Describes tells Unreached s = ⊥
Describes tells (At a) s = HeldTells tells a s
Describes tells Clash s = Unit {0}
