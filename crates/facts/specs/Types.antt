-- Type frames: when an instruction is applicable in one, and what it makes of it. Assumes nothing.
use Rattle.std.specs.Prelude.{ℕ, Bool, true, false, cond, not, ◌&&◌, List, [], ◌∷◌, Some, None, Option}
use Rattle.bytecode.specs.declared.instr.Instr.{Instr}
use Rattle.machine.specs.declared.arith.Binary.{Binary}
use Rattle.machine.specs.declared.arith.Binary.TheVariants as B
use Rattle.machine.specs.Machine.{Kind, any, number, flag}
use Rattle.facts.specs.declared.cell.TypeCell.{TypeCell}
use Rattle.facts.specs.declared.cell.TypeCell.TheVariants.{Num, Flag, Unusable}
use Rattle.facts.specs.declared.reason.Reason.{Reason}
use Rattle.facts.specs.declared.reason.Reason.TheVariants.{TooFew, TooMany, WrongKind, Clash as Clashing}
use Rattle.facts.specs.declared.frame.Frame.{Frame}
use Rattle.facts.specs.declared.frame.Frame.TheVariants.{Unreached, At, Clash}
use Rattle.facts.specs.TypeCells.{same_type}
use Rattle.facts.specs.Held.{Held}
use Rattle.facts.specs.Effects.{Domain, takes_of, effect, after, is_too_few, is_too_many}

abbrev pub type_of_operation : Binary → TypeCell
type_of_operation B.Add = Num
type_of_operation B.Sub = Num
type_of_operation B.Mul = Num
type_of_operation B.Div = Num
type_of_operation B.Eq = Flag
type_of_operation B.Lt = Flag

-- a kind says nothing of which value it is, so no edge is dead
abbrev pub types : Domain TypeCell
types = record {
  top = Unusable;
  number = λ n. Num;
  flag = λ b. Flag;
  input = Num;
  operation = λ op a b. type_of_operation op;
  opposite = λ a. Flag;
  is_zero = λ a. false;
  decides = λ j a. false;
}

-- an Unusable cell has no kind
abbrev pub is_of : Kind → TypeCell → Bool
is_of any c = true
is_of number Num = true
is_of number Flag = false
is_of number Unusable = false
is_of flag Num = false
is_of flag Flag = true
is_of flag Unusable = false

-- the stack has the values, and they have the kinds
abbrev pub has_kinds : List Kind → List TypeCell → Bool
has_kinds [] stack = true
has_kinds (k ∷ ks) [] = false
has_kinds (k ∷ ks) (c ∷ stack) = is_of k c && has_kinds ks stack

abbrev pub is_usable : Option TypeCell → Bool
is_usable None = true
is_usable (Some c) = not (same_type c Unusable)

abbrev pub has_right_kinds : Instr → Held TypeCell → Bool
has_right_kinds i a = has_kinds (takes_of i) a.stack && is_usable (effect types i a).loads

-- why the instruction is not applicable, the lowest reason first; none where it is
abbrev pub reason_at : Instr → Held TypeCell → Option Reason
reason_at i a = cond (is_too_few types i a) (Some TooFew) (cond (is_too_many types i a) (Some TooMany) (cond (has_right_kinds i a) None (Some WrongKind)))

-- an instruction that no run comes to has no reason, and to Clash none is applicable
abbrev pub reason : Instr → Frame TypeCell → Option Reason
reason i Unreached = None
reason i (At a) = reason_at i a
reason i Clash = Some Clashing

abbrev pub reason_number : Reason → ℕ
reason_number TooFew = 1
reason_number TooMany = 2
reason_number WrongKind = 3
reason_number Clashing = 4

abbrev pub unless : Option Reason → Frame TypeCell → Frame TypeCell
unless None f = f
unless (Some r) f = Clash

-- the instruction performed on the kinds
abbrev pub carry_types : Instr → Frame TypeCell → Frame TypeCell
carry_types i Unreached = Unreached
carry_types i (At a) = unless (reason_at i a) (At (after types i a))
carry_types i Clash = Clash
