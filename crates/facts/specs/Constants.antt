-- Constant frames: what an instruction makes of one along each edge. Assumes nothing.
use Rattle.std.specs.Prelude.{Bool, cond, not, pos, Some, None, Option}
use Rattle.bytecode.specs.declared.instr.Instr.{Instr}
use Rattle.machine.specs.declared.value.Value.{Value}
use Rattle.machine.specs.declared.value.Value.TheVariants as V
use Rattle.machine.specs.declared.arith.Binary.{Binary}
use Rattle.machine.specs.Machine.{operate}
use Rattle.facts.specs.declared.cell.ConstCell.{ConstCell}
use Rattle.facts.specs.declared.cell.ConstCell.TheVariants.{Num, Flag, Varies}
use Rattle.facts.specs.declared.frame.Frame.{Frame}
use Rattle.facts.specs.declared.frame.Frame.TheVariants.{Unreached, At, Clash}
use Rattle.facts.specs.ConstCells.{same_const}
use Rattle.facts.specs.Held.{Held}
use Rattle.facts.specs.Effects.{Domain, effect, after, is_too_few, is_too_many}

abbrev pub known : Value → ConstCell
known (V.Num n) = Num n
known (V.Flag b) = Flag b

abbrev pub known_result : Option Value → ConstCell
known_result None = Varies
known_result (Some v) = known v

-- known where both operands are known numbers
abbrev pub const_operation : Binary → ConstCell → ConstCell → ConstCell
const_operation op (Num a) (Num b) = known_result (operate op a b)
const_operation op (Num a) (Flag q) = Varies
const_operation op (Num a) Varies = Varies
const_operation op (Flag p) b = Varies
const_operation op Varies b = Varies

abbrev pub const_opposite : ConstCell → ConstCell
const_opposite (Num a) = Varies
const_opposite (Flag p) = Flag (not p)
const_opposite Varies = Varies

-- an operand of another kind is no ground to clash: the result varies
abbrev pub constants : Domain ConstCell
constants = record {
  top = Varies;
  number = Num;
  flag = Flag;
  input = Varies;
  operation = const_operation;
  opposite = const_opposite;
  is_zero = λ a. same_const a (Num (pos 0));
  decides = λ j a. same_const a (Flag j);
}

-- too few and too many come before an edge along which no run goes on
abbrev pub carry_held : Instr → Bool → Held ConstCell → Frame ConstCell
carry_held i jump a =
    cond (is_too_few constants i a) Clash
    (cond (is_too_many constants i a) Clash
    (cond ((effect constants i a).is_dead jump) Unreached (At (after constants i a))))

-- along the jump, or to the next place
abbrev pub carry_constants : Instr → Bool → Frame ConstCell → Frame ConstCell
carry_constants i jump Unreached = Unreached
carry_constants i jump (At a) = carry_held i jump a
carry_constants i jump Clash = Clash
