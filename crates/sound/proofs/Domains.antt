-- Kinds and constants are right about what the machine does.
use Rattle.std.proofs.Common.{◌≡◌, Bool, true, false, cond, ℤ, pos, Some, None, Option, unwrap_or, sym, refl, ap, ◌∙◌}
use Rattle.std.specs.Ordering.{int_eq}
use Rattle.machine.specs.declared.value.Value.{Value}
use Rattle.machine.specs.declared.value.Value.TheVariants as V
use Rattle.machine.specs.declared.arith.Binary.{Binary}
use Rattle.machine.specs.declared.arith.Binary.TheVariants as B
use Rattle.machine.specs.Machine.{operate}
use Rattle.facts.specs.declared.cell.TypeCell.{TypeCell}
use Rattle.facts.specs.declared.cell.TypeCell.TheVariants as T
use Rattle.facts.specs.declared.cell.ConstCell.TheVariants as K
use Rattle.facts.specs.TypeCells.{join_types, type_laws}
use Rattle.facts.specs.ConstCells.{join_consts, same_const_tells, const_laws}
use Rattle.facts.specs.Types.{types, type_of_operation}
use Rattle.facts.specs.Constants.{known, known_result, constants}
use Rattle.sound.specs.Describes.{type_of}
use Rattle.sound.proofs.Exact.{SoundDomain}

abbrev kind_in : Option Value → TypeCell
kind_in o = type_of (unwrap_or o (V.Num (pos 0)))

kind_of_quotient : (z : Bool) (n : ℤ) → kind_in (cond z None (Some (V.Num n))) ≡ T.Num
kind_of_quotient true n = refl
kind_of_quotient false n = refl

kind_of_result : (op : Binary) (a b : ℤ) (v : Value) → operate op a b ≡ Some v → type_of v ≡ type_of_operation op
kind_of_result B.Div a b v e = ap kind_in (sym e) ∙ kind_of_quotient (int_eq b (pos 0)) _
kind_of_result op a b v e = ap kind_in (sym e)

pub types_sound : SoundDomain join_types types type_of
types_sound = record {
  idempotent = type_laws.idempotent;
  number = λ n. refl;
  flag = λ b. refl;
  input = λ n. refl;
  operation = kind_of_result;
  opposite = λ b. refl;
  is_zero = λ n t. absurd (cc);
  decides = λ j b t. absurd (cc);
}

pub constants_sound : SoundDomain join_consts constants known
constants_sound = record {
  idempotent = const_laws.idempotent;
  number = λ n. refl;
  flag = λ b. refl;
  input = λ n. const_laws.greatest (K.Num n);
  operation = λ op a b v e. sym (ap known_result e);
  opposite = λ b. refl;
  is_zero = λ n t. let e = (same_const_tells (K.Num n) (K.Num (pos 0))).0 t in cc;
  decides = λ j b t. let e = (same_const_tells (K.Flag b) (K.Flag j)).0 t in cc;
}
