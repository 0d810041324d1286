-- Carrying constant frames is monotone, and keeps them fitting.
use Rattle.std.proofs.Common.{◌≡◌, Bool, IsTrue, true, false, cond, pos, refl}
use Rattle.std.proofs.lemmas.Bool.{cond_both}
use Rattle.bytecode.specs.declared.instr.Instr.{Instr}
use Rattle.machine.specs.declared.arith.Binary.{Binary}
use Rattle.facts.specs.declared.cell.ConstCell.{ConstCell}
use Rattle.facts.specs.declared.cell.ConstCell.TheVariants.{Num, Flag, Varies}
use Rattle.facts.specs.declared.frame.Frame.{Frame}
use Rattle.facts.specs.declared.frame.Frame.TheVariants.{Unreached, At, Clash}
use Rattle.facts.specs.Held.{Held}
use Rattle.facts.specs.ConstCells.{same_const, join_consts, same_const_tells, const_laws}
use Rattle.facts.specs.Frames.{IsBelow, Fitting}
use Rattle.facts.specs.Effects.{effect, is_too_few, is_too_many}
use Rattle.facts.specs.Constants.{constants, const_operation, const_opposite, carry_held, carry_constants}
use Rattle.facts.proofs.Flats.{same-below, varying_monotone}
use Rattle.facts.proofs.Lattice.{cell_transitive}
use Rattle.facts.proofs.Order.{Under, below_from_under, frames_monotone}
use Rattle.facts.proofs.Effects.{MonotoneDomain, effect_monotone, after_monotone, after_fitting, too_few_same, too_many_same}

-- what varies where its argument does keeps the order
varying : (f : ConstCell → ConstCell) → f Varies ≡ Varies → (a b : ConstCell) → join_consts a b ≡ b → join_consts (f a) (f b) ≡ f b
varying = varying_monotone same_const Varies same_const_tells

varies_right : (op : Binary) (a : ConstCell) → const_operation op a Varies ≡ Varies
varies_right op (Num a) = refl
varies_right op (Flag p) = refl
varies_right op Varies = refl

operation_monotone : (op : Binary) (a b c d : ConstCell) → join_consts a b ≡ b → join_consts c d ≡ d
    → join_consts (const_operation op a c) (const_operation op b d) ≡ const_operation op b d
operation_monotone op a b c d p q =
    cell_transitive join_consts Varies _ 1 const_laws (const_operation op a c) (const_operation op b c) (const_operation op b d)
    (varying (λ z. const_operation op z c) refl a b p) (varying (const_operation op b) (varies_right op b) c d q)

pub constants_monotone : MonotoneDomain join_consts constants
constants_monotone = record {
  idempotent = const_laws.idempotent;
  operation = operation_monotone;
  opposite = varying const_opposite refl;
  is_zero = same-below same_const Varies same_const_tells (Num (pos 0)) (λ e. cc);
  decides = λ j. same-below same_const Varies same_const_tells (Flag j) (λ e. cc);
}

-- Clash by the first two tests, and Unreached by the third
abbrev ways : Bool → Bool → Bool → Frame ConstCell → Frame ConstCell
ways few many dead f = cond few Clash (cond many Clash (cond dead Unreached f))

ways_monotone : (few many r s : Bool) (f g : Frame ConstCell) → (IsTrue s → IsTrue r) → IsBelow join_consts f g
    → IsBelow join_consts (ways few many r f) (ways few many s g)
ways_monotone true many r s f g w h = refl
ways_monotone false true r s f g w h = refl
ways_monotone false false true s f g w h = refl
ways_monotone false false false true f g w h = absurd (cc (w refl))
ways_monotone false false false false f g w h = h

held_monotone : (i : Instr) (jump : Bool) (a b : Held ConstCell) → Under join_consts a b → IsBelow join_consts (carry_held i jump a) (carry_held i jump b)
held_monotone i jump a b u =
    rw (too_few_same constants_monotone a b u i, too_many_same constants_monotone a b u i)
    (ways_monotone (is_too_few constants i b) (is_too_many constants i b) ((effect constants i a).is_dead jump) ((effect constants i b).is_dead jump) _ _
    ((effect_monotone constants_monotone a b u i).dead jump) (below_from_under join_consts _ _ (after_monotone constants_monotone a b u i)))

pub carry_constants_monotone : (i : Instr) (jump : Bool) (f g : Frame ConstCell) → Fitting f → Fitting g → IsBelow join_consts f g
    → IsBelow join_consts (carry_constants i jump f) (carry_constants i jump g)
carry_constants_monotone i jump = frames_monotone join_consts (carry_constants i jump) refl refl (held_monotone i jump)

pub carry_constants_fitting : (i : Instr) (jump : Bool) (f : Frame ConstCell) → Fitting f → Fitting (carry_constants i jump f)
carry_constants_fitting i jump Unreached p = tt
carry_constants_fitting i jump (At a) p =
    cond_both (is_too_few constants i a) _ _ Fitting (λ e. tt)
    (λ e. cond_both (is_too_many constants i a) _ _ Fitting (λ e. tt)
    (λ t. cond_both ((effect constants i a).is_dead jump) _ _ Fitting (λ e. tt) (λ e. after_fitting constants i a p t)))
carry_constants_fitting i jump Clash p = tt
