-- Carrying type frames is monotone, and keeps them fitting.
use Rattle.std.proofs.Common.{Bool, IsTrue, true, false, not, cond, List, [], ◌∷◌, Some, None, Option, refl}
use Rattle.std.proofs.lemmas.Bool.{and_parts, and_from, cond_both}
use Rattle.bytecode.specs.declared.instr.Instr.{Instr}
use Rattle.machine.specs.Machine.{Kind, any, number, flag}
use Rattle.facts.specs.declared.cell.TypeCell.{TypeCell}
use Rattle.facts.specs.declared.cell.TypeCell.TheVariants.{Unusable}
use Rattle.facts.specs.declared.reason.Reason.{Reason}
use Rattle.facts.specs.declared.reason.Reason.TheVariants.{TooFew, TooMany, WrongKind}
use Rattle.facts.specs.declared.frame.Frame.{Frame}
use Rattle.facts.specs.declared.frame.Frame.TheVariants.{Unreached, At, Clash}
use Rattle.facts.specs.Held.{Held}
use Rattle.facts.specs.TypeCells.{same_type, join_types, same_type_tells, type_laws}
use Rattle.facts.specs.Frames.{IsBelow, Fitting}
use Rattle.facts.specs.Effects.{takes_of, effect, after, is_too_few, is_too_many}
use Rattle.facts.specs.Types.{types, type_of_operation, is_of, has_kinds, is_usable, has_right_kinds, unless, carry_types}
use Rattle.facts.proofs.Flats.{test-below}
use Rattle.facts.proofs.Lattice.{below_clash}
use Rattle.facts.proofs.Order.{CellsUnder, none, more, Under, below_from_under, frames_monotone}
use Rattle.facts.proofs.Effects.{MonotoneDomain, LoadsUnder, effect_monotone, after_monotone, after_fitting, too_few_same, too_many_same}

pub types_monotone : MonotoneDomain join_types types
types_monotone = record {
  idempotent = type_laws.idempotent;
  operation = λ op a b c d p q. type_laws.idempotent (type_of_operation op);
  opposite = λ a b p. refl;
  is_zero = λ a b p t. t;
  decides = λ j a b p t. t;
}

kind_of_unusable : (k : Kind) → IsTrue (is_of k Unusable) → (x : TypeCell) → IsTrue (is_of k x)
kind_of_unusable any t x = refl
kind_of_unusable number t x = absurd (cc)
kind_of_unusable flag t x = absurd (cc)

kinds_under : (ks : List Kind) {xs ys : List TypeCell} → CellsUnder join_types xs ys → IsTrue (has_kinds ks ys) → IsTrue (has_kinds ks xs)
kinds_under [] u t = refl
kinds_under (k ∷ ks) none t = t
kinds_under (k ∷ ks) (more c u) t =
    let p = and_parts _ _ t in and_from _ _ (test-below same_type Unusable same_type_tells (is_of k) (kind_of_unusable k) _ _ c p.0) (kinds_under ks u p.1)

usable_under : (o p : Option TypeCell) → LoadsUnder join_types o p → IsTrue (is_usable p) → IsTrue (is_usable o)
usable_under None None l t = t
usable_under None (Some y) l t = absurd l
usable_under (Some x) None l t = absurd l
usable_under (Some x) (Some y) l t = test-below same_type Unusable same_type_tells (λ c. not (same_type c Unusable)) (λ n. absurd (cc)) x y l t

right_kinds_under : (i : Instr) (a b : Held TypeCell) → Under join_types a b → IsTrue (has_right_kinds i b) → IsTrue (has_right_kinds i a)
right_kinds_under i a b u t =
    let p = and_parts (has_kinds (takes_of i) b.stack) (is_usable (effect types i b).loads) t in
    and_from (has_kinds (takes_of i) a.stack) _ (kinds_under (takes_of i) u.stack p.0) (usable_under _ _ (effect_monotone types_monotone a b u i).loads p.1)

-- the first test that fails
abbrev why : Bool → Bool → Bool → Option Reason
why few many right = cond few (Some TooFew) (cond many (Some TooMany) (cond right None (Some WrongKind)))

unless_monotone : (few many r s : Bool) (f g : Frame TypeCell) → (IsTrue s → IsTrue r) → IsBelow join_types f g
    → IsBelow join_types (unless (why few many r) f) (unless (why few many s) g)
unless_monotone true many r s f g w h = refl
unless_monotone false true r s f g w h = refl
unless_monotone false false true true f g w h = h
unless_monotone false false true false f g w h = below_clash join_types f
unless_monotone false false false true f g w h = absurd (cc (w refl))
unless_monotone false false false false f g w h = refl

held_types_monotone : (i : Instr) (a b : Held TypeCell) → Under join_types a b → IsBelow join_types (carry_types i (At a)) (carry_types i (At b))
held_types_monotone i a b u =
    rw (too_few_same types_monotone a b u i, too_many_same types_monotone a b u i)
    (unless_monotone (is_too_few types i b) (is_too_many types i b) (has_right_kinds i a) (has_right_kinds i b) _ _
    (right_kinds_under i a b u) (below_from_under join_types _ _ (after_monotone types_monotone a b u i)))

pub carry_types_monotone : (i : Instr) (f g : Frame TypeCell) → Fitting f → Fitting g → IsBelow join_types f g
    → IsBelow join_types (carry_types i f) (carry_types i g)
carry_types_monotone i = frames_monotone join_types (carry_types i) refl refl (held_types_monotone i)

pub carry_types_fitting : (i : Instr) (f : Frame TypeCell) → Fitting f → Fitting (carry_types i f)
carry_types_fitting i Unreached p = tt
carry_types_fitting i (At a) p =
    let P : Option Reason → Type 0 = λ o. Fitting (unless o (At (after types i a))) in
    cond_both (is_too_few types i a) _ _ P (λ e. tt)
    (λ e. cond_both (is_too_many types i a) _ _ P (λ e. tt)
    (λ t. cond_both (has_right_kinds i a) _ _ P (λ e. after_fitting types i a p t) (λ e. tt)))
carry_types_fitting i Clash p = tt
