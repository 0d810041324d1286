-- Lower frames of types leave every instruction applicable that higher ones do.
use Rattle.std.proofs.Common.{◌≡◌, ℕ, ◌<◌, Some, None, Option, refl, sym, ap, ◌∙◌}
use Rattle.std.specs.Prelude.{◌↔◌}
use Rattle.bytecode.specs.declared.instr.Instr.{Instr}
use Rattle.bytecode.specs.declared.unit.Unit.{Unit as TheUnit}
use Rattle.dataflow.specs.Analysis.{LeastSolution}
use Rattle.facts.specs.declared.cell.TypeCell.{TypeCell}
use Rattle.facts.specs.declared.reason.Reason.{Reason}
use Rattle.facts.specs.declared.frame.Frame.{Frame}
use Rattle.facts.specs.declared.frame.Frame.TheVariants.{Unreached, At, Clash}
use Rattle.facts.specs.TypeCells.{join_types}
use Rattle.facts.specs.Held.{Held}
use Rattle.facts.specs.Frames.{joined_frames, IsBelow, Fitting}
use Rattle.facts.specs.Effects.{after}
use Rattle.facts.specs.Types.{types, reason_at, reason, unless, carry_types}
use Rattle.facts.proofs.CarryTypes.{carry_types_monotone}
use Rattle.analyses.specs.Edges.{instr_at}
use Rattle.analyses.specs.Frameworks.{types_of}
use Rattle.analyses.specs.Verdicts.{Accepts}
use Rattle.keep.specs.Keeps.{IsAccepted}

unless_clash : (o : Option Reason) (a : Held TypeCell) → (unless o (At a) ≡ Clash → ⊥) → o ≡ None
unless_clash None a free = refl
unless_clash (Some r) a free = absurd (free refl)

-- an instruction is applicable where it does not make Clash
pub applicable_from_carried : (i : Instr) (f : Frame TypeCell) → (carry_types i f ≡ Clash → ⊥) → reason i f ≡ None
applicable_from_carried i Unreached free = refl
applicable_from_carried i (At a) free = unless_clash (reason_at i a) (after types i a) free
applicable_from_carried i Clash free = absurd (free refl)

pub carried_from_applicable : (i : Instr) (f : Frame TypeCell) → reason i f ≡ None → carry_types i f ≡ Clash → ⊥
carried_from_applicable i Unreached fine e = cc
carried_from_applicable i (At a) fine e = let made : unless (reason_at i a) (At (after types i a)) ≡ At (after types i a) = rw fine in cc
carried_from_applicable i Clash fine e = cc

-- what makes no more than an instruction that is applicable is applicable
pub applicable_below : (new i : Instr) (f g : Frame TypeCell) → IsBelow join_types (carry_types new g) (carry_types i f)
    → reason i f ≡ None → reason new g ≡ None
applicable_below new i f g below fine =
    applicable_from_carried new g (λ e. carried_from_applicable i f fine (sym below ∙ ap (λ x. joined_frames join_types x (carry_types i f)) e))

pub lower_accepts : (u : TheUnit) (f g : ℕ → Frame TypeCell) → ((p : ℕ) → p < u.len → Fitting (f p)) → ((p : ℕ) → p < u.len → Fitting (g p))
    → ((p : ℕ) → p < u.len → IsBelow join_types (g p) (f p)) → Accepts u f → Accepts u g
lower_accepts u f g valid_f valid_g lower accepts p inside =
    let i = instr_at u p in
    applicable_below i i (f p) (g p) (carry_types_monotone i (g p) (f p) (valid_g p inside) (valid_f p inside) (lower p inside)) (accepts p inside)

-- it is the least frames of types that tell whether any accept the unit
pub accepted_iff_least : (u : TheUnit) (g : ℕ → Frame TypeCell) → LeastSolution Fitting (types_of u) g → IsAccepted u ↔ Accepts u g
accepted_iff_least u g least = (
  λ some. lower_accepts u some.0 g some.1.valid least.solution.valid (least.lowest some.0 some.1) some.2,
  λ accepts. (g, least.solution, accepts),
)
