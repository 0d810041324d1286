-- The small units of the samples, and the loads of their files.
use Rattle.std.proofs.Common.{◌≡◌, ℕ, ◌<◌, true, negsuc, None, Err, inl, refl, ap, ◌∙◌, subst, arith}
use Rattle.std.proofs.lemmas.Bool.{and_parts}
use Rattle.bytecode.specs.declared.instr.Instr.TheVariants as I
use Rattle.bytecode.specs.declared.unit.Unit.{Unit as TheUnit}
use Rattle.bytecode.specs.declared.fault.ReadFault.TheVariants.{Unit as InUnit}
use Rattle.bytecode.specs.Instructions.{row, in_range, standing}
use Rattle.bytecode.specs.Files.{Good, Outcome}
use Rattle.bytecode.proofs.Units.{one_instr}
use Rattle.dataflow.specs.Analysis.{Solution, LeastSolution}
use Rattle.facts.specs.declared.cell.TypeCell.{TypeCell}
use Rattle.facts.specs.declared.cell.TypeCell.TheVariants.{Unusable}
use Rattle.facts.specs.declared.frame.Frame.{Frame}
use Rattle.facts.specs.declared.frame.Frame.TheVariants.{At}
use Rattle.facts.specs.declared.reason.Reason.TheVariants.{TooMany}
use Rattle.facts.specs.Frames.{Fitting, entry}
use Rattle.facts.specs.Types.{reason}
use Rattle.analyses.specs.Edges.{instr_at}
use Rattle.analyses.specs.Frameworks.{types_of}
use Rattle.analyses.specs.Lawful.{types_lawful}
use Rattle.analyses.specs.Verdicts.{reason_in, Refused}
use Rattle.keep.specs.Keeps.{IsAccepted}
use Rattle.samples.specs.Samples.{file_of, halt, spin, jump_out, zeros}
use Rattle.samples.proofs.Below.{Each, each_below}
use Rattle.samples.proofs.Units.{unit_of}
use Rattle.samples.proofs.Least.{along, along_solves, along_least}
use Rattle.samples.proofs.StraightCode.{IsStraight, types_straight}

-- ---- straight codes
module _ (u : TheUnit) (n : ℕ) (straight : IsStraight u n) where
  abbrev pub typed : ℕ → Frame TypeCell
  typed = along (types_of u)

  -- each instruction is applicable after those before it
  pub straight_accepted : Each (λ p. reason_in u typed p ≡ None) u.len → IsAccepted u
  straight_accepted fine = (typed, along_solves (types_lawful u) (types_straight u n straight), each_below (λ p. reason_in u typed p ≡ None) u.len fine)

  pub reason_straight : (f : ℕ → Frame TypeCell) → LeastSolution Fitting (types_of u) f → (p : ℕ) → p < u.len → reason_in u f p ≡ reason_in u typed p
  reason_straight f least p lt = ap (reason (instr_at u p)) (along_least (types_lawful u) (types_straight u n straight) f least p lt)

-- ---- HALT
abbrev pub halt_unit : TheUnit
halt_unit = unit_of 0 1 halt refl (omega arith) (omega arith) (omega arith) (tt, refl)

pub halt_accepted : IsAccepted halt_unit
halt_accepted = straight_accepted halt_unit 0 (refl, refl) (tt, refl)

-- ---- JMP 0
abbrev pub spin_unit : TheUnit
spin_unit = unit_of 0 1 spin refl (omega arith) (omega arith) (omega arith) (tt, refl)

at_start : ℕ → Frame TypeCell
at_start p = At (entry Unusable)

spin_solves : Solution Fitting (types_of spin_unit) at_start
unfolding at_start
spin_solves = record {
  valid = λ v lt. (omega arith, refl);
  seeds = each_below _ 1 (tt, refl);
  flows = each_below _ 1 (tt, refl);
}

pub spin_accepted : IsAccepted spin_unit
unfolding at_start
spin_accepted = (at_start, spin_solves, each_below _ 1 (tt, refl))

-- ---- JMP -1
no_place_before : Good (file_of 0 jump_out) 1 0 → ⊥
no_place_before (i, reads) =
    let range = and_parts (in_range (row i).operands) (standing 0 0 1 i) reads.allowed in
    let same : i ≡ I.Jmp (negsuc 0) = one_instr i (I.Jmp (negsuc 0)) range.0 refl reads.same in
    let stands : standing 0 0 1 (I.Jmp (negsuc 0)) ≡ true = subst (λ j. standing 0 0 1 j ≡ true) same range.1 in
    absurd cc

pub jump_out_outcome : Outcome (file_of 0 jump_out) (Err (InUnit (record { place = 0 })))
jump_out_outcome = (
  1,
  record {
    sized = record { long = refl; some = omega arith; most = omega arith };
    summed = refl;
    headed = (refl, omega arith);
    counted = refl;
  },
  record { inside = omega arith; bad = no_place_before; below = λ k lt. absurd (omega arith) },
)

-- ---- LIT 0 0, eight times and nine times
abbrev pub eight_unit : TheUnit
eight_unit = unit_of 0 9 (zeros 8) refl (omega arith) (omega arith) (omega arith) (((((((((tt, refl), refl), refl), refl), refl), refl), refl), refl), refl)

pub eight_accepted : IsAccepted eight_unit
eight_accepted = straight_accepted eight_unit 8 (refl, refl) (((((((((tt, refl), refl), refl), refl), refl), refl), refl), refl), refl)

abbrev pub nine_unit : TheUnit
nine_unit = unit_of 0 10 (zeros 9) refl (omega arith) (omega arith) (omega arith) ((((((((((tt, refl), refl), refl), refl), refl), refl), refl), refl), refl), refl)

nine_straight : IsStraight nine_unit 9
nine_straight = (refl, refl)

pub nine_judged : (f : ℕ → Frame TypeCell) → LeastSolution Fitting (types_of nine_unit) f → Refused nine_unit f (record { place = 8; reason = TooMany })
nine_judged f least =
    let told = reason_straight nine_unit 9 nine_straight f least in
    record {
      inside = omega arith;
      there = told 8 (omega arith) ∙ refl;
      first = inl (
        λ e. absurd cc,
        λ p lt. inl (told p (omega arith) ∙ each_below (λ q. reason_in nine_unit (along (types_of nine_unit)) q ≡ None) 8 ((((((((tt, refl), refl), refl), refl), refl), refl), refl), refl) p lt),
      );
    }
