-- The verifier accepts what the rules make of a unit that it accepts.
use Rattle.std.proofs.Common.{◌≡◌, ℕ, ◌<◌, false, true, ltb, sym, subst, arith}
use Rattle.std.proofs.lemmas.Bool.{and_parts, ltb-true}
use Rattle.bytecode.specs.declared.instr.Instr.{Instr}
use Rattle.bytecode.specs.declared.instr.Instr.TheVariants as I
use Rattle.bytecode.specs.declared.unit.Unit.{Unit as TheUnit}
use Rattle.bytecode.specs.Instructions.{standing}
use Rattle.facts.specs.declared.cell.TypeCell.{TypeCell}
use Rattle.facts.specs.declared.cell.TypeCell.TheVariants.{Unusable}
use Rattle.facts.specs.declared.cell.ConstCell.{ConstCell}
use Rattle.facts.specs.declared.frame.Frame.{Frame}
use Rattle.facts.specs.declared.frame.Frame.TheVariants.{At}
use Rattle.facts.specs.TypeCells.{join_types}
use Rattle.facts.specs.Frames.{IsBelow, entry}
use Rattle.dataflow.specs.Mask.{has_bit}
use Rattle.facts.specs.Types.{carry_types}
use Rattle.analyses.specs.Edges.{instr_at}
use Rattle.rewrite.specs.declared.rule.Rule.{Rule}
use Rattle.rewrite.specs.declared.rule.Rule.TheVariants as R
use Rattle.rewrite.specs.Rules.{Yields}
use Rattle.keep.specs.Keeps.{IsChanged, IsAccepted, RulesKeepAcceptance}
use Rattle.keep.proofs.UnitsKept.{standing_at}
use Rattle.keep.proofs.Equations.{SolvesLive, live_solves}
use Rattle.keep.proofs.YieldedWays.{FewerWays, halt_stops, yield_ways, fewer_ways}
use Rattle.keep.proofs.Suited.{Suits, Suited, suited_from_solution, changed_accepted, milder_suits, types_transitive}
use Rattle.keep.proofs.Milder.{halt_applicable, branch_below}
use Rattle.keep.proofs.DroppedStores.{cut, cut_fitting, below_cut, stays_suited, pop_suits}
use Rattle.keep.proofs.Agreeing.{agree, least_agree}
use Rattle.keep.proofs.LiteralTypes.{literal_below}

module _ (u v : TheUnit) (p : ℕ) (new : Instr) (inside : p < u.len) (c : IsChanged u p new v) (f : ℕ → Frame TypeCell) (s : Suited u f) where
  -- the same frames accept the changed unit
  same_frames : Suits u.len f p new → IsAccepted v
  same_frames here = changed_accepted u v p new inside c f s.valid s.starts here (λ r low other. s.suits r low)

  halt_frames : new ≡ I.Halt → IsAccepted v
  halt_frames made = same_frames (subst (Suits u.len f p) (sym made) (record {
    applicable = halt_applicable (instr_at u p) (f p) (s.valid p inside) (s.suits p inside).applicable;
    flows = λ j q way. absurd (halt_stops j way.by way.far);
  }))

  milder_frames : FewerWays new (instr_at u p) → IsBelow join_types (carry_types new (f p)) (carry_types (instr_at u p) (f p)) → IsAccepted v
  milder_frames fewer below =
      same_frames (milder_suits u.len f p new (instr_at u p) (fewer_ways new (instr_at u p) fewer u.len p) below (s.suits p inside))

  -- a unit has no local past the sixteenth
  stored_low : (n : ℕ) → instr_at u p ≡ I.Store n → n < 16
  stored_low n is =
      let stands : standing u.locals p u.len (I.Store n) ≡ true = subst (λ (i : Instr). standing u.locals p u.len i ≡ true) is (standing_at u p inside) in
      let below : n < u.locals = ltb-true n u.locals (and_parts (ltb n u.locals) _ stands).0 in
      omega (arith, u.few)

  dropped_frames : (n : ℕ) (live : ℕ → ℕ) → SolvesLive u live → instr_at u p ≡ I.Store n → has_bit (live p) n ≡ false → new ≡ I.Pop → IsAccepted v
  dropped_frames n live lives is dead made =
      let low = stored_low n is in
      changed_accepted u v p new inside c (cut u n live f)
      (λ r below. cut_fitting u n live f r (s.valid r below))
      (types_transitive (At (entry Unusable)) (f 0) (cut u n live f 0) s.starts (below_cut u n live f 0))
      (subst (Suits u.len (cut u n live f) p) (sym made) (pop_suits u n live f s lives low p inside is dead))
      (λ r below other. stays_suited u n live f s lives low r below)

  yields_accepted : (r : Rule) (known : ℕ → Frame ConstCell) (live : ℕ → ℕ) → agree (known p) (f p) ≡ true → SolvesLive u live
      → Yields r (instr_at u p) (known p) (live p) new → IsAccepted v
  yields_accepted R.Unreached known live agrees lives y = halt_frames y.2
  yields_accepted R.Literal known live agrees lives y =
      milder_frames (yield_ways R.Literal (instr_at u p) (known p) (live p) new y) (literal_below (instr_at u p) y.0 y.2 new (known p) (f p) y.1 y.3 y.4 agrees)
  yields_accepted R.Branch known live agrees lives y =
      milder_frames (yield_ways R.Branch (instr_at u p) (known p) (live p) new y) (rw (y.1, y.4) (branch_below y.0 y.2 (f p)))
  yields_accepted R.DeadStore known live agrees lives y = dropped_frames y.0 live lives y.1 y.2 y.3

pub rules_keep_acceptance : RulesKeepAcceptance
rules_keep_acceptance r u v known live p new least lives y c accepted =
    let f = accepted.0 in
    yields_accepted u v p new y.inside c f (suited_from_solution u f accepted.1 accepted.2) r known live
    (least_agree u known f least accepted.1 p y.inside) (live_solves u live lives) y.yields
