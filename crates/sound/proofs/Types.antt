-- Type frames that solve the equations describe the states of runs, and where the verifier accepts by them no run is stuck.
use Rattle.std.proofs.Common.{◌≡◌, ℕ, true, List, ℤ, Some, None, Option, sym, refl, ap, ◌∙◌}
use Rattle.std.specs.Option.{is_none}
use Rattle.std.proofs.lemmas.Bool.{false≢true}
use Rattle.bytecode.specs.declared.instr.Instr.{Instr}
use Rattle.bytecode.specs.declared.unit.Unit.{Unit as TheUnit}
use Rattle.bytecode.specs.Files.{held}
use Rattle.machine.specs.Machine.{State}
use Rattle.machine.specs.Laws.{Reached}
use Rattle.machine.proofs.Units.{stuck_inapplicable}
use Rattle.dataflow.specs.Analysis.{Solution}
use Rattle.facts.specs.declared.cell.TypeCell.{TypeCell}
use Rattle.facts.specs.declared.cell.TypeCell.TheVariants.{Unusable}
use Rattle.facts.specs.declared.frame.Frame.{Frame}
use Rattle.facts.specs.declared.frame.Frame.TheVariants.{Unreached, At, Clash}
use Rattle.facts.specs.declared.reason.Reason.{Reason}
use Rattle.facts.specs.Held.{Held}
use Rattle.facts.specs.TypeCells.{join_types, type_laws}
use Rattle.facts.specs.Frames.{IsBelow, Fitting}
use Rattle.facts.specs.Effects.{after}
use Rattle.facts.specs.Types.{types, reason_at, reason, unless, carry_types}
use Rattle.facts.proofs.CarryTypes.{carry_types_monotone}
use Rattle.analyses.specs.Frameworks.{types_of}
use Rattle.sound.specs.Describes.{type_of, kinds_of}
use Rattle.sound.specs.Meaning.{TypesHold, NoStuckTurn, NeverStuck}
use Rattle.sound.proofs.Moves.{Moves}
use Rattle.sound.proofs.Applicable.{applicable_is_one}
use Rattle.sound.proofs.Domains.{types_sound}
use Rattle.sound.proofs.Sizes.{reached_sized, sized_fitting}
use Rattle.sound.proofs.Ways.{instr_there, place_inside, place_reached, local_there}
use Rattle.sound.proofs.Above.{reached_above}
use Rattle.sound.proofs.Endings.{no_run_stuck}
use Rattle.sound.proofs.Describing.{types_tell}

none_is : (o : Option Reason) → is_none o ≡ true → o ≡ None
none_is None e = refl
none_is (Some r) e = absurd (false≢true e)

-- an instruction that is applicable is performed on the kinds
types_perform : (u : TheUnit) (inputs : List ℤ) (room : ℕ) (s : State) (i : Instr) (t : State) → Moves (held u) inputs room s i t →
    carry_types i (At (kinds_of s)) ≡ At (after types i (kinds_of s))
types_perform u inputs room s i t m =
    let one = applicable_is_one i (local_there u s.place i m.stands) inputs room s in
    let e : reason_at i (kinds_of s) ≡ None = none_is _ (sym one ∙ m.able) in
    ap (λ o. unless o (At (after types i (kinds_of s)))) e

module _ (u : TheUnit) (f : ℕ → Frame TypeCell) (sol : Solution Fitting (types_of u) f) (inputs : List ℤ) (room : ℕ) where
  pub types_above : (s : State) → Reached (held u) inputs room s → IsBelow join_types (At (kinds_of s)) (f s.place)
  types_above =
      reached_above types type_laws (λ i j g. carry_types i g) (λ i j. carry_types_monotone i) type_of types_sound u
      (λ inputs room s i t m w. types_perform u inputs room s i t m) f sol inputs room

  frame_fitting : (s : State) → Reached (held u) inputs room s → Fitting (f s.place)
  frame_fitting s r = sol.valid s.place (place_reached u inputs room s r)

-- what is at or below a frame has no reason where the frame has none
reason_below : (i : Instr) (a : Held TypeCell) (g : Frame TypeCell) → Fitting (At a) → Fitting g → IsBelow join_types (At a) g →
    reason i g ≡ None → reason_at i a ≡ None
reason_below i a Unreached p q b n = absurd (cc)
reason_below i a Clash p q b n = absurd (cc)
reason_below i a (At c) p q b n = go (reason_at i a) (rw n at (carry_types_monotone i (At a) (At c) p q b))
  where
    go : (o : Option Reason) → IsBelow join_types (unless o (At (after types i a))) (At (after types i c)) → o ≡ None
    go None h = refl
    go (Some r) h = absurd (cc)

pub types_hold : TypesHold
types_hold u f sol inputs room s r =
    let tells = types_tell (f s.place) (frame_fitting u f sol inputs room s r) s (reached_sized (held u) inputs room s r) in
    tells.0 (types_above u f sol inputs room s r)

pub no_stuck_turn : NoStuckTurn
no_stuck_turn u f sol accepted inputs room s r stuck =
    let h = stuck_inapplicable u inputs room s r stuck in
    let n : reason h.0 (f s.place) ≡ None = rw (instr_there u s.place h.0 h.1) at (accepted s.place (place_inside u s.place h.0 h.1)) in
    let kinds : Fitting (At (kinds_of s)) = sized_fitting type_of Unusable s (reached_sized (held u) inputs room s r) in
    let e = reason_below h.0 (kinds_of s) (f s.place) kinds (frame_fitting u f sol inputs room s r) (types_above u f sol inputs room s r) n in
    false≢true (sym h.2 ∙ applicable_is_one h.0 (local_there u s.place h.0 h.1) inputs room s ∙ ap is_none e)

pub never_stuck : NeverStuck
never_stuck u f sol accepted inputs room budget = no_run_stuck (held u) inputs room (no_stuck_turn u f sol accepted inputs room) budget
