-- Frames that solve the equations are at or above what is exactly known of every state that a run comes to.
use Rattle.std.proofs.Common.{◌≡◌, ℕ, Bool, List, ℤ, sym, ap, ◌∙◌}
use Rattle.bytecode.specs.declared.instr.Instr.{Instr}
use Rattle.bytecode.specs.declared.unit.Unit.{Unit as TheUnit}
use Rattle.bytecode.specs.Files.{held}
use Rattle.machine.specs.declared.value.Value.{Value}
use Rattle.machine.specs.Machine.{State}
use Rattle.machine.specs.Laws.{Reached, first, later}
use Rattle.dataflow.specs.Analysis.{Solution}
use Rattle.facts.specs.declared.frame.Frame.{Frame}
use Rattle.facts.specs.declared.frame.Frame.TheVariants.{At}
use Rattle.facts.specs.Cell.{CellLaws}
use Rattle.facts.specs.Frames.{joined_frames, IsBelow, Fitting}
use Rattle.facts.specs.Effects.{Domain, after}
use Rattle.facts.proofs.Lattice.{frames_associative}
use Rattle.facts.proofs.Order.{below_from_under}
use Rattle.analyses.specs.Frameworks.{forward}
use Rattle.sound.specs.Describes.{held_of}
use Rattle.sound.proofs.Moves.{Moves, goes_by_move}
use Rattle.sound.proofs.Exact.{SoundDomain}
use Rattle.sound.proofs.Steps.{Step, steps}
use Rattle.sound.proofs.Sizes.{reached_sized, sized_fitting}
use Rattle.sound.proofs.Ways.{place_inside, seeded, carried_along}

module _ {C : Type 0} {join : C → C → C} {top : C} {rank : C → ℕ} {height : ℕ} (laws : CellLaws join top rank height) where
  pub below_transitive : (f g k : Frame C) → IsBelow join f g → IsBelow join g k → IsBelow join f k
  below_transitive f g k p q =
      ap (joined_frames join f) (sym q) ∙ sym (frames_associative join top rank height laws f g k) ∙ ap (λ z. joined_frames join z k) p ∙ q

module _ {C : Type 0} {join : C → C → C} (D : Domain C) {rank : C → ℕ} {height : ℕ} (laws : CellLaws join D.top rank height)
    (carry : Instr → Bool → Frame C → Frame C)
    (monotone : (i : Instr) (j : Bool) (f g : Frame C) → Fitting f → Fitting g → IsBelow join f g → IsBelow join (carry i j f) (carry i j g))
    (cell : Value → C) (M : SoundDomain join D cell) (u : TheUnit)
    (performs : (inputs : List ℤ) (room : ℕ) (s : State) (i : Instr) (t : State) → Moves (held u) inputs room s i t →
    (w : Step join D cell (held u) s i t) → carry i w.jump (At (held_of cell D.top s)) ≡ At (after D i (held_of cell D.top s)))
    (f : ℕ → Frame C) (sol : Solution Fitting (forward join D.top rank height carry u) f) (inputs : List ℤ) (room : ℕ) where
  abbrev exact : State → Frame C
  exact s = At (held_of cell D.top s)

  moved_above : (s : State) (i : Instr) (t : State) → Reached (held u) inputs room s → Moves (held u) inputs room s i t →
      IsBelow join (exact s) (f s.place) → IsBelow join (exact t) (f t.place)
  moved_above s i t r m b =
      let w = steps M (held u) inputs room s i t m in
      let e = performs inputs room s i t m w in
      let carried : IsBelow join (exact t) (carry i w.jump (exact s)) = rw e (below_from_under join _ _ w.under) in
      let fits : Fitting (f s.place) = sol.valid s.place (place_inside u s.place i m.stands) in
      let kept = monotone i w.jump (exact s) (f s.place) (sized_fitting cell D.top s (reached_sized (held u) inputs room s r)) fits b in
      let along = carried_along join D.top rank height carry u f sol s.place i w.jump t.place w.leads in
      let up = below_transitive laws (carry i w.jump (exact s)) (carry i w.jump (f s.place)) (f t.place) kept along in
      below_transitive laws (exact t) (carry i w.jump (exact s)) (f t.place) carried up

  pub reached_above : (s : State) → Reached (held u) inputs room s → IsBelow join (exact s) (f s.place)
  reached_above s first = seeded join D.top rank height carry u f sol
  reached_above s (later {s = q} {t} r e) =
      let m = goes_by_move (held u) inputs room q s e in
      moved_above q m.0 s r m.1 (reached_above q r)
