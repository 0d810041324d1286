-- A unit with one instruction changed keeps every run, if the new one has the turn of the old one wherever a run comes to its place.
use Rattle.std.proofs.Common.{◌≡◌, ℕ, ◌<◌, List, length, ℤ, Some, refl, ap, ◌∙◌, subst, arith}
use Rattle.std.specs.List.{slice_get}
use Rattle.std.proofs.lemmas.Option.{slice_get-get_or}
use Rattle.bytecode.specs.declared.instr.Instr.{Instr}
use Rattle.bytecode.specs.declared.instr.Instr.TheVariants.{Nop}
use Rattle.bytecode.specs.declared.unit.Unit.{Unit as TheUnit}
use Rattle.bytecode.specs.Files.{held}
use Rattle.bytecode.proofs.Held.{length-held}
use Rattle.machine.specs.Machine.{State, row_in, tests, turn_at, turn}
use Rattle.machine.specs.Laws.{InStep, Reached, first, SameReached, SameAnswers}
use Rattle.machine.specs.DeadCode.{same_turns}
use Rattle.dataflow.specs.Analysis.{Solution}
use Rattle.facts.specs.declared.cell.ConstCell.{ConstCell}
use Rattle.facts.specs.declared.frame.Frame.{Frame}
use Rattle.facts.specs.declared.frame.Frame.TheVariants.{Unreached}
use Rattle.facts.specs.Frames.{Fitting}
use Rattle.analyses.specs.Edges.{instr_at}
use Rattle.analyses.specs.Frameworks.{constants_of}
use Rattle.sound.specs.Describes.{ConstTells, Describes}
use Rattle.sound.proofs.Constants.{constants_hold}
use Rattle.keep.specs.Keeps.{IsNeverStuck, IsChanged}
use Rattle.keep.proofs.ChangedUnits.{changed_keeps}

-- the second code gives the whole answers of the first, and is never stuck if the first is not
abbrev pub Keeps : List Instr → List Instr → Type 0
Keeps code other = SameAnswers code other × (IsNeverStuck code → IsNeverStuck other)

-- in a code of n the two instructions have one turn in this state
abbrev pub SameTurn : ℕ → List ℤ → ℕ → Instr → Instr → State → Type 0
SameTurn n inputs room i j s = tests n (row_in inputs room s i) s ≡ tests n (row_in inputs room s j) s

reached_in_step : (code : List Instr) (inputs : List ℤ) (room : ℕ) → InStep code code inputs room (SameReached code inputs room)
reached_in_step code inputs room = record {
  starts = (refl, first);
  shown = λ s t h. record { place = ap (λ x. x.place) h.0; used = ap (λ x. x.used) h.0; outputs = ap (λ x. x.outputs) h.0 };
  turns = λ s t h. rw (← h.0) (same_turns code inputs room s h.1 _ _ refl refl);
}

module _ (u v : TheUnit) (p : ℕ) (new : Instr) (lt : p < u.len) (changed : IsChanged u p new v) where
  turn_here : (inputs : List ℤ) (room : ℕ) (s : State) → s.place ≡ p
      → turn (held u) inputs room s ≡ tests (length (held u)) (row_in inputs room s (instr_at u p)) s
  turn_here inputs room s e =
      let stands : slice_get (held u) p ≡ Some (instr_at u p) = slice_get-get_or (held u) p Nop (omega (arith, length-held u)) in
      ap (turn_at (length (held u)) inputs room s) (ap (slice_get (held u)) e ∙ stands)

  pub same_turn_keeps : ((inputs : List ℤ) (room : ℕ) (s : State) → Reached (held u) inputs room s → s.place ≡ p
      → SameTurn (length (held u)) inputs room (instr_at u p) new s)
      → Keeps (held u) (held v)
  same_turn_keeps same =
      changed_keeps u p new lt v changed (SameReached (held u)) (reached_in_step (held u))
      (λ inputs room s t h e. rw (← h.0) (same_turns (held u) inputs room s h.1 _ _ (turn_here inputs room s e) (same inputs room s h.1 e)))

  module _ (known : ℕ → Frame ConstCell) (solved : Solution Fitting (constants_of u) known) where
    -- the two instructions have one turn in every state that the frame before the place describes
    pub described_keeps : ((inputs : List ℤ) (room : ℕ) (s : State) → Describes ConstTells (known p) s
        → SameTurn (length (held u)) inputs room (instr_at u p) new s)
        → Keeps (held u) (held v)
    described_keeps same =
        same_turn_keeps
        (λ inputs room s r e. same inputs room s (subst (λ q. Describes ConstTells (known q) s) e (constants_hold u known solved inputs room s r)))

    -- no run comes to the place, so any instruction may stand there
    pub unreached_keeps : known p ≡ Unreached → Keeps (held u) (held v)
    unreached_keeps e = described_keeps (λ inputs room s t. absurd (subst (λ f. Describes ConstTells f s) e t))
