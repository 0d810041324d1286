-- A unit with one instruction changed: its code, and its runs beside those of the unit.
use Rattle.std.proofs.Common.{◌≡◌, ℕ, ◌<◌, List, length, set, ℤ, Some, ap, ◌∙◌, inl, inr, arith}
use Rattle.std.specs.List.{slice_get}
use Rattle.std.proofs.lemmas.Bool.{cases_eq}
use Rattle.std.proofs.lemmas.List.{length-set, get_or-set_same}
use Rattle.std.proofs.lemmas.Option.{slice_get-get_or}
use Rattle.std.proofs.Math.Seq.{take-set-lt}
use Rattle.bytecode.specs.declared.instr.Instr.{Instr}
use Rattle.bytecode.specs.declared.instr.Instr.TheVariants.{Nop}
use Rattle.bytecode.specs.declared.unit.Unit.{Unit as TheUnit}
use Rattle.bytecode.specs.Files.{held}
use Rattle.bytecode.proofs.Held.{length-held}
use Rattle.machine.specs.Machine.{State, row_in, tests, turn}
use Rattle.machine.specs.Laws.{TurnsAlike, InStep, SameAnswers}
use Rattle.machine.specs.DeadCode.{turn-slice_set}
use Rattle.analyses.specs.Edges.{instr_at}
use Rattle.keep.specs.Keeps.{IsNeverStuck, IsChanged}
use Rattle.keep.proofs.InStepKeeps.{instep_keeps}

pub held_changed : (u : TheUnit) (p : ℕ) (new : Instr) (v : TheUnit) → p < u.len → IsChanged u p new v → held v ≡ set (held u) p new
held_changed u p new v low c = rw (c.len, c.code) (take-set-lt u.len u.code p new low)

pub slice_get-set_same : {A : Type 0} (xs : List A) (p : ℕ) (x d : A) → p < length xs → slice_get (set xs p x) p ≡ Some x
slice_get-set_same xs p x d low = slice_get-get_or (set xs p x) p d (simp length-set low) ∙ ap Some (get_or-set_same xs p x d low)

-- at the changed place, the turns by the two instructions are alike
abbrev pub AlikeAt : (State → State → Type 0) → TheUnit → ℕ → Instr → List ℤ → ℕ → Type 0
AlikeAt R u p new inputs room = (s t : State) → R s t → s.place ≡ p
    → TurnsAlike R (tests (length (held u)) (row_in inputs room s (instr_at u p)) s) (tests (length (held u)) (row_in inputs room t new) t)

module _ (u : TheUnit) (p : ℕ) (new : Instr) (low : p < u.len) where
  module _ (inputs : List ℤ) (room : ℕ) (R : State → State → Type 0) (own : InStep (held u) (held u) inputs room R)
      (here : AlikeAt R u p new inputs room) where
    turns_changed : (s t : State) → R s t → TurnsAlike R (turn (held u) inputs room s) (turn (set (held u) p new) inputs room t)
    turns_changed s t r =
        let place : s.place ≡ t.place = (own.shown s t r).place in
        elim (cases_eq s.place p) [
          | inl e ↦
              let inside : p < length (held u) = omega (arith, length-held u) in
              let old : slice_get (held u) s.place ≡ Some (instr_at u p) = rw e (slice_get-get_or (held u) p Nop inside) in
              let changed : slice_get (set (held u) p new) t.place ≡ Some new = rw (← place, e) (slice_get-set_same (held u) p new Nop inside) in
              rw (old, changed, length-set) (here s t r e)
          | inr other ↦ rw (← turn-slice_set (held u) p new inputs room t (λ e. other (place ∙ e))) (own.turns s t r)
        ]

  -- a unit in step with itself is in step with the changed unit
  pub changed_keeps : (v : TheUnit) → IsChanged u p new v → (R : List ℤ → ℕ → State → State → Type 0)
      → ((inputs : List ℤ) (room : ℕ) → InStep (held u) (held u) inputs room (R inputs room))
      → ((inputs : List ℤ) (room : ℕ) → AlikeAt (R inputs room) u p new inputs room)
      → SameAnswers (held u) (held v) × (IsNeverStuck (held u) → IsNeverStuck (held v))
  changed_keeps v changed R own here =
      rw (held_changed u p new v low changed)
      (instep_keeps (held u) (set (held u) p new) R (λ inputs room. record {
        starts = (own inputs room).starts;
        shown = (own inputs room).shown;
        turns = turns_changed inputs room (R inputs room) (own inputs room) (here inputs room);
      }))
