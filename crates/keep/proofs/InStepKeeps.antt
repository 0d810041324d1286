-- Codes in step give one answer, and the second is never stuck where the first is not.
use Rattle.std.proofs.Common.{◌≡◌, ℕ, List, ℤ, refl, ap, subst}
use Rattle.bytecode.specs.declared.instr.Instr.{Instr}
use Rattle.machine.specs.declared.ending.Ending.TheVariants.{Stuck}
use Rattle.machine.specs.Machine.{State, Turn, ends, goes, start, turn}
use Rattle.machine.specs.Laws.{TurnsAlike, InStep, SameAnswers, Reached, first, later}
use Rattle.machine.proofs.Lockstep.{lockstep}
use Rattle.keep.specs.Keeps.{IsNeverStuck}

module _ (code other : List Instr) (inputs : List ℤ) (room : ℕ) (R : State → State → Type 0) (i : InStep code other inputs room R) where
  -- a state of the first code's runs that is related to a state of the second's
  record Partner (t : State) : Type 0 where
    state : State
    reached : Reached code inputs room state
    related : R state t

  partner_later : (s t : State) (v : Turn) → Reached code inputs room s → turn code inputs room s ≡ v → TurnsAlike R v (goes t) → Partner t
  partner_later s t (ends e) r q h = absurd h
  partner_later s t (goes next) r q h = record { state = next; reached = later r q; related = h }

  partner : (t : State) → Reached other inputs room t → Partner t
  partner t first = record { state = start; reached = first; related = i.starts }
  partner t (later {s = t'} r e) =
      let p = partner t' r in
      partner_later p.state t _ p.reached refl (subst (TurnsAlike R (turn code inputs room p.state)) e (i.turns p.state t' p.related))

  stuck_alike : (v : Turn) → TurnsAlike R v (ends Stuck) → v ≡ ends Stuck
  stuck_alike (ends e) h = ap ends h
  stuck_alike (goes s) h = absurd h

  stuck_before : (t : State) → Reached other inputs room t → turn other inputs room t ≡ ends Stuck
      → (s : State) × Reached code inputs room s × (turn code inputs room s ≡ ends Stuck)
  stuck_before t r e =
      let p = partner t r in
      (p.state, p.reached, stuck_alike _ (subst (TurnsAlike R (turn code inputs room p.state)) e (i.turns p.state t p.related)))

pub instep_keeps : (code other : List Instr) (R : List ℤ → ℕ → State → State → Type 0)
    → ((inputs : List ℤ) (room : ℕ) → InStep code other inputs room (R inputs room))
    → SameAnswers code other × (IsNeverStuck code → IsNeverStuck other)
instep_keeps code other R i = (
  λ inputs room budget. lockstep code other inputs room (R inputs room) (i inputs room) budget,
  λ never inputs room t r e.
      let s = stuck_before code other inputs room (R inputs room) (i inputs room) t r e in
      never inputs room s.0 s.1 s.2,
)
