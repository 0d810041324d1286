-- A run of which no turn is stuck does not end stuck.
use Rattle.std.proofs.Common.{◌≡◌, ◌≢◌, ℕ, zero, suc, ◌+◌, List, ℤ, refl, ap, ◌∙◌}
use Rattle.bytecode.specs.declared.instr.Instr.{Instr}
use Rattle.machine.specs.declared.ending.Ending.TheVariants.{Stuck}
use Rattle.machine.specs.Machine.{State, Turn, ends, goes, start, turn, on_turn, Whole, ends_at, run_from, whole_run}
use Rattle.machine.specs.Laws.{Reached, first, later}

module _ (code : List Instr) (inputs : List ℤ) (room : ℕ)
    (free : (s : State) → Reached code inputs room s → turn code inputs room s ≢ ends Stuck) where
  turned_free : (k : ℕ) (s : State) → Reached code inputs room s → (g : State → Whole) →
      ((t : State) → Reached code inputs room t → (g t).ending ≢ Stuck) →
      (v : Turn) → turn code inputs room s ≡ v → (on_turn v (λ e. ends_at e k s) g).ending ≢ Stuck
  turned_free k s r g h (ends e) q = λ is. free s r (q ∙ ap ends is)
  turned_free k s r g h (goes t) q = h t (later r q)

  from_free : (b k : ℕ) (s : State) → Reached code inputs room s → (run_from code inputs room b k s).ending ≢ Stuck
  from_free zero k s r = λ e. cc
  from_free (suc b) k s r = turned_free k s r (run_from code inputs room b (k + 1)) (from_free b (k + 1)) _ refl

  pub no_run_stuck : (budget : ℕ) → (whole_run code inputs room budget).ending ≢ Stuck
  no_run_stuck budget = from_free budget 0 start first
