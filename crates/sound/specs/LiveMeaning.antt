-- What sets of live locals that solve the equations of a unit say of its runs. Assumes nothing.
use Rattle.std.specs.Prelude.{◌≡◌, ℕ, true, List, length, ℤ, None, Option, slice_index_or}
use Rattle.bytecode.specs.declared.unit.Unit.{Unit as TheUnit}
use Rattle.bytecode.specs.Files.{held}
use Rattle.machine.specs.declared.value.Value.{Value}
use Rattle.machine.specs.Machine.{State, turn, run_from}
use Rattle.machine.specs.Laws.{TurnsAlike}
use Rattle.dataflow.specs.Analysis.{Solution}
use Rattle.dataflow.specs.Mask.{has_bit}
use Rattle.facts.specs.Live.{carry_live, IsSet}
use Rattle.analyses.specs.Edges.{instr_at}
use Rattle.analyses.specs.Frameworks.{live_of}

abbrev pub with_locals : State → List (Option Value) → State
with_locals s ls = record s { locals = ls }

-- the locals that are live before place p, by those that are live after each place
abbrev pub live_before : TheUnit → (ℕ → ℕ) → ℕ → ℕ
live_before u live p = carry_live (instr_at u p) (live p)

-- 16 locals in each, and the same in each local of the set, which may be unset in both
pub record LocalsAgree (set : ℕ) (ls ms : List (Option Value)) : Type 0 where
  pub sixteen : length ls ≡ 16
  pub as_many : length ms ≡ 16
  pub agree : (n : ℕ) → has_bit set n ≡ true → slice_index_or ls n None ≡ slice_index_or ms n None

-- t is s with other locals, which agree where they are live before the place
pub record DifferInDead (u : TheUnit) (live : ℕ → ℕ) (s t : State) : Type 0 where
  pub other : t ≡ with_locals s t.locals
  pub locals : LocalsAgree (live_before u live s.place) s.locals t.locals

-- a turn shows nothing of the other locals: it ends both runs alike, or again leaves states that differ in dead locals
abbrev pub LiveTurns : Type 0
LiveTurns =
    (u : TheUnit) (live : ℕ → ℕ) → Solution IsSet (live_of u) live → (inputs : List ℤ) (room : ℕ) (s t : State) → DifferInDead u live s t →
    TurnsAlike (DifferInDead u live) (turn (held u) inputs room s) (turn (held u) inputs room t)

-- sets of live locals that solve the equations, the least or others: no other local changes anything of the rest of the run
abbrev pub LiveHold : Type 0
LiveHold =
    (u : TheUnit) (live : ℕ → ℕ) → Solution IsSet (live_of u) live → (inputs : List ℤ) (room : ℕ) (s t : State) → DifferInDead u live s t →
    (b k : ℕ) → run_from (held u) inputs room b k s ≡ run_from (held u) inputs room b k t
