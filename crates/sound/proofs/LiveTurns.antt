-- Runs of a unit from states that differ in dead locals are in step.
use Rattle.std.proofs.Common.{◌≡◌, ℕ, Bool, true, false, cond, List, length, ℤ, pos, ◌+ℤ◌, None, Some, Option, refl, subst, arith}
use Rattle.std.specs.Prelude.{bit_or}
use Rattle.std.specs.List.{slice_get}
use Rattle.std.proofs.lemmas.Option.{slice_get_within, get_or_from_slice_get}
use Rattle.bytecode.specs.declared.instr.Instr.{Instr}
use Rattle.bytecode.specs.declared.instr.Instr.TheVariants.{Nop}
use Rattle.bytecode.specs.declared.unit.Unit.{Unit as TheUnit}
use Rattle.bytecode.specs.Instructions.{inside}
use Rattle.bytecode.specs.Files.{held}
use Rattle.bytecode.proofs.Held.{length-held}
use Rattle.machine.specs.declared.value.Value.{Value}
use Rattle.machine.specs.declared.ending.Ending.{Ending}
use Rattle.machine.specs.declared.ending.Ending.TheVariants.{Stuck}
use Rattle.machine.specs.Machine.{State, ends, start, turn, turn_at, tests, proceeds, arrives, row_in, Row, run_from}
use Rattle.machine.specs.Laws.{Alike, TurnsAlike, InStep}
use Rattle.machine.proofs.Lockstep.{from_alike}
use Rattle.dataflow.specs.Analysis.{Solution}
use Rattle.dataflow.specs.Mask.{has_bit}
use Rattle.facts.specs.Live.{carry_live, IsSet}
use Rattle.facts.proofs.LiveSets.{has_below}
use Rattle.analyses.specs.declared.edge.Edge.{Edge}
use Rattle.analyses.specs.Edges.{Leads}
use Rattle.analyses.specs.Frameworks.{live_of}
use Rattle.analyses.specs.Ways.{edges_are_ways}
use Rattle.sound.specs.LiveMeaning.{with_locals, live_before, LocalsAgree, DifferInDead}
use Rattle.sound.proofs.LiveRows.{RowsAgree, row_leads, rows_agree}

module _ (u : TheUnit) (live : ℕ → ℕ) where
  abbrev Differ : State → State → Type 0
  Differ = DifferInDead u live

  start_differs : Differ start start
  start_differs = record { other = refl; locals = record { sixteen = refl; as_many = refl; agree = λ n here. refl } }

  differ_shown : (s t : State) → Differ s t → Alike s t
  differ_shown s t d = rw d.other (record { place = refl; used = refl; outputs = refl })

  pub agree_before : (p : ℕ) (i : Instr) (ls ms : List (Option Value)) → slice_get (held u) p ≡ Some i
      → LocalsAgree (live_before u live p) ls ms → LocalsAgree (carry_live i (live p)) ls ms
  agree_before p i ls ms stands a = rw (get_or_from_slice_get (held u) p i Nop stands) at a

  module _ (solution : Solution IsSet (live_of u) live) where
    pub live_at : (p : ℕ) (i : Instr) → slice_get (held u) p ≡ Some i → IsSet (live p)
    live_at p i stands = solution.valid p (omega (arith, slice_get_within (held u) p i stands, length-held u))

    -- what is live before a place that an instruction leads to is live after the instruction
    live_flows : (p : ℕ) (i : Instr) (j : Bool) (q n : ℕ) → Leads (held u) p i j q
        → has_bit (live_before u live q) n ≡ true → has_bit (live p) n ≡ true
    live_flows p i j q n leads here =
        let e = (edges_are_ways u).all p i j q leads in
        let flow = subst (λ (x : Edge). bit_or (live_before u live x.end) (live x.start) ≡ live x.start) e.2 (solution.flows e.0 e.1) in
        has_below n (live_before u live q) (live p) flow here

    module _ (inputs : List ℤ) (room : ℕ) where
      module _ (s : State) (ms ls : List (Option Value)) (i : Instr) (stands : slice_get (held u) s.place ≡ Some i) where
        abbrev here : Row
        here = row_in inputs room s i

        abbrev there : Row
        there = record here { locals = ls }

        module _ (a : LocalsAgree (live s.place) here.locals ls) where
          arrives_alike : (o : Option ℕ) → here.stops ≡ None → inside (length (held u)) (pos s.place +ℤ here.by) ≡ o
              → TurnsAlike Differ (arrives here s o) (arrives there (with_locals s ms) o)
          arrives_alike None goes_on e = refl
          arrives_alike (Some q) goes_on e =
              let way = row_leads inputs room s i goes_on in
              let leads : Leads (held u) s.place i way.0 q = record { stands = stands; by = here.by; far = way.1; arrives = e } in
              record {
                other = refl;
                locals = record { sixteen = a.sixteen; as_many = a.as_many; agree = λ n h. a.agree n (live_flows s.place i way.0 q n leads h) };
              }

          proceeds_alike : (o : Option Ending) → here.stops ≡ o
              → TurnsAlike Differ (proceeds (length (held u)) here s o) (proceeds (length (held u)) there (with_locals s ms) o)
          proceeds_alike (Some f) e = refl
          proceeds_alike None e = arrives_alike _ e refl

          applied_alike : (b : Bool) → TurnsAlike Differ (cond b (proceeds (length (held u)) here s here.stops) (ends Stuck))
              (cond b (proceeds (length (held u)) there (with_locals s ms) there.stops) (ends Stuck))
          applied_alike true = proceeds_alike _ refl
          applied_alike false = refl

      -- w is the row of the instruction at the place but for other locals, which agree where they are live after it
      pub tests_alike : (s : State) (ms : List (Option Value)) (i : Instr) (w : Row) → slice_get (held u) s.place ≡ Some i
          → RowsAgree (live s.place) (row_in inputs room s i) w
          → TurnsAlike Differ (tests (length (held u)) (row_in inputs room s i) s) (tests (length (held u)) w (with_locals s ms))
      tests_alike s ms i w stands r = rw r.same (applied_alike s ms w.locals i stands r.locals _)

      turns_alike_at : (s : State) (ms : List (Option Value)) (o : Option Instr) → slice_get (held u) s.place ≡ o
          → LocalsAgree (live_before u live s.place) s.locals ms
          → TurnsAlike Differ (turn_at (length (held u)) inputs room s o) (turn_at (length (held u)) inputs room (with_locals s ms) o)
      turns_alike_at s ms None stands a = refl
      turns_alike_at s ms (Some i) stands a =
          tests_alike s ms i (row_in inputs room (with_locals s ms) i) stands
          (rows_agree inputs room s ms i (live s.place) (live_at s.place i stands) (agree_before s.place i s.locals ms stands a))

      pub turns_alike : (s t : State) → Differ s t → TurnsAlike Differ (turn (held u) inputs room s) (turn (held u) inputs room t)
      turns_alike s t d = rw d.other (turns_alike_at s t.locals _ refl d.locals)

      pub dead_in_step : InStep (held u) (held u) inputs room Differ
      dead_in_step = record { starts = start_differs; shown = differ_shown; turns = turns_alike }

      pub runs_alike : (s t : State) → Differ s t → (b k : ℕ) → run_from (held u) inputs room b k s ≡ run_from (held u) inputs room b k t
      runs_alike s t d b k = from_alike (held u) (held u) inputs room Differ dead_in_step b k s t d
