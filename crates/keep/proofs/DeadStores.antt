-- A store to a local that is not live after it may be a pop.
use Rattle.std.proofs.Common.{◌≡◌, ℕ, ◌<◌, true, false, List, length, get_or, ℤ, Some, Option, sym, ap, ◌∙◌, arith}
use Rattle.std.specs.Prelude.{nat_lt}
use Rattle.std.specs.List.{slice_get}
use Rattle.std.proofs.lemmas.Bool.{and_parts}
use Rattle.std.proofs.lemmas.List.{get_or-take}
use Rattle.std.proofs.lemmas.Option.{slice_get-get_or}
use Rattle.bytecode.specs.declared.instr.Instr.TheVariants as I
use Rattle.bytecode.specs.declared.unit.Unit.{Unit as TheUnit}
use Rattle.bytecode.specs.Files.{held}
use Rattle.bytecode.proofs.Held.{length-held}
use Rattle.machine.specs.declared.value.Value.{Value}
use Rattle.machine.specs.Machine.{State, row_in, tests}
use Rattle.machine.specs.Laws.{TurnsAlike, SameAnswers}
use Rattle.dataflow.specs.Analysis.{Solution}
use Rattle.dataflow.specs.Mask.{has_bit}
use Rattle.facts.specs.Live.{IsSet}
use Rattle.analyses.specs.Edges.{instr_at}
use Rattle.analyses.specs.Frameworks.{live_of}
use Rattle.sound.specs.LiveMeaning.{with_locals, live_before, LocalsAgree, DifferInDead}
use Rattle.sound.proofs.LiveRows.{dead_set_agrees}
use Rattle.sound.proofs.LiveTurns.{tests_alike, live_at, agree_before, dead_in_step}
use Rattle.keep.specs.Keeps.{IsNeverStuck, IsChanged}
use Rattle.keep.proofs.ChangedUnits.{changed_keeps}

module _ (u : TheUnit) (live : ℕ → ℕ) (solution : Solution IsSet (live_of u) live) where
  store_or_pop : (n : ℕ) (inputs : List ℤ) (room : ℕ) (s : State) (ms : List (Option Value)) → slice_get (held u) s.place ≡ Some (I.Store n)
      → nat_lt n 16 ≡ true → has_bit (live s.place) n ≡ false → LocalsAgree (live_before u live s.place) s.locals ms
      → TurnsAlike (DifferInDead u live) (tests (length (held u)) (row_in inputs room s (I.Store n)) s)
      (tests (length (held u)) (row_in inputs room (with_locals s ms) I.Pop) (with_locals s ms))
  store_or_pop n inputs room s ms stands usable dead a =
      tests_alike u live solution inputs room s ms (I.Store n) (row_in inputs room (with_locals s ms) I.Pop) stands
      (record {
        same = rw usable;
        locals = dead_set_agrees (live s.place) s.locals ms n _ (live_at u live solution s.place (I.Store n) stands) dead
            (agree_before u live s.place (I.Store n) s.locals ms stands a);
      })

pub dead_store_keeps : (u v : TheUnit) (live : ℕ → ℕ) (p n : ℕ) → IsChanged u p I.Pop v → Solution IsSet (live_of u) live → p < u.len
    → instr_at u p ≡ I.Store n → has_bit (live p) n ≡ false
    → SameAnswers (held u) (held v) × (IsNeverStuck (held u) → IsNeverStuck (held v))
dead_store_keeps u v live p n changed solution low is dead =
    let stands : slice_get (held u) p ≡ Some (I.Store n) = slice_get-get_or (held u) p I.Nop (omega (arith, length-held u)) ∙ ap Some is in
    let coded : get_or u.code p I.Nop ≡ I.Store n = sym (get_or-take u.len u.code p I.Nop low) ∙ is in
    -- the unit's own rules
    let usable : nat_lt n 16 ≡ true = (and_parts (nat_lt n 16) _ (rw coded at (u.rules p low))).0 in
    changed_keeps u p I.Pop low v changed (λ inputs room. DifferInDead u live) (dead_in_step u live solution)
    (λ inputs room s t r e. rw (is, r.other) (store_or_pop u live solution n inputs room s t.locals (rw e stands) usable (rw e dead) r.locals))
