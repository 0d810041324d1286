-- Lists of calls that are made one after the other on a new workspace, as data. Assumes nothing.
use Rattle.std.specs.Prelude.{ℕ, pos, min, List, [], ◌∷◌, take, replicate}
use Rattle.workspace.specs.declared.events.Call.{Call as Asked}
use Rattle.workspace.specs.declared.events.Call.TheVariants.{Load, Open, Propose, Tidy, Keep, Abandon, Run, WriteOut, FactsAt, TakeCounts, Unit as UnitNow}
use Rattle.workspace.specs.declared.events.Reply.{Reply}
use Rattle.workspace.specs.declared.events.Reply.TheVariants as R
use Rattle.workspace.specs.Calls.{Call, Answer, load, opens, propose, tidy, keep, abandon, run, write_out, facts_at, take_counts, unit_now, loaded, opened, changed, tidied, kept, abandoned, ran, written, shown, counted, is_unit, not_loaded, refused, returned, not_run, not_written}
use Rattle.workspace.specs.Histories.{Event, event}

-- a buffer of the first `room` of n of the same
unfoldable pub blank : {A : Type 0} → ℕ → A → ℕ → List A
blank n x room = take (min room n) (replicate n x)

-- the call that one of a list stands for
abbrev pub asked : Asked → Call
asked (Load file) = load file.now
asked Open = opens
asked (Propose d p i) = propose d p i
asked (Tidy d) = tidy d
asked (Keep d) = keep d
asked (Abandon d) = abandon d
asked (Run inputs room budget) = run inputs.now (blank 128 (pos 0) room) budget
asked (WriteOut room) = write_out (blank 774 0 room)
asked (FactsAt p) = facts_at p
asked TakeCounts = take_counts
asked UnitNow = unit_now

-- the answer that a reply tells
abbrev pub told : Reply → Answer
told R.Loaded = loaded
told (R.Opened d) = opened d
told R.Changed = changed
told (R.Tidied n) = tidied n
told R.Kept = kept
told R.Abandoned = abandoned
told (R.Ran r room outputs) = ran r (take room outputs)
told (R.Written n room bytes) = written n (take room bytes)
told (R.Facts facts) = shown facts
told (R.TakeCounts takes) = counted takes
told (R.Unit u) = is_unit u
told (R.NotLoaded fault) = not_loaded fault
told (R.Refused r) = refused r
told (R.Returned r d) = returned r d
told (R.NotRun r room outputs) = not_run r (take room outputs)
told (R.NotWritten r room bytes) = not_written r (take room bytes)

-- the calls of a list, each with its reply
abbrev pub history : List Asked → List Reply → List Event
history [] rs = []
history (c ∷ cs) [] = []
history (c ∷ cs) (r ∷ rs) = event (asked c) (told r) ∷ history cs rs
