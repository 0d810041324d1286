-- What holds of every list of calls that are made one after the other on a new workspace. Assumes nothing.
use Rattle.std.specs.Prelude.{◌≡◌, ℕ, List, [], ◌∷◌, ◌++◌, map, take, Some, None, Ok}
use Rattle.std.specs.List.{All}
use Rattle.bytecode.specs.declared.unit.Unit.{Unit as TheUnit}
use Rattle.bytecode.specs.Files.{held, Outcome}
use Rattle.machine.specs.Laws.{SameAnswers}
use Rattle.workspace.specs.Contents.{Contents, IsSolved}
use Rattle.workspace.specs.Calls.{Call, Answer, load, opens, abandon, write_out, loaded, opened, changed, tidied, kept, abandoned, ran, written, shown, counted, is_unit, not_loaded, refused, returned, not_run, not_written}
use Rattle.workspace.specs.Does.{Model, Does}

-- one call, with what it was given and what it answered
pub record Event : Type 0 where
  pub call : Call
  pub answer : Answer

abbrev pub event : Call → Answer → Event
event c a = record { call = c; answer = a }

-- calls one after the other, refused ones included, from one state of a workspace to another
abbrev pub Runs : Model → List Event → Model → Type 0
Runs m [] m' = m ≡ m'
Runs m (e ∷ es) m' = (n : Model) × Does e.call m e.answer n × Runs n es m'

-- an answer, take counts aside
abbrev pub untimed : Answer → Answer
untimed loaded = loaded
untimed (opened d) = opened d
untimed changed = changed
untimed (tidied n) = tidied n
untimed kept = kept
untimed abandoned = abandoned
untimed (ran r buffer) = ran r buffer
untimed (written n buffer) = written n buffer
untimed (shown facts) = shown facts
untimed (counted takes) = counted (record { types = 0; constants = 0; lives = 0 })
untimed (is_unit u) = is_unit u
untimed (not_loaded fault) = not_loaded fault
untimed (refused r) = refused r
untimed (returned r d) = returned r d
untimed (not_run r buffer) = not_run r buffer
untimed (not_written r buffer) = not_written r buffer

abbrev pub calls_of : List Event → List Call
calls_of es = map (λ (e : Event). e.call) es

abbrev pub answers_of : List Event → List Answer
answers_of es = map (λ (e : Event). untimed e.answer) es

abbrev pub accepted_load : List ℕ → Event
accepted_load file = event (load file) loaded

-- no load of the list is accepted
abbrev pub NoneLoaded : List Event → Type 0
NoneLoaded es = All (λ (e : Event). (file : List ℕ) → e ≡ accepted_load file → ⊥) es

-- no open of the list answers the depth d
abbrev pub NoneOpened : ℕ → List Event → Type 0
NoneOpened d es = All (λ (e : Event). e ≡ event opens (opened d) → ⊥) es

-- the whole promise, of calls that were made on a new workspace and what they answered
pub record KeptPromise (made : List Event) : Type 0 where
  -- each call does and answers just what is defined for it, from the new workspace on
  pub defined : (m : Model) × Runs None made m
  -- after each call since the last accepted load, the held code runs as the loaded unit: whole answers are equal for every
  -- input list, output length and budget
  pub runs :
      (before since later : List Event) (file : List ℕ) (u : TheUnit) (c : Contents) →
      made ≡ before ++ accepted_load file ∷ (since ++ later) → NoneLoaded since → Outcome file (Ok u) →
      Runs None (before ++ accepted_load file ∷ since) (Some c) →
      SameAnswers (held u) (held c.unit)
  -- after each call since an accepted load, the facts solve the held code's equations, and every other solution is at or above them
  pub solved :
      (before since later : List Event) (file : List ℕ) (m : Model) →
      made ≡ before ++ accepted_load file ∷ (since ++ later) →
      Runs None (before ++ accepted_load file ∷ since) m →
      (c : Contents) × (m ≡ Some c) × IsSolved c
  -- an abandoned attempt leaves no trace: in every list of the same calls without it, from its matching open to its accepted
  -- abandon, every later call answers alike, take counts aside
  pub untraced :
      (before within after : List Event) (d : ℕ) →
      made ≡ before ++ event opens (opened d) ∷ (within ++ event (abandon d) abandoned ∷ after) → NoneOpened d within →
      (without : List Event) (m : Model) → Runs None without m →
      calls_of without ≡ calls_of (before ++ after) →
      answers_of without ≡ answers_of (before ++ after)
  -- the same calls on another new workspace, under whichever policies, are answered alike, take counts aside
  pub repeated :
      (again : List Event) (m : Model) → Runs None again m → calls_of again ≡ calls_of made → answers_of again ≡ answers_of made
  -- a write-out right after an accepted load gives the file's bytes
  pub written_back :
      (before later : List Event) (file buffer filled : List ℕ) (n : ℕ) →
      made ≡ before ++ accepted_load file ∷ event (write_out buffer) (written n filled) ∷ later →
      take n filled ≡ file
  -- what a write-out wrote, a new workspace loads
  pub loads_again :
      (before later : List Event) (buffer filled : List ℕ) (n : ℕ) →
      made ≡ before ++ event (write_out buffer) (written n filled) ∷ later →
      (a : Answer) (m : Model) → Does (load (take n filled)) None a m →
      a ≡ loaded
