-- How a call ends, with what is known of it then.
use Rattle.std.proofs.Common.{◌≡◌, ℕ, zero, suc, List, [], Some, None, Option, Ok, Err, Result, refl}
use Rattle.bytecode.specs.declared.unit.Unit.{Unit as TheUnit}
use Rattle.bytecode.specs.declared.fault.ReadFault.{ReadFault}
use Rattle.bytecode.specs.Files.{Outcome}
use Rattle.analyses.specs.declared.verify.VerifierFault.{VerifierFault}
use Rattle.analyses.specs.Verdicts.{Judged}
use Rattle.keep.specs.Keeps.{IsAccepted}
use Rattle.workspace.specs.declared.refusal.LoadFault.{LoadFault}
use Rattle.workspace.specs.declared.refusal.LoadFault.TheVariants as L
use Rattle.workspace.specs.declared.refusal.Refusal.{Refusal}
use Rattle.workspace.specs.Refusals.{from_read}
use Rattle.workspace.specs.Contents.{Contents}
use Rattle.workspace.specs.Calls.{Call, Answer, load, loaded, not_loaded}
use Rattle.workspace.specs.Does.{Model, Does, By, Accepts, Holds, Verifies, ByVerdict, ByReading, LoadsAt, refusal, refusing, depth}
use Rattle.workspace.proofs.Cases.{does_cases}

-- the unit that a file is, which the verifier accepts, is loaded
pub record Loads (call : Call) (a : Answer) (m : Model) : Type 0 where
  pub file : List ℕ
  pub unit : TheUnit
  pub is : call ≡ load file
  pub answers : a ≡ loaded
  pub read : Outcome file (Ok unit)
  pub accepted : IsAccepted unit
  pub holds : Holds unit [] m

pub data Ended (call : Call) (m : Model) (a : Answer) (m' : Model) : Type 0 where
  refuses : (r : Refusal) → a ≡ refusing call r → m' ≡ m → Ended call m a m'
  faults : (fault : LoadFault) → a ≡ not_loaded fault → m' ≡ m → Ended call m a m'
  accepts : (c : Contents) → m ≡ Some c → refusal call m ≡ None → Accepts call c a m' → Ended call m a m'
  loads : Loads call a m' → Ended call m a m'

module _ (m : Model) (a : Answer) (m' : Model) where
  by_ended : (call : Call) (o : Option Refusal) → refusal call m ≡ o → By o call m a m' → Ended call m a m'
  by_ended call (Some r) e h = refuses r h.0 h.1
  by_ended call None e h = held_ended m refl h
    where
      held_ended : (n : Model) → m ≡ n → By None call n a m' → Ended call m a m'
      held_ended None is h = absurd h
      held_ended (Some c) is h = accepts c is e h

  verdict_ended : (file : List ℕ) (u : TheUnit) → Outcome file (Ok u) → (v : Verifies u m a m') → Ended (load file) m a m'
  verdict_ended file u o v = go v.verdict v.judged v.by
    where
      go : (r : Result (Unit {0}) VerifierFault) → Judged u v.types r → ByVerdict r u m a m' → Ended (load file) m a m'
      go (Ok t) judged h = loads (record {
        file = file;
        unit = u;
        is = refl;
        answers = h.0;
        read = o;
        accepted = (v.types, v.least.solution, judged);
        holds = h.1;
      })
      go (Err fault) judged h = faults (L.Verifier fault) h.0 h.1

  reading_ended : (file : List ℕ) (r : Result TheUnit ReadFault) → Outcome file r → ByReading r m a m' → Ended (load file) m a m'
  reading_ended file (Ok u) o h = verdict_ended file u o h
  reading_ended file (Err fault) o h = faults (from_read fault) h.0 h.1

  load_ended : (file : List ℕ) (d : ℕ) → LoadsAt d file m a m' → Ended (load file) m a m'
  load_ended file zero h = reading_ended file h.0 h.1 h.2
  load_ended file (suc d) h = faults L.AttemptOpen h.0 h.1

  pub does_ended : (call : Call) → Does call m a m' → Ended call m a m'
  does_ended = does_cases m a m' (λ call. Ended call m a m') (λ file. load_ended file (depth m)) (λ call. by_ended call (refusal call m) refl)
