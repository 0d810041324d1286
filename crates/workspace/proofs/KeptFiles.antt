-- What is written out is the file of the held unit: the file that was loaded, if it was just loaded, and one that a new workspace loads.
use Rattle.std.proofs.Common.{◌≡◌, ℕ, List, ◌∷◌, ◌++◌, take, inl, inr, ◌⊎◌, Some, None, Ok, Err, Result, refl, sym, ◌∙◌, ap, subst}
use Rattle.bytecode.specs.declared.unit.Unit.{Unit as TheUnit}
use Rattle.bytecode.specs.declared.fault.ReadFault.{ReadFault}
use Rattle.bytecode.specs.Files.{bytes_of}
use Rattle.bytecode.proofs.Units.{one_outcome, writes_back}
use Rattle.analyses.specs.declared.verify.VerifierFault.{VerifierFault}
use Rattle.analyses.specs.Verdicts.{Judged}
use Rattle.keep.specs.Keeps.{IsAccepted}
use Rattle.keep.proofs.Lower.{accepted_iff_least}
use Rattle.workspace.specs.Contents.{Contents}
use Rattle.workspace.specs.Calls.{Answer, load, write_out, loaded, written}
use Rattle.workspace.specs.Does.{Model, Does, Verifies, ByVerdict, ByReading}
use Rattle.workspace.specs.Histories.{Event, event, Runs, accepted_load}
use Rattle.workspace.proofs.KeptCalls.{Ended, refuses, faults, accepts, loads, does_ended}
use Rattle.workspace.proofs.KeptUnits.{Kept, kept_in}
use Rattle.workspace.proofs.KeptHistories.{IsKept, runs_split, always_kept, since_load}

-- the file of the unit that is held is written
pub record Wrote (m : Model) (filled : List ℕ) (n : ℕ) : Type 0 where
  pub contents : Contents
  pub is : m ≡ Some contents
  pub bytes : take n filled ≡ bytes_of contents.unit

pub write_wrote : (m m' : Model) (buffer filled : List ℕ) (n : ℕ) → Does (write_out buffer) m (written n filled) m' → Wrote m filled n
write_wrote m m' buffer filled n h = go (does_ended m (written n filled) m' (write_out buffer) h)
  where
    go : Ended (write_out buffer) m (written n filled) m' → Wrote m filled n
    go (refuses r e same) = absurd cc
    go (faults fault e same) = absurd cc
    go (accepts c is fine h) =
        let k : n ≡ h.0.0 = let e = h.0.3 in cc in
        let filled_is : filled ≡ h.0.1 = let e = h.0.3 in cc in
        record { contents = c; is = is; bytes = rw (k, filled_is) (writes_back (bytes_of c.unit) (Ok c.unit) refl buffer h.0.1 h.0.0 h.0.2) }
    go (loads l) = absurd (let e = l.is in cc)

module _ (u : TheUnit) (accepted : IsAccepted u) (a : Answer) (m : Model) where
  verified_loads : Verifies u None a m → a ≡ loaded
  verified_loads v = go v.verdict v.judged v.by
    where
      go : (r : Result (Unit {0}) VerifierFault) → Judged u v.types r → ByVerdict r u None a m → a ≡ loaded
      go (Ok t) judged h = h.0
      go (Err fault) judged h = let fine = (accepted_iff_least u v.types v.least).0 accepted fault.place judged.inside in let there = judged.there in cc

  read_loads : (r : Result TheUnit ReadFault) → r ≡ Ok u → ByReading r None a m → a ≡ loaded
  read_loads r is h = verified_loads (subst (λ s. ByReading s None a m) is h)

  pub accepted_loads : (file : List ℕ) → file ≡ bytes_of u → Does (load file) None a m → a ≡ loaded
  accepted_loads file is h = read_loads h.0 (one_outcome file h.0 (Ok u) h.1 (sym is)) h.2

one_contents : {c d : Contents} → Some c ≡ Some d → c ≡ d
one_contents e = cc

pub writes_loaded : (before later : List Event) (file buffer filled : List ℕ) (n : ℕ) (m : Model)
    → Runs None (before ++ accepted_load file ∷ event (write_out buffer) (written n filled) ∷ later) m → take n filled ≡ file
writes_loaded before later file buffer filled n m r =
    let s = since_load before (event (write_out buffer) (written n filled) ∷ later) file m r in
    let w = write_wrote s.start s.runs.0 buffer filled n s.runs.1 in
    let h = s.loads.holds in
    let is : w.contents.unit ≡ s.loads.unit = ap (λ (c : Contents). c.unit) (one_contents (sym w.is ∙ h.is)) ∙ h.unit in
    w.bytes ∙ ap bytes_of is ∙ s.read

pub written_loads : (before later : List Event) (buffer filled : List ℕ) (n : ℕ) (m : Model)
    → Runs None (before ++ event (write_out buffer) (written n filled) ∷ later) m
    → (a : Answer) (new : Model) → Does (load (take n filled)) None a new → a ≡ loaded
written_loads before later buffer filled n m r a new h =
    let s = runs_split before (event (write_out buffer) (written n filled) ∷ later) None m r in
    let w = write_wrote s.0 s.2.0 buffer filled n s.2.1 in
    accepted_loads w.contents.unit (unit_accepted (always_kept before s.0 s.1) w) a new (take n filled) w.bytes h
  where
    unit_accepted : {k : Model} → (k ≡ None) ⊎ IsKept k → (w : Wrote k filled n) → IsAccepted w.contents.unit
    unit_accepted (inl is) w = absurd (let e = w.is in cc)
    unit_accepted {k} (inr (u, kept)) w = (kept_in u w.contents (subst (Kept u) w.is kept)).now.accepted
