-- What a call does, by its cases: a load goes by its file, every other call by its checks.
use Rattle.std.proofs.Common.{◌≡◌, ℕ, ◌<◌, Bool, true, false, List, length, Some, None, Option, ltb, eqb, refl}
use Rattle.std.proofs.lemmas.Bool.{and_parts, not-false, ltb-true, eqb-true}
use Rattle.workspace.specs.declared.refusal.Refusal.{Refusal}
use Rattle.workspace.specs.Contents.{Contents}
use Rattle.workspace.specs.Calls.{Call, Answer, load, opens, propose, tidy, keep, abandon, run, write_out, facts_at, take_counts, unit_now}
use Rattle.workspace.specs.Does.{Model, Does, By, LoadsAt, refusal, depth, first}

-- a check that passes, before the others
pub passes : (b : Bool) (r : Refusal) (next : Option Refusal) → first b r next ≡ None → (b ≡ false) × (next ≡ None)
passes true r next e = cc
passes false r next e = (refl, e)

-- the token that passes is the innermost attempt's
pub innermost : (d : ℕ) (c : Contents) → refusal (abandon d) (Some c) ≡ None → (0 < d) × (d ≡ length c.opened)
innermost d c fine =
    let both = and_parts (ltb 0 d) (eqb d (length c.opened)) (not-false _ (passes _ _ _ fine).0) in
    (ltb-true 0 d both.0, eqb-true d (length c.opened) both.1)

-- a load has no checks
pub no_load : (file : List ℕ) (m : Model) (a : Answer) (m' : Model) → By (refusal (load file) m) (load file) m a m' → ⊥
no_load file None a m' h = h
no_load file (Some c) a m' h = h

module _ (m : Model) (a : Answer) (m' : Model) (P : Call → Type 0)
    (loading : (file : List ℕ) → LoadsAt (depth m) file m a m' → P (load file))
    (checked : (call : Call) → By (refusal call m) call m a m' → P call) where
  pub does_cases : (call : Call) → Does call m a m' → P call
  does_cases (load file) h = loading file h
  does_cases opens h = checked opens h
  does_cases (propose d p i) h = checked (propose d p i) h
  does_cases (tidy d) h = checked (tidy d) h
  does_cases (keep d) h = checked (keep d) h
  does_cases (abandon d) h = checked (abandon d) h
  does_cases (run inputs buffer budget) h = checked (run inputs buffer budget) h
  does_cases (write_out buffer) h = checked (write_out buffer) h
  does_cases (facts_at p) h = checked (facts_at p) h
  does_cases take_counts h = checked take_counts h
  does_cases unit_now h = checked unit_now h
