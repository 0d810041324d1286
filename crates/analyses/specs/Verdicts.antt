-- What the verifier finds of a unit by the type frames at its places. Assumes nothing.
use Rattle.std.specs.Prelude.{◌≡◌, ◌≢◌, ℕ, ◌<◌, ◌⊎◌, Some, None, Option, Result, Ok, Err}
use Rattle.bytecode.specs.declared.unit.Unit.{Unit as TheUnit}
use Rattle.facts.specs.declared.cell.TypeCell.{TypeCell}
use Rattle.facts.specs.declared.frame.Frame.{Frame}
use Rattle.facts.specs.declared.reason.Reason.{Reason}
use Rattle.facts.specs.declared.reason.Reason.TheVariants.{Clash}
use Rattle.facts.specs.Types.{reason}
use Rattle.analyses.specs.declared.verify.VerifierFault.{VerifierFault}
use Rattle.analyses.specs.Edges.{instr_at}

abbrev pub verifier_number : VerifierFault → ℕ
verifier_number fault = 8

-- why the instruction at place p is not applicable, if it is not
abbrev pub reason_in : TheUnit → (ℕ → Frame TypeCell) → ℕ → Option Reason
reason_in u f p = reason (instr_at u p) (f p)

-- at no place below end is an instruction inapplicable
abbrev pub NoneBelow : TheUnit → (ℕ → Frame TypeCell) → ℕ → Type 0
NoneBelow u f end = (p : ℕ) → p < end → reason_in u f p ≡ None

-- at no place below end is an instruction inapplicable in a frame that is not Clash
abbrev pub NoneButClash : TheUnit → (ℕ → Frame TypeCell) → ℕ → Type 0
NoneButClash u f end = (p : ℕ) → p < end → (reason_in u f p ≡ None) ⊎ (reason_in u f p ≡ Some Clash)

-- every instruction that a run may come to is applicable
abbrev pub Accepts : TheUnit → (ℕ → Frame TypeCell) → Type 0
Accepts u f = NoneBelow u f u.len

-- the lowest inapplicable place whose frame is not Clash, and where there is none, the lowest Clash
abbrev pub IsFirst : TheUnit → (ℕ → Frame TypeCell) → ℕ → Reason → Type 0
IsFirst u f p r = ((r ≢ Clash) × NoneButClash u f p) ⊎ ((r ≡ Clash) × NoneButClash u f u.len × NoneBelow u f p)

pub record Refused (u : TheUnit) (f : ℕ → Frame TypeCell) (fault : VerifierFault) : Type 0 where
  pub inside : fault.place < u.len
  pub there : reason_in u f fault.place ≡ Some fault.reason
  pub first : IsFirst u f fault.place fault.reason

-- what the verifier answers by the type frames f
abbrev pub Judged : TheUnit → (ℕ → Frame TypeCell) → Result (Unit {0}) VerifierFault → Type 0
Judged u f (Ok t) = Accepts u f
Judged u f (Err fault) = Refused u f fault

-- r is the only answer
abbrev pub OnlyVerdict : TheUnit → (ℕ → Frame TypeCell) → Result (Unit {0}) VerifierFault → Type 0
OnlyVerdict u f r = (s : Result (Unit {0}) VerifierFault) → Judged u f s → s ≡ r
