-- The number of each refusal, and the place that it names. Assumes nothing.
use Rattle.std.specs.Prelude.{ℕ}
use Rattle.bytecode.specs.declared.fault.ReadFault.{ReadFault}
use Rattle.bytecode.specs.declared.fault.ReadFault.TheVariants.{File, Unit as InUnit}
use Rattle.bytecode.specs.Faults.{file_number, unit_number}
use Rattle.analyses.specs.Verdicts.{verifier_number}
use Rattle.workspace.specs.declared.refusal.LoadFault.{LoadFault}
use Rattle.workspace.specs.declared.refusal.LoadFault.TheVariants as L
use Rattle.workspace.specs.declared.refusal.Refusal.{Refusal}
use Rattle.workspace.specs.declared.refusal.Refusal.TheVariants.{AttemptOpen, NoUnit, TooDeep, NotInnermost, NoPlace, NoRule, TooShort}

-- the lower fault, whole
abbrev pub from_read : ReadFault → LoadFault
from_read (File fault) = L.File fault
from_read (InUnit fault) = L.Unit fault

abbrev pub load_number : LoadFault → ℕ
load_number L.AttemptOpen = 1
load_number (L.File fault) = file_number fault
load_number (L.Unit fault) = unit_number fault
load_number (L.Verifier fault) = verifier_number fault

-- 0 where no place is named
abbrev pub load_place : LoadFault → ℕ
load_place L.AttemptOpen = 0
load_place (L.File fault) = 0
load_place (L.Unit fault) = fault.place
load_place (L.Verifier fault) = fault.place

abbrev pub refusal_number : Refusal → ℕ
refusal_number AttemptOpen = 1
refusal_number NoUnit = 2
refusal_number TooDeep = 9
refusal_number NotInnermost = 10
refusal_number NoPlace = 11
refusal_number NoRule = 12
refusal_number TooShort = 13
