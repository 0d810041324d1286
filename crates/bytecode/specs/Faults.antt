-- The refusal number of each fault, and the place that it names. Assumes nothing.
use Rattle.std.specs.Prelude.{ℕ}
use Rattle.bytecode.specs.declared.fault.FileFault.{FileFault}
use Rattle.bytecode.specs.declared.fault.FileFault.TheVariants.{Length, Check, Head, Count}
use Rattle.bytecode.specs.declared.fault.UnitFault.{UnitFault}
use Rattle.bytecode.specs.declared.fault.ReadFault.{ReadFault}
use Rattle.bytecode.specs.declared.fault.ReadFault.TheVariants.{File, Unit as InUnit}
use Rattle.bytecode.specs.declared.fault.TooShort.{TooShort}

abbrev pub file_number : FileFault → ℕ
file_number Length = 3
file_number Check = 4
file_number Head = 5
file_number Count = 6

abbrev pub unit_number : UnitFault → ℕ
unit_number fault = 7

abbrev pub short_number : TooShort → ℕ
short_number fault = 13

abbrev pub read_number : ReadFault → ℕ
read_number (File fault) = file_number fault
read_number (InUnit fault) = unit_number fault

-- 0 where no place is named
abbrev pub read_place : ReadFault → ℕ
read_place (File fault) = 0
read_place (InUnit fault) = fault.place
