-- Which file is a unit, and which refusal every other file gets. Assumes nothing.
use Rattle.std.specs.Prelude.{◌≡◌, ℕ, ◌+◌, ◌-◌, ◌*◌, ◌<◌, ◌≤◌, true, List, ◌++◌, map, length, take, drop, Ok, Err, Result, slice_index, slice_index_or}
use Rattle.bytecode.specs.declared.instr.Instr.{Instr}
use Rattle.bytecode.specs.declared.instr.Instr.TheVariants.{Nop}
use Rattle.bytecode.specs.declared.unit.Unit.{Unit as TheUnit}
use Rattle.bytecode.specs.declared.fault.FileFault.{FileFault}
use Rattle.bytecode.specs.declared.fault.FileFault.TheVariants.{Length, Check, Head, Count}
use Rattle.bytecode.specs.declared.fault.UnitFault.{UnitFault}
use Rattle.bytecode.specs.declared.fault.ReadFault.{ReadFault}
use Rattle.bytecode.specs.declared.fault.ReadFault.TheVariants.{File, Unit as InUnit}
use Rattle.bytecode.specs.Instructions.{word, sound}
use Rattle.bytecode.specs.Layout.{encoded, check, file, number_at, part}

-- the instructions of a unit
abbrev pub held : TheUnit → List Instr
held u = take u.len u.code

-- the file of a unit
abbrev pub bytes_of : TheUnit → List ℕ
bytes_of u = file u.locals (map word (held u))

-- the number of locals that a file says
abbrev pub locals_in : List ℕ → ℕ
locals_in f = slice_index f 1

-- the length is that of n instructions, 1 to 128
pub record Sized (f : List ℕ) (n : ℕ) : Type 0 where
  pub long : length f ≡ 6 + 6 * n
  pub some : 1 ≤ n
  pub most : n ≤ 128

-- the last two bytes are the check of those before
abbrev pub Summed : List ℕ → Type 0
Summed f = number_at f (length f - 2) ≡ check (take (length f - 2) f)

-- the first byte is 1, and there are at most 16 locals
abbrev pub Headed : List ℕ → Type 0
Headed f = (slice_index f 0 ≡ 1) × (locals_in f ≤ 16)

-- the file says that it has n instructions
abbrev pub Counted : List ℕ → ℕ → Type 0
Counted f n = number_at f 2 ≡ n

-- the file as a whole is right, and has n instructions
pub record Framed (f : List ℕ) (n : ℕ) : Type 0 where
  pub sized : Sized f n
  pub summed : Summed f
  pub headed : Headed f
  pub counted : Counted f n

-- the file as a whole gets this fault: the first test that fails
abbrev pub FileGets : List ℕ → FileFault → Type 0
FileGets f Length = (n : ℕ) → Sized f n → ⊥
FileGets f Check = (n : ℕ) × Sized f n × (Summed f → ⊥)
FileGets f Head = (n : ℕ) × Sized f n × Summed f × (Headed f → ⊥)
FileGets f Count = (n : ℕ) × Sized f n × Summed f × Headed f × (Counted f n → ⊥)

-- six bytes are those of an instruction that may stand at place p of n in a unit of L locals
pub record Reads (bytes : List ℕ) (L p n : ℕ) (i : Instr) : Type 0 where
  pub same : encoded (word i) ≡ bytes
  pub allowed : sound L p n i ≡ true

-- what six bytes are at place p of n in a unit of L locals: the instruction that reads there, or a fault that names the place
abbrev pub Decoded : List ℕ → ℕ → ℕ → ℕ → Result Instr UnitFault → Type 0
Decoded bytes L p n (Ok i) = Reads bytes L p n i
Decoded bytes L p n (Err fault) = (fault.place ≡ p) × ((i : Instr) → Reads bytes L p n i → ⊥)

-- some instruction reads at place k of a file of n
abbrev pub Good : List ℕ → ℕ → ℕ → Type 0
Good f n k = (i : Instr) × Reads (part f k) (locals_in f) k n i

-- p is the lowest place of n at which no instruction reads
pub record LowestBad (f : List ℕ) (n p : ℕ) : Type 0 where
  pub inside : p < n
  pub bad : Good f n p → ⊥
  pub below : (k : ℕ) → k < p → Good f n k

-- the code of a file of n: an instruction that reads at each place, and NOP past them
pub record CodeRead (f : List ℕ) (n : ℕ) (code : List Instr) : Type 0 where
  pub whole : length code ≡ 128
  pub reads : (k : ℕ) → k < n → Reads (part f k) (locals_in f) k n (slice_index_or code k Nop)
  pub blank : (k : ℕ) → n ≤ k → k < 128 → slice_index_or code k Nop ≡ Nop

-- the file gets this fault
abbrev pub Gets : List ℕ → ReadFault → Type 0
Gets f (File fault) = FileGets f fault
Gets f (InUnit fault) = (n : ℕ) × Framed f n × LowestBad f n fault.place

-- what was read into the unit u, or the fault
abbrev pub reading : Result (Unit {0}) ReadFault → TheUnit → Result TheUnit ReadFault
reading (Ok done) u = Ok u
reading (Err fault) u = Err fault

-- what reading the file answers
abbrev pub Outcome : List ℕ → Result TheUnit ReadFault → Type 0
Outcome f (Ok u) = bytes_of u ≡ f
Outcome f (Err fault) = Gets f fault

-- r is the only answer
abbrev pub Only : List ℕ → Result TheUnit ReadFault → Type 0
Only f r = (s : Result TheUnit ReadFault) → Outcome f s → s ≡ r

-- a buffer that held the bytes before holds those after: first the n bytes of f, and then what it had
pub record Written (f before after : List ℕ) (n : ℕ) : Type 0 where
  pub count : n ≡ length f
  pub bytes : after ≡ f ++ drop n before

-- wherever the unit that was read is written, its bytes are the file's
abbrev pub WritesBack : List ℕ → Result TheUnit ReadFault → Type 0
WritesBack f (Ok u) = (before after : List ℕ) (n : ℕ) → Written (bytes_of u) before after n → take n after ≡ f
WritesBack f (Err fault) = Unit {0}

-- whatever reading the first n bytes of the buffer answers, it answers the unit
abbrev pub ReadsBack : TheUnit → List ℕ → ℕ → Type 0
ReadsBack u buffer n = (r : Result TheUnit ReadFault) → Outcome (take n buffer) r → r ≡ Ok u

-- what was written into a buffer, or the buffer unchanged where it is too short for the file
abbrev pub WriteOutcome : {E : Type 0} → List ℕ → List ℕ → List ℕ → Result ℕ E → Type 0
WriteOutcome f before after (Ok n) = Written f before after n
WriteOutcome f before after (Err fault) = (length before < length f) × (after ≡ before)
