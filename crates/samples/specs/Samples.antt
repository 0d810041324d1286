-- The samples, over the definitions of the crates below. Assumes nothing.
use Rattle.std.specs.Prelude.{◌≡◌, ℕ, ◌≤◌, Bool, false, List, [], ◌∷◌, ◌++◌, drop, length, map, replicate, ℤ, pos, negsuc, Some, None}
use Rattle.bytecode.specs.declared.instr.Instr.{Instr}
use Rattle.bytecode.specs.declared.instr.Instr.TheVariants as I
use Rattle.bytecode.specs.Instructions.{word}
use Rattle.bytecode.specs.Layout.{file}
use Rattle.machine.specs.declared.value.Value.TheVariants as V
use Rattle.machine.specs.declared.arith.Binary.TheVariants as B
use Rattle.machine.specs.declared.ending.Ending.TheVariants.{Running, Halted}
use Rattle.machine.specs.Machine.{operate, whole_run}
use Rattle.facts.specs.declared.cell.TypeCell.{TypeCell}
use Rattle.facts.specs.declared.cell.TypeCell.TheVariants as T
use Rattle.facts.specs.declared.cell.ConstCell.{ConstCell}
use Rattle.facts.specs.declared.cell.ConstCell.TheVariants as C
use Rattle.facts.specs.declared.frame.Frame.TheVariants.{At, Clash}
use Rattle.facts.specs.Held.{Held}
use Rattle.facts.specs.Frames.{joined_frames}
use Rattle.facts.specs.TypeCells.{join_types}
use Rattle.facts.specs.ConstCells.{join_consts}
use Rattle.facts.specs.Constants.{carry_constants}
use Rattle.facts.specs.declared.reason.Reason.TheVariants.{TooMany}
use Rattle.facts.specs.Types.{reason_number}
use Rattle.workspace.specs.declared.refusal.LoadFault.{LoadFault}
use Rattle.workspace.specs.declared.refusal.LoadFault.TheVariants as L
use Rattle.workspace.specs.Refusals.{load_number, load_place}
use Rattle.workspace.specs.Calls.{Call, Answer, load, opens, tidy, keep, run, write_out, loaded, opened, tidied, kept, ran, written, not_loaded}
use Rattle.workspace.specs.Does.{Model}
use Rattle.workspace.specs.Histories.{Event, Runs, calls_of, answers_of}

-- these calls can be made on a new workspace, and whichever way they go, they are answered so, take counts aside
pub record Answered (calls : List Call) (answers : List Answer) : Type 0 where
  pub possible : (es : List Event) × (m : Model) × Runs None es m × (calls_of es ≡ calls)
  pub always : (es : List Event) (m : Model) → Runs None es m → calls_of es ≡ calls → answers_of es ≡ answers

-- the file of a code over L locals
abbrev pub file_of : ℕ → List Instr → List ℕ
file_of L code = file L (map word code)

-- what is known to be 5 goes through a local and out
abbrev pub five : List Instr
five = I.Lit 0 (pos 5) ∷ I.Store 0 ∷ I.Load 0 ∷ I.Out ∷ I.Halt ∷ []

-- what the rules make of it
abbrev pub tidy_five : List Instr
tidy_five = I.Lit 0 (pos 5) ∷ I.Pop ∷ I.Lit 0 (pos 5) ∷ I.Out ∷ I.Halt ∷ []

abbrev pub halt : List Instr
halt = I.Halt ∷ []

-- a jump to itself
abbrev pub spin : List Instr
spin = I.Jmp (pos 0) ∷ []

-- a jump to before the first place
abbrev pub jump_out : List Instr
jump_out = I.Jmp (negsuc 0) ∷ []

-- n times LIT 0 0, and HALT
abbrev pub zeros : ℕ → List Instr
zeros n = replicate n (I.Lit 0 (pos 0)) ++ I.Halt ∷ []

-- the instruction at place 0 may not stand there
abbrev pub jump_fault : LoadFault
jump_fault = L.Unit (record { place = 0 })

-- the ninth literal finds eight values on the stack
abbrev pub ninth_fault : LoadFault
ninth_fault = L.Verifier (record { place = 8; reason = TooMany })

pub record Samples : Type 0 where
  -- 7 DIV -2 is -3
  pub quotient : operate B.Div (pos 7) (negsuc 1) ≡ Some (V.Num (negsuc 2))
  -- -2147483648 DIV -1 is -2147483648
  pub corner : operate B.Div (negsuc 2147483647) (negsuc 0) ≡ Some (V.Num (negsuc 2147483647))
  -- 2147483647 ADD 1 is -2147483648
  pub over : operate B.Add (pos 2147483647) (pos 1) ≡ Some (V.Num (negsuc 2147483647))
  -- LIT 0 5, STORE 0, LOAD 0, OUT, HALT, without inputs, with room for one output and a budget of 100, writes 5 and halts at
  -- place 4 after 4 steps
  pub halts : whole_run five [] 1 100 ≡ record { ending = Halted; place = 4; steps = 4; used = 0; outputs = pos 5 ∷ [] }
  -- with a budget of 0 the same code is Running at place 0 after no step
  pub none : whole_run five [] 1 0 ≡ record { ending = Running; place = 0; steps = 0; used = 0; outputs = [] }
  -- JMP 0 never ends: whatever the inputs, the room and the budget, it stands at place 0 when the budget is spent
  pub spins : (inputs : List ℤ) (room budget : ℕ) → whole_run spin inputs room budget ≡ record { ending = Running; place = 0; steps = budget; used = 0; outputs = [] }
  -- Num joined with Flag is Unusable
  pub unlike_kinds : (join_types T.Num T.Flag ≡ T.Unusable) × (join_types T.Flag T.Num ≡ T.Unusable)
  -- frames of types of heights 1 and 2 join to Clash
  pub unlike_types : (a b : Held TypeCell) → length a.stack ≡ 1 → length b.stack ≡ 2 → (joined_frames join_types (At a) (At b) ≡ Clash) × (joined_frames join_types (At b) (At a) ≡ Clash)
  -- and so do frames of constants
  pub unlike_constants : (a b : Held ConstCell) → length a.stack ≡ 1 → length b.stack ≡ 2 → (joined_frames join_consts (At a) (At b) ≡ Clash) × (joined_frames join_consts (At b) (At a) ≡ Clash)
  -- ADD on a known flag and, below it, a known 3 gives Varies, whatever lies below and in the locals, which stay (a stack has at most 8 values)
  pub flag_on_three : (b : Bool) (below locals : List ConstCell) → length below ≤ 6 →
      carry_constants I.Add false (At (record { stack = C.Flag b ∷ C.Num (pos 3) ∷ below; locals = locals })) ≡ At (record { stack = C.Varies ∷ below; locals = locals })
  -- and so it does on a known 3 and, below it, a known flag
  pub three_on_flag : (b : Bool) (below locals : List ConstCell) → length below ≤ 6 →
      carry_constants I.Add false (At (record { stack = C.Num (pos 3) ∷ C.Flag b ∷ below; locals = locals })) ≡ At (record { stack = C.Varies ∷ below; locals = locals })
  -- HALT alone, with no locals, is the file 01 00 00 01 01 00 00 00 00 00 00 03
  pub halt_file : file_of 0 halt ≡ 1 ∷ 0 ∷ 0 ∷ 1 ∷ 1 ∷ 0 ∷ 0 ∷ 0 ∷ 0 ∷ 0 ∷ 0 ∷ 3 ∷ []
  -- that file is loaded, and is what is then written out, at the front of any buffer that has room for it
  pub halt_written : (buffer : List ℕ) → 12 ≤ length buffer →
      Answered (load (file_of 0 halt) ∷ write_out buffer ∷ []) (loaded ∷ written 12 (file_of 0 halt ++ drop 12 buffer) ∷ [])
  -- JMP -1 alone, with no locals, is refused by the layer of the unit
  pub jump_refused : Answered (load (file_of 0 jump_out) ∷ []) (not_loaded jump_fault ∷ [])
  -- that refusal has the number 7
  pub jump_number : load_number jump_fault ≡ 7
  -- and names place 0
  pub jump_place : load_place jump_fault ≡ 0
  -- JMP 0 alone, with no locals, is loaded, and never ends: for every input list, output buffer and budget the run stands at
  -- place 0 when the budget is spent, with no input used and nothing written
  pub spin_runs : (inputs buffer : List ℤ) (budget : ℕ) →
      Answered (load (file_of 0 spin) ∷ run inputs buffer budget ∷ [])
      (loaded ∷ ran (record { ending = Running; place = 0; steps = budget; used = 0; written = 0 }) buffer ∷ [])
  -- eight LIT 0 0 and a HALT, with no locals, are loaded
  pub eight_loaded : Answered (load (file_of 0 (zeros 8)) ∷ []) (loaded ∷ [])
  -- nine LIT 0 0 and a HALT are refused by the verifier
  pub nine_refused : Answered (load (file_of 0 (zeros 9)) ∷ []) (not_loaded ninth_fault ∷ [])
  -- that refusal has the number 8
  pub nine_number : load_number ninth_fault ≡ 8
  -- it names place 8
  pub nine_place : load_place ninth_fault ≡ 8
  -- and its reason has the number 2
  pub nine_reason : reason_number TooMany ≡ 2
  -- LIT 0 5, STORE 0, LOAD 0, OUT, HALT with one local is loaded, tidied in an attempt by two changes, kept, and written out
  -- as the file of LIT 0 5, POP, LIT 0 5, OUT, HALT
  pub five_tidied : (buffer : List ℕ) → 36 ≤ length buffer →
      Answered (load (file_of 1 five) ∷ opens ∷ tidy 1 ∷ keep 1 ∷ write_out buffer ∷ [])
      (loaded ∷ opened 1 ∷ tidied 2 ∷ kept ∷ written 36 (file_of 1 tidy_five ++ drop 36 buffer) ∷ [])
