-- The calls on a workspace, with what they are given, and what they give back. Policies are left out. Assumes nothing.
use Rattle.std.specs.Prelude.{ℕ, List, ℤ}
use Rattle.bytecode.specs.declared.instr.Instr.{Instr}
use Rattle.bytecode.specs.declared.unit.Unit.{Unit as TheUnit}
use Rattle.machine.specs.declared.answer.Answer.{Answer as RunAnswer}
use Rattle.workspace.specs.declared.refusal.LoadFault.{LoadFault}
use Rattle.workspace.specs.declared.refusal.Refusal.{Refusal}
use Rattle.workspace.specs.declared.shown.Facts.{Facts}
use Rattle.workspace.specs.declared.shown.TakeCounts.{TakeCounts}

-- a token is given by its depth, and a buffer by what it holds
pub data Call : Type 0 where
  load : List ℕ → Call
  opens : Call
  propose : ℕ → ℕ → Instr → Call
  tidy : ℕ → Call
  keep : ℕ → Call
  abandon : ℕ → Call
  -- the inputs, the output buffer and the budget
  run : List ℤ → List ℤ → ℕ → Call
  write_out : List ℕ → Call
  facts_at : ℕ → Call
  take_counts : Call
  unit_now : Call

-- all that a call gives back, buffers and tokens included
pub data Answer : Type 0 where
  loaded : Answer
  opened : ℕ → Answer
  changed : Answer
  tidied : ℕ → Answer
  kept : Answer
  abandoned : Answer
  ran : RunAnswer → List ℤ → Answer
  -- the length of the file, and the buffer
  written : ℕ → List ℕ → Answer
  shown : Facts → Answer
  counted : TakeCounts → Answer
  is_unit : TheUnit → Answer
  not_loaded : LoadFault → Answer
  refused : Refusal → Answer
  -- with the token
  returned : Refusal → ℕ → Answer
  not_run : Refusal → List ℤ → Answer
  not_written : Refusal → List ℕ → Answer
