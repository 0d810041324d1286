-- What a turn that goes on did: which instruction, applicable and not stopping, and the state after it.
use Rattle.std.proofs.Common.{◌≡◌, ℕ, Bool, true, false, cond, List, length, ℤ, pos, ◌+ℤ◌, Some, None, Option, refl, subst}
use Rattle.std.specs.List.{slice_get}
use Rattle.bytecode.specs.declared.instr.Instr.{Instr}
use Rattle.bytecode.specs.Instructions.{inside}
use Rattle.machine.specs.declared.ending.Ending.{Ending}
use Rattle.machine.specs.declared.ending.Ending.TheVariants.{Stuck}
use Rattle.machine.specs.Machine.{State, Turn, ends, goes, Row, row_in, stack_after, applicable, arrives, proceeds, turn_at, turn}

-- the state after the row w in the state s, at place p
abbrev pub moved : Row → State → ℕ → State
moved w s p = record { place = p; stack = stack_after w s.stack; locals = w.locals; used = w.used; outputs = w.outputs }

-- the instruction i of the code takes the state s to the state t
pub record Moves (code : List Instr) (inputs : List ℤ) (room : ℕ) (s : State) (i : Instr) (t : State) : Type 0 where
  pub stands : slice_get code s.place ≡ Some i
  pub able : applicable (row_in inputs room s i) s.stack ≡ true
  pub goes_on : (row_in inputs room s i).stops ≡ None
  pub arrives_at : inside (length code) (pos s.place +ℤ (row_in inputs room s i).by) ≡ Some t.place
  pub left : t ≡ moved (row_in inputs room s i) s t.place

module _ (code : List Instr) (inputs : List ℤ) (room : ℕ) (s : State) where
  -- where the turn goes on, an instruction does
  abbrev MovesIf : Turn → Type 0
  MovesIf (ends e) = Unit {0}
  MovesIf (goes t) = (i : Instr) × Moves code inputs room s i t

  module _ (i : Instr) (at : slice_get code s.place ≡ Some i) where
    abbrev here : Row
    here = row_in inputs room s i

    moves_arriving : applicable here s.stack ≡ true → here.stops ≡ None → (o : Option ℕ) →
        inside (length code) (pos s.place +ℤ here.by) ≡ o → MovesIf (arrives here s o)
    moves_arriving able on None e = tt
    moves_arriving able on (Some p) e = (i, record { stands = at; able = able; goes_on = on; arrives_at = e; left = refl })

    moves_proceeding : applicable here s.stack ≡ true → (o : Option Ending) → here.stops ≡ o → MovesIf (proceeds (length code) here s o)
    moves_proceeding able None on = moves_arriving able on _ refl
    moves_proceeding able (Some e) on = tt

    moves_testing : (b : Bool) → applicable here s.stack ≡ b → MovesIf (cond b (proceeds (length code) here s here.stops) (ends Stuck))
    moves_testing true able = moves_proceeding able _ refl
    moves_testing false able = tt

  moves_at : (o : Option Instr) → slice_get code s.place ≡ o → MovesIf (turn_at (length code) inputs room s o)
  moves_at None at = tt
  moves_at (Some i) at = moves_testing i at _ refl

  pub goes_by_move : (t : State) → turn code inputs room s ≡ goes t → (i : Instr) × Moves code inputs room s i t
  goes_by_move t e = subst MovesIf e (moves_at _ refl)
