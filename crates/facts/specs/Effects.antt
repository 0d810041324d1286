-- What each instruction does to what is known, over cells of any sort. Assumes nothing.
use Rattle.std.specs.Prelude.{ℕ, Bool, false, List, [], ◌∷◌, ◌++◌, length, drop, ℤ, Some, None, Option, nat_lt, slice_index_or, slice_set}
use Rattle.bytecode.specs.declared.instr.Instr.{Instr}
use Rattle.bytecode.specs.declared.instr.Instr.TheVariants as I
use Rattle.machine.specs.declared.arith.Binary.{Binary}
use Rattle.machine.specs.declared.arith.Binary.TheVariants as B
use Rattle.machine.specs.Machine.{Kind, start, row}
use Rattle.facts.specs.Held.{Held}

-- what is known of the values that instructions make, by what is known of those that they take
pub record Domain (C : Type 0) : Type 0 where
  -- nothing is known
  pub top : C
  pub number : ℤ → C
  pub flag : Bool → C
  pub input : C
  -- of a and b, where b is on top
  pub operation : Binary → C → C → C
  pub opposite : C → C
  -- no run goes on from a division by such a value
  pub is_zero : C → Bool
  -- no run goes on from a JF on such a value along its jump, if that is asked, or else to the next place
  pub decides : Bool → C → Bool

-- the kinds of the values that an instruction takes, top first: those of the machine's table, which are the same in every state
abbrev pub takes_of : Instr → List Kind
takes_of i = (row i start None false).takes

pub record Effect (C : Type 0) : Type 0 where
  -- in the place of the values taken, top first
  pub puts : List C
  -- the local that is loaded, if one is
  pub loads : Option C
  pub locals : List C
  -- whether no run goes on along the jump, if that is asked, or else to the next place
  pub is_dead : Bool → Bool

module _ {C : Type 0} (D : Domain C) where
  -- the cell k below the top
  abbrev pub cell_at : Held C → ℕ → C
  cell_at a k = slice_index_or a.stack k D.top

  abbrev pub local_at : Held C → ℕ → C
  local_at a n = slice_index_or a.locals n D.top

  abbrev pub plain : Held C → List C → Effect C
  plain a xs = record { puts = xs; loads = None; locals = a.locals; is_dead = λ j. false }

  -- b is on top, and a is below it
  abbrev pub operates : Binary → Held C → Effect C
  operates op a = plain a (D.operation op (cell_at a 1) (cell_at a 0) ∷ [])

  -- the table
  abbrev pub effect : Instr → Held C → Effect C
  effect I.Nop a = plain a []
  effect I.Halt a = plain a []
  effect (I.Lit k n) a = plain a (D.number n ∷ [])
  effect (I.LitFlag k b) a = plain a (D.flag b ∷ [])
  effect I.Pop a = plain a []
  effect I.Dup a = plain a (cell_at a 0 ∷ cell_at a 0 ∷ [])
  effect I.Swap a = plain a (cell_at a 1 ∷ cell_at a 0 ∷ [])
  effect (I.Load n) a = record { puts = local_at a n ∷ []; loads = Some (local_at a n); locals = a.locals; is_dead = λ j. false }
  effect (I.Store n) a = record { puts = []; loads = None; locals = slice_set a.locals n (cell_at a 0); is_dead = λ j. false }
  effect I.Add a = operates B.Add a
  effect I.Sub a = operates B.Sub a
  effect I.Mul a = operates B.Mul a
  effect I.Div a = record { puts = D.operation B.Div (cell_at a 1) (cell_at a 0) ∷ []; loads = None; locals = a.locals; is_dead = λ j. D.is_zero (cell_at a 0) }
  effect I.Eq a = operates B.Eq a
  effect I.Lt a = operates B.Lt a
  effect I.Not a = plain a (D.opposite (cell_at a 0) ∷ [])
  effect (I.Jmp d) a = plain a []
  effect (I.Jf d) a = record { puts = []; loads = None; locals = a.locals; is_dead = λ j. D.decides j (cell_at a 0) }
  effect (I.DropJmp d) a = plain a []
  effect I.In a = plain a (D.input ∷ [])
  effect I.Out a = plain a []

  -- after the instruction
  abbrev pub after : Instr → Held C → Held C
  after i a = record { stack = (effect i a).puts ++ drop (length (takes_of i)) a.stack; locals = (effect i a).locals }

  -- the stack has fewer values than the instruction takes
  abbrev pub is_too_few : Instr → Held C → Bool
  is_too_few i a = nat_lt (length a.stack) (length (takes_of i))

  -- more than 8 values would be left
  abbrev pub is_too_many : Instr → Held C → Bool
  is_too_many i a = nat_lt 8 (length (after i a).stack)

-- how many values the instruction takes
abbrev pub takes_count : Instr → ℕ
takes_count i = length (takes_of i)
