-- The table of the instructions: number in the file, operands, whether the next place can follow, and weight. Assumes nothing.
use Rattle.std.specs.Prelude.{◌≡◌, ℕ, ◌+◌, Bool, true, false, cond, ◌&&◌, ℤ, pos, negsuc, ◌+ℤ◌, is_some, Some, None, Option, int_le, int_lt, nat_le, nat_lt}
use Rattle.bytecode.specs.declared.instr.Instr.{Instr}
use Rattle.bytecode.specs.declared.instr.Instr.TheVariants.{Nop, Halt, Lit, LitFlag, Pop, Dup, Swap, Load, Store, Add, Sub, Mul, Div, Eq, Lt, Not, Jmp, Jf, DropJmp, In, Out}
use Rattle.bytecode.specs.declared.word.Word.{Word}

-- what an instruction names besides its operation
pub data Operands : Type 0 where
  bare : Operands
  -- a drop count and a literal
  number : ℕ → ℤ → Operands
  flag : ℕ → Bool → Operands
  local : ℕ → Operands
  -- a displacement from the jump's own place
  jump : ℤ → Operands

pub record Row : Type 0 where
  -- the operation's number in the unit file
  pub code : ℕ
  pub operands : Operands
  -- whether the next place can follow
  pub falls : Bool
  -- how much is left for the rewrite rules to do
  pub weight : ℕ

abbrev pub row : Instr → Row
row Nop = record { code = 0; operands = bare; falls = true; weight = 2 }
row Halt = record { code = 1; operands = bare; falls = false; weight = 0 }
row (Lit k v) = record { code = 2; operands = number k v; falls = true; weight = 1 }
row (LitFlag k b) = record { code = 3; operands = flag k b; falls = true; weight = 1 }
row Pop = record { code = 4; operands = bare; falls = true; weight = 1 }
row Dup = record { code = 5; operands = bare; falls = true; weight = 2 }
row Swap = record { code = 6; operands = bare; falls = true; weight = 2 }
row (Load x) = record { code = 7; operands = local x; falls = true; weight = 2 }
row (Store x) = record { code = 8; operands = local x; falls = true; weight = 2 }
row Add = record { code = 9; operands = bare; falls = true; weight = 2 }
row Sub = record { code = 10; operands = bare; falls = true; weight = 2 }
row Mul = record { code = 11; operands = bare; falls = true; weight = 2 }
row Div = record { code = 12; operands = bare; falls = true; weight = 2 }
row Eq = record { code = 13; operands = bare; falls = true; weight = 2 }
row Lt = record { code = 14; operands = bare; falls = true; weight = 2 }
row Not = record { code = 15; operands = bare; falls = true; weight = 2 }
row (Jmp d) = record { code = 16; operands = jump d; falls = false; weight = 2 }
row (Jf d) = record { code = 17; operands = jump d; falls = true; weight = 2 }
row (DropJmp d) = record { code = 18; operands = jump d; falls = false; weight = 1 }
row In = record { code = 19; operands = bare; falls = true; weight = 2 }
row Out = record { code = 20; operands = bare; falls = true; weight = 2 }

-- the instruction has this number and no operands
abbrev pub IsBare : ℕ → Instr → Type 0
IsBare op i = ((row i).operands ≡ bare) × ((row i).code ≡ op)

-- the drop count in the file, 0 where the operation has none
abbrev pub drops_of : Operands → ℕ
drops_of bare = 0
drops_of (number k v) = k
drops_of (flag k b) = k
drops_of (local x) = 0
drops_of (jump d) = 0

-- the argument in the file, 0 where the operation has none
abbrev pub arg_of : Operands → ℤ
arg_of bare = pos 0
arg_of (number k v) = v
arg_of (flag k b) = cond b (pos 1) (pos 0)
arg_of (local x) = pos x
arg_of (jump d) = d

-- the word of an instruction
abbrev pub word : Instr → Word
word i = record { op = (row i).code; drops = drops_of (row i).operands; arg = arg_of (row i).operands }

-- a signed number of 32 bits
abbrev pub in32 : ℤ → Bool
in32 z = int_le (negsuc 2147483647) z && int_lt z (pos 2147483648)

-- the machine has such operands: at most 2 values are dropped, and there are 16 locals
abbrev pub in_range : Operands → Bool
in_range bare = true
in_range (number k v) = nat_le k 2 && in32 v
in_range (flag k b) = nat_le k 2
in_range (local x) = nat_lt x 16
in_range (jump d) = in32 d

-- a place, where it is one of n
abbrev pub inside : ℕ → ℤ → Option ℕ
inside n (pos p) = cond (nat_lt p n) (Some p) None
inside n (negsuc p) = None

-- numbers and no `Site`, as in all that follows: what is said of units has no interpreter's or reader's type in it
-- operands that may stand at place p of n in a unit of L locals: the local is one of them, and the jump leads to a place
abbrev pub fitting : ℕ → ℕ → ℕ → Operands → Bool
fitting L p n bare = true
fitting L p n (number k v) = true
fitting L p n (flag k b) = true
fitting L p n (local x) = nat_lt x L
fitting L p n (jump d) = is_some (inside n (pos p +ℤ d))

-- there is a next place, where one can follow
abbrev pub followed : ℕ → ℕ → Bool → Bool
followed p n true = nat_lt (p + 1) n
followed p n false = true

-- the instruction may stand at place p of n in a unit of L locals, if the machine has it
abbrev pub standing : ℕ → ℕ → ℕ → Instr → Bool
standing L p n i = fitting L p n (row i).operands && followed p n (row i).falls

-- the machine has the instruction, and it may stand at place p of n in a unit of L locals
abbrev pub sound : ℕ → ℕ → ℕ → Instr → Bool
sound L p n i = in_range (row i).operands && standing L p n i

-- the word is that of an instruction that the machine has
pub record Spells (w : Word) (i : Instr) : Type 0 where
  pub same : word i ≡ w
  pub operands_in_range : in_range (row i).operands ≡ true

-- the machine has no instruction whose word this is
abbrev pub SpellsNone : Word → Type 0
SpellsNone w = (i : Instr) → Spells w i → ⊥
