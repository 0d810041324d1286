-- Sets of locals, one bit a local, and what an instruction makes of the set after it. Assumes nothing.
use Rattle.std.specs.Prelude.{ℕ, ◌^◌, ◌<◌, cond, bit_and, bit_or, nat_lt}
use Rattle.std.specs.Int.{bit_not, w16}
use Rattle.bytecode.specs.declared.instr.Instr.{Instr}
use Rattle.bytecode.specs.declared.instr.Instr.TheVariants as I

-- the bit of a local; a local past the sixteenth has none
abbrev pub local_bit : ℕ → ℕ
local_bit n = cond (nat_lt n 16) (2 ^ n) 0

abbrev pub with_local : ℕ → ℕ → ℕ
with_local n s = bit_or s (local_bit n)

abbrev pub without_local : ℕ → ℕ → ℕ
without_local n s = bit_and s (bit_not w16 (local_bit n))

-- the set before the instruction, by the one after it
abbrev pub carry_live : Instr → ℕ → ℕ
carry_live I.Nop s = s
carry_live I.Halt s = s
carry_live (I.Lit k v) s = s
carry_live (I.LitFlag k b) s = s
carry_live I.Pop s = s
carry_live I.Dup s = s
carry_live I.Swap s = s
carry_live (I.Load n) s = with_local n s
carry_live (I.Store n) s = without_local n s
carry_live I.Add s = s
carry_live I.Sub s = s
carry_live I.Mul s = s
carry_live I.Div s = s
carry_live I.Eq s = s
carry_live I.Lt s = s
carry_live I.Not s = s
carry_live (I.Jmp d) s = s
carry_live (I.Jf d) s = s
carry_live (I.DropJmp d) s = s
carry_live I.In s = s
carry_live I.Out s = s

-- a set has no local past the sixteenth
abbrev pub IsSet : ℕ → Type 0
IsSet s = s < 2 ^ 16
