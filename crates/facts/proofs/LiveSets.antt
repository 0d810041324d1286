-- Sets of locals as numbers: the laws of union, how many members a set has, and that an instruction keeps their order. Assumes nothing.
use Rattle.std.proofs.Common.{◌≡◌, ℕ, ◌-◌, ◌/◌, ◌%◌, ◌^◌, ◌<◌, ◌≤◌, ◌⊎◌, min, max, eqb, true, false, not, ◌||◌, nat_lt, bit_and, bit_or, count_ones, sym, ap, ◌∙◌, inl, inr, arith}
use Rattle.std.specs.Prelude.{◌≢◌}
use Rattle.std.specs.Int.{bit_at, bit_not, w16}
use Rattle.std.proofs.lemmas.Bool.{cases_lt, cases_eq, cond_both, lt-ltb, ltb-true, ltb-false, eq-eqb, ne_eqb, eqb-true}
use Rattle.std.proofs.lemmas.Nat.{pow_pos, pow_below, ones-le, or_comm, or_lt, or_shr, and_le_l, zero_from_ones, ones_le_self}
use Rattle.std.proofs.lemmas.Nat.Bits.{and_pow, bit_at_and, bit_at_or, bit_at_not, bit_at-lt, bit_at_above, bit_at-zero, bit_at_lowest, bit_at-pow_same, bit_at-pow_other, same_from_bits}
use Rattle.std.proofs.lemmas.Bool.Decides.{nat_tests}
use lib.Arith.{bin_ind}
use lib.Bits.{or_self, or_zero_l, and_zero_r}
use lib.Count.{ones_step}
use Rattle.dataflow.specs.Mask.{has_bit}
use Rattle.bytecode.specs.declared.instr.Instr.{Instr}
use Rattle.bytecode.specs.declared.instr.Instr.TheVariants as I
use Rattle.facts.specs.Live.{local_bit, with_local, without_local, carry_live, IsSet}

pub union_associative : (a b c : ℕ) → bit_or (bit_or a b) c ≡ bit_or a (bit_or b c)
union_associative a b c = same_from_bits _ _ (λ i. simp bit_at_or (omega arith))

pub union_commutative : (a b : ℕ) → bit_or a b ≡ bit_or b a
union_commutative = or_comm

pub union_idempotent : (a : ℕ) → bit_or a a ≡ a
union_idempotent = or_self

pub union_neutral : (a : ℕ) → bit_or 0 a ≡ a
union_neutral = or_zero_l

pub union_is_set : (a b : ℕ) → IsSet a → IsSet b → IsSet (bit_or a b)
union_is_set = or_lt 16

-- ---- how many members

pub count_low : (s : ℕ) → IsSet s → count_ones s ≤ 16
count_low = ones-le 16

-- by the lowest bit and the others
pub count_rises : (a b : ℕ) → IsSet a → IsSet b → (bit_or a b ≡ a) ⊎ (count_ones a < count_ones (bit_or a b))
count_rises a b p q = bin_ind
    (λ (m : ℕ). (n : ℕ) → (bit_or m n ≡ m) ⊎ (count_ones m < count_ones (bit_or m n)))
    (λ n. elim (cases_eq (count_ones n) 0) [
      | inl none ↦ inl (zero_from_ones n none)
      | inr some ↦ inr (omega (arith, ones_le_self 0))
    ])
    (λ m before n.
    let high : bit_or m n / 2 ≡ bit_or (m / 2) (n / 2) = or_shr m n 1 in
    let low : bit_or m n % 2 ≡ max (m % 2) (n % 2) = simp bit_at_lowest at (bit_at_or m n 0) in
    let counted = ap count_ones high in
    let here = ones_step m in
    let there = ones_step (bit_or m n) in
    elim (before (n / 2)) [
      | inl same ↦ elim (cases_eq (bit_or m n % 2) (m % 2)) [
        | inl e ↦ inl (omega arith)
        | inr other ↦ inr (omega (arith, ap count_ones same))
      ]
      | inr more ↦ inr (omega arith)
    ])
    a b

-- ---- the order of sets

-- b has each bit of a
bit_at_below : (a b i : ℕ) → bit_or a b ≡ b → bit_at a i ≤ bit_at b i
bit_at_below a b i below = omega (arith, bit_at_or a b i, ap (λ s. bit_at s i) below)

below_from_bits : (a b : ℕ) → ((i : ℕ) → bit_at a i ≤ bit_at b i) → bit_or a b ≡ b
below_from_bits a b each = same_from_bits _ _ (λ i. omega (arith, bit_at_or a b i, each i))

with_monotone : (n a b : ℕ) → bit_or a b ≡ b → bit_or (with_local n a) (with_local n b) ≡ with_local n b
with_monotone n a b below =
    below_from_bits _ _ (λ i. omega (arith, bit_at_or a (local_bit n) i, bit_at_or b (local_bit n) i, bit_at_below a b i below))

without_monotone : (n a b : ℕ) → bit_or a b ≡ b → bit_or (without_local n a) (without_local n b) ≡ without_local n b
without_monotone n a b below =
    let kept = bit_not w16 (local_bit n) in
    below_from_bits _ _ (λ i. omega (arith, bit_at_and a kept i, bit_at_and b kept i, bit_at_below a b i below))

pub carry_live_monotone : (i : Instr) (a b : ℕ) → IsSet a → IsSet b → bit_or a b ≡ b → bit_or (carry_live i a) (carry_live i b) ≡ carry_live i b
carry_live_monotone (I.Load n) a b p q below = with_monotone n a b below
carry_live_monotone (I.Store n) a b p q below = without_monotone n a b below
carry_live_monotone i a b p q below = below

-- ---- the bit of a local

local_bit_is_set : (n : ℕ) → IsSet (local_bit n)
local_bit_is_set n =
    cond_both (nat_lt n 16) (2 ^ n) 0 IsSet (λ e. pow_below n 16 (ltb-true n 16 e)) (λ e. pow_pos 16)

pub carry_live_is_set : (i : Instr) (s : ℕ) → IsSet s → IsSet (carry_live i s)
carry_live_is_set (I.Load n) s p = union_is_set s (local_bit n) p (local_bit_is_set n)
carry_live_is_set (I.Store n) s p = omega (arith, and_le_l s (bit_not w16 (local_bit n)))
carry_live_is_set i s p = p

bit_at-local_same : (n : ℕ) → n < 16 → bit_at (local_bit n) n ≡ 1
bit_at-local_same n low = let inside : nat_lt n 16 ≡ true = lt-ltb n 16 low in rw inside (bit_at-pow_same n)

bit_at-local_other : (m n : ℕ) → m ≢ n → bit_at (local_bit n) m ≡ 0
bit_at-local_other m n other =
    cond_both (nat_lt n 16) (2 ^ n) 0 (λ x. bit_at x m ≡ 0) (λ e. bit_at-pow_other n m other) (λ e. bit_at-zero m)

bit_at-without : (m n s : ℕ) → IsSet s → bit_at (without_local n s) m ≡ min (bit_at s m) (1 - bit_at (local_bit n) m)
bit_at-without m n s p =
    let both = bit_at_and s (bit_not w16 (local_bit n)) m in
    elim (cases_lt m 16) [
      | inl low ↦ omega (arith, bit_at_not w16 (local_bit n) m (local_bit_is_set n) low)
      | inr high ↦ omega (arith, bit_at_above s 16 m p high)
    ]

-- ---- members

pub has_bit-union : (m a b : ℕ) → has_bit (bit_or a b) m ≡ (has_bit a m || has_bit b m)
has_bit-union m a b = grind (arith, nat_tests, bit_at_or a b m, bit_at-lt a m, bit_at-lt b m)

pub has_below : (m a b : ℕ) → bit_or a b ≡ b → has_bit a m ≡ true → has_bit b m ≡ true
has_below m a b below here = sym (ap (λ s. has_bit s m) below) ∙ has_bit-union m a b ∙ rw here

pub has_bit-with_same : (n s : ℕ) → n < 16 → has_bit (with_local n s) n ≡ true
has_bit-with_same n s low = eq-eqb _ _ (omega (arith, bit_at_or s (local_bit n) n, bit_at-local_same n low, bit_at-lt s n))

pub has_bit-with_more : (m n s : ℕ) → has_bit s m ≡ true → has_bit (with_local n s) m ≡ true
has_bit-with_more m n s here = rw (has_bit-union m s (local_bit n), here)

pub has_bit-without_other : (m n s : ℕ) → IsSet s → m ≢ n → has_bit s m ≡ true → has_bit (without_local n s) m ≡ true
has_bit-without_other m n s p other here =
    eq-eqb _ _ (omega (arith, bit_at-without m n s p, bit_at-local_other m n other, eqb-true (bit_at s m) 1 here))

pub has_bit-without_same : (n s : ℕ) → IsSet s → has_bit (without_local n s) n ≡ false
has_bit-without_same n s p = elim (cases_lt n 16) [
  | inl low ↦ ne_eqb _ _ (omega (arith, bit_at-without n n s p, bit_at-local_same n low))
  | inr high ↦ ne_eqb _ _ (omega (arith, bit_at-without n n s p, bit_at_above s 16 n p high))
]

-- the test that the code makes
pub has_bit_from_and : (n s : ℕ) → IsSet s → not (eqb (bit_and s (local_bit n)) 0) ≡ has_bit s n
has_bit_from_and n s p = cond_both (nat_lt n 16) (2 ^ n) 0 (λ x. not (eqb (bit_and s x) 0) ≡ has_bit s n)
    (λ e. rw (and_pow s n) (grind (arith, nat_tests, bit_at-lt s n, pow_pos n)))
    (λ e. rw (and_zero_r s) (sym (ne_eqb _ _ (omega (arith, bit_at_above s 16 n p (ltb-false n 16 e))))))
