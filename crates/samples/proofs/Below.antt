-- What holds at each place of a few.
use Rattle.std.proofs.Common.{◌≡◌, ℕ, zero, suc, ◌<◌, inl, inr, subst, arith}
use Rattle.std.proofs.lemmas.Bool.{cases_lt}

-- one after the other, place 0 first
abbrev pub Each : (ℕ → Type 0) → ℕ → Type 0
Each P zero = Unit {0}
Each P (suc n) = Each P n × P n

pub each_below : (P : ℕ → Type 0) (n : ℕ) → Each P n → (k : ℕ) → k < n → P k
each_below P zero all k lt = absurd (omega arith)
each_below P (suc n) all k lt = elim (cases_lt k n) [
  | inl below ↦ each_below P n all.0 k below
  | inr above ↦ let here : n ≡ k = omega arith in subst P here all.1
]
