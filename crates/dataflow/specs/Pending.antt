-- A set of pending nodes, and what adding to it and taking from it do. Assumes nothing.
use Rattle.std.specs.Prelude.{◌≡◌, ◌≢◌, ℕ, ◌<◌, Bool, true, false, ◌&&◌, Some, None, Option, nat_lt}

-- no node is pending
abbrev pub IsEmpty : (ℕ → Bool) → Type 0
IsEmpty p = (v : ℕ) → p v ≡ false

-- the pending nodes are those below n, of the 128 that there are
abbrev pub AreBelow : ℕ → (ℕ → Bool) → Type 0
AreBelow n p = (v : ℕ) → p v ≡ (nat_lt v n && nat_lt v 128)

-- every node but v is as it was
abbrev pub SameBut : ℕ → (ℕ → Bool) → (ℕ → Bool) → Type 0
SameBut v p q = (w : ℕ) → w ≢ v → q w ≡ p w

-- v was put into p, which is q then, where it is one of 128; the answer says whether it is
pub record Adds (v : ℕ) (p q : ℕ → Bool) (answer : Bool) : Type 0 where
  pub answers : answer ≡ nat_lt v 128
  pub added : v < 128 → q v ≡ true
  pub others : SameBut v p q
  pub refused : answer ≡ false → q v ≡ p v

-- a member of p was taken, and q is left; none where p is empty
abbrev pub Takes : (ℕ → Bool) → (ℕ → Bool) → Option ℕ → Type 0
Takes p q None = IsEmpty p × IsEmpty q
Takes p q (Some v) = (p v ≡ true) × (q v ≡ false) × SameBut v p q × (v < 128)
