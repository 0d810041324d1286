-- The highest node of a set. Assumes nothing.
use Rattle.std.specs.Prelude.{◌≡◌, ℕ, ◌<◌, ◌≤◌, Bool, true, false, List, slice_index_or}

-- whether v is marked
abbrev pub is_marked : List Bool → ℕ → Bool
is_marked marks v = slice_index_or marks v false

-- no node from start on and below end is marked
abbrev pub NoneMarked : List Bool → ℕ → ℕ → Type 0
NoneMarked marks start end = (v : ℕ) → start ≤ v → v < end → is_marked marks v ≡ false

-- every node that is marked is below end, which is at most 128
pub record EndsAt (marks : List Bool) (end : ℕ) : Type 0 where
  pub within : end ≤ 128
  pub past : (v : ℕ) → end ≤ v → is_marked marks v ≡ false

-- v is in p, and no node above it is
pub record IsHighest (p : ℕ → Bool) (v : ℕ) : Type 0 where
  pub member : p v ≡ true
  pub above : (w : ℕ) → v < w → p w ≡ false
