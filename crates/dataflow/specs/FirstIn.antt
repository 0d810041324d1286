-- The nodes of a queue, the one that was added longest ago first. Assumes nothing.
use Rattle.std.specs.Prelude.{◌≡◌, ℕ, ◌<◌, ◌≤◌, Bool, true, false, ◌||◌, ◌==◌, zero, suc, List, [], ◌∷◌, ◌++◌, take, drop, length, cond, slice_index_or, ◌+◌, Option, Some, None}

-- v is one of the nodes
abbrev pub is_member : List ℕ → ℕ → Bool
is_member [] v = false
is_member (x ∷ xs) v = v == x || is_member xs v

-- the first of the old nodes was taken, and the new ones are the rest; none where there are none
abbrev pub TakesFirst : List ℕ → List ℕ → Option ℕ → Type 0
TakesFirst old new None = (old ≡ []) × (new ≡ [])
TakesFirst old new (Some v) = old ≡ v ∷ new

-- the nodes below n, the lowest first
abbrev pub rising : ℕ → List ℕ
rising zero = []
rising (suc n) = rising n ++ n ∷ []

-- each node stands in the queue once
abbrev pub StandsOnce : List ℕ → Type 0
StandsOnce [] = Unit {0}
StandsOnce (x ∷ xs) = (is_member xs x ≡ false) × StandsOnce xs

-- the n slots from k on, around the end
abbrev pub window : ℕ → ℕ → List ℕ → List ℕ
window k n slots = take n (drop k slots ++ take k slots)

-- how many are marked
abbrev pub marks_made : List Bool → ℕ
marks_made [] = 0
marks_made (b ∷ bs) = cond b 1 0 + marks_made bs

-- the nodes, which are below 128, are marked, and no others
pub record IsMarked (nodes : List ℕ) (marks : List Bool) : Type 0 where
  pub below : (v : ℕ) → is_member nodes v ≡ true → v < 128
  pub once : StandsOnce nodes
  pub marked : (v : ℕ) → slice_index_or marks v false ≡ is_member nodes v
  pub counted : marks_made marks ≡ length nodes

-- 128 slots, of which the len from head on hold the nodes, and the marks of those nodes
pub record IsRing (head len : ℕ) (slots : List ℕ) (marks : List Bool) : Type 0 where
  pub head_within : head < 128
  pub len_within : len ≤ 128
  pub queue : IsMarked (window head len slots) marks
