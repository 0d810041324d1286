-- The first items of a list, last first: the item at a place, and what a write and a join make of them.
use Rattle.std.proofs.Common.{◌≡◌, ℕ, zero, suc, ◌-◌, ◌<◌, ◌≤◌, ◌≢◌, List, [], ◌∷◌, length, get_or, drop, set, refl, ap, arith, get_or-set_other}
use Rattle.std.proofs.lemmas.List.{get_or_default, get_or_past}
use Rattle.facts.specs.Cells.{below, length-below}
use Rattle.facts.specs.Frames.{joined_cells}

pub get_or-below : {C : Type 0} (z : C) (items : List C) (h k : ℕ) (d e : C) → k < h → h ≤ length items
    → get_or items (h - 1 - k) e ≡ get_or (below z items h) k d
get_or-below z items zero k d e lt le = absurd (omega arith)
get_or-below z items (suc h) zero d e lt le =
    let i : suc h - 1 - 0 ≡ h = omega arith in
    rw i (get_or_default items h e z (omega arith))
get_or-below z items (suc h) (suc k) d e lt le =
    let i : suc h - 1 - suc k ≡ h - 1 - k = omega arith in
    rw i (get_or-below z items h k d e (omega arith) (omega arith))

pub get_or-below_past : {C : Type 0} (z : C) (items : List C) (h k : ℕ) (d : C) → h ≤ k → get_or (below z items h) k d ≡ d
get_or-below_past z items h k d le = get_or_past (below z items h) k d (rw length-below le)

pub below-set : {C : Type 0} (z : C) (items : List C) (h k : ℕ) (v : C) → h ≤ k → below z (set items k v) h ≡ below z items h
below-set z items zero k v le = refl
below-set z items (suc h) k v le =
    let ne : h ≢ k = omega arith in
    let l : h ≤ k = omega arith in
    rw (get_or-set_other, below-set z items h k v l)

pub drop-below : {C : Type 0} (z : C) (items : List C) (h : ℕ) → 0 < h → drop 1 (below z items h) ≡ below z items (h - 1)
drop-below z items zero lt = absurd (omega arith)
drop-below z items (suc h) lt = let e : suc h - 1 ≡ h = omega arith in rw e

module _ {C : Type 0} (join : C → C → C) where
  pub length-joined_cells : (xs ys : List C) → length xs ≡ length ys → length (joined_cells join xs ys) ≡ length xs
  length-joined_cells [] ys e = refl
  length-joined_cells (x ∷ xs) [] e = absurd (omega arith)
  length-joined_cells (x ∷ xs) (y ∷ ys) e = ap suc (length-joined_cells xs ys (omega arith))

  pub joined_cells-same : ((x : C) → join x x ≡ x) → (xs : List C) → joined_cells join xs xs ≡ xs
  joined_cells-same same [] = refl
  joined_cells-same same (x ∷ xs) = λ i. same x i ∷ joined_cells-same same xs i

  pub get_or-joined_cells : (z : C) (xs ys : List C) (k : ℕ) → k < length xs → k < length ys
      → get_or (joined_cells join xs ys) k z ≡ join (get_or xs k z) (get_or ys k z)
  get_or-joined_cells z [] ys k l m = absurd (omega arith)
  get_or-joined_cells z (x ∷ xs) [] k l m = absurd (omega arith)
  get_or-joined_cells z (x ∷ xs) (y ∷ ys) zero l m = refl
  get_or-joined_cells z (x ∷ xs) (y ∷ ys) (suc k) l m = get_or-joined_cells z xs ys k (omega arith) (omega arith)

  pub below-joined_cells : (z : C) (xs ys : List C) (h : ℕ) → h ≤ length xs → h ≤ length ys
      → below z (joined_cells join xs ys) h ≡ joined_cells join (below z xs h) (below z ys h)
  below-joined_cells z xs ys zero l m = refl
  below-joined_cells z xs ys (suc h) l m =
      let i : h < length xs = omega arith in
      let j : h < length ys = omega arith in
      rw (get_or-joined_cells z xs ys h i j, below-joined_cells z xs ys h (omega arith) (omega arith))
