-- Facts on the values that the first items of a list are, last first.
use Rattle.std.proofs.Common.{◌≡◌, ℕ, zero, suc, ◌+◌, ◌-◌, ◌<◌, ◌≤◌, true, false, leb, ◌≢◌, List, ◌∷◌, length, drop, set, Ok, Err, refl, ap, add-one, arith, get_or-set_other, get_or-set_same}
use Rattle.std.proofs.lemmas.Bool.{le-leb, lt-leb}
use Rattle.machine.specs.declared.value.Value.{Value}
use Rattle.machine.specs.Stack.{below, inapplicable, dropped_by}

pub length-below : (items : List Value) (h : ℕ) → length (below items h) ≡ h
length-below items zero = refl
length-below items (suc h) = ap suc (length-below items h)

pub room_below : (items : List Value) (h : ℕ) (s : List Value) → below items h ≡ s → length s < 8 → h < 8
room_below items h s e lt = let l : length (below items h) ≡ length s = ap length e in omega (arith, length-below items h)

below_set : (items : List Value) (h k : ℕ) (v : Value) → h ≤ k → below (set items k v) h ≡ below items h
below_set items zero k v le = refl
below_set items (suc h) k v le =
    let ne : h ≢ k = omega arith in
    let le' : h ≤ k = omega arith in
    let e = below_set items h k v le' in
    rw (get_or-set_other, e)

pub below_push : (items : List Value) (h : ℕ) (v : Value) → h < length items → below (set items h v) (h + 1) ≡ v ∷ below items h
below_push items h v lt =
    let le : h ≤ h = omega arith in
    let e = below_set items h h v le in
    rw (add-one, get_or-set_same, e)

drop-below : (items : List Value) (h k : ℕ) → k ≤ h → drop k (below items h) ≡ below items (h - k)
drop-below items h zero le = let e : h - 0 ≡ h = omega arith in rw e
drop-below items zero (suc k) le = absurd (omega arith)
drop-below items (suc h) (suc k) le =
    let le' : k ≤ h = omega arith in
    let e : suc h - suc k ≡ h - k = omega arith in rw e (drop-below items h k le')

pub dropped-below : (items : List Value) (h k : ℕ) → k ≤ h → Ok (tt, below items (h - k)) ≡ dropped_by k (below items h)
dropped-below items h k le =
    let t : leb k (length (below items h)) ≡ true = le-leb _ _ (rw length-below le) in
    rw (t, drop-below)

pub short_below : (items : List Value) (h k : ℕ) → h < k → Err inapplicable ≡ dropped_by k (below items h)
short_below items h k lt =
    let t : leb k (length (below items h)) ≡ false = lt-leb _ _ (rw length-below lt) in
    rw t
