-- What the fields of `Cells` stand for. Assumes nothing.
use Rattle.std.specs.Prelude.{◌≡◌, ℕ, zero, suc, ◌+◌, ◌-◌, ◌<◌, ◌≤◌, List, [], ◌∷◌, ◌++◌, length, take, drop, reverse, replicate, slice_index_or}
use Rattle.std.proofs.Common.{refl, ap, ◌∙◌, add-one, arith}
use Rattle.std.proofs.lemmas.List.{reverse-append, take_more, take-append-drop, length-drop, length-replicate, get_or-drop, get_or-replicate, ext_get_or}
use Rattle.facts.specs.declared.cells.Cells.TheInside.{Inside}
use Rattle.facts.specs.Held.{Held}

-- the first h of the items, last first
abbrev pub below : {C : Type 0} → C → List C → ℕ → List C
below z items zero = []
below z items (suc h) = slice_index_or items h z ∷ below z items h

abbrev pub held : {C : Type 0} → C → Inside C → Held C
held z a = record { stack = below z a.stack a.height; locals = a.locals }

-- at most 8 values, and the cells past them are unused, which is z
pub record Within {C : Type 0} (z : C) (a : Inside C) : Type 0 where
  pub low : a.height ≤ 8
  pub eight : length a.stack ≡ 8
  pub sixteen : length a.locals ≡ 16
  pub unused : (k : ℕ) → a.height ≤ k → k < 8 → slice_index_or a.stack k z ≡ z

-- the 8 stack cells, the bottom first, with z in those that are unused
abbrev pub stack_cells : {C : Type 0} → C → Held C → List C
stack_cells z h = reverse h.stack ++ replicate (8 - length h.stack) z

abbrev pub given_back : {C : Type 0} → C → Held C → Inside C
given_back z h = record { height = length h.stack; stack = stack_cells z h; locals = h.locals }

pub length-below : {C : Type 0} (z : C) (items : List C) (h : ℕ) → length (below z items h) ≡ h
length-below z items zero = refl
length-below z items (suc h) = ap suc (length-below z items h)

reverse-below : {C : Type 0} (z : C) (items : List C) (h : ℕ) → h ≤ length items → reverse (below z items h) ≡ take h items
reverse-below z items zero le = refl
reverse-below z items (suc h) le =
    let l : h < length items = omega arith in
    let e : reverse (below z items h) ≡ take h items = reverse-below z items h (omega arith) in
    reverse-append (slice_index_or items h z ∷ []) (below z items h) ∙ rw (e, ← take_more items h z l, add-one)

pub drop-unused : {C : Type 0} (z : C) (items : List C) (h n : ℕ) → length items ≡ n
    → ((k : ℕ) → h ≤ k → k < n → slice_index_or items k z ≡ z) → drop h items ≡ replicate (n - h) z
drop-unused z items h n e unused =
    let l : length (drop h items) ≡ length (replicate (n - h) z) = rw (length-drop, length-replicate, e) in
    ext_get_or z (drop h items) (replicate (n - h) z) l (λ i lt. let b : i < n - h = rw (l, length-replicate) at lt in
    rw (get_or-drop, get_or-replicate (n - h) i z z b) (unused (h + i) (omega arith) (omega arith)))

pub stack_cells-held : {C : Type 0} (z : C) (a : Inside C) → Within z a → stack_cells z (held z a) ≡ a.stack
stack_cells-held z a h =
    let l : a.height ≤ length a.stack = omega arith in
    rw (reverse-below z a.stack a.height l, length-below, ← drop-unused z a.stack a.height 8 h.eight h.unused) (take-append-drop a.height a.stack)

pub given_back_ok : {C : Type 0} (z : C) (a : Inside C) → Within z a → given_back z (held z a) ≡ a
given_back_ok z a h = rw (stack_cells-held z a h, length-below)
