-- Cells of constants that agree with cells of types: a known value is of the cell's kind. What instructions do to cells keeps it.
use Rattle.std.proofs.Common.{◌≡◌, ℕ, zero, suc, Bool, true, false, ◌&&◌, List, [], ◌∷◌, ◌++◌, length, get_or, drop, set, ℤ, Some, refl, ⊎_elim}
use Rattle.std.specs.List.{slice_get}
use Rattle.std.specs.Ordering.{int_eq}
use Rattle.std.proofs.lemmas.Bool.{and_parts, and_from, cond_both}
use Rattle.std.proofs.lemmas.Option.{none-some, same_Some}
use Rattle.bytecode.specs.declared.instr.Instr.{Instr}
use Rattle.bytecode.specs.declared.instr.Instr.TheVariants as I
use Rattle.machine.specs.declared.arith.Binary.{Binary}
use Rattle.machine.specs.declared.arith.Binary.TheVariants as B
use Rattle.machine.specs.Machine.{operate}
use Rattle.facts.specs.declared.cell.TypeCell.{TypeCell}
use Rattle.facts.specs.declared.cell.TypeCell.TheVariants as T
use Rattle.facts.specs.declared.cell.ConstCell.{ConstCell}
use Rattle.facts.specs.declared.cell.ConstCell.TheVariants.{Num, Flag, Varies}
use Rattle.facts.specs.TypeCells.{same_type, join_types, same_type_tells}
use Rattle.facts.specs.ConstCells.{same_const, join_consts, same_const_tells}
use Rattle.facts.specs.Held.{Held}
use Rattle.facts.specs.Effects.{takes_of, cell_at, effect, after}
use Rattle.facts.specs.Constants.{constants, known_result, const_operation, const_opposite}
use Rattle.facts.specs.Types.{types, type_of_operation}
use Rattle.facts.proofs.Flats.{below_flat}
use Rattle.facts.proofs.Order.{CellsUnder, none as none_under, more as more_under}

abbrev pub agree_cell : ConstCell → TypeCell → Bool
agree_cell (Num n) T.Num = true
agree_cell (Num n) T.Flag = false
agree_cell (Num n) T.Unusable = true
agree_cell (Flag b) T.Num = false
agree_cell (Flag b) T.Flag = true
agree_cell (Flag b) T.Unusable = true
agree_cell Varies y = true

pub agree_unusable : (x : ConstCell) → agree_cell x T.Unusable ≡ true
agree_unusable (Num n) = refl
agree_unusable (Flag b) = refl
agree_unusable Varies = refl

-- as many cells, which agree one by one
pub data CellsAgree : List ConstCell → List TypeCell → Type 0 where
  none : CellsAgree [] []
  more : {x : ConstCell} {y : TypeCell} {xs : List ConstCell} {ys : List TypeCell} → agree_cell x y ≡ true → CellsAgree xs ys → CellsAgree (x ∷ xs) (y ∷ ys)

-- ---- the test
abbrev pub agree_cells : List ConstCell → List TypeCell → Bool
agree_cells [] [] = true
agree_cells [] (y ∷ ys) = false
agree_cells (x ∷ xs) [] = false
agree_cells (x ∷ xs) (y ∷ ys) = agree_cell x y && agree_cells xs ys

pub test_from_agree : {xs : List ConstCell} {ys : List TypeCell} → CellsAgree xs ys → agree_cells xs ys ≡ true
test_from_agree none = refl
test_from_agree (more c h) = and_from _ _ c (test_from_agree h)

pub agree_from_test : (xs : List ConstCell) (ys : List TypeCell) → agree_cells xs ys ≡ true → CellsAgree xs ys
agree_from_test [] [] t = none
agree_from_test [] (y ∷ ys) t = absurd (cc)
agree_from_test (x ∷ xs) [] t = absurd (cc)
agree_from_test (x ∷ xs) (y ∷ ys) t = let parts = and_parts (agree_cell x y) (agree_cells xs ys) t in more parts.0 (agree_from_test xs ys parts.1)

-- ---- greater cells agree too
cell_above : (x w : ConstCell) (y z : TypeCell) → join_consts x w ≡ w → join_types y z ≡ z → agree_cell x y ≡ true → agree_cell w z ≡ true
cell_above x w y z p q h =
    ⊎_elim
    (λ (e : x ≡ w).
    ⊎_elim
    (λ (d : y ≡ z). rw (e, d) at h)
    (λ (d : z ≡ T.Unusable). rw d (agree_unusable w))
    (below_flat same_type T.Unusable same_type_tells y z q))
    (λ (e : w ≡ Varies). rw e)
    (below_flat same_const Varies same_const_tells x w p)

pub cells_above : {xs ws : List ConstCell} {ys zs : List TypeCell} → CellsAgree xs ys → CellsUnder join_consts xs ws → CellsUnder join_types ys zs
    → CellsAgree ws zs
cells_above none none_under none_under = none
cells_above (more e h) (more_under c u) (more_under d v) = more (cell_above _ _ _ _ c d e) (cells_above h u v)

-- ---- parts of lists, and changed lists
get_or-agree : (k : ℕ) {xs : List ConstCell} {ys : List TypeCell} → CellsAgree xs ys → agree_cell (get_or xs k Varies) (get_or ys k T.Unusable) ≡ true
get_or-agree k none = refl
get_or-agree zero (more c h) = c
get_or-agree (suc k) (more c h) = get_or-agree k h

drop-agree : (k : ℕ) {xs : List ConstCell} {ys : List TypeCell} → CellsAgree xs ys → CellsAgree (drop k xs) (drop k ys)
drop-agree zero h = h
drop-agree (suc k) none = none
drop-agree (suc k) (more c h) = drop-agree k h

append-agree : {xs us : List ConstCell} {ys vs : List TypeCell} → CellsAgree xs ys → CellsAgree us vs → CellsAgree (xs ++ us) (ys ++ vs)
append-agree none g = g
append-agree (more c h) g = more c (append-agree h g)

set-agree : (k : ℕ) (x : ConstCell) (y : TypeCell) {xs : List ConstCell} {ys : List TypeCell} → agree_cell x y ≡ true → CellsAgree xs ys
    → CellsAgree (set xs k x) (set ys k y)
set-agree k x y d none = none
set-agree zero x y d (more c h) = more d h
set-agree (suc k) x y d (more c h) = more c (set-agree k x y d h)

pub top-agree : (c : ConstCell) {xs : List ConstCell} {ys : List TypeCell} → CellsAgree xs ys → slice_get xs 0 ≡ Some c
    → agree_cell c (get_or ys 0 T.Unusable) ≡ true
top-agree c none top = absurd (none-some c top)
top-agree c (more {x = x} d h) top = rw (same_Some x c top) at d

-- ---- what instructions make
result_agrees : (op : Binary) (a b : ℤ) → agree_cell (known_result (operate op a b)) (type_of_operation op) ≡ true
result_agrees B.Add a b = refl
result_agrees B.Sub a b = refl
result_agrees B.Mul a b = refl
result_agrees B.Div a b = cond_both (int_eq b _) _ _ (λ r. agree_cell (known_result r) T.Num ≡ true) (λ e. refl) (λ e. refl)
result_agrees B.Eq a b = refl
result_agrees B.Lt a b = refl

operation_agrees : (op : Binary) (a b : ConstCell) → agree_cell (const_operation op a b) (type_of_operation op) ≡ true
operation_agrees op (Num a) (Num b) = result_agrees op a b
operation_agrees op (Num a) (Flag q) = refl
operation_agrees op (Num a) Varies = refl
operation_agrees op (Flag p) b = refl
operation_agrees op Varies b = refl

opposite_agrees : (a : ConstCell) → agree_cell (const_opposite a) T.Flag ≡ true
opposite_agrees (Num a) = refl
opposite_agrees (Flag p) = refl
opposite_agrees Varies = refl

-- as many values, and as many locals, and they agree
pub record Agree (a : Held ConstCell) (b : Held TypeCell) : Type 0 where
  pub stack : CellsAgree a.stack b.stack
  pub locals : CellsAgree a.locals b.locals

module _ (a : Held ConstCell) (b : Held TypeCell) (h : Agree a b) where
  cell_agrees : (k : ℕ) → agree_cell (cell_at constants a k) (cell_at types b k) ≡ true
  cell_agrees k = get_or-agree k h.stack

  operated : (op : Binary) → CellsAgree (const_operation op (cell_at constants a 1) (cell_at constants a 0) ∷ []) (type_of_operation op ∷ [])
  operated op = more (operation_agrees op _ _) none

  puts_agree : (i : Instr) → CellsAgree (effect constants i a).puts (effect types i b).puts
  puts_agree (I.Lit k n) = more refl none
  puts_agree (I.LitFlag k q) = more refl none
  puts_agree I.Dup = more (cell_agrees 0) (more (cell_agrees 0) none)
  puts_agree I.Swap = more (cell_agrees 1) (more (cell_agrees 0) none)
  puts_agree (I.Load n) = more (get_or-agree n h.locals) none
  puts_agree I.Add = operated B.Add
  puts_agree I.Sub = operated B.Sub
  puts_agree I.Mul = operated B.Mul
  puts_agree I.Div = operated B.Div
  puts_agree I.Eq = operated B.Eq
  puts_agree I.Lt = operated B.Lt
  puts_agree I.Not = more (opposite_agrees (cell_at constants a 0)) none
  puts_agree I.In = more refl none
  puts_agree i = none

  locals_agree : (i : Instr) → CellsAgree (effect constants i a).locals (effect types i b).locals
  locals_agree (I.Store n) = set-agree n _ _ (cell_agrees 0) h.locals
  locals_agree i = h.locals

  pub after_agrees : (i : Instr) → Agree (after constants i a) (after types i b)
  after_agrees i = record { stack = append-agree (puts_agree i) (drop-agree (length (takes_of i)) h.stack); locals = locals_agree i }
