-- A literal in the place of an instruction whose result is known makes no more of a frame of types.
use Rattle.std.proofs.Common.{◌≡◌, ℕ, ◌≤◌, Bool, true, false, List, [], ◌∷◌, length, get_or, drop, Some, refl, sym, arith}
use Rattle.std.specs.List.{slice_get}
use Rattle.std.proofs.lemmas.Bool.{false≢true}
use Rattle.std.proofs.lemmas.Option.{none-some, same_Some}
use Rattle.bytecode.specs.declared.instr.Instr.{Instr}
use Rattle.bytecode.specs.declared.instr.Instr.TheVariants as I
use Rattle.facts.specs.declared.cell.TypeCell.{TypeCell}
use Rattle.facts.specs.declared.cell.TypeCell.TheVariants as T
use Rattle.facts.specs.declared.cell.ConstCell.{ConstCell}
use Rattle.facts.specs.declared.cell.ConstCell.TheVariants.{Num, Flag, Varies}
use Rattle.facts.specs.declared.frame.Frame.{Frame}
use Rattle.facts.specs.declared.frame.Frame.TheVariants.{Unreached, At, Clash}
use Rattle.facts.specs.TypeCells.{join_types}
use Rattle.facts.specs.Held.{Held}
use Rattle.facts.specs.Frames.{IsBelow, replaced}
use Rattle.facts.specs.Effects.{after}
use Rattle.facts.specs.Constants.{constants, carry_constants}
use Rattle.facts.specs.Types.{types, carry_types}
use Rattle.facts.proofs.Order.{CellsUnder, more}
use Rattle.rewrite.specs.Rules.{Folds, dup, literal, HasTop}
use Rattle.keep.proofs.Replaced.{under_itself, carry-replaced, replaced_below}
use Rattle.keep.proofs.AgreeingCells.{agree_cell, top-agree, after_agrees}
use Rattle.keep.proofs.Agreeing.{agree, agree_parts, carried_either}

-- the kind of a known value
abbrev pub kind_of : ConstCell → TypeCell
kind_of (Num n) = T.Num
kind_of (Flag b) = T.Flag
kind_of Varies = T.Unusable

literal_carry : (k : ℕ) (c : ConstCell) (new : Instr) (a : Held TypeCell) → literal k c ≡ Some new → carry_types new (At a) ≡ replaced k (kind_of c ∷ []) a
literal_carry k (Num n) new a made = rw (sym (same_Some (I.Lit k n) new made)) (carry-replaced (I.Lit k n) a k (T.Num ∷ []) refl refl)
literal_carry k (Flag b) new a made = rw (sym (same_Some (I.LitFlag k b) new made)) (carry-replaced (I.LitFlag k b) a k (T.Flag ∷ []) refl refl)
literal_carry k Varies new a made = absurd (none-some new made)

-- a known value is of the kind of the cell that it agrees with
kind_below : (k : ℕ) (c : ConstCell) (new : Instr) (y : TypeCell) → literal k c ≡ Some new → agree_cell c y ≡ true → join_types (kind_of c) y ≡ y
kind_below k (Num n) new T.Num made h = refl
kind_below k (Num n) new T.Flag made h = absurd (false≢true h)
kind_below k (Num n) new T.Unusable made h = refl
kind_below k (Flag b) new T.Num made h = absurd (false≢true h)
kind_below k (Flag b) new T.Flag made h = refl
kind_below k (Flag b) new T.Unusable made h = refl
kind_below k Varies new y made h = absurd (none-some new made)

dup_under : (x : TypeCell) (stack : List TypeCell) → 1 ≤ length stack → join_types x (get_or stack 0 T.Unusable) ≡ get_or stack 0 T.Unusable
    → CellsUnder join_types (x ∷ stack) (get_or stack 0 T.Unusable ∷ get_or stack 0 T.Unusable ∷ drop 1 stack)
dup_under x [] enough below = absurd (omega arith)
dup_under x (y ∷ stack) enough below = more below (under_itself (y ∷ stack))

-- x in the place of k values, where x is at or below the top of what the instruction makes
fold_below : (i : Instr) (k : ℕ) (x : TypeCell) (a : Held TypeCell) → Folds i k
    → join_types x (get_or (after types i a).stack 0 T.Unusable) ≡ get_or (after types i a).stack 0 T.Unusable
    → IsBelow join_types (replaced k (x ∷ []) a) (carry_types i (At a))
fold_below i k x a dup below = replaced_below i a k (x ∷ []) (omega arith) refl (λ e. dup_under x a.stack e below)
fold_below i k x a folds below = replaced_below i a k (x ∷ []) (omega arith) refl (λ e. more below (under_itself (drop k a.stack)))

top_after : (i : Instr) (j : Bool) (a : Held ConstCell) (c : ConstCell) → HasTop (carry_constants i j (At a)) c
    → slice_get (after constants i a).stack 0 ≡ Some c
top_after i j a c =
    carried_either i j a (λ f. HasTop f c → slice_get (after constants i a).stack 0 ≡ Some c) (λ h. absurd h) (λ h. absurd h) (λ h. h)

pub literal_below : (i : Instr) (k : ℕ) (c : ConstCell) (new : Instr) (known : Frame ConstCell) (f : Frame TypeCell) → Folds i k
    → HasTop (carry_constants i false known) c → literal k c ≡ Some new → agree known f ≡ true → IsBelow join_types (carry_types new f) (carry_types i f)
literal_below i k c new Unreached f folds top made h = absurd top
literal_below i k c new (At a) Unreached folds top made h = absurd (false≢true h)
literal_below i k c new (At a) (At b) folds top made h =
    let same = (after_agrees a b (agree_parts a b h) i).stack in
    let agrees = top-agree c same (top_after i false a c top) in
    rw (literal_carry k c new b made) (fold_below i k (kind_of c) b folds (kind_below k c new _ made agrees))
literal_below i k c new (At a) Clash folds top made h = refl
literal_below i k c new Clash f folds top made h = absurd top
