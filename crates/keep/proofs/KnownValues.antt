-- The values that a frame of constants knows are those of every state that it describes.
use Rattle.std.proofs.Common.{◌≡◌, ℕ, zero, suc, ◌<◌, List, [], ◌∷◌, length, get_or, map, ℤ, Some, None, Option, sym, refl, ap, ◌∙◌, arith}
use Rattle.machine.specs.declared.value.Value.{Value}
use Rattle.machine.specs.declared.value.Value.TheVariants as V
use Rattle.machine.specs.declared.arith.Binary.{Binary}
use Rattle.machine.specs.Machine.{State, operate}
use Rattle.facts.specs.declared.cell.ConstCell.{ConstCell}
use Rattle.facts.specs.declared.cell.ConstCell.TheVariants.{Num, Flag, Varies}
use Rattle.facts.specs.Held.{Held}
use Rattle.facts.specs.Effects.{cell_at, local_at}
use Rattle.facts.specs.Constants.{known_result, constants, const_operation}
use Rattle.sound.specs.Describes.{ConstTells, AllTell, HeldTells}

-- the value that is known
abbrev pub value_in : ConstCell → Option Value
value_in (Num n) = Some (V.Num n)
value_in (Flag b) = Some (V.Flag b)
value_in Varies = None

cell_tells : (c : ConstCell) (o : Option Value) (v : Value) → ConstTells c o → value_in c ≡ Some v → o ≡ Some v
cell_tells (Num n) o v t e = t ∙ e
cell_tells (Flag b) o v t e = t ∙ e
cell_tells Varies o v t e = absurd (cc)

each_tells : (cs : List ConstCell) (os : List (Option Value)) → AllTell ConstTells cs os → (k : ℕ) → ConstTells (get_or cs k Varies) (get_or os k None)
each_tells [] [] t k = tt
each_tells [] (o ∷ os) t k = absurd t
each_tells (c ∷ cs) [] t k = absurd t
each_tells (c ∷ cs) (o ∷ os) t zero = t.0
each_tells (c ∷ cs) (o ∷ os) t (suc k) = each_tells cs os t.1 k

known_is_there : (cs : List ConstCell) (os : List (Option Value)) (k : ℕ) (v : Value) → AllTell ConstTells cs os → value_in (get_or cs k Varies) ≡ Some v
    → get_or os k None ≡ Some v
known_is_there cs os k v t = cell_tells (get_or cs k Varies) (get_or os k None) v (each_tells cs os t k)

-- past the cells nothing is known
known_inside : (cs : List ConstCell) (k : ℕ) (v : Value) → value_in (get_or cs k Varies) ≡ Some v → k < length cs
known_inside [] k v e = absurd (cc)
known_inside (c ∷ cs) zero v e = omega arith
known_inside (c ∷ cs) (suc k) v e = let lt = known_inside cs k v e in omega arith

first_there : (stack : List Value) (v : Value) → get_or (map (λ w. Some w) stack) 0 None ≡ Some v → (rest : List Value) × (stack ≡ v ∷ rest)
first_there [] v e = absurd (cc)
first_there (w ∷ rest) v e = let is : w ≡ v = cc in (rest, ap (λ x. x ∷ rest) is)

-- in a state that the frame describes
module _ (a : Held ConstCell) (s : State) (t : HeldTells ConstTells a s) where
  pub local_known : (n : ℕ) (v : Value) → value_in (local_at constants a n) ≡ Some v → (n < length a.locals) × (get_or s.locals n None ≡ Some v)
  local_known n v e = (known_inside a.locals n v e, known_is_there a.locals s.locals n v t.locals e)

  pub top_known : (v : Value) → value_in (cell_at constants a 0) ≡ Some v → (rest : List Value) × (s.stack ≡ v ∷ rest)
  top_known v e = first_there s.stack v (known_is_there a.stack _ 0 v t.stack e)

  pub two_known : (v w : Value) → value_in (cell_at constants a 0) ≡ Some v → value_in (cell_at constants a 1) ≡ Some w
      → (rest : List Value) × (s.stack ≡ v ∷ w ∷ rest)
  two_known v w ev ew =
      let p = top_known v ev in
      let below : get_or (map (λ x. Some x) s.stack) 1 None ≡ Some w = known_is_there a.stack _ 1 w t.stack ew in
      let q = first_there p.0 w (rw p.1 at below) in
      (q.0, p.1 ∙ ap (λ x. v ∷ x) q.1)

value_in-known_result : (r : Option Value) → value_in (known_result r) ≡ r
value_in-known_result None = refl
value_in-known_result (Some (V.Num n)) = refl
value_in-known_result (Some (V.Flag b)) = refl

-- the result of an operation on known numbers
pub record Operands (op : Binary) (c d : ConstCell) (v : Value) : Type 0 where
  pub under : ℤ
  pub top : ℤ
  pub under_known : value_in c ≡ Some (V.Num under)
  pub top_known : value_in d ≡ Some (V.Num top)
  pub gives : operate op under top ≡ Some v

pub known_operands : (op : Binary) (c d : ConstCell) (v : Value) → value_in (const_operation op c d) ≡ Some v → Operands op c d v
known_operands op (Num a) (Num b) v e =
    record { under = a; top = b; under_known = refl; top_known = refl; gives = sym (value_in-known_result (operate op a b)) ∙ e }
known_operands op (Num a) (Flag q) v e = absurd (cc)
known_operands op (Num a) Varies v e = absurd (cc)
known_operands op (Flag p) d v e = absurd (cc)
known_operands op Varies d v e = absurd (cc)
