-- The typing and the machine agree on which instructions are applicable.
use Rattle.std.proofs.Common.{◌≡◌, ℕ, Bool, true, false, cond, not, ◌&&◌, ltb, leb, ◌<◌, List, [], ◌∷◌, length, get_or, map, ℤ, is_some, Some, None, Option, sym, refl, ap, ap₂, ◌∙◌}
use Rattle.std.specs.Option.{is_none}
use Rattle.std.specs.List.{slice_get}
use Rattle.std.proofs.lemmas.Bool.{lt-ltb}
use Rattle.std.proofs.Math.ListN.{get_or-map}
use Rattle.bytecode.specs.declared.instr.Instr.{Instr}
use Rattle.bytecode.specs.declared.instr.Instr.TheVariants as I
use Rattle.bytecode.specs.Instructions.{row as rules, local}
use Rattle.machine.specs.declared.value.Value.{Value}
use Rattle.machine.specs.declared.value.Value.TheVariants as V
use Rattle.machine.specs.Machine.{State, Kind, any, number, flag, is_kind, holds, row, stack_after}
use Rattle.facts.specs.declared.cell.TypeCell.TheVariants.{Unusable}
use Rattle.facts.specs.declared.reason.Reason.TheVariants.{TooFew, TooMany, WrongKind}
use Rattle.facts.specs.TypeCells.{same_type}
use Rattle.facts.specs.Effects.{takes_of, effect, is_too_few}
use Rattle.facts.specs.Types.{types, is_of, has_kinds, is_usable}
use Rattle.sound.specs.Describes.{type_of, local_cell, kinds_of}
use Rattle.sound.specs.Meaning.{ApplicableIsOne}
use Rattle.sound.proofs.Heights.{takes_same, too_few_not, too_many_is}

kind_is : (k : Kind) (v : Value) → is_of k (type_of v) ≡ is_kind k v
kind_is any v = refl
kind_is number (V.Num n) = refl
kind_is number (V.Flag b) = refl
kind_is flag (V.Num n) = refl
kind_is flag (V.Flag b) = refl

kinds_are : (ks : List Kind) (v : List Value) → has_kinds ks (map type_of v) ≡ holds ks v
kinds_are [] v = refl
kinds_are (k ∷ ks) [] = refl
kinds_are (k ∷ ks) (a ∷ v) = ap₂ ◌&&◌ (kind_is k a) (kinds_are ks v)

set_is_usable : (g : Option Value) → not (same_type (local_cell type_of Unusable g) Unusable) ≡ is_some g
set_is_usable None = refl
set_is_usable (Some (V.Num n)) = refl
set_is_usable (Some (V.Flag b)) = refl

usable_is : (i : Instr) → ((n : ℕ) → (rules i).operands ≡ local n → n < 16) → (s : State) (x : Option ℤ) (room : Bool) →
    is_usable (effect types i (kinds_of s)).loads ≡ (row i s x room).usable
usable_is (I.Load n) h s x room =
    let t = lt-ltb n 16 (h n refl) in
    let e = get_or-map (local_cell type_of Unusable) s.locals n None in
    rw t (ap (λ c. not (same_type c Unusable)) e ∙ set_is_usable (get_or s.locals n None))
usable_is (I.Store n) h s x room = sym (lt-ltb n 16 (h n refl))
usable_is i h s x room = refl

no_reason : (few h q u : Bool) → (h ≡ true → few ≡ false) →
    h && (q && u) ≡ is_none (cond few (Some TooFew) (cond (not q) (Some TooMany) (cond (h && u) None (Some WrongKind))))
no_reason true true q u e = absurd (cc (e refl))
no_reason true false q u e = refl
no_reason false true true true e = refl
no_reason false true true false e = refl
no_reason false true false u e = refl
no_reason false false true u e = refl
no_reason false false false u e = refl

pub applicable_is_one : ApplicableIsOne
applicable_is_one i h inputs room s =
    let x = slice_get inputs s.used in
    let r = ltb (length s.outputs) room in
    let t = takes_same i s x r in
    let k : has_kinds (takes_of i) (map type_of s.stack) ≡ holds (row i s x r).takes s.stack = rw t (kinds_are (takes_of i) s.stack) in
    let u = usable_is i h s x r in
    let m = too_many_is types type_of i s x r in
    let small = leb (length (stack_after (row i s x r) s.stack)) 8 in
    rw (k, u, m)
    (no_reason (is_too_few types i (kinds_of s)) (holds (row i s x r).takes s.stack) small (row i s x r).usable (too_few_not types type_of i s x r))
