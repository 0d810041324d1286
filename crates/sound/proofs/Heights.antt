-- The machine's table and the table over cells take and put as many values.
use Rattle.std.proofs.Common.{◌≡◌, ℕ, Bool, true, false, not, ltb, leb, List, [], ◌∷◌, length, ℤ, Option, sym, refl, ap, ◌∙◌, ◌≤◌, length-append, length-drop, arith}
use Rattle.std.proofs.lemmas.Bool.{and_parts, false≢true, leb-true, leb-false, le-ltb, lt-ltb}
use Rattle.std.proofs.lemmas.List.{length-map}
use Rattle.bytecode.specs.declared.instr.Instr.{Instr}
use Rattle.bytecode.specs.declared.instr.Instr.TheVariants as I
use Rattle.machine.specs.declared.value.Value.{Value}
use Rattle.machine.specs.Machine.{State, Kind, holds, is_kind, row, stack_after}
use Rattle.facts.specs.Held.{Held}
use Rattle.facts.specs.Effects.{Domain, takes_of, effect, after, is_too_few, is_too_many}
use Rattle.sound.specs.Describes.{held_of}

-- the kinds taken are the same in every state
pub takes_same : (i : Instr) (s : State) (x : Option ℤ) (room : Bool) → (row i s x room).takes ≡ takes_of i
takes_same I.Nop s x room = refl
takes_same i s x room = refl

pub holds_enough : (ks : List Kind) (v : List Value) → holds ks v ≡ true → length ks ≤ length v
holds_enough [] v h = omega arith
holds_enough (k ∷ ks) [] h = absurd (false≢true h)
holds_enough (k ∷ ks) (a ∷ v) h = omega (arith, holds_enough ks v (and_parts (is_kind k a) (holds ks v) h).1)

ltb-leb : (m n : ℕ) (b : Bool) → leb n m ≡ b → ltb m n ≡ not b
ltb-leb m n true e = le-ltb m n (leb-true n m e)
ltb-leb m n false e = lt-ltb m n (leb-false n m e)

module _ {C : Type 0} (D : Domain C) (f : Value → C) where
  pub puts_as_many : (i : Instr) (s : State) (x : Option ℤ) (room : Bool) (a : Held C) → length (row i s x room).puts ≡ length (effect D i a).puts
  puts_as_many I.Nop s x room a = refl
  puts_as_many i s x room a = refl

  pub height_after : (i : Instr) (s : State) (x : Option ℤ) (room : Bool) →
      length (stack_after (row i s x room) s.stack) ≡ length (after D i (held_of f D.top s)).stack
  height_after i s x room =
      let t = takes_same i s x room in
      let p = puts_as_many i s x room (held_of f D.top s) in
      simp (length-append, length-drop, length-map) (rw (t, p))

  pub too_few_not : (i : Instr) (s : State) (x : Option ℤ) (room : Bool) →
      holds (row i s x room).takes s.stack ≡ true → is_too_few D i (held_of f D.top s) ≡ false
  too_few_not i s x room h =
      let t = takes_same i s x room in
      le-ltb _ _ (rw (length-map, ← t) (holds_enough (row i s x room).takes s.stack h))

  pub too_many_is : (i : Instr) (s : State) (x : Option ℤ) (room : Bool) →
      is_too_many D i (held_of f D.top s) ≡ not (leb (length (stack_after (row i s x room) s.stack)) 8)
  too_many_is i s x room = ap (ltb 8) (sym (height_after i s x room)) ∙ ltb-leb 8 _ _ refl
