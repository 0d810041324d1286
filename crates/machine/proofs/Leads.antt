-- An instruction of a unit leads to a place of the unit, and the local that it names is one of the 16.
use Rattle.std.proofs.Common.{◌≡◌, ℕ, ◌+◌, ◌<◌, ◌≤◌, Bool, true, false, cond, ltb, List, ◌∷◌, get_or, ℤ, pos, ◌+ℤ◌, is_some, Some, None, Option, Result, Ok, Err, unwrap_or, sym, subst, arith}
use Rattle.std.specs.Option.{ok_or}
use Rattle.std.proofs.lemmas.Bool.{and_parts, ltb-true}
use Rattle.bytecode.specs.declared.instr.Instr.{Instr}
use Rattle.bytecode.specs.declared.instr.Instr.TheVariants as I
use Rattle.bytecode.specs.declared.unit.Unit.{Unit as TheUnit}
use Rattle.bytecode.specs.Instructions.{row as rules, inside, in_range, standing}
use Rattle.machine.specs.declared.value.Value.{Value}
use Rattle.machine.specs.declared.value.Value.TheVariants.{Num}
use Rattle.machine.specs.declared.arith.Binary.{Binary}
use Rattle.machine.specs.declared.arith.Binary.TheVariants as B
use Rattle.machine.specs.declared.flow.Flow.{Flow}
use Rattle.machine.specs.declared.flow.Flow.TheVariants.{Next, Jump, Unless, Write}
use Rattle.machine.specs.declared.ending.Ending.TheVariants.{Full, Stuck}
use Rattle.machine.specs.declared.ending.Inapplicable.{Inapplicable}
use Rattle.machine.specs.declared.memory.Memory.{Memory}
use Rattle.machine.specs.Machine.{operate}
use Rattle.machine.specs.Stack.{inapplicable, popped, pushed, popped_as, as_number, as_flag, dropped_by}
use Rattle.machine.specs.Interpreter.{memory, Acted, then_in, onto, put_or_trap, literal, dropped, copied, exchanged, loaded, stored, combined, negated, branched, unless_dry, taken, given, act, NamesLocal}
use Rattle.machine.specs.Views.{Leads}

abbrev pub Led : ℕ → ℕ → Acted → Type 0
Led n p (Err e) = Unit {0}
Led n p (Ok q) = Leads n p q.0

Led-then_in : {A : Type 0} (n p : ℕ) (o : Result A Inapplicable) (f : A → Acted) → ((a : A) → Led n p (f a)) → Led n p (then_in o f)
Led-then_in n p (Err e) f g = tt
Led-then_in n p (Ok a) f g = g a

Led-onto : (n p : ℕ) (f : Flow) (l : List (Option Value)) (o : Result (Unit {0} × List Value) Inapplicable) → Leads n p f → Led n p (onto f l o)
Led-onto n p f l (Err e) g = tt
Led-onto n p f l (Ok q) g = g

Led-cond : (n p : ℕ) (b : Bool) (r : Acted) → Led n p r → Led n p (cond b r (Err Stuck))
Led-cond n p true r g = g
Led-cond n p false r g = tt

leads_next : (n p : ℕ) → ltb (p + 1) n ≡ true → Leads n p Next
leads_next n p e = rw e

Led-dropped : (n p : ℕ) (h : Memory) (f : Flow) → Leads n p f → Led n p (dropped f h)
Led-dropped n p h f e = Led-onto n p f h.locals (dropped_by 1 h.stack) e

module _ (n p : ℕ) (h : Memory) (e : Leads n p Next) where
  Led-literal : (k : ℕ) (v : Value) → Led n p (literal k v h)
  Led-literal k v = Led-then_in n p (dropped_by k h.stack) _ (λ q. Led-onto n p Next h.locals (pushed v q.1) e)

  Led-copied : Led n p (copied h)
  Led-copied = Led-then_in n p (popped h.stack) _ (λ q. Led-onto n p Next h.locals (pushed q.0 (q.0 ∷ q.1)) e)

  Led-exchanged : Led n p (exchanged h)
  Led-exchanged = Led-then_in n p (popped h.stack) _ (λ q. Led-then_in n p (popped q.1) _ (λ r. Led-then_in n p (pushed q.0 r.1) _ (λ s. Led-onto n p Next h.locals (pushed r.0 s.1) e)))

  Led-loaded : (m : ℕ) → Led n p (loaded m h)
  Led-loaded m = Led-cond n p (ltb m 16) _ (Led-then_in n p (ok_or (get_or h.locals m None) inapplicable) _ (λ v. Led-onto n p Next h.locals (pushed v h.stack) e))

  Led-stored : (m : ℕ) → Led n p (stored m h)
  Led-stored m = Led-cond n p (ltb m 16) _ (Led-then_in n p (popped h.stack) _ (λ q. e))

  Led_operated : (o : Option Value) (s : List Value) → Led n p (put_or_trap h.locals s o)
  Led_operated None s = tt
  Led_operated (Some v) s = e

  Led-combined : (o : Binary) → Led n p (combined o h)
  Led-combined o = Led-then_in n p (popped_as as_number h.stack) _ (λ q. Led-then_in n p (popped_as as_number q.1) _ (λ r. Led_operated (operate o r.0 q.0) r.1))

  Led-negated : Led n p (negated h)
  Led-negated = Led-then_in n p (popped_as as_flag h.stack) _ (λ q. e)

  Led_way : (by : ℤ) → Leads n p (Jump by) → (b : Bool) → Leads n p (Unless b by)
  Led_way by j true = e
  Led_way by j false = j

  Led-branched : (by : ℤ) → Leads n p (Jump by) → Led n p (branched by h)
  Led-branched by j = Led-then_in n p (popped_as as_flag h.stack) _ (λ q. Led_way by j q.0)

  Led_dry : (input : Option ℤ) (g : Memory) → Led n p (unless_dry input g)
  Led_dry (Some k) g = e
  Led_dry None g = tt

  Led-taken : (input : Option ℤ) → Led n p (taken input h)
  Led-taken input = Led-then_in n p (pushed (Num (unwrap_or input (pos 0))) h.stack) _ (λ q. Led_dry input (memory q.1 h.locals))

  Led_room : (room : Bool) (v : ℤ) (g : Memory) → Led n p (cond room (Ok (Write v, g)) (Err Full))
  Led_room true v g = e
  Led_room false v g = tt

  Led-given : (room : Bool) → Led n p (given room h)
  Led-given room = Led-then_in n p (popped_as as_number h.stack) _ (λ q. Led_room room q.0 (memory q.1 h.locals))

Led-act : (L n p : ℕ) (i : Instr) (input : Option ℤ) (room : Bool) (h : Memory) → standing L p n i ≡ true → Led n p (act i input room h)
Led-act L n p I.Nop input room h s = leads_next n p s
Led-act L n p I.Halt input room h s = tt
Led-act L n p (I.Lit k v) input room h s = Led-literal n p h (leads_next n p s) k _
Led-act L n p (I.LitFlag k b) input room h s = Led-literal n p h (leads_next n p s) k _
Led-act L n p I.Pop input room h s = Led-dropped n p h Next (leads_next n p s)
Led-act L n p I.Dup input room h s = Led-copied n p h (leads_next n p s)
Led-act L n p I.Swap input room h s = Led-exchanged n p h (leads_next n p s)
Led-act L n p (I.Load m) input room h s = Led-loaded n p h (leads_next n p (and_parts (ltb m L) _ s).1) m
Led-act L n p (I.Store m) input room h s = Led-stored n p h (leads_next n p (and_parts (ltb m L) _ s).1) m
Led-act L n p I.Add input room h s = Led-combined n p h (leads_next n p s) B.Add
Led-act L n p I.Sub input room h s = Led-combined n p h (leads_next n p s) B.Sub
Led-act L n p I.Mul input room h s = Led-combined n p h (leads_next n p s) B.Mul
Led-act L n p I.Div input room h s = Led-combined n p h (leads_next n p s) B.Div
Led-act L n p I.Eq input room h s = Led-combined n p h (leads_next n p s) B.Eq
Led-act L n p I.Lt input room h s = Led-combined n p h (leads_next n p s) B.Lt
Led-act L n p I.Not input room h s = Led-negated n p h (leads_next n p s)
Led-act L n p (I.Jmp d) input room h s = (and_parts _ true s).0
Led-act L n p (I.Jf d) input room h s =
    let g = and_parts (is_some (inside n (pos p +ℤ d))) (ltb (p + 1) n) s in
    Led-branched n p h (leads_next n p g.1) d g.0
Led-act L n p (I.DropJmp d) input room h s = Led-dropped n p h (Jump d) (and_parts _ true s).0
Led-act L n p I.In input room h s = Led-taken n p h (leads_next n p s) input
Led-act L n p I.Out input room h s = Led-given n p h (leads_next n p s) room

names_local_by : (L n p : ℕ) (i : Instr) → L ≤ 16 → standing L p n i ≡ true → NamesLocal i
names_local_by L n p I.Nop le s = tt
names_local_by L n p I.Halt le s = tt
names_local_by L n p (I.Lit k v) le s = tt
names_local_by L n p (I.LitFlag k b) le s = tt
names_local_by L n p I.Pop le s = tt
names_local_by L n p I.Dup le s = tt
names_local_by L n p I.Swap le s = tt
names_local_by L n p (I.Load m) le s = let lt = ltb-true m L (and_parts (ltb m L) _ s).0 in omega arith
names_local_by L n p (I.Store m) le s = let lt = ltb-true m L (and_parts (ltb m L) _ s).0 in omega arith
names_local_by L n p I.Add le s = tt
names_local_by L n p I.Sub le s = tt
names_local_by L n p I.Mul le s = tt
names_local_by L n p I.Div le s = tt
names_local_by L n p I.Eq le s = tt
names_local_by L n p I.Lt le s = tt
names_local_by L n p I.Not le s = tt
names_local_by L n p (I.Jmp d) le s = tt
names_local_by L n p (I.Jf d) le s = tt
names_local_by L n p (I.DropJmp d) le s = tt
names_local_by L n p I.In le s = tt
names_local_by L n p I.Out le s = tt

-- the instruction at a place of a unit may stand there
stands : (u : TheUnit) (p : ℕ) → p < u.len → standing u.locals p u.len (get_or u.code p I.Nop) ≡ true
stands u p lt = (and_parts (in_range (rules (get_or u.code p I.Nop)).operands) _ (u.rules p lt)).1

pub names_local : (u : TheUnit) (p : ℕ) → p < u.len → NamesLocal (get_or u.code p I.Nop)
names_local u p lt = names_local_by u.locals u.len p (get_or u.code p I.Nop) u.few (stands u p lt)

pub leads : (u : TheUnit) (p : ℕ) (input : Option ℤ) (room : Bool) (h h' : Memory) (f : Flow) → p < u.len → Ok (f, h') ≡ act (get_or u.code p I.Nop) input room h → Leads u.len p f
leads u p input room h h' f lt e = subst (Led u.len p) (sym e) (Led-act u.locals u.len p (get_or u.code p I.Nop) input room h (stands u p lt))
