-- The record of changes stays one through each call.
use Rattle.std.proofs.Common.{◌≡◌, ℕ, zero, suc, ◌+◌, ◌<◌, ◌≤◌, List, [], ◌∷◌, ◌++◌, length, take, drop, get_or, set, true, refl, ap, subst, ◌∙◌, arith, inl, inr}
use Rattle.std.proofs.lemmas.Bool.{cases_eq}
use Rattle.std.proofs.lemmas.List.{drop_all, get_or-take, length_push, length-take-le}
use Rattle.std.proofs.lemmas.List.Elements.{All-nil, All-push, All-take}
use Rattle.bytecode.specs.declared.instr.Instr.{Instr}
use Rattle.bytecode.specs.declared.instr.Instr.TheVariants.{Nop}
use Rattle.bytecode.specs.declared.unit.Unit.{Unit as TheUnit}
use Rattle.bytecode.specs.Instructions.{sound}
use Rattle.bytecode.specs.Files.{held}
use Rattle.bytecode.proofs.Held.{length-held}
use Rattle.analyses.specs.Edges.{instr_at}
use Rattle.rewrite.specs.Weights.{weight_of}
use Rattle.rewrite.proofs.Weights.{weight_twice}
use Rattle.keep.specs.Keeps.{IsChanged}
use Rattle.keep.proofs.ChangedUnits.{held_changed}
use Rattle.workspace.specs.declared.trail.Change.{Change}
use Rattle.workspace.specs.Record.{Recorded, put_back, codes_at, Falling, MayStand, IsRecord, PutBack}
use Rattle.workspace.proofs.PutBack.{put_back_twice, put_back_change, falling_more, codes_put_back, codes_change}

pub length-codes_at : (c : List Instr) (xs : List Change) (ms : List ℕ) → length (codes_at c xs ms) ≡ length ms
length-codes_at c xs [] = refl
length-codes_at c xs (m ∷ ms) = ap suc (length-codes_at c xs ms)

-- after all changes the code is the code itself
put_back_none : (c : List Instr) (xs : List Change) → put_back c (drop (length xs) xs) ≡ c
put_back_none c xs = ap (put_back c) (drop_all (length xs) xs (omega arith))

-- a unit's code weighs as little as is left of the record
pub record_weight : (u : TheUnit) (t : Recorded) → IsRecord u t → weight_of (held u) + length t.changes ≤ 256
record_weight u t r =
    omega (arith, r.light (length t.changes) (omega arith), ap weight_of (put_back_none (held u) t.changes))

light_none : (c : List Instr) → weight_of c ≤ 256 → (k : ℕ) → k ≤ 0 → weight_of (put_back c (drop k [])) + k ≤ 256
light_none c w zero le = omega arith
light_none c w (suc k) le = absurd (omega arith)

record_none : (u : TheUnit) → weight_of (held u) ≤ 256 → IsRecord u (record { changes = []; marks = [] })
record_none u w = record { stand = All-nil (MayStand u.locals u.len); marks = tt; light = light_none (held u) w }

pub record_new : (u : TheUnit) → IsRecord u (record { changes = []; marks = [] })
record_new u = record_none u (omega (arith, weight_twice (held u), length-held u, u.most))

pub record_closed : (u : TheUnit) (t t' : Recorded) (m : ℕ) → t.marks ≡ m ∷ t'.marks → t'.changes ≡ t.changes → IsRecord u t → IsRecord u t'
record_closed u t t' m marks changes r =
    let falls : Falling (length t.changes) (m ∷ t'.marks) = subst (Falling (length t.changes)) marks r.marks in
    record {
      stand = rw changes r.stand;
      marks = rw changes (falling_more m (length t.changes) t'.marks falls.0 falls.1);
      light = rw changes r.light;
    }

pub record_forgotten : (u : TheUnit) (t t' : Recorded) → IsRecord u t → t' ≡ record { changes = []; marks = [] } → IsRecord u t'
record_forgotten u t t' r e = rw e (record_none u (omega (arith, record_weight u t r)))

stands_at : (u : TheUnit) (p : ℕ) → p < u.len → sound u.locals p u.len (instr_at u p) ≡ true
stands_at u p inside = rw (get_or-take u.len u.code p Nop inside) (u.rules p inside)

-- a change that lowers the weight is recorded, and the codes at the marks stay
module _ (u v : TheUnit) (t t' : Recorded) (p : ℕ) (i : Instr) (r : IsRecord u t) (inside : p < u.len) (same : IsChanged u p i v)
    (lower : weight_of (set (held u) p i) < weight_of (held u))
    (pushed : t' ≡ record { changes = t.changes ++ record { place = p; old = get_or u.code p Nop } ∷ []; marks = t.marks }) where
  abbrev change : Change
  change = record { place = p; old = instr_at u p }

  abbrev changes : List Change
  changes = t.changes ++ change ∷ []

  t'_is : t' ≡ record { changes = changes; marks = t.marks }
  t'_is = rw (get_or-take u.len u.code p Nop inside) pushed

  code_is : held v ≡ set (held u) p i
  code_is = held_changed u p i v inside same

  light_changed : (k : ℕ) → k ≤ length changes → weight_of (put_back (held v) (drop k changes)) + k ≤ 256
  light_changed k le =
      elim (cases_eq k (length changes)) [
        | inl e ↦
            let none : drop k changes ≡ [] = drop_all k changes (omega arith) in
            let code : put_back (held v) (drop k changes) ≡ set (held u) p i = rw none code_is in
            omega (arith, ap weight_of code, record_weight u t r, lower, length_push t.changes change)
        | inr ne ↦
            let low : k ≤ length t.changes = omega (arith, length_push t.changes change) in
            let back : put_back (held v) (drop k changes) ≡ put_back (held u) (drop k t.changes) =
            rw code_is (put_back_change (held u) t.changes p i k low) in
            omega (arith, r.light k low, ap weight_of back)
      ]

  pub record_changed : IsRecord v t' × (codes_at (held v) t'.changes t'.marks ≡ codes_at (held u) t.changes t.marks)
  record_changed =
      let kept : IsRecord v (record { changes = changes; marks = t.marks }) = record {
        stand = rw (same.locals, same.len) (All-push (MayStand u.locals u.len) t.changes change r.stand (inside, stands_at u p inside));
        marks = falling_more (length t.changes) (length changes) t.marks (omega (arith, length_push t.changes change)) r.marks;
        light = light_changed;
      } in
      (rw t'_is kept, rw (t'_is, code_is) (codes_change (held u) t.changes p i (length t.changes) t.marks (omega arith) r.marks))

-- the innermost attempt's changes are put back: the code is that of its mark, and the codes at the marks around it stay
module _ (u v : TheUnit) (t t' t'' : Recorded) (m : ℕ) (r : IsRecord u t) (marks : t.marks ≡ m ∷ t'.marks) (same : t'.changes ≡ t.changes)
    (back : PutBack m u t' v t'') where
  falls : Falling (length t.changes) (m ∷ t'.marks)
  falls = subst (Falling (length t.changes)) marks r.marks

  left : t''.changes ≡ take m t.changes
  left = back.changes ∙ ap (take m) same

  code_reverted : held v ≡ put_back (held u) (drop m t.changes)
  code_reverted = back.code ∙ ap (λ xs. put_back (held u) (drop m xs)) same

  light_reverted : (k : ℕ) → k ≤ length (take m t.changes) → weight_of (put_back (held v) (drop k (take m t.changes))) + k ≤ 256
  light_reverted k le =
      let low : k ≤ m = omega (arith, length-take-le m t.changes falls.0) in
      let once : put_back (held v) (drop k (take m t.changes)) ≡ put_back (held u) (drop k t.changes) =
      rw code_reverted (put_back_twice (held u) t.changes k m low falls.0) in
      omega (arith, r.light k (omega (arith, falls.0)), ap weight_of once)

  pub record_reverted : IsRecord v t''
  record_reverted = record {
    stand = rw (back.locals, back.len, left) (All-take (MayStand u.locals u.len) m t.changes r.stand);
    marks = rw (left, back.marks, length-take-le m t.changes falls.0) falls.1;
    light = rw left light_reverted;
  }

  pub codes_reverted : (held v ≡ get_or (codes_at (held u) t.changes t.marks) 0 [])
      × (codes_at (held v) t''.changes t''.marks ≡ drop 1 (codes_at (held u) t.changes t.marks))
  codes_reverted =
      let around : codes_at (held v) t''.changes t''.marks ≡ codes_at (held u) t.changes t'.marks =
      rw (code_reverted, left, back.marks) (codes_put_back (held u) t.changes m m t'.marks (omega arith) falls.0 falls.1) in
      (rw (marks, code_reverted), around ∙ rw marks)
