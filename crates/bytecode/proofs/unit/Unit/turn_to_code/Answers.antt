use Rattle.std.proofs.Common.{◌≡◌, ℕ, ◌+◌, ◌<◌, ◌≤◌, List, ◌++◌, length, take, drop, get_or, true, sym, ap, refl, ◌∙◌, subst, arith}
use Rattle.std.proofs.lemmas.List.{ext_get_or, get_or-drop, length-drop, take-append-drop}
use Rattle.bytecode.specs.declared.instr.Instr.{Instr}
use Rattle.bytecode.specs.declared.instr.Instr.TheVariants.{Nop}
use Rattle.bytecode.specs.Instructions.{sound}
use Rattle.bytecode.proofs.unit.Unit.turn_to_code.Goals as goal
use Rattle.bytecode.proofs.unit.Unit.turn_to_code.Goals.{After-copy_first}

-- from place n on all 128 are NOP
abbrev Blank : List Instr → ℕ → Type 0
Blank code n = (k : ℕ) → n ≤ k → k < 128 → get_or code k Nop ≡ Nop

blank_at : (code : List Instr) (n m i : ℕ) → length code ≡ 128 → Blank code n → n ≤ m → i < length (drop m code) → get_or (drop m code) i Nop ≡ Nop
blank_at code n m i whole blank past lt = get_or-drop m code i Nop ∙ blank (m + i) (omega arith) (omega (arith, lt, length-drop m code, whole))

-- past both lengths both codes are blank
same_code : (old new after : List Instr) (a b m : ℕ) → length old ≡ 128 → length new ≡ 128 → Blank old a → Blank new b → a ≤ m → b ≤ m → after ≡ take m new ++ drop m old → after ≡ new
same_code old new after a b m whole_old whole_new blank_old blank_new past_old past_new copied =
    let long : length (drop m old) ≡ length (drop m new) = omega (arith, length-drop m old, length-drop m new, whole_old, whole_new) in
    let tails : drop m old ≡ drop m new =
    ext_get_or Nop (drop m old) (drop m new) long (λ i lt. blank_at old a m i whole_old blank_old past_old lt ∙ sym (blank_at new b m i whole_new blank_new past_new (omega (arith, lt, long)))) in
    copied ∙ ap (λ l. take m new ++ l) tails ∙ take-append-drop m new

same : (c : After-copy_first) → c.copy_first.new.to ≡ c.args.code.now
same c =
    let u = c.args.self.now in
    same_code u.code c.args.code.now c.copy_first.new.to u.len c.args.len c.max.result u.whole c.requires.whole u.blank c.requires.blank (omega arith) (omega arith) c.copy_first.ensures

pub invariant_of-self : goal.invariant_of-self
invariant_of-self c =
    let e = same (goal.at.invariant_of-self c).After-copy_first in
    record {
      whole = ap length e ∙ c.requires.whole;
      some = c.requires.some;
      most = c.requires.most;
      few = c.requires.few;
      rules = λ k lt. subst (λ code. sound c.args.locals k c.args.len (get_or code k Nop) ≡ true) (sym e) (c.requires.rules k lt);
      blank = λ k ge lt. subst (λ code. get_or code k Nop ≡ Nop) (sym e) (c.requires.blank k ge lt);
    }

pub returns-clause-code : goal.returns-clause-code
returns-clause-code c = same (goal.at.returns-clause-code c).After-copy_first
