use Rattle.std.proofs.Common.{◌≡◌, ℕ, zero, suc, ◌<◌, ◌≤◌, ◌≢◌, true, get_or, set, replicate, refl, ◌∙◌, arith}
use Rattle.std.proofs.lemmas.List.{get_or-set_other, get_or-replicate}
use Rattle.bytecode.specs.declared.instr.Instr.TheVariants.{Nop, Halt}
use Rattle.bytecode.specs.Instructions.{sound}
use Rattle.bytecode.proofs.unit.Unit.halt.Goals as goal

halt_stands : (k : ℕ) → k < 1 → sound 0 k 1 (get_or (set (replicate 128 Nop) 0 Halt) k Nop) ≡ true
halt_stands zero lt = refl
halt_stands (suc k) lt = absurd (omega arith)

blank_past : (k : ℕ) → 1 ≤ k → k < 128 → get_or (set (replicate 128 Nop) 0 Halt) k Nop ≡ Nop
blank_past k le lt =
    let ne : k ≢ 0 = omega arith in
    get_or-set_other (replicate 128 Nop) 0 k Halt Nop ne ∙ get_or-replicate 128 k Nop Nop lt

pub invariant_of-result : goal.invariant_of-result
invariant_of-result c = record {
  whole = refl;
  some = omega arith;
  most = omega arith;
  few = omega arith;
  rules = halt_stands;
  blank = blank_past;
}
