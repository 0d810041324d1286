-- The unit of a code.
use Rattle.std.proofs.Common.{◌≡◌, ℕ, ◌-◌, ◌<◌, ◌≤◌, true, List, ◌++◌, length, get_or, ◌∙◌, arith, length-append}
use Rattle.std.specs.Prelude.{replicate}
use Rattle.std.proofs.lemmas.List.{length-replicate, get_or-append_right, get_or_append_left, get_or-replicate}
use Rattle.bytecode.specs.declared.instr.Instr.{Instr}
use Rattle.bytecode.specs.declared.instr.Instr.TheVariants.{Nop}
use Rattle.bytecode.specs.declared.unit.Unit.{Unit as TheUnit}
use Rattle.bytecode.specs.Instructions.{sound}
use Rattle.samples.proofs.Below.{Each, each_below}

-- each instruction may stand at its place of n
abbrev pub MayStand : ℕ → ℕ → List Instr → Type 0
MayStand L n code = Each (λ k. sound L k n (get_or code k Nop) ≡ true) n

module _ (L n : ℕ) (code : List Instr) (count : length code ≡ n) (some : 1 ≤ n) (most : n ≤ 128) (few : L ≤ 16) (stand : MayStand L n code) where
  pub padded_whole : length (code ++ replicate (128 - n) Nop) ≡ 128
  padded_whole = omega (arith, length-append code (replicate (128 - n) Nop), length-replicate {A = Instr} (128 - n) Nop)

  pub padded_rules : (k : ℕ) → k < n → sound L k n (get_or (code ++ replicate (128 - n) Nop) k Nop) ≡ true
  padded_rules k lt = rw (get_or_append_left code (replicate (128 - n) Nop) Nop k (omega arith)) (each_below (λ k. sound L k n (get_or code k Nop) ≡ true) n stand k lt)

  pub padded_blank : (k : ℕ) → n ≤ k → k < 128 → get_or (code ++ replicate (128 - n) Nop) k Nop ≡ Nop
  padded_blank k le lt = get_or-append_right code (replicate (128 - n) Nop) n k Nop count le ∙ get_or-replicate (128 - n) (k - n) Nop Nop (omega arith)

  abbrev pub unit_of : TheUnit
  unit_of = record {
    locals = L;
    len = n;
    code = code ++ replicate (128 - n) Nop;
    whole = padded_whole;
    some = some;
    most = most;
    few = few;
    rules = padded_rules;
    blank = padded_blank;
  }
