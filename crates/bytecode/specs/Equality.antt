-- When two instructions are equal: their words are, in every field. Assumes nothing.
use Rattle.std.specs.Prelude.{Bool, ◌==◌}
use Rattle.std.specs.Ordering.{on, eq_of_both, int_eq}
use Rattle.std.specs.Cmp.{IsPartialEquivalence, partial_equiv_from_equiv, nat_eq_equiv, int_eq_equiv, and_equiv, on_equiv}
use Rattle.bytecode.specs.declared.instr.Instr.{Instr}
use Rattle.bytecode.specs.declared.word.Word.{Word}
use Rattle.bytecode.specs.Instructions.{word}

abbrev pub same_word : Word → Word → Bool
same_word = eq_of_both (on (λ w. w.op) ◌==◌) (eq_of_both (on (λ w. w.drops) ◌==◌) (on (λ w. w.arg) int_eq))

abbrev pub same_instr : Instr → Instr → Bool
same_instr = on word same_word

pub same_instr_laws : IsPartialEquivalence same_instr
same_instr_laws =
    partial_equiv_from_equiv (on_equiv word (and_equiv (on_equiv (λ (w : Word). w.op) nat_eq_equiv) (and_equiv (on_equiv (λ (w : Word). w.drops) nat_eq_equiv) (on_equiv (λ (w : Word). w.arg) int_eq_equiv))))
