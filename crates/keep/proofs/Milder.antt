-- HALT is applicable wherever an instruction is, and what takes the place of JF makes no more of a frame of types.
use Rattle.std.proofs.Common.{◌≡◌, Bool, true, false, cond, [], length, drop, ℤ, None, refl, arith}
use Rattle.std.proofs.lemmas.Bool.{le-ltb}
use Rattle.bytecode.specs.declared.instr.Instr.{Instr}
use Rattle.bytecode.specs.declared.instr.Instr.TheVariants as I
use Rattle.facts.specs.declared.cell.TypeCell.{TypeCell}
use Rattle.facts.specs.declared.frame.Frame.{Frame}
use Rattle.facts.specs.declared.frame.Frame.TheVariants.{Unreached, At, Clash}
use Rattle.facts.specs.TypeCells.{join_types}
use Rattle.facts.specs.Held.{Held}
use Rattle.facts.specs.Frames.{IsBelow, Fitting, replaced}
use Rattle.facts.specs.Types.{reason, carry_types}
use Rattle.keep.proofs.Replaced.{under_itself, carry-replaced, replaced_below}

pub halt_applicable : (i : Instr) (f : Frame TypeCell) → Fitting f → reason i f ≡ None → reason I.Halt f ≡ None
halt_applicable i Unreached p fine = refl
halt_applicable i (At a) p fine =
    let few = le-ltb (length a.stack) 0 (omega arith) in
    let many = le-ltb 8 (length a.stack) p.0 in
    rw (few, many)
halt_applicable i Clash p fine = fine

branch_carry : (d : ℤ) (b : Bool) (a : Held TypeCell) → carry_types (cond b I.Pop (I.DropJmp d)) (At a) ≡ replaced 1 [] a
branch_carry d true a = carry-replaced I.Pop a 1 [] refl refl
branch_carry d false a = carry-replaced (I.DropJmp d) a 1 [] refl refl

pub branch_below : (d : ℤ) (b : Bool) (f : Frame TypeCell) → IsBelow join_types (carry_types (cond b I.Pop (I.DropJmp d)) f) (carry_types (I.Jf d) f)
branch_below d b Unreached = refl
branch_below d b (At a) = rw (branch_carry d b a) (replaced_below (I.Jf d) a 1 [] (omega arith) refl (λ enough. under_itself (drop 1 a.stack)))
branch_below d b Clash = refl
