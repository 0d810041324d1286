use Rattle.std.proofs.Common.{◌≤◌, length, replicate, set, sym, subst, arith}
use Rattle.std.proofs.lemmas.Result.{err_from_is_err_and}
use Rattle.bytecode.specs.declared.instr.Instr.TheVariants.{Nop}
use Rattle.bytecode.proofs.Loops.{ReadSoFar, read_none, read_more, read_stops}
use Rattle.bytecode.proofs.read.read_code.Goals as goal
use Rattle.bytecode.proofs.read.read_code.Goals.{In-Some}

-- six bytes were left
left : (c : In-Some) → 6 ≤ length c.loop-place.place-iterator.rest.now
left c = let t = c.in-Some.ensures.steps in omega (arith, t.shorter)

pub loop-place-init : goal.loop-place-init
loop-place-init c =
    rw c.requires.blank
    (subst
    (λ p. ReadSoFar c.args.file.now c.args.len (replicate 128 Nop) p.rest.now p.place)
    (sym c.into_iter-place-iterator.ensures.into_iter_gives)
    (subst (ReadSoFar c.args.file.now c.args.len _ c.new-place-items.result.rest.now) (sym c.new-place-items.ensures.place) (read_none c.args.file.now c.args.len _ c.new-place-items.ensures.rest)))

pub returns-in_err-code : goal.returns-in_err-code
returns-in_err-code c =
    let p = err_from_is_err_and c.from_residual.result c.from_residual.ensures.1 in
    let e = c.in_err-code.ensures in
    let t = c.in-Some.ensures.steps in
    rw (p.1, p.2) (read_stops c.args.file.now c.args.len c.requires.sized c.loop-place.code _ _ c.loop-place.invariant _ _ _ t.place_is (left (goal.at.returns-in_err-code c).In-Some) t.part_is e.1 e.0)

pub loop-place-preserved : goal.loop-place-preserved
loop-place-preserved c =
    let t = c.in-Some.ensures.steps in
    subst (ReadSoFar c.args.file.now c.args.len (set c.loop-place.code c.in-Some.place c.in_ok-code.field-0) c.next.new.self.rest.now) (sym t.next_place) (read_more c.args.file.now c.args.len c.requires.sized c.loop-place.code _ _ c.loop-place.invariant _ _ _ _ t.place_is (left (goal.at.loop-place-preserved c).In-Some) t.part_is t.rest_is c.in_ok-code.ensures)
