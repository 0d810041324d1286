use Rattle.std.proofs.Common.{◌≡◌, ◌++◌, take, drop, ap, sym, ◌∙◌, subst, arith}
use Rattle.std.proofs.lemmas.List.{take-append-drop}
use Rattle.facts.specs.Frames.{joined_cells}
use Rattle.facts.proofs.Below.{joined_cells-same}
use Rattle.facts.proofs.cells.join_cells.Goals as goal

pub returns-clause-joined : goal.returns-clause-joined
returns-clause-joined g c =
    let join = g.C.Cell.joined in
    let k = c.loop-k.k in
    let cells = c.loop-k.cells in
    let others = c.args.others.now in
    let end : c.args.count ≡ k = omega (arith, c.loop-k-test.false, c.loop-k.auto.k-end) in
    let past : drop k c.args.cells.now ≡ drop k others = subst (λ j. drop j c.args.cells.now ≡ drop j others) end c.requires.rest in
    let left : drop k cells ≡ joined_cells join (drop k cells) (drop k others) =
    sym (joined_cells-same join g.met.C.Cell.laws.idempotent (drop k cells)) ∙ ap (joined_cells join (drop k cells)) (c.loop-k.invariant.rest ∙ past) in
    sym (take-append-drop k cells) ∙ ap (λ xs. take k cells ++ xs) left ∙ c.loop-k.invariant.joined
