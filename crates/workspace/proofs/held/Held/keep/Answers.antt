use Rattle.std.proofs.Common.{◌≡◌, [], ap, ◌∙◌, arith}
use Rattle.std.proofs.lemmas.List.{nil_from_length}
use Rattle.workspace.proofs.Records.{record_closed, record_forgotten}
use Rattle.workspace.proofs.held.Held.keep.Goals as goal

pub invariant_of-self : goal.invariant_of-self
invariant_of-self c =
    let none : c.close.new.self.marks ≡ [] = nil_from_length c.close.new.self.marks (omega (arith, c.depth.ensures.depth, c.if-depth-eq0.true)) in
    record_forgotten
    c.self.inside.unit
    c.self.inside.trail
    c.forget.new.self
    c.self.invariant
    (c.forget.ensures ∙ ap (λ ms. record { changes = []; marks = ms }) none)

pub invariant_of-self-else-depth-eq0 : goal.invariant_of-self-else-depth-eq0
invariant_of-self-else-depth-eq0 c =
    record_closed
    c.self.inside.unit
    c.self.inside.trail
    c.close.new.self
    c.close.result
    c.close.ensures.marks
    c.close.ensures.changes
    c.self.invariant
