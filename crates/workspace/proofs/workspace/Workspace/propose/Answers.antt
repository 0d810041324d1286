use Rattle.std.proofs.Common.{◌≡◌, ◌<◌, false, not, Some, refl, ap, ◌∙◌, inl, arith}
use Rattle.std.proofs.lemmas.Bool.{lt-leb}
use Rattle.std.specs.Prelude.{nat_le}
use Rattle.bytecode.specs.declared.unit.Unit.{Unit as TheUnit}
use Rattle.workspace.specs.Does.{is_not_innermost}
use Rattle.workspace.specs.Stored.{contents_of}
use Rattle.workspace.proofs.workspace.Workspace.propose.Goals as goal

pub returns-clause-does : goal.returns-clause-does
returns-clause-does g c =
    let innermost : is_not_innermost (Some (contents_of c.self.inside.held)) c.args.attempt.now ≡ false =
    c.is_innermost.ensures ∙ ap not c.if-not-is_innermost.false in
    let inside : c.args.place < c.self.inside.held.unit.len = omega (arith, c.if-place-unit.false, ap (λ (u : TheUnit). u.len) c.unit.ensures) in
    let place : nat_le c.self.inside.held.unit.len c.args.place ≡ false = lt-leb c.self.inside.held.unit.len c.args.place inside in
    let made = c.change.ensures.changes in
    rw (← c.self.view_is, c.if-not-self.false, innermost, place)
    (inl (c.may_become.ensures.decides.0 c.if-not-may_become.false, refl, made.0, made.1, made.2))
