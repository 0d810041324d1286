use Rattle.std.proofs.Common.{refl, ap, ◌∙◌}
use Rattle.workspace.specs.Stored.{Stored, RestIsSolved}
use Rattle.workspace.proofs.Holding.{both_solved, holds_solved}
use Rattle.workspace.proofs.held.Held.change.Goals as goal

pub returns-clause-changes : goal.returns-clause-changes
returns-clause-changes g c =
    let amended = c.amend.ensures.amends in
    let unit = ap (λ (s : Stored). s.unit) c.solve_types.ensures.rest in
    let opened = ap (λ (s : Stored). s.opened) c.solve_types.ensures.rest in
    let after = c.solve_types.new.self in
    let rest : RestIsSolved after.unit after.solutions = rw c.solve_types.ensures.rest (record { constants = amended.rest.constants; lives = amended.rest.lives }) in (
      after.unit,
      rw unit amended.changed,
      holds_solved after.unit after.unit after.solutions c.args.self.now.opened after.opened refl (both_solved after.unit after.solutions c.solve_types.ensures.solved rest) (opened ∙ amended.opened),
    )
