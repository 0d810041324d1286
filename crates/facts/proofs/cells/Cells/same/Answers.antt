use Rattle.std.proofs.Common.{ap, ◌∙◌}
use Rattle.std.proofs.lemmas.Bool.{both_ways}
use Rattle.facts.proofs.Fields.{same_fields}
use Rattle.facts.proofs.cells.Cells.same.Goals as goal
use Rattle.facts.proofs.cells.Cells.same.Goals.{then-self-other, else-self-other}

pub returns-else-same_cells : goal.returns-else-same_cells
returns-else-same_cells g c =
    let same = same_fields g.C.Cell.zero c.self.inside c.other.inside _ _ c.self.invariant c.other.invariant c.self.view_is c.other.view_is in (
      λ t. absurd (both_ways _ c.if-same_cells.false t),
      λ e.
          elim c.if-self-other.branch [
            | then-self-other w ↦ w.value-is ∙ w.same_cells.ensures.1 (ap (λ a. a.stack) (same e))
            | else-self-other w ↦ absurd (w.if-self-other.false (ap (λ a. a.height) (same e)))
          ],
    )
