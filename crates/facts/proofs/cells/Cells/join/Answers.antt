use Rattle.std.proofs.Common.{refl, ap, sym, ◌∙◌, arith}
use Rattle.std.proofs.lemmas.List.{drop_all}
use Rattle.facts.proofs.Fields.{unused_same, Within-joined, held-joined, same_fields}
use Rattle.facts.proofs.cells.Cells.join.Goals as goal
use Rattle.facts.proofs.cells.Cells.join.Goals.{then-stack, else-stack}

pub join_cells-stack-requires-clause-rest : goal.join_cells-stack-requires-clause-rest
join_cells-stack-requires-clause-rest g c =
    unused_same g.C.Cell.joined g.C.Cell.zero c.self.inside c.other.inside _ _ c.self.invariant c.other.invariant c.self.view_is c.other.view_is c.requires

pub join_cells-locals-requires-clause-rest : goal.join_cells-locals-requires-clause-rest
join_cells-locals-requires-clause-rest g c =
    drop_all 16 c.self.inside.locals (omega (arith, c.self.invariant.sixteen)) ∙ sym (drop_all 16 c.other.inside.locals (omega (arith, c.other.invariant.sixteen)))

pub invariant_of-self : goal.invariant_of-self
invariant_of-self g c =
    rw (c.join_cells-stack.ensures.joined, c.join_cells-locals.ensures.joined)
    (Within-joined _ _ _ _ _ _ c.self.invariant c.other.invariant c.self.view_is c.other.view_is c.requires (g.met.C.Cell.laws.idempotent _))

pub returns-clause-joined : goal.returns-clause-joined
returns-clause-joined g c =
    rw (c.join_cells-stack.ensures.joined, c.join_cells-locals.ensures.joined)
    (held-joined _ _ _ _ _ _ c.self.invariant c.other.invariant c.self.view_is c.other.view_is c.requires)

pub returns-clause-changed : goal.returns-clause-changed
returns-clause-changed g c = λ t e.
    let same = same_fields g.C.Cell.zero (record { height = c.self.inside.height; stack = c.join_cells-stack.new.cells; locals = c.join_cells-locals.new.cells })
    c.self.inside _ _ (invariant_of-self g c) c.self.invariant refl c.self.view_is e in
    elim c.if-stack.branch [
      | then-stack w ↦ c.join_cells-stack.ensures.changed w.if-stack.true (ap (λ a. a.stack) same)
      | else-stack w ↦ c.join_cells-locals.ensures.changed (rw w.result-is at t) (ap (λ a. a.locals) same)
    ]
