use Rattle.std.proofs.Common.{inl, inr}
use Rattle.facts.proofs.AskedKinds.{has_right_kinds_any}
use Rattle.facts.proofs.types.has_right_kinds.Goals as goal

pub returns-in-Nop : goal.returns-in-Nop
returns-in-Nop c =
    let asked = has_right_kinds_any c.args.instr c.args.cells.now in
    let enough = c.requires in
    elim c.in-Nop.is [
      | inl e ↦ asked 0 enough (rw e) (rw e)
      | inr (inl e) ↦ asked 0 enough (rw e) (rw e)
      | inr (inr (inl (k, v, e))) ↦ asked k enough (rw e) (rw e)
      | inr (inr (inr (inl (k, b, e)))) ↦ asked k enough (rw e) (rw e)
      | inr (inr (inr (inr (inl e)))) ↦ asked 1 enough (rw e) (rw e)
      | inr (inr (inr (inr (inr (inl e))))) ↦ asked 1 enough (rw e) (rw e)
      | inr (inr (inr (inr (inr (inr (inl e)))))) ↦ asked 2 enough (rw e) (rw e)
      | inr (inr (inr (inr (inr (inr (inr (inl (n, e)))))))) ↦ asked 1 enough (rw e) (rw e)
      | inr (inr (inr (inr (inr (inr (inr (inr (inl (d, e))))))))) ↦ asked 0 enough (rw e) (rw e)
      | inr (inr (inr (inr (inr (inr (inr (inr (inr (inl (d, e)))))))))) ↦ asked 1 enough (rw e) (rw e)
      | inr (inr (inr (inr (inr (inr (inr (inr (inr (inr e))))))))) ↦ asked 0 enough (rw e) (rw e)
    ]
