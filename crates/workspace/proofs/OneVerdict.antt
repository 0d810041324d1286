-- A unit has one verdict, by whichever least frames it is judged.
use Rattle.std.proofs.Common.{◌≡◌, ℕ, ◌<◌, ◌≤◌, Ok, Err, Result, inl, inr, sym, ◌∙◌, ap, arith}
use Rattle.bytecode.specs.declared.unit.Unit.{Unit as TheUnit}
use Rattle.dataflow.specs.Analysis.{LeastSolution}
use Rattle.dataflow.proofs.Order.{one_least}
use Rattle.facts.specs.declared.cell.TypeCell.{TypeCell}
use Rattle.facts.specs.declared.frame.Frame.{Frame}
use Rattle.facts.specs.Frames.{Fitting}
use Rattle.facts.specs.Types.{reason}
use Rattle.analyses.specs.declared.verify.VerifierFault.{VerifierFault}
use Rattle.analyses.specs.Edges.{instr_at}
use Rattle.analyses.specs.Frameworks.{types_of}
use Rattle.analyses.specs.Lawful.{types_lawful}
use Rattle.analyses.specs.Verdicts.{reason_in, NoneBelow, NoneButClash, Refused, Judged}
use Rattle.analyses.proofs.Verdicts.{one_verdict}

-- frames that are the same at each place give the same verdict
module _ (u : TheUnit) (f g : ℕ → Frame TypeCell) (same : (p : ℕ) → p < u.len → f p ≡ g p) where
  reason_alike : (p : ℕ) → p < u.len → reason_in u g p ≡ reason_in u f p
  reason_alike p lt = ap (reason (instr_at u p)) (sym (same p lt))

  none_below_alike : (end : ℕ) → end ≤ u.len → NoneBelow u f end → NoneBelow u g end
  none_below_alike end le h p lt = reason_alike p (omega arith) ∙ h p lt

  none_but_clash_alike : (end : ℕ) → end ≤ u.len → NoneButClash u f end → NoneButClash u g end
  none_but_clash_alike end le h p lt =
      let e = reason_alike p (omega arith) in
      elim (h p lt) [ inl none ↦ inl (e ∙ none) | inr clash ↦ inr (e ∙ clash) ]

  refused_alike : (fault : VerifierFault) → Refused u f fault → Refused u g fault
  refused_alike fault h =
      let le : fault.place ≤ u.len = omega (arith, h.inside) in
      record {
        inside = h.inside;
        there = reason_alike fault.place h.inside ∙ h.there;
        first = elim h.first [
          | inl (ne, low) ↦ inl (ne, none_but_clash_alike fault.place le low)
          | inr (is, all, low) ↦ inr (is, none_but_clash_alike u.len (omega arith) all, none_below_alike fault.place le low)
        ];
      }

  judged_alike : (r : Result (Unit {0}) VerifierFault) → Judged u f r → Judged u g r
  judged_alike (Ok t) h = none_below_alike u.len (omega arith) h
  judged_alike (Err fault) h = refused_alike fault h

pub one_verdict_by_least : (u : TheUnit) (f g : ℕ → Frame TypeCell) (r s : Result (Unit {0}) VerifierFault)
    → LeastSolution Fitting (types_of u) f → LeastSolution Fitting (types_of u) g → Judged u f r → Judged u g s → r ≡ s
one_verdict_by_least u f g r s a b h k =
    one_verdict u g s r k (judged_alike u f g (one_least (types_lawful u) f g a b) r h)
