use Rattle.std.proofs.Common.{inl, inr, refl, arith}
use Rattle.std.proofs.lemmas.Bool.{cases_eq}
use Rattle.analyses.proofs.ways.leads_alike.Goals as goal

pub loop-place-preserved : goal.loop-place-preserved
loop-place-preserved c = λ p below. elim (cases_eq p c.loop-place.place) [
  | inl same ↦ rw same (c.if-not-goes_alike.ensures.0 refl)
  | inr other ↦ c.loop-place.invariant p (omega (arith, below, other))
]
