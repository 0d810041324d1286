use Rattle.std.proofs.Common.{inl, inr}
use Rattle.rewrite.specs.Rules.{load, dup, opposite, sum, difference, product, quotient, equal, less}
use Rattle.rewrite.proofs.yields.folds.Goals as goal

pub returns-in-Load : goal.returns-in-Load
returns-in-Load c = elim c.in-Load.is [
  | inl (n, e) ↦ rw e (load n)
  | inr e ↦ rw e dup
]

pub returns-in-Not : goal.returns-in-Not
returns-in-Not c = rw c.in-Not.is opposite

pub returns-in-Add : goal.returns-in-Add
returns-in-Add c = elim c.in-Add.is [
  | inl e ↦ rw e sum
  | inr (inl e) ↦ rw e difference
  | inr (inr (inl e)) ↦ rw e product
  | inr (inr (inr (inl e))) ↦ rw e quotient
  | inr (inr (inr (inr (inl e)))) ↦ rw e equal
  | inr (inr (inr (inr (inr e)))) ↦ rw e less
]
