use Rattle.std.proofs.Common.{false, replicate, inl, inr}
use Rattle.std.proofs.lemmas.Bool.{cases_lt}
use Rattle.std.proofs.lemmas.List.{get_or-replicate, get_or_past}
use Rattle.dataflow.proofs.policy_tests.LowestPolicy.clear.Goals as goal

pub returns : goal.returns
returns c = λ v. elim (cases_lt v 128) [
  | inl inside ↦ get_or-replicate 128 v false false inside
  | inr past ↦ get_or_past (replicate 128 false) v false past
]
