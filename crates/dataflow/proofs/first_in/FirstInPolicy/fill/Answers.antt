use Rattle.std.proofs.Common.{ℕ, List, ltb, ap, ◌∙◌}
use Rattle.dataflow.specs.FirstIn.{is_member}
use Rattle.dataflow.proofs.Below.{below_both, is_member-rising}
use Rattle.dataflow.proofs.first_in.FirstInPolicy.fill.Goals as goal

pub returns-clause-filled : goal.returns-clause-filled
returns-clause-filled c = λ v.
    ap (λ (xs : List ℕ). is_member xs v) c.stand_in_order.ensures.nodes ∙ is_member-rising c.min-count.result v
    ∙ ap (λ n. ltb v n) c.min-count.ensures ∙ below_both c.args.count v
