-- Each rule keeps the whole answer of every run.
use Rattle.std.proofs.Common.{ℕ, ◌<◌, subst}
use Rattle.bytecode.specs.declared.instr.Instr.{Instr}
use Rattle.bytecode.specs.declared.unit.Unit.{Unit as TheUnit}
use Rattle.bytecode.specs.Files.{held}
use Rattle.facts.specs.declared.cell.ConstCell.{ConstCell}
use Rattle.facts.specs.declared.frame.Frame.{Frame}
use Rattle.analyses.specs.Edges.{instr_at}
use Rattle.rewrite.specs.declared.rule.Rule.{Rule}
use Rattle.rewrite.specs.declared.rule.Rule.TheVariants as R
use Rattle.rewrite.specs.Rules.{Yields}
use Rattle.keep.specs.Keeps.{Solves, IsChanged, RulesKeepRuns}
use Rattle.keep.proofs.SameTurns.{Keeps, unreached_keeps}
use Rattle.keep.proofs.Literals.{literal_keeps}
use Rattle.keep.proofs.Branches.{branch_keeps}
use Rattle.keep.proofs.DeadStores.{dead_store_keeps}

module _ (u v : TheUnit) (known : ℕ → Frame ConstCell) (live : ℕ → ℕ) (p : ℕ) (new : Instr)
    (solved : Solves u known live) (lt : p < u.len) (changed : IsChanged u p new v) where
  rule_keeps : (r : Rule) → Yields r (instr_at u p) (known p) (live p) new → Keeps (held u) (held v)
  rule_keeps R.Unreached y = unreached_keeps u v p new lt changed known solved.constants y.0
  rule_keeps R.Literal y = literal_keeps u v p new lt changed known solved.constants (live p) y
  rule_keeps R.Branch y = branch_keeps u v p new lt changed known solved.constants (live p) y
  rule_keeps R.DeadStore y = dead_store_keeps u v live p y.0 (subst (λ i. IsChanged u p i v) y.3 changed) solved.lives lt y.1 y.2

pub rules_keep_runs : RulesKeepRuns
rules_keep_runs r u v known live p new never solved y changed =
    let k = rule_keeps u v known live p new solved y.inside changed r y.yields in
    (k.0, k.1 never)
