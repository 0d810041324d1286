use Rattle.std.proofs.Common.{rules}
use Rattle.rewrite.proofs.Rules.{folds_low}
use Rattle.rewrite.proofs.yields.literal.Goals as goal

pub returns-in-Num : goal.returns-in-Num
returns-in-Num c =
    let low = folds_low c.args.instr c.in_ok-drops.drops c.in_ok-drops.ensures in
    λ live. (search rules, rw low (search rules))

pub returns-in-Flag : goal.returns-in-Flag
returns-in-Flag c = λ live. (search rules, folds_low c.args.instr c.in_ok-drops.drops c.in_ok-drops.ensures)
