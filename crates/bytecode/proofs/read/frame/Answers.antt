use Rattle.std.proofs.Common.{◌∙◌, arith}
use Rattle.bytecode.specs.Files.{Summed}
use Rattle.bytecode.proofs.Frames.{sized_from, summed_from, summed_says}
use Rattle.bytecode.proofs.read.frame.Goals as goal
use Rattle.bytecode.proofs.read.frame.Goals.{Else-check-check_sum, then-file-ne1-via-then-file-ne1, then-file-ne1-via-else-file-ne1+then-file-gt16}

summed : (c : Else-check-check_sum) → Summed c.args.file.now
summed c = summed_from c.args.file.now c.from_be_bytes-check.result c.check_sum.result (omega arith) c.from_be_bytes-check.ensures c.check_sum.ensures c.if-check-check_sum.false

pub returns-then-check-check_sum : goal.returns-then-check-check_sum
returns-then-check-check_sum c = (_, sized_from c.args.file.now (omega arith) (omega arith) (omega arith), λ s. c.if-check-check_sum.true (summed_says c.args.file.now c.from_be_bytes-check.result c.check_sum.result (omega arith) c.from_be_bytes-check.ensures c.check_sum.ensures s))

pub returns-then-file-ne1 : goal.returns-then-file-ne1
returns-then-file-ne1 c = (
  _,
  sized_from c.args.file.now (omega arith) (omega arith) (omega arith),
  summed (goal.at.returns-then-file-ne1 c).Else-check-check_sum,
  λ h.
      elim c.then-file-ne1.branch [
        | then-file-ne1-via-then-file-ne1 w ↦ w.if-file-ne1.true h.0
        | then-file-ne1-via-else-file-ne1+then-file-gt16 w ↦ omega (arith, w.if-file-gt16.true)
      ],
)

pub returns-then-from-count : goal.returns-then-from-count
returns-then-from-count c =
    (_, sized_from c.args.file.now (omega arith) (omega arith) (omega arith), summed (goal.at.returns-then-from-count c).Else-check-check_sum, (c.if-file-ne1.false, c.if-file-gt16.false), λ e. c.if-from-count.true (c.from.ensures ∙ c.from_be_bytes.ensures ∙ e))
