use Rattle.std.proofs.Common.{rules, arith, ◌≡◌, ◌<◌, ◌*◌, ◌%◌, pos, ◌+ℤ◌, ◌*ℤ◌, w32, to_z, of_z, ap, ◌∙◌}
use Rattle.std.specs.Int.{int_wrap}
use Rattle.std.proofs.lemmas.Int.{wrapping_add_onto, wrapping_mul_is}
use Rattle.clock.proofs.answers.sum_with.Goals as goal

pub returns : goal.returns
returns c =
    let product = of_z w32 c.args.sum * 31 % 4294967296 in
    let low : product < 4294967296 = omega arith in
    let times : to_z w32 product ≡ int_wrap w32 (c.args.sum *ℤ pos 31) = wrapping_mul_is w32 c.args.sum (pos 31) c.ranges.sum (search rules) in
    wrapping_add_onto w32 product c.args.output low c.ranges.output ∙ ap (λ z. int_wrap w32 (z +ℤ c.args.output)) times
