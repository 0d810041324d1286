use Rattle.std.proofs.Common.{◌≡◌, ◌<◌, ◌++◌, length, get_or, ◌∙◌, arith}
use Rattle.std.specs.Option.{option_to_list}
use Rattle.std.proofs.lemmas.List.{get_or-take}
use Rattle.bytecode.specs.declared.instr.Instr.TheVariants.{Nop}
use Rattle.bytecode.specs.Files.{held}
use Rattle.bytecode.proofs.Held.{length-held}
use Rattle.analyses.specs.Edges.{edges_out}
use Rattle.analyses.proofs.Tables.{edges_from-more, length-push}
use Rattle.analyses.proofs.edges.Edges.fill.Goals as goal

pub loop-place-preserved : goal.loop-place-preserved
loop-place-preserved c =
    let u = c.args.unit.now in
    let place = c.loop-place.place in
    let below : place < u.len = omega arith in
    let in_range : place < length (held u) = omega (arith, length-held u) in
    let first = c.in_order-first.result.0 in
    let second = c.in_order-first.result.1 in
    let here : option_to_list first ++ option_to_list second ≡ edges_out u.len place (get_or (held u) place Nop) =
    rw (get_or-take u.len u.code place Nop below, ← c.way-next.ensures, ← c.way-jump.ensures) c.in_order-first.ensures in
    rw (c.push-in-loop-place.ensures, c.push.ensures) (
      edges_from-more u.len place (held u) c.loop-place.self first second in_range here ∙ c.loop-place.invariant.0,
      omega (arith, c.loop-place.invariant.1, length-push (c.loop-place.self ++ option_to_list first) second, length-push c.loop-place.self first),
    )
