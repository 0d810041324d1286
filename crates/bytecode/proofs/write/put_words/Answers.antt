use Rattle.std.proofs.Common.{map, sym, ◌∙◌, ap, arith}
use Rattle.std.proofs.lemmas.List.{length-map, get_or-map}
use Rattle.bytecode.specs.Layout.{encoded}
use Rattle.bytecode.proofs.Files.{blank}
use Rattle.bytecode.proofs.Writes.{write_more}
use Rattle.bytecode.proofs.write.put_words.Goals as goal

pub loop-place-preserved : goal.loop-place-preserved
loop-place-preserved g c =
    let word = g.S.Spelled.spelling in
    let items = c.args.items.now in
    let p = c.loop-place.place in
    let item = c.index-items-place.result in
    let long = length-map items word in
    let spelt = c.word.ensures ∙ ap word c.index-items-place.is ∙ sym (get_or-map word items p item blank c.loop-place-test.true) in
    c.put.ensures
    ∙ write_more c.args.out.now c.loop-place.out (map word items) p c.from.result
    (omega (arith, c.loop-place-test.true, long))
    (omega (arith, c.requires))
    (c.from.ensures ∙ ap encoded spelt)
    c.loop-place.invariant
