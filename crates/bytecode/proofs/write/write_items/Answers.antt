use Rattle.std.proofs.Common.{◌≡◌, ℕ, ◌-◌, ◌/◌, ◌%◌, List, [], ◌∷◌, length, map, get_or, take, refl, sym, ap, ◌∙◌, arith}
use Rattle.std.proofs.lemmas.List.{length-map}
use Rattle.bytecode.specs.Layout.{be16, check}
use Rattle.bytecode.proofs.Files.{file_long}
use Rattle.bytecode.proofs.Writes.{steps_write}
use Rattle.bytecode.proofs.write.write_items.Goals as goal

-- two bytes of a number are those of its low 16 bits
low_16 : (n : ℕ) → be16 (n % 65536) ≡ be16 n
low_16 n =
    let high : n % 65536 / 256 % 256 ≡ n / 256 % 256 = omega arith in
    let low : n % 65536 % 256 ≡ n % 256 = omega arith in
    cc

pub returns-in_default : goal.returns-in_default
returns-in_default g c =
    let words = map g.S.Spelled.spelling c.args.items.now in
    (omega (arith, length-map c.args.items.now g.S.Spelled.spelling, file_long c.args.locals words, c.in-Some.ensures), refl)

pub returns-in_default-2 : goal.returns-in_default-2
returns-in_default-2 g c =
    let words = map g.S.Spelled.spelling c.args.items.now in
    (omega (arith, length-map c.args.items.now g.S.Spelled.spelling, file_long c.args.locals words, c.file_length.ensures), refl)

pub returns : goal.returns
returns g c =
    let words = map g.S.Spelled.spelling c.args.items.now in
    let long = length-map c.args.items.now g.S.Spelled.spelling in
    steps_write c.args.out.now c.put.new.out c.put_words.new.out c.put-2.new.out c.args.locals c.check_sum.result (c.in-Some.length - 2) words (1 ∷ c.args.locals ∷ get_or c.to_be_bytes.result 0 0 ∷ get_or c.to_be_bytes.result 1 0 ∷ []) c.to_be_bytes-check.result (record {
      end_is = omega (arith, long, c.in-Some.ensures);
      head_is = ap (λ (l : List ℕ). 1 ∷ c.args.locals ∷ get_or l 0 0 ∷ get_or l 1 0 ∷ []) (c.to_be_bytes.ensures ∙ low_16 (length c.args.items.now) ∙ ap be16 (sym long));
      last_is = c.to_be_bytes-check.ensures;
      first = c.put.ensures;
      second = rw long c.put_words.ensures;
      sum_is = c.check_sum.ensures ∙ ap (λ k. check (take k c.put_words.new.out)) (omega arith);
      third = c.put-2.ensures;
    })
