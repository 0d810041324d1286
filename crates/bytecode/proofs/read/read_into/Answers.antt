use Rattle.std.proofs.Common.{◌≡◌, Ok, take, map, ◌∙◌}
use Rattle.std.proofs.lemmas.Result.{err_from_is_err_and}
use Rattle.bytecode.specs.Instructions.{word}
use Rattle.bytecode.specs.Layout.{file}
use Rattle.bytecode.specs.Files.{bytes_of}
use Rattle.bytecode.proofs.Units.{code_file, read_from, read_refused}
use Rattle.bytecode.proofs.read.read_into.Goals as goal

pub turn_to_code-requires-clause-few : goal.turn_to_code-requires-clause-few
turn_to_code-requires-clause-few c = c.in_ok-len.ensures.headed.1

pub turn_to_code-requires-clause-rules : goal.turn_to_code-requires-clause-rules
turn_to_code-requires-clause-rules c = λ k lt. (c.in_ok-read_code.ensures.reads k lt).allowed

pub turn_to_code-requires-clause-blank : goal.turn_to_code-requires-clause-blank
turn_to_code-requires-clause-blank c = c.in_ok-read_code.ensures.blank

pub returns : goal.returns
returns c =
    let f = c.args.file.now in
    let turned = c.turn_to_code.ensures in
    let code = c.in_ok-read_code.ensures in
    let spelled = code_file f c.in_ok-len.len c.read_code.new.code c.in_ok-len.ensures (λ k. (c.type_inv.file k).fits) code in
    let whole : bytes_of c.turn_to_code.new.self ≡ f = (λ i. file (turned.locals i) (map word (take (turned.len i) (turned.code i)))) ∙ spelled in
    let all = read_from f (Ok c.turn_to_code.new.self) whole in
    record { answer = all.answer; only = all.only; back = all.back; refused = tt }

pub returns-in_err-len : goal.returns-in_err-len
returns-in_err-len c =
    let p = err_from_is_err_and c.from_residual.result c.from_residual.ensures.1 in
    let all = read_refused c.args.file.now c.args.unit.now c.from_residual.result _ p.1 (rw p.2 c.in_err-len.ensures) in
    record { answer = all.answer; only = all.only; back = all.back; refused = all.refused }

pub returns-in_err-read_code : goal.returns-in_err-read_code
returns-in_err-read_code c =
    let p = err_from_is_err_and c.from_residual-in_err-read_code.result c.from_residual-in_err-read_code.ensures.1 in
    let all = read_refused c.args.file.now c.args.unit.now c.from_residual-in_err-read_code.result _ p.1 (rw p.2 (c.in_ok-len.len, c.in_ok-len.ensures, c.in_err-read_code.ensures)) in
    record { answer = all.answer; only = all.only; back = all.back; refused = all.refused }
