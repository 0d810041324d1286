use Rattle.bytecode.specs.Files.{bytes_of, WriteOutcome}
use Rattle.bytecode.proofs.Units.{write_back}
use Rattle.bytecode.proofs.write.write.Goals as goal

pub returns : goal.returns
returns c =
    let u = c.args.unit.now in
    let answer : WriteOutcome (bytes_of u) c.args.out.now c.write_items.new.out c.write_items.result = rw (← c.instructions.ensures) c.write_items.ensures in
    record { answer = answer; back = write_back u c.args.out.now c.write_items.new.out c.write_items.result answer }
