use Rattle.bytecode.proofs.Loops.{ReadSoFar}
use Rattle.bytecode.proofs.read.read_code.Given as goal

abbrev pub invariant-loop-place : goal.invariant-loop-place
invariant-loop-place l = ReadSoFar l.file l.len l.code l.place-iterator.rest.now l.place-iterator.place
