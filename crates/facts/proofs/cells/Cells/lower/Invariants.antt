use Rattle.std.proofs.Common.{◌≡◌, drop}
use Rattle.facts.specs.Cells.{held, Within}
use Rattle.facts.proofs.cells.Cells.lower.Given as goal

abbrev pub invariant-loop : goal.invariant-loop
invariant-loop g l = record {
  within : Within g.C.Cell.zero l.self-inside;
  lowered : held g.C.Cell.zero l.self-inside ≡ record { stack = drop l.counter l.fn.self.stack; locals = l.fn.self.locals };
}
