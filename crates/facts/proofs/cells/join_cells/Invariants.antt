use Rattle.std.proofs.Common.{◌≡◌, ◌≢◌, ◌++◌, IsTrue, false, take, drop}
use Rattle.facts.specs.Frames.{joined_cells}
use Rattle.facts.proofs.cells.join_cells.Given as goal

abbrev pub invariant-loop-k : goal.invariant-loop-k
invariant-loop-k g l = record {
  joined : take l.k l.cells ++ joined_cells g.C.Cell.joined (drop l.k l.cells) (drop l.k l.others) ≡ joined_cells g.C.Cell.joined l.fn.cells l.others;
  rest : drop l.k l.cells ≡ drop l.k l.fn.cells;
  changed : IsTrue l.changed → l.cells ≢ l.fn.cells;
  same : l.changed ≡ false → l.cells ≡ l.fn.cells;
}
