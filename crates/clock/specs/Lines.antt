-- The analysis of a line of nodes. Assumes nothing.
use Rattle.std.specs.Prelude.{◌+◌, ◌-◌, ◌*◌, ◌/◌, ◌%◌, ◌==◌, Bool, false, cond, ◌||◌}
use Rattle.dataflow.specs.Analysis.{Framework}
use Rattle.clock.specs.declared.line.Code.{Code}

-- edge 2 k leads from node k to the next, and edge 2 k + 1 back; true is what the entry reaches
abbrev pub line_of : Code → Framework Bool
line_of code = record {
  nodes = code.nodes;
  edges = 2 * (code.nodes - 1);
  from = λ i. (i + 1) / 2;
  to = λ i. cond (i % 2 == 0) (i / 2 + 1) (i / 2);
  seed = λ v. v == code.entry;
  least = false;
  join = λ a b. a || b;
  carry = λ i a. a;
  rank = λ a. cond a 1 0;
  height = 1;
}
