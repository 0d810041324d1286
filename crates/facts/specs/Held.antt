-- What is known of the stack and the locals, in cells of any sort. Assumes nothing.
use Rattle.std.specs.Prelude.{List}

pub record Held (C : Type 0) : Type 0 where
  -- one cell for each value, top first
  pub stack : List C
  -- one cell for each of the 16 locals
  pub locals : List C
