-- The pending nodes of a policy that is one of two. Assumes nothing.
use Rattle.std.specs.Prelude.{ℕ, Bool}
use Rattle.dataflow.specs.FirstIn.{is_member}
use Rattle.dataflow.specs.Highest.{is_marked}
use Rattle.tokens.specs.declared.pick.Pick.{Pick}
use Rattle.tokens.specs.declared.pick.Pick.TheVariants.{FirstIn, Highest}

abbrev pub pending_of : Pick → ℕ → Bool
pending_of (FirstIn q) = is_member q
pending_of (Highest m) = is_marked m
