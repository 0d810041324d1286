-- The pending nodes of a policy that is one of several. Assumes nothing.
use Rattle.std.specs.Prelude.{ℕ, Bool}
use Rattle.dataflow.specs.FirstIn.{is_member}
use Rattle.dataflow.specs.Highest.{is_marked}
use Rattle.picks.specs.declared.pick.Pick.{Pick}
use Rattle.picks.specs.declared.pick.Pick.TheVariants.{FirstIn, Highest, Seeded}

abbrev pub pending_of : Pick → ℕ → Bool
pending_of (FirstIn q) = is_member q
pending_of (Highest m) = is_marked m
pending_of (Seeded s) = is_member s.queue
