-- How many attempts are open in the two workspaces of each depth. Assumes nothing.
use Rattle.std.specs.Prelude.{ℕ, ◌+◌, cond, nat_lt, nat_le, ◌&&◌}
use Rattle.tokens.specs.declared.desks.Desks.{Desks}
use Rattle.tokens.specs.declared.side.Side.{Side}
use Rattle.tokens.specs.declared.side.Side.TheVariants.{Zero, One}

abbrev pub depth_on : Side → Desks → ℕ
depth_on Zero w = w.zero.depth
depth_on One w = w.one.depth

-- 1 where of so many open attempts one has depth d
abbrev pub reaches : ℕ → ℕ → ℕ
reaches d depth = cond (nat_lt 0 d && nat_le d depth) 1 0

abbrev pub open_at : ℕ → Desks → ℕ
open_at d w = reaches d w.zero.depth + reaches d w.one.depth
