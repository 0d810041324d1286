-- The laws of what is known of one value. Assumes nothing.
use Rattle.std.specs.Prelude.{◌≡◌, ℕ, ◌<◌, ◌≤◌, ◌⊎◌}

pub record CellLaws {C : Type 0} (join : C → C → C) (top : C) (rank : C → ℕ) (height : ℕ) : Type 0 where
  pub associative : (a b c : C) → join (join a b) c ≡ join a (join b c)
  pub commutative : (a b : C) → join a b ≡ join b a
  pub idempotent : (a : C) → join a a ≡ a
  -- top is at or above every cell
  pub greatest : (a : C) → join a top ≡ top
  pub low_rank : (a : C) → rank a ≤ height
  -- where the join differs from a, its rank is higher
  pub rises : (a b : C) → (join a b ≡ a) ⊎ (rank a < rank (join a b))
