-- How many unspent tokens there are of each depth. Assumes nothing.
use Rattle.std.specs.Prelude.{ℕ, List, cond, ◌==◌}
use Rattle.std.specs.List.{sum_by}
use Rattle.tokens.specs.declared.token.Token.{Token}

-- 1 for a token of depth d
abbrev pub one_at : ℕ → Token → ℕ
one_at d t = cond (d == t.depth) 1 0

abbrev pub count_at : ℕ → List Token → ℕ
count_at d tokens = sum_by (one_at d) tokens
