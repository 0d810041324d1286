-- The sum of a run's outputs. Assumes nothing.
use Rattle.std.specs.Prelude.{ℤ, ◌*ℤ◌, ◌+ℤ◌, pos, List, [], ◌∷◌}
use Rattle.std.specs.Int.{int_wrap, w32}

-- an output added to 31 times the sum so far, as the machine multiplies and adds
abbrev pub next_sum : ℤ → ℤ → ℤ
next_sum sum output = int_wrap w32 (int_wrap w32 (sum *ℤ pos 31) +ℤ output)

-- the sum with each of the outputs
abbrev pub summed : ℤ → List ℤ → ℤ
summed sum [] = sum
summed sum (x ∷ xs) = summed (next_sum sum x) xs
