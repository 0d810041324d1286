-- How a span is spelled. Assumes nothing.
use Rattle.std.specs.Prelude.{ℕ, ◌/◌, ◌%◌, List, ◌++◌, codes}
use Rattle.std.specs.Fmt.{decimal}

-- so many tenths: the whole ones, a point and a digit
abbrev pub spelled : ℕ → List ℕ
spelled tenths = decimal (tenths / 10) ++ codes "." ++ decimal (tenths % 10)
