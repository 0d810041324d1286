-- The bytes of a word and of a unit file. Assumes nothing.
use Rattle.std.specs.Prelude.{ℕ, ◌+◌, ◌*◌, ◌/◌, ◌%◌, List, [], ◌∷◌, ◌++◌, length, take, drop, ℤ, sum, slice_index}
use Rattle.std.specs.Int.{cast_unsigned, w32}
use Rattle.std.specs.List.{flat_map}
use Rattle.bytecode.specs.declared.word.Word.{Word}

-- two bytes, high byte first
abbrev pub be16 : ℕ → List ℕ
be16 x = (x / 256 % 256) ∷ (x % 256) ∷ []

-- a signed number of 32 bits in four bytes, high byte first
abbrev pub be32 : ℤ → List ℕ
be32 z = (cast_unsigned w32 z / 16777216 % 256) ∷ (cast_unsigned w32 z / 65536 % 256) ∷ (cast_unsigned w32 z / 256 % 256) ∷ (cast_unsigned w32 z % 256) ∷ []

-- the six bytes of a word
abbrev pub encoded : Word → List ℕ
encoded w = w.op ∷ w.drops ∷ be32 w.arg

-- the check of a file's first part: the sum of its bytes modulo 65,521
abbrev pub check : List ℕ → ℕ
check bytes = sum bytes % 65521

-- byte 1, the number of locals, the number of words in two bytes, and the words
abbrev pub body : ℕ → List Word → List ℕ
body L words = (1 ∷ L ∷ be16 (length words)) ++ flat_map encoded words

-- a file: the body and its check
abbrev pub file : ℕ → List Word → List ℕ
file L words = body L words ++ be16 (check (body L words))

-- the number in the two bytes at k
abbrev pub number_at : List ℕ → ℕ → ℕ
number_at f k = slice_index f k * 256 + slice_index f (k + 1)

-- the six bytes at place k
abbrev pub part : List ℕ → ℕ → List ℕ
part f k = take 6 (drop (4 + 6 * k) f)
