-- Which name a row of a table of operations has. Assumes nothing.
use Rattle.std.specs.Prelude.{◌≡◌, ℕ, ◌<◌, List, map, slice_index_or}
use Rattle.std.specs.Char.{to_ascii_lowercase}
use Rattle.listings.specs.declared.mnemonic.Mnemonic.{Mnemonic}

-- row k has this name, without regard to case
abbrev pub NamedAt : List Mnemonic → ℕ → List ℕ → Type 0
NamedAt table k name = (m : Mnemonic) × (slice_index_or table k m ≡ m) × (map to_ascii_lowercase m.name.now ≡ map to_ascii_lowercase name)

-- no row before row n has this name
abbrev pub NoneBefore : List Mnemonic → ℕ → List ℕ → Type 0
NoneBefore table n name = (k : ℕ) → k < n → NamedAt table k name → ⊥
