-- What one step of a cursor over bytes hands out. Assumes nothing.
use Rattle.std.specs.Prelude.{◌≡◌, ℕ, ◌+◌, ◌<◌, List, length, take, drop, Some, None, Option}
use Rattle.std.specs.Borrow.{Bor}
use Rattle.bytecode.specs.declared.parts.Parts.{Parts}

-- fewer than six bytes are left: the cursor stays
pub record Spent (rest rest' : List ℕ) (place place' : ℕ) : Type 0 where
  pub few : length rest < 6
  pub stays : rest' ≡ rest
  pub place_stays : place' ≡ place

-- the six bytes of the part are taken from the front, at place k
pub record Handed (rest rest' part : List ℕ) (place place' k : ℕ) : Type 0 where
  pub place_is : k ≡ place
  pub part_is : part ≡ take 6 rest
  pub shorter : length rest' + 6 ≡ length rest
  pub rest_is : rest' ≡ drop 6 rest
  pub next_place : place' ≡ k + 1

-- what the cursor answers, and the cursor after
abbrev pub HandsOut : Parts → Option (ℕ × Bor (List ℕ)) → Parts → Type 0
HandsOut old None new = Spent old.rest.now new.rest.now old.place new.place
HandsOut old (Some item) new = Handed old.rest.now new.rest.now item.1.now old.place new.place item.0
