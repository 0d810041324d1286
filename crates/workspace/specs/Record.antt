-- The record of changes, and what it puts back. Assumes nothing.
use Rattle.std.specs.Prelude.{◌≡◌, ℕ, ◌+◌, ◌<◌, ◌≤◌, true, List, [], ◌∷◌, length, take, drop, slice_set}
use Rattle.std.specs.List.{All}
use Rattle.bytecode.specs.declared.instr.Instr.{Instr}
use Rattle.bytecode.specs.declared.unit.Unit.{Unit as TheUnit}
use Rattle.bytecode.specs.Instructions.{sound}
use Rattle.bytecode.specs.Files.{held}
use Rattle.rewrite.specs.Weights.{weight_of}
use Rattle.workspace.specs.declared.trail.Change.{Change}

pub record Recorded : Type 0 where
  -- the oldest first
  pub changes : List Change
  -- for each open attempt how many changes there were when it was opened, the innermost first
  pub marks : List ℕ

-- the code before the changes, the oldest first, from the code after them
abbrev pub put_back : List Instr → List Change → List Instr
put_back code [] = code
put_back code (x ∷ xs) = slice_set (put_back code xs) x.place x.old

-- the code that was held at each mark
abbrev pub codes_at : List Instr → List Change → List ℕ → List (List Instr)
codes_at code changes [] = []
codes_at code changes (m ∷ ms) = put_back code (drop m changes) ∷ codes_at code changes ms

-- the first is at most n, and each is at most the one before it
abbrev pub Falling : ℕ → List ℕ → Type 0
Falling n [] = Unit {0}
Falling n (m ∷ ms) = (m ≤ n) × Falling m ms

-- what is put back may stand at its place of n in a unit of L locals
abbrev pub MayStand : ℕ → ℕ → Change → Type 0
MayStand L n x = (x.place < n) × (sound L x.place n x.old ≡ true)

-- the record is of the changes that led to the unit; each of them lowered the weight, so there are at most 256
pub record IsRecord (u : TheUnit) (t : Recorded) : Type 0 where
  pub stand : All (MayStand u.locals u.len) t.changes
  pub marks : Falling (length t.changes) t.marks
  pub light : (k : ℕ) → k ≤ length t.changes → weight_of (put_back (held u) (drop k t.changes)) + k ≤ 256

-- all changes of t but the first n were put back into u, which is v then, and t' is left
pub record PutBack (n : ℕ) (u : TheUnit) (t : Recorded) (v : TheUnit) (t' : Recorded) : Type 0 where
  pub locals : v.locals ≡ u.locals
  pub len : v.len ≡ u.len
  pub code : held v ≡ put_back (held u) (drop n t.changes)
  pub changes : t'.changes ≡ take n t.changes
  pub marks : t'.marks ≡ t.marks
