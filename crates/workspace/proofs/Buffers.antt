-- A buffer that is the front of a blank array.
use Rattle.std.proofs.Common.{◌≡◌, ℕ, ◌≤◌, min, List, ◌++◌, take, length, replicate, arith, ◌∙◌}
use Rattle.std.proofs.lemmas.List.{take_at, length-take-le, length-replicate}
use Rattle.workspace.specs.Replay.{blank}

-- what holds of a buffer of k cells and of what it holds afterwards holds of the array's front
pub holds_of_front : {A : Type 0} (P : List A → List A → Type 0) (n : ℕ) (x : A) (room k : ℕ) (after rest : List A) → k ≡ min room n →
    length after ≡ length (take k (replicate n x)) → P (take k (replicate n x)) after → P (blank n x room) (take k (after ++ rest))
unfolding blank
holds_of_front P n x room k after rest least same holds =
    let fits : k ≤ length (replicate n x) = omega (arith, length-replicate n x) in
    rw (take_at after rest k (same ∙ length-take-le k (replicate n x) fits), ← least) holds
