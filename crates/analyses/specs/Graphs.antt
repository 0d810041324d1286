-- How the edges out of a place, and into it, are found. Assumes nothing.
use Rattle.std.specs.Prelude.{◌≡◌, ◌≢◌, ℕ, ◌+◌, ◌<◌, ◌≤◌, false, List, length, Some, None, Option, slice_index_or}
use Rattle.bytecode.specs.declared.unit.Unit.{Unit as TheUnit}
use Rattle.analyses.specs.declared.chains.Chains.{Chains}
use Rattle.analyses.specs.declared.edge.Edge.{Edge}
use Rattle.analyses.specs.declared.chains.Side.{Side}
use Rattle.analyses.specs.declared.chains.Side.TheVariants.{Start, End}
use Rattle.analyses.specs.Edges.{edge, edges_of}

-- of the edges below count, the lowest from start on whose key is v
abbrev pub NextKey : (ℕ → ℕ) → ℕ → ℕ → ℕ → Option ℕ → Type 0
NextKey key count v start None = (i : ℕ) → start ≤ i → i < count → key i ≢ v
NextKey key count v start (Some i) = (start ≤ i) × (i < count) × (key i ≡ v) × ((j : ℕ) → start ≤ j → j < i → key j ≢ v)

abbrev pub place_at : Side → Edge → ℕ
place_at Start e = e.start
place_at End e = e.end

-- the place that each edge is found by
abbrev pub key_at : Side → List Edge → ℕ → ℕ
key_at side edges e = place_at side (slice_index_or edges e (edge 0 0 false))

-- of the edges below count, those from start on are found: the lowest of each place, and after each edge the next of its place
pub record Chained (key : ℕ → ℕ) (count start : ℕ) (first next : List (Option ℕ)) : Type 0 where
  pub places : length first ≡ 128
  pub edges : length next ≡ 256
  pub firsts : (v : ℕ) → NextKey key count v start (slice_index_or first v None)
  pub nexts : (i : ℕ) → start ≤ i → i < count → NextKey key count (key i) (i + 1) (slice_index_or next i None)

-- all the edges of u are found, out of each place and into it
pub record IsGraph (u : TheUnit) (edges : List Edge) (out into : Chains) : Type 0 where
  pub edges_are : edges ≡ edges_of u
  pub outs : Chained (key_at Start (edges_of u)) (length (edges_of u)) 0 out.first out.next
  pub intos : Chained (key_at End (edges_of u)) (length (edges_of u)) 0 into.first into.next
