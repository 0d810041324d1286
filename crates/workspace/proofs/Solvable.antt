-- Every lawful analysis has a least solution in which a legal list of takes ends.
use Rattle.std.proofs.Common.{ℕ, length, refl}
use Rattle.dataflow.specs.Analysis.{Framework, Lawful}
use Rattle.dataflow.proofs.Solvable.{found}
use Rattle.dataflow.proofs.Running.{legal_lists}
use Rattle.workspace.specs.Contents.{IsSolution}

pub solvable : {F : Type 0} {V : F → Type 0} {M : Framework F} → Lawful V M → (facts : ℕ → F) × (takes : ℕ) × IsSolution V M facts takes
solvable L =
    let s = found L in
    (s.facts, length s.list, record { least = (legal_lists L s.list s.facts s.legal).0; past = s.past; legal = (s.list, refl, s.legal) })
