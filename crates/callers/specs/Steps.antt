-- What the uses of a token do, call by call. Assumes nothing.
use Rattle.std.specs.Prelude.{ℕ, ◌⊎◌, Ok, Err, Result}
use Rattle.bytecode.specs.declared.instr.Instr.{Instr}
use Rattle.workspace.specs.declared.refusal.Refusal.{Refusal}
use Rattle.workspace.specs.Calls.{Answer, propose, keep, abandon, kept, abandoned, changed, refused, returned}
use Rattle.workspace.specs.Does.{Model, Does}
use Rattle.workspace.specs.Views.{spending}

-- a proposal, and then a keep if it changed the place, and an abandon if it was refused
abbrev pub ChangedOrAbandoned : ℕ → ℕ → Instr → Model → Result (Unit {0}) (Refusal × ℕ) → Model → Type 0
ChangedOrAbandoned d p i m r m' =
    (n : Model)
    × ((Does (propose d p i) m changed n × Does (keep d) n (spending kept r) m')
    ⊎ ((q : Refusal) × Does (propose d p i) m (refused q) n × Does (abandon d) n (spending abandoned r) m'))

-- a keep, and then a proposal under the token that came back, if one did
abbrev pub KeptOrChanged : ℕ → ℕ → Instr → Model → Result (Unit {0}) (Refusal × ℕ) → Model → Type 0
KeptOrChanged d p i m (Ok t) m' = Does (keep d) m kept m'
KeptOrChanged d p i m (Err back) m' = (n : Model) × Does (keep d) m (returned back.0 back.1) n × (a : Answer) × Does (propose back.1 p i) n a m'
