-- What one time of a task does, call by call. Assumes nothing.
use Rattle.std.specs.Prelude.{ℕ, List}
use Rattle.bytecode.specs.declared.instr.Instr.{Instr}
use Rattle.clock.specs.declared.error.Fault.{Fault}
use Rattle.workspace.specs.declared.refusal.Refusal.{Refusal}
use Rattle.workspace.specs.Calls.{load, opens, propose, tidy, keep, abandon, loaded, opened, changed, tidied, kept, abandoned, not_loaded, refused}
use Rattle.workspace.specs.Does.{Model, Does}

-- a file is loaded, and then the attempt t is opened
abbrev pub Opened : List ℕ → Model → ℕ → Model → Type 0
Opened file m t m' = (n : Model) × Does (load file) m loaded n × Does opens n (opened t) m'

-- and then k changes are made by a tidy, and the attempt is kept
abbrev pub TidiedAndKept : List ℕ → Model → ℕ → Model → Type 0
TidiedAndKept file m k m' =
    (t : ℕ) × (n o : Model) × Opened file m t n × Does (tidy t) n (tidied k) o × Does (keep t) o kept m'

-- and then the attempt is abandoned
abbrev pub OpenedAndAbandoned : List ℕ → Model → Model → Type 0
OpenedAndAbandoned file m m' = (t : ℕ) × (n : Model) × Opened file m t n × Does (abandon t) n abandoned m'

-- and then the instruction i comes to the place p, and the attempt is abandoned
abbrev pub ChangedAndAbandoned : List ℕ → ℕ → Instr → Model → Model → Type 0
ChangedAndAbandoned file p i m m' =
    (t : ℕ) × (n o : Model) × Opened file m t n × Does (propose t p i) n changed o × Does (abandon t) o abandoned m'

-- and then that change is refused, and the attempt is abandoned
abbrev pub RefusedAndAbandoned : List ℕ → ℕ → Instr → Refusal → Model → Model → Type 0
RefusedAndAbandoned file p i r m m' =
    (t : ℕ) × (n o : Model) × Opened file m t n × Does (propose t p i) n (refused r) o × Does (abandon t) o abandoned m'

-- either the load is refused or the change is; nothing else fails
abbrev pub NotChanged : List ℕ → ℕ → Instr → Fault → Model → Model → Type 0
NotChanged file p i (Fault.NotLoaded fault) m m' = Does (load file) m (not_loaded fault) m'
NotChanged file p i (Fault.Refused r) m m' = RefusedAndAbandoned file p i r m m'
NotChanged file p i _ m m' = ⊥
