-- The samples of loads, and of what is called after them.
use Rattle.std.proofs.Common.{ℕ, ◌≤◌, List, [], ◌∷◌, ◌++◌, length, drop, ℤ, refl}
use Rattle.machine.specs.declared.ending.Ending.TheVariants.{Running}
use Rattle.bytecode.specs.declared.fault.ReadFault.TheVariants.{Unit as InUnit}
use Rattle.facts.specs.declared.reason.Reason.TheVariants.{TooMany}
use Rattle.workspace.specs.Calls.{load, opens, tidy, keep, run, write_out, loaded, opened, tidied, kept, ran, written, not_loaded}
use Rattle.samples.specs.Samples.{Answered, file_of, five, tidy_five, halt, spin, jump_out, zeros, jump_fault, ninth_fault}
use Rattle.samples.proofs.Arithmetic.{spun, spins}
use Rattle.samples.proofs.Answering.{none_answered, load_answered, load_refused, load_unverified, open_answered, keep_answered, write_answered, run_answered}
use Rattle.samples.proofs.Small.{halt_unit, halt_accepted, spin_unit, spin_accepted, jump_out_outcome, eight_unit, eight_accepted, nine_unit, nine_judged}
use Rattle.samples.proofs.Tidying.{tidy_answered}
use Rattle.samples.proofs.FiveTidied.{five_unit, tidy_unit, five_accepted, five_tidies}

pub halt_written : (buffer : List ℕ) → 12 ≤ length buffer →
    Answered (load (file_of 0 halt) ∷ write_out buffer ∷ []) (loaded ∷ written 12 (file_of 0 halt ++ drop 12 buffer) ∷ [])
halt_written buffer room =
    load_answered halt_unit (file_of 0 halt) _ _ halt_accepted refl
    (write_answered halt_unit [] [] (file_of 0 halt) buffer refl room (λ d solved. none_answered _))

pub jump_refused : Answered (load (file_of 0 jump_out) ∷ []) (not_loaded jump_fault ∷ [])
jump_refused = load_refused (file_of 0 jump_out) (InUnit (record { place = 0 })) jump_out_outcome

pub spin_runs : (inputs buffer : List ℤ) (budget : ℕ) →
    Answered (load (file_of 0 spin) ∷ run inputs buffer budget ∷ [])
    (loaded ∷ ran (record { ending = Running; place = 0; steps = budget; used = 0; written = 0 }) buffer ∷ [])
spin_runs inputs buffer budget =
    load_answered spin_unit (file_of 0 spin) _ _ spin_accepted refl
    (run_answered spin_unit [] [] [] inputs buffer budget (spun budget) (spins inputs (length buffer) budget) (λ d solved. none_answered _))

pub eight_loaded : Answered (load (file_of 0 (zeros 8)) ∷ []) (loaded ∷ [])
eight_loaded = load_answered eight_unit (file_of 0 (zeros 8)) [] [] eight_accepted refl (λ d solved. none_answered _)

pub nine_refused : Answered (load (file_of 0 (zeros 9)) ∷ []) (not_loaded ninth_fault ∷ [])
nine_refused = load_unverified nine_unit (file_of 0 (zeros 9)) (record { place = 8; reason = TooMany }) refl nine_judged

pub five_tidied : (buffer : List ℕ) → 36 ≤ length buffer →
    Answered (load (file_of 1 five) ∷ opens ∷ tidy 1 ∷ keep 1 ∷ write_out buffer ∷ [])
    (loaded ∷ opened 1 ∷ tidied 2 ∷ kept ∷ written 36 (file_of 1 tidy_five ++ drop 36 buffer) ∷ [])
five_tidied buffer room =
    load_answered five_unit (file_of 1 five) _ _ five_accepted refl
    (open_answered five_unit _ _
    (tidy_answered 2 five_unit tidy_unit five _ _ five_tidies
    (keep_answered tidy_unit _ _ five
    (write_answered tidy_unit [] [] (file_of 1 tidy_five) buffer refl room (λ d solved. none_answered _)))))
