-- A tidy leaves as many attempts open.
use Rattle.std.proofs.Common.{◌≡◌, ℕ, zero, suc, length, ap, sym, ◌∙◌}
use Rattle.workspace.specs.Contents.{Contents}
use Rattle.workspace.specs.Calls.{Answer, tidy}
use Rattle.workspace.specs.Does.{Model, Does, Tidies, depth}
use Rattle.workspace.proofs.KeptCalls.{Ended, refuses, faults, accepts, loads, does_ended}

tidies_depth : (n : ℕ) (c : Contents) (m : Model) → Tidies n c m → depth m ≡ length c.opened
tidies_depth zero c m h = ap depth h.1
tidies_depth (suc n) c m h = tidies_depth n h.4 m h.6 ∙ ap depth h.5.is ∙ ap length h.5.opened

pub tidy_depth : (d : ℕ) (m m' : Model) (a : Answer) → Does (tidy d) m a m' → depth m' ≡ depth m
tidy_depth d m m' a h = go (does_ended m a m' (tidy d) h)
  where
    go : Ended (tidy d) m a m' → depth m' ≡ depth m
    go (refuses r e same) = ap depth same
    go (faults fault e same) = ap depth same
    go (accepts c is fine k) = tidies_depth k.0 c m' k.2 ∙ sym (ap depth is)
    go (loads l) = absurd (let e = l.is in cc)
