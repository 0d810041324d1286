-- The history that a replay writes.
use Rattle.std.proofs.Common.{◌≡◌, ℕ, ◌+◌, ◌<◌, ◌≤◌, List, [], ◌∷◌, ◌++◌, None, map, take, length, set, get_or, arith, refl, ap, sym, ◌∙◌, subst}
use Rattle.std.proofs.lemmas.List.{take_more, take_more_set, take_all, length-take-le}
use Rattle.workspace.specs.declared.events.Call.{Call as Asked}
use Rattle.workspace.specs.declared.events.Reply.{Reply}
use Rattle.workspace.specs.Does.{Model, Does}
use Rattle.workspace.specs.Histories.{Event, event, Runs, calls_of}
use Rattle.workspace.specs.Replay.{asked, told, history}

-- one more call
runs_push : (es : List Event) (e : Event) (m n n' : Model) → Runs m es n → Does e.call n e.answer n' → Runs m (es ++ e ∷ []) n'
runs_push [] e m n n' r d = (n', subst (λ x. Does e.call x e.answer n') (sym r) d, refl)
runs_push (x ∷ es) e m n n' r d = (r.0, r.1, runs_push es e r.0 n n' r.2 d)

history_push : (cs : List Asked) (rs : List Reply) (c : Asked) (r : Reply) → length cs ≡ length rs →
    history (cs ++ c ∷ []) (rs ++ r ∷ []) ≡ history cs rs ++ event (asked c) (told r) ∷ []
history_push [] [] c r e = refl
history_push [] (y ∷ rs) c r e = absurd (omega arith)
history_push (x ∷ cs) [] c r e = absurd (omega arith)
history_push (x ∷ cs) (y ∷ rs) c r e = ap (λ es. event (asked x) (told y) ∷ es) (history_push cs rs c r (omega arith))

-- the calls below i + 1, once the reply at i is written
pub replayed_more : (cs : List Asked) (rs : List Reply) (i : ℕ) (c : Asked) (r : Reply) (n n' : Model) → i < length cs → i < length rs →
    Runs None (history (take i cs) (take i rs)) n → Does (asked (get_or cs i c)) n (told r) n' →
    Runs None (history (take (i + 1) cs) (take (i + 1) (set rs i r))) n'
replayed_more cs rs i c r n n' h k runs does =
    let same = length-take-le i cs (omega arith) ∙ sym (length-take-le i rs (omega arith)) in
    rw (take_more cs i c h, take_more_set rs i r k, history_push (take i cs) (take i rs) (get_or cs i c) r same)
    (runs_push (history (take i cs) (take i rs)) (event (asked (get_or cs i c)) (told r)) None n n' runs does)

-- replies past the calls are no part of the history
history_take : (cs : List Asked) (rs : List Reply) → history cs (take (length cs) rs) ≡ history cs rs
history_take [] rs = refl
history_take (c ∷ cs) [] = refl
history_take (c ∷ cs) (r ∷ rs) = ap (λ es. event (asked c) (told r) ∷ es) (history_take cs rs)

pub replayed_all : (cs : List Asked) (rs : List Reply) (i : ℕ) (n : Model) → i ≡ length cs →
    Runs None (history (take i cs) (take i rs)) n → Runs None (history cs rs) n
replayed_all cs rs i n e runs =
    let all = ap (λ x. history x (take (length cs) rs)) (take_all (length cs) cs (omega arith)) ∙ history_take cs rs in
    subst (λ es. Runs None es n) (ap (λ k. history (take k cs) (take k rs)) e ∙ all) runs

pub history_calls : (cs : List Asked) (rs : List Reply) → length cs ≤ length rs → calls_of (history cs rs) ≡ map asked cs
history_calls [] rs h = refl
history_calls (c ∷ cs) [] h = absurd (omega arith)
history_calls (c ∷ cs) (r ∷ rs) h = ap (λ x. asked c ∷ x) (history_calls cs rs (omega arith))
