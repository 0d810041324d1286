-- An abandoned attempt leaves no trace. Assumes nothing.
use Rattle.std.specs.Prelude.{◌≡◌, ℕ, List, ◌∷◌, ◌++◌}
use Rattle.workspace.specs.Calls.{opens, abandon, opened, abandoned}
use Rattle.workspace.specs.Histories.{Event, event, NoneOpened, calls_of, answers_of}

-- where `cut` makes the calls of `made` without an attempt, from its open to its accepted abandon, the others answer alike
abbrev pub Untraced : List Event → List Event → Type 0
Untraced made cut =
    (before within after : List Event) (d : ℕ) →
    made ≡ before ++ event opens (opened d) ∷ (within ++ event (abandon d) abandoned ∷ after) → NoneOpened d within →
    calls_of cut ≡ calls_of (before ++ after) →
    answers_of cut ≡ answers_of (before ++ after)
