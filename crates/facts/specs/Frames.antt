-- Frames over cells of any sort: the join of two, and the rank of one. Assumes nothing.
use Rattle.std.specs.Prelude.{◌≡◌, ℕ, ◌+◌, ◌*◌, ◌≤◌, cond, ◌==◌, List, [], ◌∷◌, ◌++◌, drop, length, map, nat_lt, replicate, sum, None, Option}
use Rattle.std.specs.List.{slice_get}
use Rattle.facts.specs.Held.{Held}
use Rattle.facts.specs.declared.frame.Frame.{Frame}
use Rattle.facts.specs.declared.frame.Frame.TheVariants.{Unreached, At, Clash}

-- cell by cell
abbrev pub joined_cells : {C : Type 0} → (C → C → C) → List C → List C → List C
joined_cells join [] ys = []
joined_cells join (x ∷ xs) [] = []
joined_cells join (x ∷ xs) (y ∷ ys) = join x y ∷ joined_cells join xs ys

abbrev pub joined_held : {C : Type 0} → (C → C → C) → Held C → Held C → Held C
joined_held join a b = record { stack = joined_cells join a.stack b.stack; locals = joined_cells join a.locals b.locals }

-- Unreached is the least frame and Clash the greatest; frames of unlike heights join to Clash
abbrev pub joined_frames : {C : Type 0} → (C → C → C) → Frame C → Frame C → Frame C
joined_frames join Unreached g = g
joined_frames join (At a) Unreached = At a
joined_frames join (At a) (At b) = cond (length a.stack == length b.stack) (At (joined_held join a b)) Clash
joined_frames join (At a) Clash = Clash
joined_frames join Clash g = Clash

-- a is at or below b
abbrev pub IsBelow : {C : Type 0} → (C → C → C) → Frame C → Frame C → Type 0
IsBelow join a b = joined_frames join a b ≡ b

-- of cells whose ranks are at most h
abbrev pub frame_rank : {C : Type 0} → (C → ℕ) → ℕ → Frame C → ℕ
frame_rank rank h Unreached = 0
frame_rank rank h (At a) = 1 + (sum (map rank a.stack) + sum (map rank a.locals))
frame_rank rank h Clash = 2 + 24 * h

-- a frame has at most 8 stack cells and 16 local cells
abbrev pub Fitting : {C : Type 0} → Frame C → Type 0
Fitting Unreached = Unit {0}
Fitting (At a) = (length a.stack ≤ 8) × (length a.locals ≡ 16)
Fitting Clash = Unit {0}

-- before the first instruction: no value, and nothing is known of the locals
abbrev pub entry : {C : Type 0} → C → Held C
entry top = record { stack = []; locals = replicate 16 top }

-- what is known of the top value, if there is one
abbrev pub top_of : {C : Type 0} → Frame C → Option C
top_of Unreached = None
top_of (At a) = slice_get a.stack 0
top_of Clash = None

-- with xs in the place of the top k values; Clash where there are fewer, or where more than 8 would be left
abbrev pub replaced : {C : Type 0} → ℕ → List C → Held C → Frame C
replaced k xs a =
    cond (nat_lt (length a.stack) k) Clash
    (cond (nat_lt 8 (length (xs ++ drop k a.stack))) Clash (At (record { stack = xs ++ drop k a.stack; locals = a.locals })))
