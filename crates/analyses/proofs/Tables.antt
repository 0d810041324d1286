-- The table of a unit's edges, place by place. Assumes nothing.
use Rattle.std.proofs.Common.{◌≡◌, ℕ, ◌+◌, ◌<◌, ◌≤◌, None, Some, Option, List, [], ◌∷◌, ◌++◌, length, get_or, drop, append_assoc, arith, length-append}
use Rattle.std.specs.Option.{option_to_list}
use Rattle.std.proofs.lemmas.List.{drop_more}
use Rattle.bytecode.specs.declared.instr.Instr.{Instr}
use Rattle.bytecode.specs.declared.instr.Instr.TheVariants.{Nop}
use Rattle.analyses.specs.declared.edge.Edge.{Edge}
use Rattle.analyses.specs.Edges.{edges_out, edges_from}

-- with the edges of one more place
pub edges_from-more : (n p : ℕ) (is : List Instr) (done : List Edge) (a b : Option Edge) → p < length is
    → option_to_list a ++ option_to_list b ≡ edges_out n p (get_or is p Nop)
    → ((done ++ option_to_list a) ++ option_to_list b) ++ edges_from n (p + 1) (drop (p + 1) is) ≡ done ++ edges_from n p (drop p is)
edges_from-more n p is done a b in_range here =
    rw (drop_more is p Nop in_range, ← here) (simp append_assoc)

pub length-push : (done : List Edge) (a : Option Edge) → length (done ++ option_to_list a) ≤ length done + 1
length-push done None = omega (arith, length-append {A = Edge} done [])
length-push done (Some x) = omega (arith, length-append done (x ∷ []))
