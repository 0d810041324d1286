-- Units whose instructions lead equally far have the same edges. Assumes nothing.
use Rattle.std.proofs.Common.{◌≡◌, ℕ, suc, ◌+◌, ◌<◌, true, false, List, [], ◌∷◌, ◌++◌, length, get_or, refl, sym, ap, ◌∙◌, subst, arith}
use Rattle.std.proofs.lemmas.List.{get_or-take}
use Rattle.bytecode.specs.declared.instr.Instr.{Instr}
use Rattle.bytecode.specs.declared.instr.Instr.TheVariants.{Nop}
use Rattle.bytecode.specs.declared.unit.Unit.{Unit as TheUnit}
use Rattle.bytecode.specs.Files.{held}
use Rattle.bytecode.proofs.Held.{length-held}
use Rattle.analyses.specs.declared.chains.Chains.{Chains}
use Rattle.analyses.specs.declared.chains.Side.TheVariants.{Start, End}
use Rattle.analyses.specs.declared.edge.Edge.{Edge}
use Rattle.analyses.specs.Graphs.{Chained, IsGraph, key_at}
use Rattle.analyses.specs.Edges.{by_distance, in_order, edges_out, edges_from, edges_of, GoAlike, LeadAlike}

out_alike : (n p : ℕ) (a b : Instr) → GoAlike a b → edges_out n p a ≡ edges_out n p b
out_alike n p a b same = λ i. in_order (by_distance n p false (same.0 i)) (by_distance n p true (same.1 i))

from_alike : (n p : ℕ) (is js : List Instr) → length is ≡ length js → ((k : ℕ) → k < length is → GoAlike (get_or is k Nop) (get_or js k Nop)) → edges_from n p is ≡ edges_from n p js
from_alike n p [] [] long same = refl
from_alike n p [] (j ∷ js) long same = absurd (omega (arith, long))
from_alike n p (i ∷ is) [] long same = absurd (omega (arith, long))
from_alike n p (i ∷ is) (j ∷ js) long same =
    let here = out_alike n p i j (same 0 (omega arith)) in
    let rest = from_alike n (p + 1) is js (omega (arith, long)) (λ k below. same (suc k) (omega arith)) in
    λ x. here x ++ rest x

pub same_edges : (u v : TheUnit) → LeadAlike u v → edges_of u ≡ edges_of v
same_edges u v alike =
    let long : length (held u) ≡ length (held v) = length-held u ∙ alike.len ∙ sym (length-held v) in
    let same : (k : ℕ) → k < length (held u) → GoAlike (get_or (held u) k Nop) (get_or (held v) k Nop) =
    λ k below. let inside : k < u.len = omega (arith, length-held u) in
    rw (get_or-take u.len u.code k Nop inside, get_or-take v.len v.code k Nop (omega (arith, alike.len))) (alike.ways k inside) in
    from_alike (length (held u)) 0 (held u) (held v) long same ∙ ap (λ n. edges_from n 0 (held v)) long

-- the tables of the one are those of the other
pub same_graph : (u v : TheUnit) (edges : List Edge) (out into : Chains) → LeadAlike u v → IsGraph u edges out into → IsGraph v edges out into
same_graph u v edges out into alike graph =
    let same = same_edges u v alike in
    record {
      edges_are = graph.edges_are ∙ same;
      outs = subst (λ es. Chained (key_at Start es) (length es) 0 out.first out.next) same graph.outs;
      intos = subst (λ es. Chained (key_at End es) (length es) 0 into.first into.next) same graph.intos;
    }
