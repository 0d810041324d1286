use Rattle.std.proofs.Common.{◌≡◌, ℕ, ◌<◌, Bool, length, get_or, set, sym, ap, ◌∙◌, refl, inl, inr, arith, get_or-set_same, length-set}
use Rattle.std.proofs.lemmas.Bool.{true≢false}
use Rattle.dataflow.specs.Pending.{SameBut}
use Rattle.dataflow.specs.Takes.{at, Marks, Carries}
use Rattle.dataflow.proofs.InPlace.{carries_in_place}
use Rattle.dataflow.proofs.solve.carry_out.Given as given
use Rattle.dataflow.proofs.solve.carry_out.Goals as goal
use Rattle.dataflow.proofs.solve.carry_out.Goals.{After-is_least-2}

module _ (g : given.Over) (c : After-is_least-2 g) where
  within : c.edge-from.result.1 < (g.A.Analysis.meaning c.args.code.now).nodes
  within = omega (arith, (g.met.A.Analysis.lawful c.args.code.now).to_node c.args.edge c.requires.edge, c.edge-from.ensures.to)

  below : c.edge-from.result.1 < length c.args.facts.now
  below = omega (arith, within, c.requires.room)

  copied : c.copy_fact.new.facts ≡ set c.args.facts.now c.edge-from.result.1 (at (g.A.Analysis.meaning c.args.code.now) c.args.facts.now ((g.A.Analysis.meaning c.args.code.now).from c.args.edge))
  copied =
      let M = g.A.Analysis.meaning c.args.code.now in
      c.copy_fact.ensures M.least ∙ ap (λ f. set c.args.facts.now c.edge-from.result.1 (get_or c.args.facts.now f M.least)) c.edge-from.ensures.from

  -- what is asked of the edge's end in the end
  there : get_or (set c.copy_fact.new.facts c.edge-from.result.1 c.carry.new.fact) c.edge-from.result.1 c.index-facts-to-3.result ≡ c.carry.new.fact
  there =
      get_or-set_same c.copy_fact.new.facts c.edge-from.result.1 c.carry.new.fact c.index-facts-to-3.result
      (omega (arith, below, ap length copied, length-set c.args.facts.now c.edge-from.result.1 (at (g.A.Analysis.meaning c.args.code.now) c.args.facts.now ((g.A.Analysis.meaning c.args.code.now).from c.args.edge))))

  carries : {q : ℕ → Bool}
      → Marks (g.A.Analysis.meaning c.args.code.now).least c.carry.new.fact (g.P.Policy.pending c.args.policy.now c.edge-from.result.1) (q c.edge-from.result.1)
      → SameBut c.edge-from.result.1 (g.P.Policy.pending c.args.policy.now) q
      → Carries (g.A.Analysis.meaning c.args.code.now) c.args.edge (at (g.A.Analysis.meaning c.args.code.now) c.args.facts.now ((g.A.Analysis.meaning c.args.code.now).from c.args.edge)) c.args.facts.now (g.P.Policy.pending c.args.policy.now) (set c.copy_fact.new.facts c.edge-from.result.1 c.carry.new.fact) q
  carries marks others =
      let M = g.A.Analysis.meaning c.args.code.now in
      let t = c.edge-from.result.1 in
      let read = c.index-facts-to-2.result in
      let x = at M c.args.facts.now (M.from c.args.edge) in
      let made : c.carry.new.fact ≡ M.carry c.args.edge x =
      c.carry.ensures ∙ ap (λ l. M.carry c.args.edge (get_or l t read)) copied ∙ ap (M.carry c.args.edge) (get_or-set_same c.args.facts.now t x read below) in
      carries_in_place (g.met.A.Analysis.lawful c.args.code.now) c.args.edge t c.index-facts-to.result c.carry.new.fact c.requires.edge c.requires.room c.requires.valid
      c.edge-from.ensures.to c.index-facts-to.is (c.index-facts-to.is ∙ c.if-not-is_least.ensures.0 refl) copied made marks others

pub returns-then-not-is_least-2 : goal.returns-then-not-is_least-2
returns-then-not-is_least-2 g c =
    let a = (goal.at.returns-then-not-is_least-2 g c).After-is_least-2 in
    let few = (g.met.A.Analysis.lawful c.args.code.now).few_nodes in
    carries g a (inr ((λ e. true≢false (sym (c.if-not-is_least-2.ensures.1 (there g a ∙ e)))), c.add.ensures.added (omega (arith, within g a, few)))) c.add.ensures.others

pub returns-else-not-is_least-2 : goal.returns-else-not-is_least-2
returns-else-not-is_least-2 g c =
    let a = (goal.at.returns-else-not-is_least-2 g c).After-is_least-2 in
    carries g a (inl (sym (there g a) ∙ c.if-not-is_least-2.ensures.0 refl, refl)) (λ w other. refl)
