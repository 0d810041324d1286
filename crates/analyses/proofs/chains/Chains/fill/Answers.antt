use Rattle.std.proofs.Common.{◌≡◌, ℕ, ◌+◌, ◌-◌, ◌<◌, length, subst, sym, arith}
use Rattle.analyses.specs.Graphs.{key_at}
use Rattle.analyses.proofs.Chained.{Chained-none, Chained-more}
use Rattle.analyses.proofs.chains.Chains.fill.Goals as goal

pub loop-edge-init : goal.loop-edge-init
loop-edge-init c = Chained-none (key_at c.args.side c.args.edges.now) (length c.args.edges.now) c.args.self.now.next c.requires.room

pub loop-edge-preserved : goal.loop-edge-preserved
loop-edge-preserved c =
    let at = c.loop-edge in
    let e = at.edge - 1 in
    let more : at.edge ≡ e + 1 = omega arith in
    let place_is = c.of-place.ensures in
    let in_range : c.of-place.result < 128 = subst (λ (p : ℕ). p < 128) (sym place_is) (c.requires.within e (omega arith)) in
    Chained-more _ _ e at.edge c.of-place.result at.self.first at.self.next more at.auto.edge c.requires.few place_is in_range at.invariant
