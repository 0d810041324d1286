-- The frame that an instruction leads to, with the cells that it leaves. Assumes nothing.
use Rattle.facts.specs.declared.frame.Way.{Way}
use Rattle.facts.specs.declared.frame.Way.TheVariants as W
use Rattle.facts.specs.declared.frame.Frame.{Frame}
use Rattle.facts.specs.declared.frame.Frame.TheVariants.{Unreached, At, Clash}
use Rattle.facts.specs.Held.{Held}

-- what becomes of a frame
abbrev pub followed : {C : Type 0} → Way → Frame C → Frame C
followed W.On f = f
followed W.Nowhere f = Unreached
followed W.Clash f = Clash

abbrev pub framed : {C : Type 0} → Way → Held C → Frame C
framed w a = followed w (At a)
