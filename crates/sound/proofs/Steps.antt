-- A turn takes what is exactly known of a state along an edge of the code.
use Rattle.std.proofs.Common.{◌≡◌, ℕ, Bool, false, not, ltb, leb, List, length, map, ℤ, Option, sym, ap, ◌∙◌, subst}
use Rattle.std.specs.List.{slice_get}
use Rattle.std.proofs.lemmas.Bool.{and_parts}
use Rattle.std.proofs.lemmas.List.{map-append, drop-map}
use Rattle.bytecode.specs.declared.instr.Instr.{Instr}
use Rattle.machine.specs.declared.value.Value.{Value}
use Rattle.machine.specs.Machine.{State, holds, row, stack_after}
use Rattle.facts.specs.Effects.{Domain, takes_of, effect, after, is_too_few, is_too_many}
use Rattle.facts.proofs.Order.{CellsUnder, Under, append-under}
use Rattle.analyses.specs.Edges.{Leads}
use Rattle.sound.specs.Describes.{held_of}
use Rattle.sound.proofs.Moves.{Moves}
use Rattle.sound.proofs.Exact.{SoundDomain, same_under, puts_under, locals_under, edge_taken}
use Rattle.sound.proofs.Heights.{takes_same, too_few_not, too_many_is}

-- the edge from s to t by the instruction i, along which the table over cells goes on to what holds of t
pub record Step {C : Type 0} (join : C → C → C) (D : Domain C) (f : Value → C) (code : List Instr) (s : State) (i : Instr) (t : State) : Type 0 where
  pub jump : Bool
  pub leads : Leads code s.place i jump t.place
  pub enough : is_too_few D i (held_of f D.top s) ≡ false
  pub fits : is_too_many D i (held_of f D.top s) ≡ false
  pub alive : (effect D i (held_of f D.top s)).is_dead jump ≡ false
  pub under : Under join (held_of f D.top t) (after D i (held_of f D.top s))

module _ {C : Type 0} {join : C → C → C} {D : Domain C} {f : Value → C} (M : SoundDomain join D f) where
  stack_under : (i : Instr) (s : State) (x : Option ℤ) (room : Bool) →
      CellsUnder join (map f (row i s x room).puts) (effect D i (held_of f D.top s)).puts →
      CellsUnder join (map f (stack_after (row i s x room) s.stack)) (after D i (held_of f D.top s)).stack
  stack_under i s x room w =
      let t = takes_same i s x room in
      rw (map-append, t, ← drop-map f (length (takes_of i)) s.stack) (append-under w (same_under M _))

  pub steps : (code : List Instr) (inputs : List ℤ) (room : ℕ) (s : State) (i : Instr) (t : State) →
      Moves code inputs room s i t → Step join D f code s i t
  steps code inputs room s i t m =
      let x = slice_get inputs s.used in
      let r = ltb (length s.outputs) room in
      let h = and_parts (holds (row i s x r).takes s.stack) _ m.able in
      let k = and_parts (leb (length (stack_after (row i s x r) s.stack)) 8) (row i s x r).usable h.1 in
      let puts = puts_under M s.place s.locals s.used s.outputs x r i s.stack h.0 k.1 m.goes_on in
      let edge = edge_taken M s.place s.locals s.used s.outputs x r i s.stack h.0 m.goes_on in
      record {
        jump = edge.0;
        leads = record { stands = m.stands; by = (row i s x r).by; far = edge.1; arrives = m.arrives_at };
        enough = too_few_not D f i s x r h.0;
        fits = too_many_is D f i s x r ∙ ap not k.0;
        alive = edge.2;
        under = subst (λ z. Under join (held_of f D.top z) (after D i (held_of f D.top s))) (sym m.left)
            (record { stack = stack_under i s x r puts; locals = locals_under M s.place s.locals s.used s.outputs x r i s.stack h.0 });
      }
