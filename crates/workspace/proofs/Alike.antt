-- Workspaces that differ in their take counts alone.
use Rattle.std.proofs.Common.{◌≡◌, ℕ, List, option_map, Some, inl, inr, sym, ap, ◌∙◌, subst}
use Rattle.std.proofs.lemmas.Bool.{cases_lt}
use Rattle.bytecode.specs.declared.instr.Instr.{Instr}
use Rattle.bytecode.specs.declared.unit.Unit.{Unit as TheUnit}
use Rattle.dataflow.specs.Analysis.{Framework, Lawful}
use Rattle.dataflow.proofs.Order.{one_least}
use Rattle.facts.specs.Frames.{Fitting}
use Rattle.facts.specs.Live.{IsSet}
use Rattle.analyses.specs.Frameworks.{types_of, constants_of, live_of}
use Rattle.analyses.specs.Lawful.{types_lawful, constants_lawful, live_lawful}
use Rattle.workspace.specs.Contents.{Contents, IsSolution, IsSolved}
use Rattle.workspace.specs.Does.{Model, Holds}

-- what is held, take counts aside
abbrev pub bare : Contents → Contents
bare c = record c { takes = record { types = 0; constants = 0; lives = 0 } }

abbrev pub Alike : Model → Model → Type 0
Alike m n = option_map bare m ≡ option_map bare n

module _ {F : Type 0} (V : F → Type 0) (M : Framework F) (L : Lawful V M) (f g : ℕ → F) (s t : ℕ)
    (a : IsSolution V M f s) (b : IsSolution V M g t) where
  one_solution_at : (v : ℕ) → f v ≡ g v
  one_solution_at v = elim (cases_lt v M.nodes) [ inl lt ↦ one_least L f g a.least b.least v lt | inr ge ↦ a.past v ge ∙ sym (b.past v ge) ]

  -- the solution of an analysis is one function, past the nodes too
  one_solution : f ≡ g
  one_solution = λ i v. one_solution_at v i

-- the unit settles the facts
solved_alike : (c d : Contents) → c.unit ≡ d.unit → c.opened ≡ d.opened → IsSolved c → IsSolved d → bare c ≡ bare d
solved_alike c d e o g h =
    let back = sym e in
    let types = one_solution Fitting (types_of c.unit) (types_lawful c.unit) c.types d.types _ _ g.types
    (subst (λ u. IsSolution Fitting (types_of u) d.types d.takes.types) back h.types) in
    let constants = one_solution Fitting (constants_of c.unit) (constants_lawful c.unit) c.constants d.constants _ _ g.constants
    (subst (λ u. IsSolution Fitting (constants_of u) d.constants d.takes.constants) back h.constants) in
    let lives = one_solution IsSet (live_of c.unit) (live_lawful c.unit) c.lives d.lives _ _ g.lives
    (subst (λ u. IsSolution IsSet (live_of u) d.lives d.takes.lives) back h.lives) in
    λ i. record {
      unit = e i;
      types = types i;
      constants = constants i;
      lives = lives i;
      takes = record { types = 0; constants = 0; lives = 0 };
      opened = o i;
    }

pub holds_alike : (u v : TheUnit) (s t : List (List Instr)) (m n : Model) → u ≡ v → s ≡ t → Holds u s m → Holds v t n → Alike m n
holds_alike u v s t m n e o h k =
    let same = solved_alike h.contents k.contents (h.unit ∙ e ∙ sym k.unit) (h.opened ∙ o ∙ sym k.opened) h.solved k.solved in
    ap (option_map bare) h.is ∙ ap Some same ∙ sym (ap (option_map bare) k.is)
