-- Rows that differ in their locals alone: what an instruction makes of two states that do, and which way it goes on.
use Rattle.std.proofs.Common.{◌≡◌, ℕ, Bool, true, false, cond, List, length, get_or, set, ℤ, pos, None, Some, Option, refl, sym, ap, ◌∙◌, inl, inr, arith}
use Rattle.std.specs.Prelude.{◌≢◌}
use Rattle.std.proofs.lemmas.Bool.{cases_eq, cases_lt, false≢true}
use Rattle.std.proofs.lemmas.List.{length-set, get_or_past, get_or-set_same, get_or-set_other}
use Rattle.std.proofs.lemmas.Option.{none-some}
use Rattle.bytecode.specs.declared.instr.Instr.{Instr}
use Rattle.bytecode.specs.declared.instr.Instr.TheVariants as I
use Rattle.machine.specs.declared.value.Value.{Value}
use Rattle.machine.specs.Machine.{State, Row, row_in, flag_in, value_at}
use Rattle.dataflow.specs.Mask.{has_bit}
use Rattle.facts.specs.Live.{with_local, without_local, carry_live, IsSet}
use Rattle.facts.proofs.LiveSets.{has_bit-with_same, has_bit-with_more, has_bit-without_other}
use Rattle.analyses.specs.Edges.{distance}
use Rattle.sound.specs.LiveMeaning.{with_locals, LocalsAgree}

-- v is w with other locals, which agree on the set
pub record RowsAgree (live : ℕ) (w v : Row) : Type 0 where
  pub same : v ≡ record w { locals = v.locals }
  pub locals : LocalsAgree live w.locals v.locals

-- where an instruction goes on, it does so by one of its ways
jf_leads : (b : Bool) (d : ℤ) → (j : Bool) × (distance (I.Jf d) j ≡ Some (cond b (pos 1) d))
jf_leads true d = (false, refl)
jf_leads false d = (true, refl)

pub row_leads : (inputs : List ℤ) (room : ℕ) (s : State) (i : Instr) → (row_in inputs room s i).stops ≡ None
    → (j : Bool) × (distance i j ≡ Some (row_in inputs room s i).by)
row_leads inputs room s I.Halt e = absurd (none-some _ (sym e))
row_leads inputs room s (I.Jmp d) e = (true, refl)
row_leads inputs room s (I.Jf d) e = jf_leads (flag_in (value_at s.stack 0)) d
row_leads inputs room s (I.DropJmp d) e = (true, refl)
row_leads inputs room s i e = (false, refl)

get_or-both_set : {A : Type 0} (xs ys : List A) (n : ℕ) (x d : A) → length xs ≡ length ys → get_or (set xs n x) n d ≡ get_or (set ys n x) n d
get_or-both_set xs ys n x d e = elim (cases_lt n (length xs)) [
  | inl low ↦ get_or-set_same xs n x d low ∙ sym (get_or-set_same ys n x d (omega arith))
  | inr high ↦ get_or_past (set xs n x) n d (simp length-set high) ∙ sym (get_or_past (set ys n x) n d (simp length-set (omega arith)))
]

module _ (live : ℕ) (ls ms : List (Option Value)) where
  -- a local that is not live may have any value
  pub dead_set_agrees : (n : ℕ) (v : Option Value) → IsSet live → has_bit live n ≡ false
      → LocalsAgree (without_local n live) ls ms → LocalsAgree live (set ls n v) ms
  dead_set_agrees n v p dead a = record {
    sixteen = length-set ls n v ∙ a.sixteen;
    as_many = a.as_many;
    agree = λ k here.
        let other : k ≢ n = λ e. false≢true (sym dead ∙ ap (has_bit live) (sym e) ∙ here) in
        rw (get_or-set_other ls n k v None other) (a.agree k (has_bit-without_other k n live p other here));
  }

  -- the same value set in both
  both_set_agree : (n : ℕ) (v : Option Value) → IsSet live → LocalsAgree (without_local n live) ls ms → LocalsAgree live (set ls n v) (set ms n v)
  both_set_agree n v p a = record {
    sixteen = length-set ls n v ∙ a.sixteen;
    as_many = length-set ms n v ∙ a.as_many;
    agree = λ k here. elim (cases_eq k n) [
      | inl e ↦ rw e (get_or-both_set ls ms n v None (a.sixteen ∙ sym a.as_many))
      | inr other ↦ rw (get_or-set_other ls n k v None other, get_or-set_other ms n k v None other) (a.agree k (has_bit-without_other k n live p other here))
    ];
  }

  load_agrees : (n : ℕ) → LocalsAgree (with_local n live) ls ms → get_or ls n None ≡ get_or ms n None
  load_agrees n a = elim (cases_lt n 16) [
    | inl low ↦ a.agree n (has_bit-with_same n live low)
    | inr high ↦ get_or_past ls n None (omega (arith, a.sixteen)) ∙ sym (get_or_past ms n None (omega (arith, a.as_many)))
  ]

  less_agree : (n : ℕ) → LocalsAgree (with_local n live) ls ms → LocalsAgree live ls ms
  less_agree n a = record { sixteen = a.sixteen; as_many = a.as_many; agree = λ k here. a.agree k (has_bit-with_more k n live here) }

-- an instruction makes rows that agree on what is live after it, in states that agree on what is live before it
pub rows_agree : (inputs : List ℤ) (room : ℕ) (s : State) (ms : List (Option Value)) (i : Instr) (live : ℕ) → IsSet live
    → LocalsAgree (carry_live i live) s.locals ms → RowsAgree live (row_in inputs room s i) (row_in inputs room (with_locals s ms) i)
rows_agree inputs room s ms (I.Load n) live p a =
    let e = load_agrees live s.locals ms n a in
    record { same = rw e; locals = less_agree live s.locals ms n a }
rows_agree inputs room s ms (I.Store n) live p a = record { same = refl; locals = both_set_agree live s.locals ms n _ p a }
rows_agree inputs room s ms i live p a = record { same = refl; locals = a }
