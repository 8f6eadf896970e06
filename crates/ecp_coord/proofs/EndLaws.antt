-- An entry of a call at its own position.
use Rattle.std.proofs.Common.{ℕ, zero, suc, ◌+◌, ◌<◌, ◌≤◌, Bool, true, false, cond, List, [], ◌∷◌, length, Some, refl, arith}
use Rattle.std.specs.Prelude.{nat_lt, IsTrue}
use Rattle.std.specs.List.{list_any}
use Rattle.ecp_shape.specs.declared.limits.TheConstants.{MAX_SESSIONS}
use Rattle.ecp_shape.specs.declared.shape.Shape.{Shape}
use Rattle.ecp_entry.specs.declared.act.Act.{Act}
use Rattle.ecp_entry.specs.declared.deed.Deed.{Deed}
use Rattle.ecp_entry.specs.declared.entry.Entry.{Entry}
use Rattle.ecp_entry.specs.declared.part.Part.{Part}
use Rattle.ecp_entry.specs.declared.part.Part.TheVariants as part
use Rattle.ecp_entry.specs.Entries.{is_part_of, is_same_call}
use Rattle.ecp_history.specs.table.Steps.{table_of, table_at}
use Rattle.ecp_history.specs.Acts.{HoldsIn}
use Rattle.ecp_history.specs.Calls.{FitsBytes, FitsCall, AtEnd, kind_of, place_of}
use Rattle.ecp_history.specs.Follows.{after_last, after_part, is_cat, is_same_caller}
use Rattle.ecp_history.specs.Legal.{MayFollow}
use Rattle.ecp_history.specs.Parts.{IsAlone, PartFits, refuses}
use Rattle.ecp_sequencer.specs.Passes.{PassState}
use Rattle.ecp_coord.specs.Calls.{closing, ended}

pub one_more : (n m : ℕ) (b : Bool) → n ≤ m → cond (nat_lt 0 n) (n + 1) (cond b 1 0) ≤ suc m
one_more n m b le = elim (nat_lt 0 n) as (λ v. cond v (n + 1) (cond b 1 0) ≤ suc m) [
  | true ↦ omega arith
  | false ↦ elim b as (λ v. cond v 1 0 ≤ suc m) [ true ↦ omega arith | false ↦ omega arith ]
]

-- what an entry must follow stands before it
pub after_last_within : (test : Entry → Bool) (before : List Entry) → after_last test before ≤ length before
after_last_within test [] = omega arith
after_last_within test (e ∷ before) = one_more (after_last test before) (length before) (test e) (after_last_within test before)

end_within : (before : List Entry) (e : Entry) (b : Bool) → cond b (after_last (is_same_call e) before) (after_last (is_same_caller e) before) ≤ length before
end_within before e true = after_last_within (is_same_call e) before
end_within before e false = after_last_within (is_same_caller e) before

part_within : (before : List Entry) (e : Entry) (at : Part) → after_part before e at ≤ length before
part_within before e (part.Part zero) = after_last_within (is_same_caller e) before
part_within before e (part.Part (suc j)) = after_last_within (is_part_of e (cond (is_cat e.deed) j 0)) before
part_within before e part.End = end_within before e (list_any (is_same_call e) before)

-- it may follow where its act is one of such a call at such a place, and holds
pub may_close : (shape : Shape) (told : Bool) (before : List Entry) (p : PassState) (asked : Deed) (at : Part) (act : Act) → p.caller < MAX_SESSIONS
    → FitsCall (kind_of (Some asked)) (place_of at) act → FitsBytes (Some asked) [] act
    → PartFits shape before (closing p asked at (length before) act []) at
    → HoldsIn shape told before (table_of shape before) (table_at shape before (length before)) (closing p asked at (length before) act []) act
    → MayFollow shape told before (closing p asked at (length before) act [])
may_close shape told before p asked at act session fits bytes part_fits holds =
    let e : Entry = closing p asked at (length before) act [] in
    record {
      point = record {
        late = part_within before e at;
        early = omega arith;
        own = λ _. refl;
      };
      agrees = record {
        call = fits;
        caller = session;
        name = refl;
        bytes = bytes;
      };
      part = part_fits;
      holds = holds;
    }

-- the end of a call
pub may_end : (shape : Shape) (told : Bool) (before : List Entry) (p : PassState) (asked : Deed) (act : Act) → p.caller < MAX_SESSIONS
    → FitsCall (kind_of (Some asked)) AtEnd act → FitsBytes (Some asked) [] act
    → (IsTrue (refuses act) → IsAlone before (ended p asked (length before) act))
    → HoldsIn shape told before (table_of shape before) (table_at shape before (length before)) (ended p asked (length before) act) act
    → MayFollow shape told before (ended p asked (length before) act)
may_end shape told before p asked act session fits bytes alone holds = may_close shape told before p asked part.End act session fits bytes alone holds
