-- What a pass did from the first attempt of a fetch on.
use Rattle.std.proofs.Common.{◌≡◌, ℕ, ◌-◌, ◌≤◌, ◌⊎◌, inl, inr, Bool, [], ◌∷◌, ◌++◌, length, Some, sym, ◌∙◌, ap, subst, arith}
use Rattle.std.specs.Prelude.{Result, Ok, Err, OnErr}
use Rattle.ecp_shape.specs.declared.shape.Shape.{Shape}
use Rattle.ecp_book.specs.Logs.{Log}
use Rattle.ecp_book.proofs.Prefixes.{prefix_trans}
use Rattle.ecp_entry.specs.declared.act.Act.{Act}
use Rattle.ecp_entry.specs.declared.act.Act.TheVariants as act
use Rattle.ecp_entry.specs.declared.deed.Deed.{Deed}
use Rattle.ecp_entry.specs.declared.entry.Entry.{Entry}
use Rattle.ecp_entry.specs.declared.part.Part.{Part}
use Rattle.ecp_entry.specs.Entries.{deed_name}
use Rattle.ecp_entry.specs.Items.{item}
use Rattle.ecp_entry.specs.ReadBack.{line_with, entry_with}
use Rattle.ecp_plan.specs.declared.plan.Plan.{Plan}
use Rattle.ecp_sequencer.specs.Facts.{room_noted}
use Rattle.ecp_sequencer.specs.Passes.{IsWhole, PassState}
use Rattle.ecp_sequencer.specs.Steps.{Steps, call_with}
use Rattle.ecp_sequencer.proofs.StepLaws.{steps_both, whole_by}
use Rattle.ecp_coord.specs.Calls.{IsOpen, closing}
use Rattle.ecp_requestor.specs.Crews.{SameCall}
use Rattle.ecp_requestor.specs.Fetching.{GoesOn, Advances, Ended, Fetches}
use Rattle.ecp_requestor.specs.declared.fetched.Fetched.{Fetched}
use Rattle.ecp_requestor.specs.declared.fetched.Fetched.TheVariants.{Whole, Unrecoverable, TargetDown, Unsteady}

pub goes_both : (u v w : PassState) → GoesOn u v → GoesOn v w → GoesOn u w
goes_both u v w a b = record {
  steps = elim a.steps [
    | inl same ↦ subst (λ (x : PassState). (w ≡ x) ⊎ ((more : Log) × Steps x [] more w)) same b.steps
    | inr first ↦ elim b.steps [
      | inl same ↦ inr (first.0, subst (λ (x : PassState). Steps u [] first.0 x) (sym same) first.1)
      | inr last ↦ inr (first.0 ++ last.0, steps_both u v w [] [] first.0 last.0 first.1 last.1)
    ]
  ];
  call = (b.call.0 ∙ a.call.0, b.call.1 ∙ a.call.1);
}

-- ---- the end of a part

-- the entry of a part of a call of this caller
abbrev entry_of : ℕ → ℕ → Deed → Part → ℕ → Act → Entry
entry_of caller calls asked at position what = entry_with (line_with caller (calls - 1) position at what) (Some asked) (deed_name (Some asked)) []

same_entry : (u v : PassState) (asked : Deed) (at : Part) (position : ℕ) (what : Act) → v.caller ≡ u.caller → v.calls ≡ u.calls → closing v asked at position what [] ≡ closing u asked at position what []
same_entry u v asked at position what caller calls =
    ap (λ (n : ℕ). entry_of n v.calls asked at position what) caller ∙ ap (λ (n : ℕ). entry_of u.caller n asked at position what) calls

same_open : (u v : PassState) (asked : Deed) → 1 ≤ room_noted u.notes → SameCall u v → IsWhole u → IsOpen v asked → IsOpen u asked
same_open u v asked room same whole is = record {
  whole = whole;
  begun = omega (arith, is.begun, same.0);
  call = sym same.1 ∙ is.call ∙ ap (λ (n : ℕ). Some (call_with (n - 1) asked)) same.0;
  room = room;
}

module _ (shape : Shape) (told : Bool) where
  ended_past : (at : Part) (what : Act) (u v w : PassState) (more : Log) → 1 ≤ room_noted u.notes → SameCall u v → Steps u [] more v → Ended shape told v at what w → Ended shape told u at what w
  ended_past at what u v w more room same s (before, e) =
      let by : Entry = closing v e.asked at (length before) what [] in
      let is : by ≡ closing u e.asked at (length before) what [] = same_entry u v e.asked at (length before) what s.caller same.0 in (
        before,
        record {
          asked = e.asked;
          is_open = same_open u v e.asked room same (whole_by v u (sym s.caller) (sym s.hand) (sym s.places) (sym s.spare) e.is_open.whole) e.is_open;
          begins = prefix_trans u.front v.front before s.extends e.begins;
          more = more ++ e.more;
          steps = subst (λ (x : Entry). Steps u (x ∷ []) (more ++ e.more) w) is (steps_both u v w [] (by ∷ []) more e.more s e.steps);
          front = e.front ∙ ap (λ (h : ℕ). before ++ item h by ∷ []) s.hand ∙ ap (λ (x : Entry). before ++ item u.hand x ∷ []) is;
          legal = e.legal;
          calls = e.calls ∙ same.0;
          stays = e.stays;
        },
      )

  pub ended_after : (at : Part) (what : Act) (u v w : PassState) → 1 ≤ room_noted u.notes → GoesOn u v → Ended shape told v at what w → Ended shape told u at what w
  ended_after at what u v w room g e = elim g.steps [
    | inl same ↦ subst (λ (x : PassState). Ended shape told x at what w) same e
    | inr steps ↦ ended_past at what u v w steps.0 room g.call steps.1 e
  ]

  module _ {N : Type 0} where
    pub advances_both : (u v w : PassState) (p q r : Plan N) → Advances shape told u p q v → Advances shape told v q r w → Advances shape told u p r w
    advances_both u v w p q r a b = record {
      goes = goes_both u v w a.goes b.goes;
      planned = b.planned;
      later = record {
        repair = b.later.repair ∙ a.later.repair;
        part = b.later.part ∙ a.later.part;
        stripe = b.later.stripe ∙ a.later.stripe;
        row = b.later.row ∙ a.later.row;
        point = omega (arith, a.later.point, b.later.point);
      };
    }

    pub fetches_after : (u v w : PassState) (p q : Plan N) (f : Fetched N) → 1 ≤ room_noted u.notes → Advances shape told u p q v → Fetches shape told v q w f → Fetches shape told u p w f
    fetches_after u v w p q (Whole plan block) room a f = (advances_both u v w p q plan a f.0, f.1)
    fetches_after u v w p q (Unrecoverable live) room a f =
        ended_after p.part (act.Unrecoverable live) u v w room a.goes (subst (λ (r : Part). Ended shape told v r (act.Unrecoverable live) w) a.later.part f)
    fetches_after u v w p q (TargetDown node) room a f = f
    fetches_after u v w p q (Unsteady voids) room a f =
        ended_after p.part (act.Unsteady voids.at) u v w room a.goes (subst (λ (r : Part). Ended shape told v r (act.Unsteady voids.at) w) a.later.part f)

pub on_err : {T E : Type 0} (P : Type 0) (r : Result T E) → P → OnErr r P
on_err P (Ok x) p = tt
on_err P (Err e) p = p
