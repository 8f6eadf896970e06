-- A call of which a part was entered is open still.
use Rattle.std.proofs.Common.{◌≡◌, ℕ, ◌+◌, ◌-◌, ◌≤◌, List, [], ◌∷◌, ◌++◌, Some, sym, ◌∙◌, ap, subst, arith}
use Rattle.ecp_book.specs.Logs.{Log}
use Rattle.ecp_entry.specs.declared.act.Act.{Act}
use Rattle.ecp_entry.specs.declared.deed.Deed.{Deed}
use Rattle.ecp_entry.specs.declared.part.Part.{Part}
use Rattle.ecp_entry.specs.declared.part.Part.TheVariants as part
use Rattle.ecp_sequencer.specs.Facts.{HandFacts, facts_of, room_noted}
use Rattle.ecp_sequencer.specs.Notes.{note, entering_of}
use Rattle.ecp_sequencer.specs.Passes.{IsWhole, PassState}
use Rattle.ecp_sequencer.specs.Steps.{call_with}
use Rattle.ecp_sequencer.proofs.NoteLaws.{facts-entered, with_entry}
use Rattle.ecp_coord.specs.Calls.{IsOpen, StaysOpen, closing}

pub stays_open : (v w : PassState) (asked : Deed) (at : Part) (position point n : ℕ) (act : Act) (bytes : List ℕ) → IsOpen v asked
    → w.notes ≡ v.notes ++ note position (room_noted v.notes - 1) (entering_of v.hand (closing v asked at point act bytes)) ∷ [] → w.calls ≡ v.calls → IsWhole w → 1 ≤ n → n + 1 ≤ room_noted v.notes → StaysOpen at n asked w
stays_open v w asked part.End position point n act bytes is noted calls whole some enough = tt
stays_open v w asked (part.Part j) position point n act bytes is noted calls whole some enough =
    let facts : facts_of w.notes ≡ with_entry (facts_of v.notes) v.hand position (closing v asked (part.Part j) point act bytes) (room_noted v.notes - 1) =
    ap (λ (ns : Log). facts_of ns) noted ∙ facts-entered v.notes position (room_noted v.notes - 1) v.hand (closing v asked (part.Part j) point act bytes) in
    let room : room_noted w.notes ≡ room_noted v.notes - 1 = ap (λ (f : HandFacts). f.room) facts in (
      record {
        whole = whole;
        begun = subst (λ (m : ℕ). 1 ≤ m) (sym calls) is.begun;
        call = ap (λ (f : HandFacts). f.call) facts ∙ is.call ∙ ap (λ (m : ℕ). Some (call_with (m - 1) asked)) (sym calls);
        room = omega (arith, room, some, enough);
      },
      omega (arith, room, some, enough),
    )
