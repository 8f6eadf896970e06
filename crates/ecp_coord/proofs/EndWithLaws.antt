-- The entry that ends a call, by what the pass says of the call.
use Rattle.std.proofs.Common.{◌≡◌, ℕ, ◌-◌, List, Option, Some, None, sym, ◌∙◌, ap, subst}
use Rattle.std.specs.Prelude.{MatchOption, ⊤}
use Rattle.std.specs.Option.{option_map_or}
use Rattle.std.proofs.lemmas.Option.{same_Some}
use Rattle.ecp_book.specs.Logs.{Log}
use Rattle.ecp_entry.specs.declared.act.Act.{Act}
use Rattle.ecp_entry.specs.declared.deed.Deed.{Deed}
use Rattle.ecp_entry.specs.declared.entry.Entry.{Entry}
use Rattle.ecp_entry.specs.declared.part.Part.{Part}
use Rattle.ecp_entry.specs.Entries.{deed_name}
use Rattle.ecp_entry.specs.ReadBack.{entry_with, line_with}
use Rattle.ecp_sequencer.specs.Facts.{facts_of}
use Rattle.ecp_sequencer.specs.Notes.{Call}
use Rattle.ecp_sequencer.specs.Passes.{AsksFor, PassState}
use Rattle.ecp_sequencer.specs.Steps.{call_with}
use Rattle.ecp_coord.specs.Calls.{IsOpen, closing}

-- what the pass says that its open call asks for
pub asks_is : (notes : Log) (said : Option Deed) (number : ℕ) (asked : Deed) → AsksFor notes said → (facts_of notes).call ≡ Some (call_with number asked) → said ≡ Some asked
asks_is notes said number asked asks is =
    sym (subst (λ (o : Option Call). MatchOption o ⊤ (λ (c : Call). c.deed ≡ said)) is asks)

-- an entry with these fields
abbrev pub entry_by : ℕ → ℕ → Part → ℕ → Act → Option Deed → List ℕ → Entry
entry_by caller call at point act said bytes = entry_with (line_with caller call point at act) said (deed_name said) bytes

pub same_entry : (v : PassState) (asked : Deed) (caller calls : ℕ) (at : Part) (point : ℕ) (act : Act) (said : Option Deed) (bytes : List ℕ) → caller ≡ v.caller → calls ≡ v.calls → said ≡ Some asked
    → closing v asked at point act bytes ≡ entry_by caller (calls - 1) at point act said bytes
same_entry v asked caller calls at point act said bytes by number says =
    ap (λ (k : ℕ). entry_by k (v.calls - 1) at point act (Some asked) bytes) (sym by)
    ∙ ap (λ (n : ℕ). entry_by caller (n - 1) at point act (Some asked) bytes) (sym number)
    ∙ ap (λ (d : Option Deed). entry_by caller (calls - 1) at point act d bytes) (sym says)

-- the call that is open asks for one thing
pub one_asked : (v : PassState) (asked other : Deed) → IsOpen v asked → IsOpen v other → asked ≡ other
one_asked v asked other a b =
    same_Some asked other (ap (λ (o : Option Call). option_map_or (λ c. c.deed) o None) (sym a.call ∙ b.call))
