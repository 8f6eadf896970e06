-- An item gives back the hand and the entry that it is of.
use Rattle.std.proofs.Common.{◌≡◌, ℕ, List, [], ◌∷◌, ◌++◌, length, Option, Some, None, refl, sym, ◌∙◌, ap}
use Rattle.std.specs.Prelude.{flat_map}
use Rattle.std.proofs.Math.Seq.{take-append_seam, drop-append_seam}
use Rattle.ecp_entry.specs.declared.act.Act.{Act}
use Rattle.ecp_entry.specs.declared.deed.Deed.{Deed}
use Rattle.ecp_entry.specs.declared.entry.Entry.{Entry}
use Rattle.ecp_entry.specs.declared.part.Part.{Part}
use Rattle.ecp_entry.specs.Entries.{act_word, act_numbers, deed_word, deed_name, deed_numbers, loss_of}
use Rattle.ecp_shape.specs.Losses.{loss_mark}
use Rattle.ecp_entry.specs.Items.{sized, fields, item}
use Rattle.ecp_entry.specs.ReadBack.{act_from, deed_from, line_with, entry_with, entry_from, hand_from, unsized, after_mark}
use Rattle.ecp_entry.specs.Told.{Made, made_from}
use Rattle.ecp_entry.proofs.EntryLaws.{part_from-numbers, act_from-words, deed_from-words}

pub entry_from-fields : (hand : ℕ) (e : Entry) → entry_from (fields hand e) ≡ e
entry_from-fields hand e =
    ap (λ (p : Part). entry_with (line_with e.line.caller e.line.call e.line.point p (act_from (act_word e.line.act) (act_numbers e.line.act))) (deed_from (deed_word e.deed) (deed_name e.deed) (deed_numbers e.deed)) e.name e.bytes) (part_from-numbers e.line.part)
    ∙ ap (λ (a : Act). entry_with (line_with e.line.caller e.line.call e.line.point e.line.part a) (deed_from (deed_word e.deed) (deed_name e.deed) (deed_numbers e.deed)) e.name e.bytes) (act_from-words e.line.act)
    ∙ ap (λ (d : Option Deed). entry_with e.line d e.name e.bytes) (deed_from-words e.deed)

pub unsized-flat_map : (xs : List (List ℕ)) → unsized (length xs) (flat_map sized xs) ≡ xs
unsized-flat_map [] = refl
unsized-flat_map (x ∷ xs) =
    rw (take-append_seam x (flat_map sized xs), drop-append_seam x (flat_map sized xs)) (ap (λ (ys : List (List ℕ)). x ∷ ys) (unsized-flat_map xs))

pub after_mark-loss_mark : (loss : Option ℕ) (xs : List ℕ) → after_mark (loss_mark loss ++ xs) ≡ xs
after_mark-loss_mark (Some node) xs = refl
after_mark-loss_mark None xs = refl

-- an item gives the fields of its entry back
pub fields_from : (hand : ℕ) (e : Entry) → unsized 9 (after_mark (item hand e)) ≡ fields hand e
fields_from hand e = ap (unsized 9) (after_mark-loss_mark (loss_of e) (flat_map sized (fields hand e))) ∙ unsized-flat_map (fields hand e)

abbrev made : ℕ → Entry → Made
made hand e = record { hand = hand; entry = e }

pub made_from-item : (hand : ℕ) (e : Entry) → made_from (item hand e) ≡ record { hand = hand; entry = e }
unfolding made_from
made_from-item hand e =
    ap (λ (fs : List (List ℕ)). made (hand_from fs) (entry_from fs)) (fields_from hand e) ∙ ap (made hand) (entry_from-fields hand e)

pub item-injective : (g h : ℕ) (d e : Entry) → item g d ≡ item h e → (g ≡ h) × (d ≡ e)
item-injective g h d e same =
    let both : made g d ≡ made h e = sym (made_from-item g d) ∙ ap made_from same ∙ made_from-item h e in
    (ap (λ (m : Made). m.hand) both, ap (λ (m : Made). m.entry) both)
