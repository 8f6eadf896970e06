-- A log that tells a legal history, as it grows.
use Rattle.std.proofs.Common.{◌≡◌, ℕ, zero, suc, Bool, List, [], ◌∷◌, ◌++◌, inl, inr, refl, sym, ◌∙◌, ap, subst, arith}
use Rattle.std.specs.List.{Contains}
use Rattle.std.proofs.lemmas.List.Elements.{Contains-append_left, Contains-append_cases}
use Rattle.ecp_shape.specs.declared.shape.Shape.{Shape}
use Rattle.ecp_entry.specs.declared.entry.Entry.{Entry}
use Rattle.ecp_entry.specs.Items.{item}
use Rattle.ecp_entry.specs.Told.{Made, items_of, made_of, history_of}
use Rattle.ecp_entry.proofs.ItemLaws.{made_from-item}
use Rattle.ecp_entry.proofs.ToldLaws.{made_of-append, history_of-append, history_of-more, tells_front, tells_more}
use Rattle.ecp_history.specs.Files.{HasBytes, StoresBytes}
use Rattle.ecp_history.specs.Legal.{IsLegal, MayFollow, TellsLegal}
use Rattle.ecp_history.proofs.LegalLaws.{beginning, appended}

-- what stands in a list of one entry is that entry
only : (e x : Entry) → Contains (e ∷ []) x → e ≡ x
only e x (zero, within, is) = is
only e x (suc i, within, is) = absurd (omega (arith, within))

-- the files of a beginning of a history have bytes
bytes_beginning : (front more : List Entry) → StoresBytes (front ++ more) → StoresBytes front
bytes_beginning front more all x h = all x (Contains-append_left front more x h)

-- and those of one entry more
bytes_more : (history : List Entry) (e : Entry) → StoresBytes history → HasBytes e → StoresBytes (history ++ e ∷ [])
bytes_more history e all one x h =
    elim (Contains-append_cases history (e ∷ []) x h) [ inl before ↦ all x before | inr last ↦ subst HasBytes (only e x last) one ]

-- nothing tells the history without entries
pub legal_none : (shape : Shape) (told : Bool) → TellsLegal shape told []
legal_none shape told = record { tells = refl; legal = λ i e at. cc; bytes = λ e there. absurd (omega (arith, there.1)) }

pub legal_beginning : (shape : Shape) (told : Bool) (front more : List (List ℕ)) → TellsLegal shape told (front ++ more) → TellsLegal shape told front
legal_beginning shape told front more is = record {
  tells = tells_front front more is.tells;
  legal = beginning shape told (history_of front) (history_of more) (subst (IsLegal shape told) (history_of-append front more) is.legal);
  bytes = bytes_beginning (history_of front) (history_of more) (subst StoresBytes (history_of-append front more) is.bytes);
}

pub legal_more : (shape : Shape) (told : Bool) (items : List (List ℕ)) (hand : ℕ) (e : Entry) → TellsLegal shape told items → MayFollow shape told (history_of items) e
    → HasBytes e → TellsLegal shape told (items ++ item hand e ∷ [])
legal_more shape told items hand e is next bytes =
    let m : Made = record { hand = hand; entry = e } in
    let one : made_of (items ++ item hand e ∷ []) ≡ made_of items ++ m ∷ [] =
    made_of-append items (item hand e ∷ []) ∙ ap (λ (x : Made). made_of items ++ x ∷ []) (made_from-item hand e) in
    record {
      tells = tells_more items (made_of items) m is.tells ∙ ap items_of (sym one);
      legal = subst (IsLegal shape told) (sym (history_of-more items hand e)) (appended shape told (history_of items) e is.legal next);
      bytes = subst StoresBytes (sym (history_of-more items hand e)) (bytes_more (history_of items) e is.bytes bytes);
    }
