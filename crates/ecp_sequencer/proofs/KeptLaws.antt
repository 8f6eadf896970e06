-- A history that agrees with what the hands noted stays so with one more note or entry.
use Rattle.std.proofs.Common.{◌≡◌, ◌≢◌, ℕ, ◌<◌, ◌≤◌, ◌==◌, Bool, true, false, cond, List, [], ◌∷◌, ◌++◌, length, take, set, Some, sym, ◌∙◌, ap, subst, arith, inl, inr, append-nil, length-append, get_or-set_same, get_or-set_other}
use Rattle.std.specs.Prelude.{All, slice_index}
use mathlib.Core.List.{IsPrefix}
use mathlib.Core.Logic.{dite}
use native.Mathlib.Decide.{ℕ_discrete}
use Rattle.std.proofs.lemmas.Bool.Decides.{nat_tests}
use Rattle.std.proofs.lemmas.Option.{slice_get_within}
use Rattle.std.proofs.lemmas.List.{take-append-le, take_all, length-set}
use Rattle.std.proofs.lemmas.List.Elements.{All-push}
use Rattle.std.proofs.Math.Seq.{take-append_seam}
use Rattle.ecp_shape.specs.declared.limits.TheConstants.{MAX_SESSIONS}
use Rattle.ecp_shape.specs.declared.shape.Shape.{Shape}
use Rattle.ecp_book.specs.Logs.{Log}
use Rattle.ecp_entry.specs.declared.entry.Entry.{Entry}
use Rattle.ecp_entry.specs.Items.{item}
use Rattle.ecp_entry.specs.Told.{Made, made_of, history_of, items_by}
use Rattle.ecp_entry.proofs.ItemLaws.{made_from-item}
use Rattle.ecp_entry.proofs.ToldLaws.{made_of-append, history_of-more, items_by-append, items_by-item}
use Rattle.ecp_history.specs.Legal.{MayFollow}
use Rattle.ecp_history.specs.Counted.{DropsCounted}
use Rattle.ecp_history.specs.Files.{HasBytes}
use Rattle.ecp_history.proofs.FrontLaws.{legal_more}
use Rattle.ecp_history.proofs.CountLaws.{counted_more}
use Rattle.ecp_history.proofs.LegalLaws.{get_split}
use Rattle.ecp_sequencer.specs.Hands.{hands_of, IsHandOf}
use Rattle.ecp_sequencer.specs.Notes.{Call, call_of, note, point_of, beginning_of, being_over, entering_of}
use Rattle.ecp_sequencer.specs.Facts.{facts_of, entries_noted}
use Rattle.ecp_sequencer.specs.Histories.{FitsMaker, FitsNote, AllFit, Stands, IsKept, notes_at}
use Rattle.ecp_sequencer.proofs.NoteLaws.{call_from-beginning, facts-entered}

pub items_by-prefix : (hand : ℕ) (xs ys : Log) → IsPrefix xs ys → IsPrefix (items_by hand xs) (items_by hand ys)
items_by-prefix hand xs ys p = (items_by hand p.0, sym (items_by-append hand xs p.0) ∙ ap (items_by hand) p.1)

-- one more entry of the hand, and of another
pub items_by-own : (hand : ℕ) (e : Entry) (items : Log) → items_by hand (items ++ item hand e ∷ []) ≡ items_by hand items ++ item hand e ∷ []
items_by-own hand e items =
    let same : hand == hand ≡ true = grind (arith, nat_tests) in
    items_by-append hand items (item hand e ∷ []) ∙ ap (λ (xs : Log). items_by hand items ++ xs) (items_by-item hand hand e ∙ ap (λ (b : Bool). cond b (item hand e ∷ []) []) same)

pub items_by-else : (hand h : ℕ) (e : Entry) (items : Log) → hand ≢ h → items_by hand (items ++ item h e ∷ []) ≡ items_by hand items
items_by-else hand h e items apart =
    let off : h == hand ≡ false = grind (arith, nat_tests) in
    items_by-append hand items (item h e ∷ [])
    ∙ ap (λ (xs : Log). items_by hand items ++ xs) (items_by-item hand h e ∙ ap (λ (b : Bool). cond b (item h e ∷ []) []) off)
    ∙ append-nil (items_by hand items)

-- ---- notes that fit

pub fits_longer : (hand : ℕ) (history more before : Log) (x : List ℕ) → FitsNote hand history before x → FitsNote hand (history ++ more) before x
fits_longer hand history more before x fits = record {
  within = omega (arith, length-append history more, fits.within);
  stamped = ap (items_by hand) (take-append-le (point_of x) history more fits.within) ∙ fits.stamped;
  rises = fits.rises;
  of_call = fits.of_call;
}

pub all_fit_longer : (hand : ℕ) (history more notes : Log) → AllFit hand history notes → AllFit hand (history ++ more) notes
all_fit_longer hand history more notes all i x h = fits_longer hand history more (take i notes) x (all i x h)

pub all_fit_more : (hand : ℕ) (history notes : Log) (x : List ℕ) → AllFit hand history notes → FitsNote hand history notes x → AllFit hand history (notes ++ x ∷ [])
all_fit_more hand history notes x all new i y h =
    elim (get_split notes x i y h) [
      | inl before ↦
          let within : i ≤ length notes = omega (arith, slice_get_within notes i y before) in
          subst (λ (b : Log). FitsNote hand history b y) (sym (take-append-le i notes (x ∷ []) within)) (all i y before)
      | inr last ↦
          subst (λ (n : ℕ). FitsNote hand history (take n (notes ++ x ∷ [])) y) (sym last.0)
          (subst (λ (b : Log). FitsNote hand history b y) (sym (take-append_seam notes (x ∷ [])))
          (subst (λ (z : List ℕ). FitsNote hand history notes z) last.1 new))
    ]

pub fits_began : (hand : ℕ) (history notes : Log) (room : ℕ) (c : Call) → items_by hand history ≡ entries_noted notes → (facts_of notes).calls ≤ c.number
    → FitsNote hand history notes (note (length history) room (beginning_of c))
fits_began hand history notes room c stands rises = record {
  within = omega arith;
  stamped = ap (items_by hand) (take_all (length history) history (omega arith)) ∙ stands;
  rises = λ _. subst (λ (d : Call). (facts_of notes).calls ≤ d.number) (sym (call_from-beginning c (length history) room)) rises;
  of_call = λ off. absurd (omega arith);
}

-- a note of neither a beginning nor an entry
fits_late : (hand : ℕ) (history notes : Log) (room : ℕ) (what : List ℕ) → items_by hand history ≡ entries_noted notes → 2 ≤ slice_index what 0
    → FitsNote hand history notes (note (length history) room what)
fits_late hand history notes room what stands kind = record {
  within = omega arith;
  stamped = ap (items_by hand) (take_all (length history) history (omega arith)) ∙ stands;
  rises = λ off. absurd (omega arith);
  of_call = λ off. absurd (omega arith);
}

pub fits_over : (hand : ℕ) (history notes : Log) (room : ℕ) → items_by hand history ≡ entries_noted notes → FitsNote hand history notes (note (length history) room being_over)
fits_over hand history notes room stands = fits_late hand history notes room being_over stands (omega arith)

pub fits_other : (hand : ℕ) (history notes : Log) (room : ℕ) (what : List ℕ) → items_by hand history ≡ entries_noted notes → 3 ≤ slice_index what 0
    → FitsNote hand history notes (note (length history) room what)
fits_other hand history notes room what stands kind = fits_late hand history notes room what stands (omega (arith, kind))

pub fits_entering : (hand : ℕ) (history notes : Log) (room : ℕ) (e : Entry) → items_by hand history ≡ entries_noted notes → (facts_of notes).call ≡ Some (call_of e)
    → FitsNote hand (history ++ item hand e ∷ []) notes (note (length history) room (entering_of hand e))
fits_entering hand history notes room e stands own = record {
  within = omega (arith, length-append history (item hand e ∷ []));
  stamped = ap (items_by hand) (take-append_seam history (item hand e ∷ [])) ∙ stands;
  rises = λ off. absurd (omega arith);
  of_call = λ _. own ∙ ap (λ (m : Made). Some (call_of m.entry)) (sym (made_from-item hand e));
}

-- ---- one more note, and one more entry

module _ (shape : Shape) (told : Bool) (callers spares : ℕ) where
  pub kept_by_note : (history : Log) (notes : List Log) (hand : ℕ) (x : List ℕ) → IsKept shape told callers spares history notes → hand < length notes
      → FitsNote hand history (notes_at notes hand) x → entries_noted (notes_at notes hand ++ x ∷ []) ≡ entries_noted (notes_at notes hand)
      → IsKept shape told callers spares history (set notes hand (notes_at notes hand ++ x ∷ []))
  kept_by_note history notes hand x kept within fits same = record {
    legal = kept.legal;
    counted = kept.counted;
    made = kept.made;
    hands = length-set notes hand (notes_at notes hand ++ x ∷ []) ∙ kept.hands;
    stand = λ h ne. dite (ℕ_discrete h hand)
        (λ (e : h ≡ hand).
        let was : Stands history hand (notes_at notes hand) = subst (λ (k : ℕ). Stands history k (notes_at notes k)) e (kept.stand h ne) in
        let now : Stands history hand (notes_at notes hand ++ x ∷ []) = record {
          entries = was.entries ∙ sym same;
          fit = all_fit_more hand history (notes_at notes hand) x was.fit fits;
        } in
        subst (λ (k : ℕ). Stands history k (notes_at (set notes hand (notes_at notes hand ++ x ∷ [])) k)) (sym e)
        (subst (λ (ns : Log). Stands history hand ns) (sym (get_or-set_same notes hand (notes_at notes hand ++ x ∷ []) [] within)) now))
        (λ (off : h ≢ hand). subst (λ (ns : Log). Stands history h ns) (sym (get_or-set_other notes hand h (notes_at notes hand ++ x ∷ []) [] off)) (kept.stand h ne));
  }

  pub kept_by_entry : (history : Log) (notes : List Log) (hand room : ℕ) (e : Entry) → IsKept shape told callers spares history notes → hand < length notes
      → e.line.caller < MAX_SESSIONS → IsHandOf spares e.line.caller hand → MayFollow shape told (history_of history) e → HasBytes e
      → (facts_of (notes_at notes hand)).call ≡ Some (call_of e)
      → IsKept shape told callers spares (history ++ item hand e ∷ []) (set notes hand (notes_at notes hand ++ note (length history) room (entering_of hand e) ∷ []))
  kept_by_entry history notes hand room e kept within session own next bytes open_call =
      let x : List ℕ = note (length history) room (entering_of hand e) in
      let longer : Log = history ++ item hand e ∷ [] in
      let mine : Made = record { hand = hand; entry = e } in
      let here : hand ≢ hands_of callers spares = λ is. omega (arith, kept.hands) in
      let was : Stands history hand (notes_at notes hand) = kept.stand hand here in
      let now : Stands longer hand (notes_at notes hand ++ x ∷ []) = record {
        entries = items_by-own hand e history ∙ ap (λ (xs : Log). xs ++ item hand e ∷ []) was.entries
            ∙ sym (ap (λ f. f.entries) (facts-entered (notes_at notes hand) (length history) room hand e));
        fit = all_fit_more hand longer (notes_at notes hand) x (all_fit_longer hand history (item hand e ∷ []) (notes_at notes hand) was.fit)
            (fits_entering hand history (notes_at notes hand) room e was.entries open_call);
      } in
      record {
        legal = legal_more shape told history hand e kept.legal next bytes;
        counted = subst (DropsCounted shape) (sym (history_of-more history hand e))
            (counted_more shape (history_of history) e kept.counted (λ node. absurd (omega arith)));
        made = subst (All (FitsMaker callers spares)) (sym (made_of-append history (item hand e ∷ []) ∙ ap (λ (m : Made). made_of history ++ m ∷ []) (made_from-item hand e)))
            (All-push (FitsMaker callers spares) (made_of history) mine kept.made (record { session = λ _. own; there = λ _. omega (arith, within, kept.hands); node = λ node. absurd (omega arith) }));
        hands = length-set notes hand (notes_at notes hand ++ x ∷ []) ∙ kept.hands;
        stand = λ h ne. dite (ℕ_discrete h hand)
            (λ (is : h ≡ hand).
            subst (λ (k : ℕ). Stands longer k (notes_at (set notes hand (notes_at notes hand ++ x ∷ [])) k)) (sym is)
            (subst (λ (ns : Log). Stands longer hand ns) (sym (get_or-set_same notes hand (notes_at notes hand ++ x ∷ []) [] within)) now))
            (λ (off : h ≢ hand).
            let before : Stands history h (notes_at notes h) = kept.stand h ne in
            let after : Stands longer h (notes_at notes h) = record {
              entries = items_by-else h hand e history off ∙ before.entries;
              fit = all_fit_longer h history (item hand e ∷ []) (notes_at notes h) before.fit;
            } in
            subst (λ (ns : Log). Stands longer h ns) (sym (get_or-set_other notes hand h (notes_at notes hand ++ x ∷ []) [] off)) after);
      }
