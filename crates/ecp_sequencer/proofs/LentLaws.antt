-- A spare hand that is told of its caller's call, is lent, and comes back.
use Rattle.std.proofs.Common.{◌≡◌, ℕ, ◌≤◌, List, [], ◌∷◌, ◌++◌, length, map, Option, Some, None, refl, sym, ◌∙◌, ap, subst, arith}
use Rattle.std.specs.Prelude.{All, MatchOption, ⊤}
use Rattle.std.proofs.lemmas.List.{map-append, same_from_push}
use Rattle.std.proofs.lemmas.List.Elements.{All-nil, All-push}
use Rattle.ecp_book.specs.Logs.{Log}
use Rattle.ecp_entry.specs.declared.deed.Deed.{Deed}
use Rattle.ecp_sequencer.specs.declared.limits.TheConstants.{ROOM}
use Rattle.ecp_sequencer.specs.Branches.{CanEnd, CanLend, HasPlace, IsBranch, IsNews, Lent, acting}
use Rattle.ecp_sequencer.specs.Facts.{facts_of, room_noted}
use Rattle.ecp_sequencer.specs.Notes.{Call, note, beginning_of}
use Rattle.ecp_sequencer.specs.Passes.{HandNotes, PassState, new_hands, with_note}
use Rattle.ecp_sequencer.specs.Sequencers.{SequencerState}
use Rattle.ecp_sequencer.specs.Steps.{CallsSpares, call_with}
use Rattle.ecp_sequencer.proofs.NoteLaws.{facts-began}

-- a call that began is news to hands that noted no more calls than the caller had counted
pub news_of : (v w : PassState) (point room : ℕ) (asked : Deed) → w.notes ≡ v.notes ++ note point room (beginning_of (call_with v.calls asked)) ∷ [] → w.spare ≡ v.spare
    → All (λ h. (facts_of h.notes).calls ≤ v.calls) v.spare → IsNews w
news_of v w point room asked noted same few = record {
  call = call_with v.calls asked;
  begun = ap (λ (ns : Log). (facts_of ns).call) noted ∙ ap (λ f. f.call) (facts-began v.notes point room (call_with v.calls asked));
  news = subst (All (λ h. (facts_of h.notes).calls ≤ v.calls)) (sym same) few;
}

-- looked at again, before and after
pub news_after : (u v w x : PassState) (point room : ℕ) (asked : Deed) → v ≡ u → w.notes ≡ v.notes ++ note point room (beginning_of (call_with v.calls asked)) ∷ []
    → w.spare ≡ v.spare → x ≡ w → All (λ h. (facts_of h.notes).calls ≤ u.calls) u.spare → IsNews x
news_after u v w x point room asked before noted same after few =
    subst IsNews (sym after) (news_of v w point room asked noted same (subst (λ (p : PassState). All (λ h. (facts_of h.notes).calls ≤ p.calls) p.spare) (sym before) few))

-- the spare hands of a caller whose hand 3 noted nothing, once they noted its call
pub told_spares : (s t : SequencerState) (v w : PassState) (is : CallsSpares s v t w) → v.spare ≡ new_hands 3 1
    → w.spare ≡ with_note (record { hand = 3; notes = [] }) (note (length s.history) ROOM (beginning_of is.call)) ∷ []
told_spares s t v w is new =
    let f : HandNotes → HandNotes = λ h. with_note h (note (length s.history) ROOM (beginning_of is.call)) in
    ap (λ (p : PassState). p.spare) is.noted.pass ∙ ap (λ (hs : List HandNotes). map f hs) new

-- that one can be lent
pub lendable : (s t : SequencerState) (v w : PassState) → CallsSpares s v t w → v.spare ≡ new_hands 3 1 → CanLend w
lendable s t v w is new = record {
  others = [];
  last = with_note (record { hand = 3; notes = [] }) (note (length s.history) ROOM (beginning_of is.call));
  split = told_spares s t v w is new;
  call = ap (λ f. f.call) (facts-began [] (length s.history) ROOM is.call) ∙ sym is.begun ∙ ap (λ (p : PassState). (facts_of p.notes).call) (sym is.noted.pass);
}

-- its number
pub told_hands : (s t : SequencerState) (v w : PassState) → CallsSpares s v t w → v.spare ≡ new_hands 3 1 → map (λ h. h.hand) w.spare ≡ 3 ∷ []
told_hands s t v w is new = ap (λ (hs : List HandNotes). map (λ h. h.hand) hs) (told_spares s t v w is new)

nothing : (hs : List HandNotes) → map (λ h. h.hand) hs ≡ [] → hs ≡ []
nothing [] is = refl
nothing (h ∷ hs) is = absurd (omega (arith, ap (λ (ns : List ℕ). length ns) is))

-- the branch is of that hand, and none is left
pub of_one : (v branch w : PassState) → map (λ h. h.hand) v.spare ≡ 3 ∷ [] → Lent v branch w → (w.spare ≡ []) × (branch.hand ≡ 3)
of_one v branch w hands is =
    let split : map (λ h. h.hand) w.spare ++ branch.hand ∷ [] ≡ [] ++ 3 ∷ [] =
    sym (map-append (λ h. h.hand) w.spare (acting branch ∷ [])) ∙ ap (λ (hs : List HandNotes). map (λ h. h.hand) hs) (sym is.spare) ∙ hands in
    let both = same_from_push (map (λ h. h.hand) w.spare) [] branch.hand 3 split in
    (nothing w.spare both.0, both.1)

-- it may come back
pub comes_back : (v w branch now : PassState) → (v.caller ≡ 1) × (v.hand ≡ 2) → map (λ h. h.hand) v.spare ≡ 3 ∷ [] → Lent v branch w
    → now.caller ≡ branch.caller → now.hand ≡ branch.hand → now.calls ≡ branch.calls → IsBranch 1 w now
comes_back v w branch now own hands is caller hand calls = record {
  caller = caller ∙ ap (λ (p : PassState). p.caller) is.hand ∙ sym (ap (λ (p : PassState). p.caller) is.pass);
  hand = omega (arith, ap (λ (p : PassState). p.caller) is.pass, own.0, hand, (of_one v branch w hands is).1);
  calls = omega (arith, calls, ap (λ (p : PassState). p.calls) is.hand, ap (λ (p : PassState). p.calls) is.pass);
}

pub has_place : (v w branch : PassState) → (v.caller ≡ 1) × (v.hand ≡ 2) → map (λ h. h.hand) v.spare ≡ 3 ∷ [] → Lent v branch w → HasPlace 1 w
has_place v w branch own hands is = record {
  own = omega (arith, ap (λ (p : PassState). p.hand) is.pass, own.1, ap (λ (p : PassState). p.caller) is.pass, own.0);
  lent = omega (arith, ap (λ (hs : List HandNotes). length hs) (of_one v branch w hands is).0);
}

-- a hand with room for a note can end its call
can_end : (h : HandNotes) → 1 ≤ room_noted h.notes → CanEnd h
can_end h room = either (facts_of h.notes).call where
  either : (o : Option Call) → MatchOption o ⊤ (λ _. 1 ≤ room_noted h.notes)
  either None = tt
  either (Some c) = room

-- so the spare hands of the caller can, once it came back
pub can_release : (v w branch : PassState) (h : HandNotes) → map (λ h. h.hand) v.spare ≡ 3 ∷ [] → Lent v branch w → 1 ≤ room_noted h.notes → All CanEnd (w.spare ++ h ∷ [])
can_release v w branch h hands is room =
    subst (λ (hs : List HandNotes). All CanEnd (hs ++ h ∷ [])) (sym (of_one v branch w hands is).0) (All-push CanEnd [] h (All-nil CanEnd) (can_end h room))
