-- The bound on stripe numbers, once each call has its end.
use Rattle.std.proofs.Common.{◌≡◌, ◌≢◌, ℕ, zero, suc, ◌+◌, ◌*◌, ◌<◌, ◌≤◌, Bool, true, false, List, [], length, None, refl, sym, ◌∙◌, ap, subst, arith, inl, inr}
use Rattle.std.specs.Prelude.{sum_by}
use Rattle.std.specs.List.{list_any}
use mathlib.Core.Logic.{dite}
use native.Mathlib.Decide.{ℕ_discrete}
use Rattle.std.proofs.lemmas.Bool.{false≢true, cases_lt}
use Rattle.std.proofs.lemmas.List.{get_or_past}
use Rattle.std.proofs.lemmas.List.Elements.{All-contains, All-from_get_or}
use Rattle.std.proofs.lemmas.List.Sums.{sum_by-le}
use Rattle.ecp_shape.specs.declared.limits.TheConstants.{MAX_SESSIONS}
use Rattle.ecp_shape.specs.declared.shape.Shape.{Shape}
use Rattle.ecp_book.specs.Logs.{Log}
use Rattle.ecp_entry.specs.declared.act.Act.{Act}
use Rattle.ecp_entry.specs.declared.act.Act.TheVariants as act
use Rattle.ecp_entry.specs.declared.entry.Entry.{Entry}
use Rattle.ecp_entry.specs.declared.line.Line.{Line}
use Rattle.ecp_entry.specs.Told.{history_of}
use Rattle.ecp_history.specs.Files.{StripesBelow, StripesBounded}
use Rattle.ecp_sequencer.specs.Closed.{Closed, IsSettled}
use Rattle.ecp_sequencer.specs.Facts.{HandFacts, facts_of, entries_noted}
use Rattle.ecp_sequencer.specs.Hands.{IsHandOf, hands_of, own_hand}
use Rattle.ecp_sequencer.specs.Histories.{notes_at}
use Rattle.ecp_sequencer.specs.Passes.{PassState}
use Rattle.ecp_sequencer.specs.Sequencers.{SequencerState}
use Rattle.ecp_sequencer.proofs.NoteLaws.{facts_of-none}
use Rattle.ecp_sequencer.proofs.StartLaws.{hands_fit}
use Rattle.ecp_coord.specs.Coords.{AreIdle, CoordParts, IsCoord}
use Rattle.ecp_coord.specs.Numbers.{AllEnded, EachEnded, HasEnded, calls_ended, numbers_by, open_numbers}
use Rattle.ecp_coord.proofs.FollowLaws.{none_by, of_hand}
use Rattle.ecp_coord.proofs.CoverLaws.{open_none}
use Rattle.ecp_coord.proofs.UnendedLaws.{AllEnd, each_ended, ends_as, none_ending, none_open}

-- whose hand it is
record IsOneOf (callers spares hand : ℕ) : Type 0 where
  caller : ℕ
  below : caller < callers
  its : IsHandOf spares caller hand

whose : (callers spares hand : ℕ) → hand < hands_of callers spares → IsOneOf callers spares hand
whose zero spares hand lt = absurd (omega (arith, lt))
whose (suc callers) spares hand lt = elim (cases_lt hand (hands_of callers spares)) [
  | inl less ↦ let found = whose callers spares hand less in let below = found.below in record { caller = found.caller; below = omega (arith, below); its = found.its }
  | inr from ↦ record { caller = callers; below = omega arith; its = record { from = omega (arith, from); within = within from } }
]
  where
    within : hands_of callers spares ≤ hand → hand < own_hand spares callers + (1 + spares)
    within from =
        let next : hands_of (suc callers) spares ≡ hands_of callers spares + (1 + spares) = omega arith in
        omega (arith, lt, next)

-- a hand with these notes left no call open, and has none open
pub record HasNone (notes : Log) : Type 0 where
  pub left : EachEnded notes
  pub open_call : (facts_of notes).call ≡ None

nothing_left : HasNone []
nothing_left = record { left = λ i x here begins. absurd (cc); open_call = ap (λ (f : HandFacts). f.call) facts_of-none }

module _ (shape : Shape) (told : Bool) (callers spares : ℕ) (s : SequencerState) (lines : List Line) (passes : List PassState) (closed : Closed shape told callers spares s lines passes)
    (idle : AreIdle spares s.notes) (ended : AllEnded callers spares (history_of s.history) passes) (most : callers ≤ MAX_SESSIONS) where
  -- a hand that noted nothing has no entry
  none_told : (caller hand : ℕ) → caller < callers → IsHandOf spares caller hand → hand ≢ own_hand spares caller → list_any (of_hand hand) s.history ≡ false
  none_told caller hand below its off =
      let there : hand ≢ hands_of callers spares = λ same. let last = hands_fit callers spares caller below in let within = its.within in omega (arith, same, last, within) in
      none_by hand s.history
      ((closed.kept.stand hand there).entries ∙ ap (λ (ns : Log). entries_noted ns) (idle caller hand its off) ∙ ap (λ (f : HandFacts). f.entries) facts_of-none)

  -- each call that the caller's own hand began has an end among its entries
  own_ends : (caller : ℕ) (p : PassState) → caller < callers → IsSettled s p → HasEnded spares caller (history_of s.history) p → AllEnd p.notes
  own_ends caller p below settled has n lt = either (list_any (ends_as n) (entries_noted p.notes)) refl where
    either : (b : Bool) → list_any (ends_as n) (entries_noted p.notes) ≡ b → b ≡ true
    either true is = refl
    either false is =
        let numbered = settled.numbered in
        absurd (false≢true (sym
        (none_ending callers spares caller p.hand n (omega (arith, below, most)) s.history closed.kept.made (ap (list_any (ends_as n)) settled.own.entries ∙ is)
        (λ h its apart. none_told caller h below its (λ same. apart (same ∙ sym has.own))))
        ∙ has.ended n (omega (arith, lt, numbered))))

  own_has_none : (caller : ℕ) (p : PassState) → caller < callers → IsSettled s p → HasEnded spares caller (history_of s.history) p → HasNone p.notes
  own_has_none caller p below settled has =
      let ends : AllEnd p.notes = own_ends caller p below settled has in
      record { left = each_ended p.hand s.history p.notes settled.own ends; open_call = none_open p.hand s.history p.notes settled.own ends }

  pub each_has_none : (hand : ℕ) → HasNone (notes_at s.notes hand)
  each_has_none hand = elim (cases_lt hand (hands_of callers spares)) [
    | inl less ↦ one (whose callers spares hand less)
    | inr from ↦ subst (λ (ns : Log). HasNone ns) (sym (get_or_past s.notes hand [] (let all = closed.kept.hands in omega (arith, from, all)))) nothing_left
  ]
    where
      one : IsOneOf callers spares hand → HasNone (notes_at s.notes hand)
      one of = dite (ℕ_discrete hand (own_hand spares of.caller))
          (λ (own : hand ≡ own_hand spares of.caller).
          let pass = ended of.caller of.below in
          let p : PassState = pass.0 in
          let settled : IsSettled s p = All-contains (IsSettled s) passes p closed.settled pass.1 in
          subst (λ (h : ℕ). HasNone (notes_at s.notes h)) (pass.2.own ∙ sym own)
          (subst (λ (ns : Log). HasNone ns) (sym settled.heard) (own_has_none of.caller p of.below settled pass.2)))
          (λ (off : hand ≢ own_hand spares of.caller). subst (λ (ns : Log). HasNone ns) (sym (idle of.caller hand of.its off)) nothing_left)

-- a greater bound
below_more : (m n : ℕ) (a : Act) → m ≤ n → StripesBelow m a → StripesBelow n a
below_more m n (act.Stored first stripes up) le below = omega (arith, le, below)
below_more m n _ le below = tt

pub bounded : (shape : Shape) (told : Bool) (callers spares : ℕ) (s : SequencerState) (p : CoordParts) (lines : List Line) (passes : List PassState) → IsCoord shape told callers spares s p
    → Closed shape told callers spares s lines passes → AllEnded callers spares (history_of s.history) passes
    → StripesBounded (calls_ended shape (history_of s.history)) (history_of s.history)
bounded shape told callers spares s p lines passes is closed ended =
    let none : (hand : ℕ) → HasNone (notes_at s.notes hand) = each_has_none shape told callers spares s lines passes closed is.idle ended is.most in
    let covered = is.covered (λ hand. (none hand).left) in
    let took : sum_by (open_numbers shape) s.notes ≤ length s.notes * 0 =
    sum_by-le (open_numbers shape) 0 s.notes
    (All-from_get_or (λ (ns : Log). open_numbers shape ns ≤ 0) s.notes [] (λ i lt. let nil = open_none shape (notes_at s.notes i) (none i).open_call in omega (arith, nil))) in
    let within : p.stripes ≤ numbers_by shape (history_of s.history) = omega (arith, covered, took) in
    λ e has. below_more p.stripes (numbers_by shape (history_of s.history)) e.line.act within
    (All-contains (λ (x : Entry). StripesBelow p.stripes x.line.act) (history_of s.history) e is.booked.stored has)
