-- What the open call of a hand is, as the hand notes more.
use Rattle.std.proofs.Common.{◌≡◌, ℕ, ◌≤◌, Bool, cond, true, false, List, [], ◌∷◌, ◌++◌, Option, Some, None, refl, sym, ◌∙◌, ap, subst}
use Rattle.std.specs.Prelude.{slice_index, MatchOption, ⊤}
use Rattle.std.specs.Option.{is_some}
use Rattle.ecp_book.specs.Logs.{Log}
use Rattle.ecp_entry.specs.declared.deed.Deed.{Deed}
use Rattle.ecp_entry.specs.declared.entry.Entry.{Entry}
use Rattle.ecp_sequencer.specs.Notes.{Call, note, beginning_of, being_over, entering_of}
use Rattle.ecp_sequencer.specs.Facts.{HandFacts, facts_of, is_end, is_open}
use Rattle.ecp_sequencer.specs.Passes.{AsksFor, IsLastCall, call_seen}
use Rattle.ecp_sequencer.proofs.NoteLaws.{facts_of-none, facts-began, facts-entered, facts-over, facts-other}

-- a call, where there is one, is this
abbrev Is : Call → Option Call → Type 0
Is c call = MatchOption call ⊤ (λ k. k ≡ c)

-- a hand that noted nothing has none
pub last_none : (c : Call) → IsLastCall [] c
last_none c = subst (λ (f : HandFacts). Is c f.call) (sym facts_of-none) tt

-- a call that began is the open one
pub last_began : (notes : Log) (point room : ℕ) (c : Call) → IsLastCall (notes ++ note point room (beginning_of c) ∷ []) c
last_began notes point room c = subst (λ (f : HandFacts). Is c f.call) (sym (facts-began notes point room c)) refl

-- an entry leaves it open, or ends it
pub last_entered : (notes : Log) (point room hand : ℕ) (e : Entry) (c : Call) → IsLastCall notes c → IsLastCall (notes ++ note point room (entering_of hand e) ∷ []) c
last_entered notes point room hand e c is =
    subst (λ (f : HandFacts). Is c f.call) (sym (facts-entered notes point room hand e)) (either (is_end e.line.part)) where
      either : (b : Bool) → Is c (cond b None (facts_of notes).call)
      either true = tt
      either false = is

-- a note of the layer above leaves it
pub last_other : (notes : Log) (point room : ℕ) (what : List ℕ) (c : Call) → 3 ≤ slice_index what 0 → IsLastCall notes c
    → IsLastCall (notes ++ note point room what ∷ []) c
last_other notes point room what c le is = subst (λ (f : HandFacts). Is c f.call) (sym (facts-other notes point room what le)) is

-- what the open call asks for
asks : (call : Option Call) (c : Call) → Is c call → MatchOption call ⊤ (λ k. k.deed ≡ c.deed)
asks None c is = tt
asks (Some k) c is = ap (λ (x : Call). x.deed) is

pub last_asks : (notes : Log) (number : ℕ) (deed : Option Deed) → IsLastCall notes (call_seen number deed) → AsksFor notes deed
last_asks notes number deed is = asks (facts_of notes).call (call_seen number deed) is

-- the open call, where there is one, is the one that is known
same : (call : Option Call) (c k : Call) → Is c call → call ≡ Some k → c ≡ k
same None c k is here = cc
same (Some x) c k is here = cc

pub last_same : (notes : Log) (c k : Call) → IsLastCall notes c → (facts_of notes).call ≡ Some k → c ≡ k
last_same notes c k is here = same (facts_of notes).call c k is here

-- ---- whether a call is open

pub open_began : (notes : Log) (point room : ℕ) (c : Call) → true ≡ is_open (notes ++ note point room (beginning_of c) ∷ [])
open_began notes point room c = sym (ap (λ (f : HandFacts). is_some f.call) (facts-began notes point room c))

pub open_over : (notes : Log) (point room : ℕ) → false ≡ is_open (notes ++ note point room being_over ∷ [])
open_over notes point room = sym (ap (λ (f : HandFacts). is_some f.call) (facts-over notes point room))

pub open_other : (notes : Log) (point room : ℕ) (what : List ℕ) → 3 ≤ slice_index what 0 → is_open notes ≡ is_open (notes ++ note point room what ∷ [])
open_other notes point room what le = sym (ap (λ (f : HandFacts). is_some f.call) (facts-other notes point room what le))

pub open_entered : (notes : Log) (point room hand : ℕ) (e : Entry)
    → cond (is_end e.line.part) false (is_open notes) ≡ is_open (notes ++ note point room (entering_of hand e) ∷ [])
open_entered notes point room hand e =
    sym (ap (λ (f : HandFacts). is_some f.call) (facts-entered notes point room hand e) ∙ either (is_end e.line.part)) where
      either : (b : Bool) → is_some (cond b None (facts_of notes).call) ≡ cond b false (is_open notes)
      either true = refl
      either false = refl
