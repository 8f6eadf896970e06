-- Hands that are lent, and that come back.
use Rattle.std.proofs.Common.{◌≡◌, ℕ, List, [], ◌∷◌, ◌++◌, Option, Some, sym, subst, arith}
use Rattle.std.specs.Prelude.{All, MatchOption, ⊤}
use mathlib.Core.List.{IsPrefix}
use Rattle.std.proofs.lemmas.List.{same_from_push}
use Rattle.std.proofs.lemmas.List.Elements.{All-nil, All-pop}
use Rattle.ecp_book.specs.Logs.{Log, history_log}
use Rattle.ecp_book.proofs.Prefixes.{prefix_trans}
use Rattle.ecp_entry.specs.Told.{items_by}
use Rattle.ecp_sequencer.specs.Branches.{IsBranch, acting}
use Rattle.ecp_sequencer.specs.Facts.{facts_of, entries_noted}
use Rattle.ecp_sequencer.specs.Hands.{IsHandOf}
use Rattle.ecp_sequencer.specs.Notes.{Call}
use Rattle.ecp_sequencer.specs.Passes.{HandNotes, PassState, IsHeld, IsPass, IsLastCall, pass_seen}
use Rattle.ecp_sequencer.proofs.KeptLaws.{items_by-prefix}

-- the pass with another front
abbrev pub with_front : PassState → Log → PassState
with_front v front = record v { front = front }

-- the last elements of equal lists are the same
pub last_same : (xs ys : List HandNotes) (x y : HandNotes) → xs ++ x ∷ [] ≡ ys ++ y ∷ [] → x ≡ y
last_same xs ys x y same = (same_from_push xs ys x y same).1

-- the open call of a hand that has just that of another
pub last_of_same : (notes mine : Log) (c : Call) → (facts_of notes).call ≡ (facts_of mine).call → IsLastCall mine c → IsLastCall notes c
last_of_same notes mine c same is = subst (λ (o : Option Call). MatchOption o ⊤ (λ k. k ≡ c)) (sym same) is

module _ (callers spares : ℕ) where
  -- the last spare hand of a pass is held, and so are the others
  pub held_last : (log caller calls : ℕ) (front : Log) (own : HandNotes) (spare rest : List HandNotes) (h : HandNotes)
      → IsPass callers spares log (pass_seen spares caller calls front own spare) → spare ≡ rest ++ h ∷ []
      → All (IsHeld callers spares caller calls front) rest × IsHeld callers spares caller calls front h
  held_last log caller calls front own spare rest h is split = All-pop (IsHeld callers spares caller calls front) spare rest (Some h) split is.held

  -- a pass with other spare hands
  pub pass_holds : (log new caller calls : ℕ) (front : Log) (own : HandNotes) (spare hands : List HandNotes)
      → IsPass callers spares log (pass_seen spares caller calls front own spare) → new ≡ history_log → All (IsHeld callers spares caller calls front) hands
      → IsPass callers spares new (pass_seen spares caller calls front own hands)
  pass_holds log new caller calls front own spare hands is on held = record {
    on_history = on;
    places = is.places;
    own = is.own;
    session = is.session;
    in_range = is.in_range;
    noted = is.noted;
    numbered = is.numbered;
    held = held;
  }

  -- a hand that is held makes a pass of its own
  pub branch_is : (log new caller calls : ℕ) (front : Log) (own h : HandNotes) (spare none : List HandNotes)
      → IsPass callers spares log (pass_seen spares caller calls front own spare) → new ≡ history_log → IsHeld callers spares caller calls front h → none ≡ []
      → IsPass callers spares new (pass_seen spares caller calls front h none)
  branch_is log new caller calls front own h spare none is on held nothing = record {
    on_history = on;
    places = is.places;
    own = held.own;
    session = is.session;
    in_range = held.in_range;
    noted = held.noted;
    numbered = held.numbered;
    held = subst (All (IsHeld callers spares caller calls front)) (sym nothing) (All-nil (IsHeld callers spares caller calls front));
  }

  -- what a branch noted stands in a longer front
  pub branch_noted : (log : ℕ) (branch : PassState) (longer : Log) → IsPass callers spares log branch → IsPrefix branch.front longer
      → IsPrefix (entries_noted branch.notes) (items_by branch.hand longer)
  branch_noted log branch longer is reaches =
      prefix_trans (entries_noted branch.notes) (items_by branch.hand branch.front) (items_by branch.hand longer) is.noted (items_by-prefix branch.hand branch.front longer reaches)

  -- the hand of a branch is held by the pass that it comes back to
  pub held_again : (log : ℕ) (p branch : PassState) (longer : Log) → IsPass callers spares log branch → IsBranch spares p branch → IsPrefix branch.front longer
      → IsHeld callers spares p.caller p.calls longer (acting branch)
  held_again log p branch longer is of reaches = record {
    own = subst (λ (c : ℕ). IsHandOf spares c branch.hand) of.caller is.own;
    spare = of.hand;
    in_range = is.in_range;
    noted = branch_noted log branch longer is reaches;
    numbered = omega (arith, is.numbered, of.calls);
  }
