-- Calls that name a node that is not there, one behind another.
use Rattle.std.proofs.Common.{◌≡◌, ℕ, zero, suc, ◌+◌, ◌<◌, ◌≤◌, Bool, true, false, cond, List, [], ◌∷◌, ◌++◌, length, Some, refl, sym, ◌∙◌, ap, subst, arith, inl, get_or, set, Result, Ok, Err, below_more, get_or-set_same, get_or-set_other}
use Rattle.std.specs.Prelude.{nat_lt, OnOk, OnErr}
use Rattle.std.specs.List.{list_any}
use Rattle.std.proofs.lemmas.Bool.{false≢true}
use Rattle.std.proofs.lemmas.List.{length-map, set-get_or, get_or_default}
use Rattle.std.proofs.lemmas.List.Elements.{All-nil, All-cons}
use mathlib.Core.List.{IsPrefix}
use Rattle.ecp_shape.specs.declared.limits.TheConstants.{MAX_SESSIONS}
use Rattle.ecp_shape.specs.declared.shape.Shape.{Shape}
use Rattle.ecp_book.specs.Logs.{Log}
use Rattle.ecp_book.proofs.Prefixes.{prefix_length}
use Rattle.ecp_entry.specs.declared.deed.Deed.{Deed}
use Rattle.ecp_entry.specs.declared.deed.Deed.TheVariants as deed
use Rattle.ecp_entry.specs.declared.entry.Entry.{Entry}
use Rattle.ecp_entry.specs.Entries.{is_same_call}
use Rattle.ecp_entry.specs.Items.{item}
use Rattle.ecp_entry.specs.Told.{Made, made_from, made_of, history_of, items_by}
use Rattle.ecp_history.specs.Follows.{after_last, is_same_caller}
use Rattle.ecp_history.specs.Legal.{MayFollow}
use Rattle.ecp_sequencer.specs.Closed.{IsSettled}
use Rattle.ecp_sequencer.specs.Facts.{HandFacts, facts_of, entries_noted}
use Rattle.ecp_sequencer.specs.Hands.{own_hand}
use Rattle.ecp_sequencer.specs.Notes.{note, beginning_of}
use Rattle.ecp_sequencer.specs.Passes.{PassState, first_pass, first_passes, longer}
use Rattle.ecp_sequencer.specs.Rounds.{no_node, AreNumbered, Began, CalledNone, Worked, Raised, Counted}
use Rattle.ecp_sequencer.specs.Sequencers.{SequencerState, Agrees}
use Rattle.ecp_sequencer.specs.Steps.{Steps, Event, IsOfCall, IsOwn, call_with}
use Rattle.ecp_sequencer.proofs.NoteLaws.{facts-began}
use Rattle.ecp_sequencer.proofs.StepLaws.{steps_both, steps_raised}

-- the pass with another front
abbrev with_front : PassState → Log → PassState
with_front v front = record v { front = front }

one_more : (n m : ℕ) (b : Bool) → n ≤ m → cond (nat_lt 0 n) (n + 1) (cond b 1 0) ≤ suc m
one_more n m b le = elim (nat_lt 0 n) as (λ v. cond v (n + 1) (cond b 1 0) ≤ suc m) [
  | true ↦ omega arith
  | false ↦ elim b as (λ v. cond v 1 0 ≤ suc m) [ true ↦ omega arith | false ↦ omega arith ]
]

after_last_within : (test : Entry → Bool) (before : List Entry) → after_last test before ≤ length before
after_last_within test [] = omega arith
after_last_within test (e ∷ before) = one_more (after_last test before) (length before) (test e) (after_last_within test before)

end_within : (before : List Entry) (e : Entry) (b : Bool) → cond b (after_last (is_same_call e) before) (after_last (is_same_caller e) before) ≤ length before
end_within before e true = after_last_within (is_same_call e) before
end_within before e false = after_last_within (is_same_caller e) before

-- such a call may end at any position
pub may_follow : (shape : Shape) (told : Bool) (before : List Entry) (caller call node : ℕ) → shape.nodes ≤ node → caller < MAX_SESSIONS
    → MayFollow shape told before (no_node caller call (length before) node)
may_follow shape told before caller call node far session =
    let e : Entry = no_node caller call (length before) node in
    record {
      point = record {
        late = end_within before e (list_any (is_same_call e) before);
        early = omega arith;
        own = λ _. refl;
      };
      agrees = record {
        call = (inl refl, refl);
        caller = session;
        name = refl;
        bytes = refl;
      };
      part = λ off. absurd (false≢true off);
      holds = far;
    }

-- ---- entries with rising numbers

numbered_from : (n m k : ℕ) (entries : List Entry) → n ≤ m → AreNumbered m entries k → AreNumbered n entries k
numbered_from n m k [] le is = omega arith
numbered_from n m k (e ∷ entries) le is = (omega (arith, is.0), is.1)

pub numbered_within : (n m : ℕ) (entries : List Entry) → AreNumbered n entries m → n ≤ m
numbered_within n m [] is = is
numbered_within n m (e ∷ entries) is = omega (arith, is.0, numbered_within (e.line.call + 1) m entries is.1)

pub numbered_both : (n m k : ℕ) (mine theirs : List Entry) → AreNumbered n mine m → AreNumbered m theirs k → AreNumbered n (mine ++ theirs) k
numbered_both n m k [] theirs a b = numbered_from n m k theirs a b
numbered_both n m k (e ∷ mine) theirs a b = (a.0, numbered_both (e.line.call + 1) m k mine theirs a.1 b)

-- ---- calls, from their events

pub length-history : (items : Log) → length (history_of items) ≡ length items
length-history items = length-map (made_of items) (λ (m : Made). m.entry) ∙ length-map items made_from

module _ (shape : Shape) (told : Bool) where
  -- looking is working, with no call
  pub worked_none : (s t : SequencerState) (v w : PassState) → Event shape told s v [] [] t w → v.calls ≤ w.calls → Worked v w
  worked_none s t v w ev le = record { mine = []; more = []; steps = ev.steps; numbered = le }

  pub began : (s t : SequencerState) (v w : PassState) (point room : ℕ) (asked : Deed) → Event shape told s v [] (note point room (beginning_of (call_with v.calls asked)) ∷ []) t w
      → w.calls ≡ v.calls + 1 → 1 ≤ room → Began v asked w
  began s t v w point room asked ev counted some =
      let x : List ℕ = note point room (beginning_of (call_with v.calls asked)) in
      let facts = ap facts_of ev.steps.noted ∙ facts-began v.notes point room (call_with v.calls asked) in
      record {
        more = x ∷ [];
        steps = ev.steps;
        calls = counted;
        call = ap (λ (f : HandFacts). f.call) facts;
        room = omega (arith, some, ap (λ (f : HandFacts). f.room) facts);
      }

  -- the call that began ends
  pub called : (s t : SequencerState) (v u w : PassState) (more : Log) (node caller call point : ℕ) → Began v (deed.Lose node) u → Agrees s u
      → Event shape told s u (no_node caller call point node ∷ []) more t w → caller ≡ v.caller → call ≡ v.calls → point ≡ length s.history → w.calls ≡ u.calls
      → CalledNone shape told v node w
  called s t v u w more node caller call point b met ev is_caller is_call is_point counted =
      let e : Entry = no_node v.caller v.calls point node in
      let is_e : no_node caller call point node ≡ e = ap (λ (k : ℕ). no_node k call point node) is_caller ∙ ap (λ (k : ℕ). no_node v.caller k point node) is_call in
      let both : Steps v (e ∷ []) (b.more ++ more) w =
      subst (λ (y : Entry). Steps v (y ∷ []) (b.more ++ more) w) is_e (steps_both v u w [] (no_node caller call point node ∷ []) b.more more b.steps ev.steps) in
      let within : length v.front ≤ length s.history =
      omega (arith, prefix_length v.front u.front b.steps.extends, prefix_length u.front s.history met.begins) in
      let ends : w.front ≡ s.history ++ item v.hand e ∷ [] =
      ev.front ∙ ev.history ∙ ap (λ (h : ℕ). s.history ++ item h (no_node caller call point node) ∷ []) b.steps.hand ∙ ap (λ (y : Entry). s.history ++ item v.hand y ∷ []) is_e in
      record {
        point = point;
        called = record {
          more = b.more ++ more;
          steps = both;
          legal = ev.legal;
          counted = counted ∙ b.calls;
          own = All-cons (IsOfCall v.caller (call_with v.calls (deed.Lose node))) e [] (record { by = refl; of_call = refl }) (All-nil (IsOfCall v.caller (call_with v.calls (deed.Lose node))));
          late = All-cons (λ (y : Entry). length v.front ≤ y.line.point) e [] (omega (arith, within, is_point)) (All-nil (λ (y : Entry). length v.front ≤ y.line.point));
          ends = refl;
          stands = (s.history, ends);
        };
      }

  pub worked_one : (v w : PassState) (node : ℕ) → CalledNone shape told v node w → Worked v w
  worked_one v w node c = record {
    mine = no_node v.caller v.calls c.point node ∷ [];
    more = c.called.more;
    steps = c.called.steps;
    numbered = (omega arith, omega (arith, c.called.counted));
  }

  -- the call's entry is one of its pass, and may follow
  pub is_own : (s : SequencerState) (v u : PassState) (node caller call point : ℕ) → Began v (deed.Lose node) u → caller ≡ u.caller → call ≡ v.calls
      → IsOwn u.caller u.notes (no_node caller call point node)
  is_own s v u node caller call point b is_caller is_call = record {
    by = is_caller;
    of_call = b.call ∙ ap (λ (k : ℕ). Some (call_with k (deed.Lose node))) (sym is_call);
  }

  pub follows_any : (items : Log) (caller call point node : ℕ) → shape.nodes ≤ node → caller < MAX_SESSIONS → point ≡ length items
      → MayFollow shape told (history_of items) (no_node caller call point node)
  follows_any items caller call point node far session is_point =
      subst (λ (k : ℕ). MayFollow shape told (history_of items) (no_node caller call k node)) (length-history items ∙ sym is_point)
      (may_follow shape told (history_of items) caller call node far session)

  -- whichever way the call ended
  pub worked_either : {T E : Type 0} (v w : PassState) (node : ℕ) (r : Result T E) → OnOk r (CalledNone shape told v node w) → OnErr r (Worked v w) → Worked v w
  worked_either v w node (Ok x) ok err = worked_one v w node ok
  worked_either v w node (Err e) ok err = err

-- two facts of one success
pub on_ok : {T E : Type 0} (P Q R : Type 0) (r : Result T E) → (P → Q → R) → OnOk r P → OnOk r Q → OnOk r R
on_ok P Q R (Ok x) f p q = f p q
on_ok P Q R (Err e) f p q = tt

-- ---- rounds

pub worked_both : (u v w : PassState) → Worked u v → Worked v w → Worked u w
worked_both u v w a b = record {
  mine = a.mine ++ b.mine;
  more = a.more ++ b.more;
  steps = steps_both u v w a.mine b.mine a.more b.more a.steps b.steps;
  numbered = numbered_both u.calls v.calls w.calls a.mine b.mine a.numbered b.numbered;
}

-- what a raised pass does, the pass did before it was raised
pub worked_raised : (u v w : PassState) → Raised u v → Worked v w → Worked u w
worked_raised u v w r a = record {
  mine = a.mine;
  more = a.more;
  steps = steps_raised u v w a.mine a.more (ap (λ (p : PassState). p.caller) r.same) (ap (λ (p : PassState). p.hand) r.same) (ap (λ (p : PassState). p.places) r.same) (ap (λ (p : PassState). p.spare) r.same)
      (ap (λ (p : PassState). p.notes) r.same) r.longer r.noted a.steps;
  numbered = subst (λ (n : ℕ). AreNumbered n a.mine w.calls) (ap (λ (p : PassState). p.calls) r.same) a.numbered;
}

pub raised : (v w : PassState) (front : Log) → w ≡ record v { front = longer v.front front } → IsPrefix v.front w.front
    → IsPrefix (entries_noted v.notes) (items_by v.hand v.front) → Raised v w
raised v w front is extends noted = record {
  same = is ∙ ap (λ (xs : Log). with_front v xs) (sym (ap (λ (p : PassState). p.front) is));
  longer = extends;
  noted = noted;
}

-- of each pass the history has just the entries that it counted
pub counts : (s : SequencerState) (spares caller : ℕ) (w : PassState) → Worked (first_pass spares caller) w → IsSettled s w → Counted s.history spares caller w.calls
counts s spares caller w a settled =
    let hand : ℕ = own_hand spares caller in
    record {
      mine = a.mine;
      just = ap (λ (h : ℕ). items_by h s.history) (sym a.steps.hand) ∙ settled.own.entries ∙ sym a.steps.settled ∙ a.steps.entered;
      numbered = a.numbered;
    }

-- the passes before this place are raised, and the others are as they were
pub record RaisedTo (old now : List PassState) (at : ℕ) : Type 0 where
  pub done : (k : ℕ) → k < at → (p : PassState) → Raised (get_or old k p) (get_or now k p)
  pub rest : (k : ℕ) (p : PassState) → at ≤ k → get_or now k p ≡ get_or old k p

pub none_raised : (old : List PassState) (i : ℕ) (x y : PassState) → x ≡ get_or old i x → y ≡ x → RaisedTo old (set old i y) 0
none_raised old i x y is same =
    let whole : set old i y ≡ old = ap (set old i) (same ∙ is) ∙ set-get_or old i x in
    record {
      done = λ k lt. absurd (omega arith);
      rest = λ k p le. ap (λ (xs : List PassState). get_or xs k p) whole;
    }

pub one_raised : (old now : List PassState) (at : ℕ) (x y : PassState) → at < length now → Raised (get_or now at x) y → RaisedTo old now at → RaisedTo old (set now at y) (at + 1)
one_raised old now at x y within r to = record {
  done = below_more (λ (k : ℕ). (p : PassState) → Raised (get_or old k p) (get_or (set now at y) k p)) at
      (λ k lt p. subst (Raised (get_or old k p)) (sym (get_or-set_other now at k y p (λ same. omega arith))) (to.done k lt p))
      (λ p. subst (Raised (get_or old at p)) (sym (get_or-set_same now at y p within))
      (subst (λ (z : PassState). Raised z y) (get_or_default now at x p within ∙ to.rest at p (omega arith)) r));
  rest = λ k p le. get_or-set_other now at k y p (λ same. omega arith) ∙ to.rest k p (omega arith);
}

-- the two callers' first passes
pub first_of_two : (caller : ℕ) (p : PassState) → caller + 1 ≤ 2 → get_or (first_passes 1 2) caller p ≡ first_pass 1 caller
first_of_two zero p lt = refl
first_of_two (suc zero) p lt = refl
first_of_two (suc (suc n)) p lt = absurd (omega arith)
