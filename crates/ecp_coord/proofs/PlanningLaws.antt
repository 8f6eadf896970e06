-- What the event that plans says, from what its parts say.
use Rattle.std.proofs.Common.{◌≡◌, ℕ, suc, Bool, true, false, cond, List, [], ◌++◌, length, Option, Some, None, IsSome, Result, Ok, Err, refl, sym, ◌∙◌, ap, subst, inl, inr}
use Rattle.std.specs.Prelude.{IsSomeAnd, MatchOption, ⊤}
use Rattle.std.proofs.lemmas.Bool.{false≢true}
use Rattle.ecp_shape.specs.declared.shape.Shape.{Shape}
use Rattle.ecp_book.specs.Logs.{Log}
use Rattle.ecp_entry.specs.declared.act.Act.{Act}
use Rattle.ecp_entry.specs.declared.act.Act.TheVariants as act
use Rattle.ecp_entry.specs.declared.deed.Deed.{Deed}
use Rattle.ecp_entry.specs.declared.deed.Deed.TheVariants as deed
use Rattle.ecp_entry.specs.declared.entry.Entry.{Entry}
use Rattle.ecp_entry.specs.declared.part.Part.{Part}
use Rattle.ecp_entry.specs.declared.part.Part.TheVariants as part
use Rattle.ecp_entry.specs.Told.{history_of}
use Rattle.ecp_entry.proofs.ToldLaws.{history_of-append}
use Rattle.ecp_history.specs.declared.table.block_name.BlockName.{BlockName}
use Rattle.ecp_history.specs.Acts.{LacksRows}
use Rattle.ecp_history.specs.Fronts.{told_table}
use Rattle.ecp_history.specs.Legal.{IsLegal, MayFollow}
use Rattle.ecp_history.specs.Named.{block_at}
use Rattle.ecp_history.specs.table.Steps.{table_of}
use Rattle.ecp_history.specs.table.Tables.{PlainTable, live_rows}
use Rattle.ecp_catalog.specs.Stamps.{StampsSeen}
use Rattle.ecp_sequencer.specs.Passes.{IsWhole, PassState}
use Rattle.ecp_sequencer.specs.Sequencers.{SequencerState}
use Rattle.ecp_sequencer.specs.Steps.{Event}
use Rattle.ecp_sequencer.proofs.StepLaws.{steps_both}
use Rattle.ecp_coord.specs.declared.no_plan.NoPlan.{NoPlan}
use Rattle.ecp_coord.specs.declared.no_plan.NoPlan.TheVariants as no
use Rattle.ecp_coord.specs.Calls.{EndsAny, IsOpen, closing}
use Rattle.ecp_coord.specs.Coords.{CoordParts, IsCoord}
use Rattle.ecp_coord.specs.Plans.{AsksPart, IsSought, RefusesPlan, is_recoverable, refusal_of, sought}
use Rattle.ecp_coord.proofs.AskLaws.{named_sought}
use Rattle.ecp_coord.proofs.AttemptLaws.{IsAsking, state}
use Rattle.ecp_coord.proofs.DueLaws.{due_goes}
use Rattle.ecp_coord.proofs.EndLaws.{may_close}
use Rattle.ecp_coord.proofs.EndWithLaws.{one_asked}
use Rattle.ecp_coord.proofs.FollowLaws.{IsMet}
use Rattle.ecp_coord.proofs.LoseLaws.{length_told}
use Rattle.ecp_coord.proofs.SeekLaws.{lacks_rows, of_block, refusal_follows}
use Rattle.ecp_coord.proofs.StayLaws.{block_at_stays}

-- a pass that asks for a block is its caller's own
pub sought_whole : (shape : Shape) (v : PassState) (at : Part) (name : List ℕ) (index : ℕ) → IsSought shape v at name index → IsWhole v
sought_whole shape v at name index (inl of) = of.1.fresh.is_open.whole
sought_whole shape v at name index (inr of) = of.1.is_open.whole

module _ (shape : Shape) (told : Bool) (callers spares : ℕ) (s : SequencerState) (v : PassState) (p : CoordParts) (is : IsCoord shape told callers spares s p) (met : IsMet shape told callers spares s v) where
  abbrev before : List Entry
  before = history_of s.history

  abbrev t : PlainTable
  t = table_of shape before

  -- what the open call asks for
  pub asking_of : (at : Part) (name : List ℕ) (index : ℕ) → IsSought shape v at name index → (asked : Deed) × IsAsking shape v s.history asked at name index
  asking_of at name index (inl of) =
      let says = of_block of.1.asked name index of.1.asks in (
        of.1.asked,
        subst (λ (r : Part). IsAsking shape v s.history of.1.asked r name index) (sym of.0)
            (record { is_open = of.1.fresh.is_open; of_block = inl (says.kind, refl); due = λ off. absurd (false≢true off); block = says.block shape }),
      )
  asking_of at name index (inr of) = (
    deed.Cat name,
    subst (λ (r : Part). IsAsking shape v s.history (deed.Cat name) r name index) (sym of.0)
        (record {
          is_open = of.1.is_open;
          of_block = inr (refl, refl);
          due = due_goes shape v (deed.Cat name) (part.Part (suc index)) v.front s.history met.agree.begins (inr (refl, refl)) of.1.due 0 act.Data [] refl;
          block = λ u. refl;
        }),
  )

  -- a block of the front is one of the history
  still_there : (name : List ℕ) (index : ℕ) (o : Option BlockName) → block_at shape (told_table shape v.front) name index ≡ o → IsSome o → (b : BlockName) × (block_at shape t name index ≡ Some b)
  still_there name index None named some = absurd (false≢true some)
  still_there name index (Some b) named some =
      let whole : history_of s.history ≡ history_of v.front ++ history_of met.agree.begins.0 =
      ap (λ (xs : Log). history_of xs) (sym met.agree.begins.1) ∙ history_of-append v.front met.agree.begins.0 in (
        b,
        subst (λ (es : List Entry). block_at shape (table_of shape es) name index ≡ Some b) (sym whole)
            (block_at_stays shape told name index b (history_of v.front) (history_of met.agree.begins.0) (subst (IsLegal shape told) whole met.kept.legal.legal) named),
      )

  -- a part of a `cat` is refused only where its block cannot be had
  abbrev Goes : Deed → Part → Result BlockName NoPlan → Type 0
  Goes asked at (Ok b) = ⊤
  Goes asked at (Err why) = MatchOption (refusal_of why) ⊤ (λ what. MayFollow shape told before (closing v asked at (length before) what []))

  part_goes : (name : List ℕ) (index : ℕ) → AsksPart shape v name index → (why : NoPlan) → sought shape t name index ≡ Err why
      → MatchOption (refusal_of why) ⊤ (λ what. MayFollow shape told before (closing v (deed.Cat name) (part.Part (suc index)) (length before) what []))
  part_goes name index asks why found =
      let there = still_there name index (block_at shape (told_table shape v.front) name index) refl asks.there in
      let b : BlockName = there.0 in
      subst (Goes (deed.Cat name) (part.Part (suc index))) (named_sought shape t name index b there.1 ∙ found) (by_had b there.1 (is_recoverable shape t b) refl)
    where
      by_had : (b : BlockName) → block_at shape t name index ≡ Some b → (had : Bool) → is_recoverable shape t b ≡ had
          → Goes (deed.Cat name) (part.Part (suc index)) (cond had (Ok b) (Err (no.Unrecoverable (live_rows t b.stripe))))
      by_had b named true on = tt
      by_had b named false off =
          let what : Act = act.Unrecoverable (live_rows t b.stripe) in
          may_close shape told before v (deed.Cat name) (part.Part (suc index)) what met.session (inr (refl, refl)) refl
          (due_goes shape v (deed.Cat name) (part.Part (suc index)) v.front s.history met.agree.begins (inr (refl, refl)) asks.due (length before) what [] refl)
          (subst (λ (o : Option BlockName). IsSomeAnd o (LacksRows shape t (live_rows t b.stripe))) (sym named)
          (lacks_rows shape told p.catalog before name index b is.range met.kept.legal.legal is.outline named off))

  sought_goes : (at : Part) (name : List ℕ) (index : ℕ) → IsSought shape v at name index → (why : NoPlan) → sought shape t name index ≡ Err why → (asked : Deed) → IsOpen v asked
      → MatchOption (refusal_of why) ⊤ (λ what. MayFollow shape told before (closing v asked at (length before) what []))
  sought_goes at name index (inl of) why found asked open_call =
      subst (λ (r : Part). Goes asked r (Err why)) (sym of.0)
      (subst (λ (d : Deed). Goes d part.End (Err why)) (one_asked v of.1.asked asked of.1.fresh.is_open open_call)
      (refusal_follows shape told callers spares s v p.catalog of.1.asked name index of.1.asks is.range is.outline met is.idle of.1.fresh why found))
  sought_goes at name index (inr of) why found asked open_call =
      subst (λ (r : Part). Goes asked r (Err why)) (sym of.0)
      (subst (λ (d : Deed). Goes d (part.Part (suc index)) (Err why)) (one_asked v (deed.Cat name) asked of.1.is_open open_call) (part_goes name index of.1 why found))

  -- a refusal may come next, as the pass and the sequencer are once they met
  pub refuse_goes : (x : SequencerState) (q : PassState) → x ≡ s → q ≡ v → (at : Part) (name : List ℕ) (index : ℕ) → IsSought shape v at name index → (why : NoPlan) → sought shape t name index ≡ Err why
      → (asked : Deed) → IsOpen q asked → MatchOption (refusal_of why) ⊤ (λ what. MayFollow shape told (history_of x.history) (closing q asked at (length x.history) what []))
  refuse_goes x q same_x same_q at name index asks why found =
      subst (λ (y : SequencerState). (asked : Deed) → IsOpen q asked → MatchOption (refusal_of why) ⊤ (λ what. MayFollow shape told (history_of y.history) (closing q asked at (length y.history) what []))) (sym same_x)
      (subst (λ (r : PassState). (asked : Deed) → IsOpen r asked → MatchOption (refusal_of why) ⊤ (λ what. MayFollow shape told (history_of s.history) (closing r asked at (length s.history) what []))) (sym same_q)
      (subst (λ (n : ℕ). (asked : Deed) → IsOpen v asked → MatchOption (refusal_of why) ⊤ (λ what. MayFollow shape told (history_of s.history) (closing v asked at n what []))) (length_told s.history)
      (sought_goes at name index asks why found)))

-- what was done, as it was before the meeting
pub refuse_met : (shape : Shape) (told : Bool) (s x t : SequencerState) (v q w : PassState) → x ≡ s → q ≡ v → (at : Part) (said : Option Act)
    → MatchOption said (Event shape told x q [] [] t w) (λ what. EndsAny shape told x q at what t w) → MatchOption said (Event shape told s v [] [] t w) (λ what. EndsAny shape told s v at what t w)
refuse_met shape told s x t v q w same_x same_q at said event =
    subst (λ (y : SequencerState). MatchOption said (Event shape told y v [] [] t w) (λ what. EndsAny shape told y v at what t w)) same_x
    (subst (λ (r : PassState). MatchOption said (Event shape told x r [] [] t w) (λ what. EndsAny shape told x r at what t w)) same_q event)

pub event_met : (shape : Shape) (told : Bool) (s x t : SequencerState) (v q w : PassState) → x ≡ s → q ≡ v → (more : Log) → Event shape told x q [] more t w → Event shape told s v [] more t w
event_met shape told s x t v q w same_x same_q more event =
    subst (λ (y : SequencerState). Event shape told y v [] more t w) same_x (subst (λ (r : PassState). Event shape told x r [] more t w) same_q event)

pub refuses_now : (shape : Shape) (told : Bool) (s t : SequencerState) (v w : PassState) (x : StampsSeen) (repairs stripes slice : ℕ) (cyclic : Bool) (nodes : List Log) (at : Part) (said : Option Act)
    → MatchOption said (Event shape told s v [] [] t w) (λ what. EndsAny shape told s v at what t w) → w.calls ≡ v.calls
    → RefusesPlan shape told (state s x repairs stripes slice cyclic nodes) v at said (state t x repairs stripes slice cyclic nodes) w
refuses_now shape told s t v w x repairs stripes slice cyclic nodes at said event calls = record { event = event; rest = refl; calls = calls }

-- a pass whose front was made the whole history, and that noted something then
pub event_renewed : (shape : Shape) (told : Bool) (s t : SequencerState) (v w : PassState) (more : Log) → Event shape told s v [] [] s (record v { front = s.history })
    → Event shape told s (record v { front = s.history }) [] more t w → Event shape told s v [] more t w
event_renewed shape told s t v w more a b = record {
  history = b.history;
  notes = b.notes;
  steps = steps_both v (record v { front = s.history }) w [] [] [] more a.steps b.steps;
  front = b.front;
  legal = b.legal;
  agrees = b.agrees;
}

-- the same, as the calls say it
pub event_after : (shape : Shape) (told : Bool) (s x t : SequencerState) (v q w : PassState) (more : Log) → x ≡ s → q ≡ record v { front = s.history } → Event shape told s v [] [] x q
    → Event shape told x q [] more t w → Event shape told s v [] more t w
event_after shape told s x t v q w more same_x same_q a b =
    event_renewed shape told s t v w more
    (subst (λ (y : SequencerState). Event shape told s v [] [] y (record v { front = s.history })) same_x (subst (λ (r : PassState). Event shape told s v [] [] x r) same_q a))
    (subst (λ (y : SequencerState). Event shape told y (record v { front = s.history }) [] more t w) same_x (subst (λ (r : PassState). Event shape told x r [] more t w) same_q b))
