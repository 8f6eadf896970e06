-- The entry with the bytes of a block may come next.
use Rattle.std.proofs.Common.{◌≡◌, ℕ, ◌≤◌, Bool, true, false, List, [], ◌++◌, length, take, drop, Option, Some, refl, sym, ◌∙◌, ap, subst, arith}
use Rattle.std.specs.Prelude.{IsSomeAnd, IsTrue}
use mathlib.Core.List.{IsPrefix}
use Rattle.std.proofs.lemmas.Bool.{false≢true}
use Rattle.std.proofs.Math.Seq.{take-append_seam}
use Rattle.ecp_shape.specs.declared.shape.Shape.{Shape}
use Rattle.ecp_book.specs.Logs.{Log}
use Rattle.ecp_book.proofs.Prefixes.{prefix_length}
use Rattle.ecp_entry.specs.declared.act.Act.TheVariants as act
use Rattle.ecp_entry.specs.declared.deed.Deed.{Deed}
use Rattle.ecp_entry.specs.declared.entry.Entry.{Entry}
use Rattle.ecp_entry.specs.Told.{history_of, items_by}
use Rattle.ecp_entry.proofs.ToldLaws.{history_of-append}
use Rattle.ecp_history.specs.declared.table.block_name.BlockName.{BlockName}
use Rattle.ecp_history.specs.Acts.{Reads}
use Rattle.ecp_history.specs.Fronts.{AreOfBlock, IsBlockIn, told_table}
use Rattle.ecp_history.specs.Legal.{MayFollow}
use Rattle.ecp_history.specs.Named.{deed_block}
use Rattle.ecp_history.specs.table.Steps.{table_at, table_of}
use Rattle.ecp_history.specs.table.Tables.{PlainTable, block}
use Rattle.ecp_plan.specs.declared.plan.Plan.{Plan}
use Rattle.ecp_sequencer.specs.Passes.{PassState}
use Rattle.ecp_sequencer.specs.Sequencers.{SequencerState}
use Rattle.ecp_coord.specs.Calls.{IsOpen, closing}
use Rattle.ecp_coord.specs.Coords.{AreIdle}
use Rattle.ecp_coord.specs.Plans.{IsPlanned, answer_of}
use Rattle.ecp_coord.proofs.DueLaws.{due_goes}
use Rattle.ecp_coord.proofs.EndWithLaws.{one_asked}
use Rattle.ecp_coord.proofs.FollowLaws.{IsMet, follows_upto, none_since}
use Rattle.ecp_coord.proofs.LoseLaws.{length_told}

-- the entries of a front are the first of the history
pub front_taken : (front history : Log) → IsPrefix front history → take (length front) (history_of history) ≡ history_of front
front_taken front history begins =
    ap (λ (xs : Log). take (length front) (history_of xs)) (sym begins.1) ∙ ap (take (length front)) (history_of-append front begins.0)
    ∙ ap (λ (n : ℕ). take n (history_of front ++ history_of begins.0)) (sym (length_told front)) ∙ take-append_seam (history_of front) (history_of begins.0)

-- bytes that are a block's, where they are told
of_block : (shape : Shape) (told : Bool) (t : PlainTable) (s r : ℕ) (bytes : List ℕ) → AreOfBlock shape told t s r bytes → IsTrue told → bytes ≡ block t s r
of_block shape true t s r bytes is on = is
of_block shape false t s r bytes is on = absurd (false≢true on)

module _ (shape : Shape) (told : Bool) (callers spares : ℕ) (s : SequencerState) (v : PassState) (met : IsMet shape told callers spares s v) where
  module _ {N : Type 0} (plan : Plan N) (planned : IsPlanned shape told v plan) (begins : IsPrefix plan.front.items s.history) where
    -- the hand made no entry since the plan's point
    pub none_after : items_by v.hand (drop plan.point s.history) ≡ []
    none_after =
        ap (λ (n : ℕ). items_by v.hand (drop n s.history)) planned.point
        ∙ none_since v.hand plan.front.items s.history begins (planned.own ∙ sym met.agree.entered)

    pub point_table : table_at shape (history_of s.history) plan.point ≡ told_table shape plan.front.items
    point_table =
        ap (λ (n : ℕ). table_at shape (history_of s.history) n) planned.point ∙ ap (λ (es : List Entry). table_of shape es) (front_taken plan.front.items s.history begins)

    pub data_follows : AreIdle spares s.notes → (bytes : List ℕ) → IsBlockIn shape told plan.front.items plan.stripe plan.row bytes
        → MayFollow shape told (history_of s.history) (answer_of v planned.asked plan.part plan.point bytes)
    data_follows idle bytes named =
        let e : Entry = answer_of v planned.asked plan.part plan.point bytes in
        let u : PlainTable = told_table shape plan.front.items in
        let whole : length plan.front.items ≤ length s.history = prefix_length plan.front.items s.history begins in
        let holds : IsSomeAnd (deed_block shape u plan.part (Some planned.asked)) (Reads shape told u e) =
        subst (λ (o : Option BlockName). IsSomeAnd o (Reads shape told u e)) (sym planned.block)
        (record { recoverable = planned.recoverable; bytes = of_block shape told u plan.stripe plan.row bytes named.named }) in
        record {
          point = record {
            late = follows_upto shape told callers spares s v e plan.point met idle refl none_after;
            early = omega (arith, whole, planned.point, length_told s.history);
            own = λ off. absurd (false≢true (sym off));
          };
          agrees = record {
            call = planned.of_block;
            caller = met.session;
            name = refl;
            bytes = tt;
          };
          part = due_goes shape v planned.asked plan.part plan.front.items s.history begins planned.of_block planned.due plan.point act.Data bytes refl;
          holds = subst (λ (tab : PlainTable). IsSomeAnd (deed_block shape tab plan.part (Some planned.asked)) (Reads shape told tab e)) (sym point_table) holds;
        }

    pub data_goes : AreIdle spares s.notes → (bytes : List ℕ) → IsBlockIn shape told plan.front.items plan.stripe plan.row bytes → (asked : Deed) → IsOpen v asked
        → MayFollow shape told (history_of s.history) (closing v asked plan.part plan.point act.Data bytes)
    data_goes idle bytes named asked open_call =
        subst (λ (d : Deed). MayFollow shape told (history_of s.history) (closing v d plan.part plan.point act.Data bytes)) (one_asked v planned.asked asked planned.is_open open_call) (data_follows idle bytes named)
