-- The first attempt of a new repair.
use Rattle.std.proofs.Common.{◌≡◌, ℕ, ◌+◌, ◌<◌, Bool, true, List, [], ◌∷◌, length, map, drop, replicate, Some, Ok, refl, sym, ◌∙◌, ap, subst, arith}
use Rattle.std.specs.Prelude.{All, IsTrue}
use Rattle.std.proofs.lemmas.List.Elements.{All-nil}
use Rattle.ecp_shape.specs.declared.limits.TheConstants.{MAX_ATTEMPTS, MAX_NODES}
use Rattle.ecp_shape.specs.declared.shape.Shape.{Shape}
use Rattle.ecp_book.specs.Logs.{Known, Log}
use Rattle.ecp_entry.specs.declared.deed.Deed.{Deed}
use Rattle.ecp_entry.specs.declared.entry.Entry.{Entry}
use Rattle.ecp_entry.specs.declared.part.Part.{Part}
use Rattle.ecp_entry.specs.Told.{history_of, items_by}
use Rattle.ecp_history.specs.declared.table.block_name.BlockName.{BlockName}
use Rattle.ecp_history.specs.Calls.{OfBlock, kind_of, place_of}
use Rattle.ecp_history.specs.Follows.{is_voiding, passes_at}
use Rattle.ecp_history.specs.Fronts.{told_table}
use Rattle.ecp_history.specs.Named.{block_at, deed_block}
use Rattle.ecp_history.specs.Recoverable.{IsRecoverable}
use Rattle.ecp_history.specs.table.Steps.{table_of}
use Rattle.ecp_history.specs.table.Tables.{PlainTable}
use Rattle.ecp_plan.specs.declared.plan.Plan.{Plan}
use Rattle.ecp_plan.specs.declared.voids.Voids.{Voids}
use Rattle.ecp_catalog.specs.Stamps.{IsRaised, StampsSeen}
use Rattle.ecp_sequencer.specs.declared.limits.TheConstants.{ROOM}
use Rattle.ecp_sequencer.specs.Notes.{note}
use Rattle.ecp_sequencer.specs.Passes.{PassState}
use Rattle.ecp_sequencer.specs.Sequencers.{SequencerState}
use Rattle.ecp_sequencer.specs.Steps.{Event}
use Rattle.ecp_coord.specs.declared.planning.Making.{Making}
use Rattle.ecp_coord.specs.Attempts.{IsFirst}
use Rattle.ecp_coord.specs.Calls.{IsOpen}
use Rattle.ecp_coord.specs.Coords.{CoordParts, CoordState, IsCoord}
use Rattle.ecp_coord.specs.Helping.{CanHelp}
use Rattle.ecp_coord.specs.Plans.{IsDue, Plans, block_of, is_recoverable, planning_of, sought}
use Rattle.ecp_coord.specs.Voids.{AreVoids}
use Rattle.ecp_coord.proofs.FollowLaws.{IsMet}
use Rattle.ecp_coord.proofs.HelpLaws.{can_help}
use Rattle.ecp_coord.proofs.PlanLaws.{IsFit, made_chosen, made_live, made_sound, made_stamped, planned_is, recoverable}
use Rattle.ecp_coord.proofs.SeekLaws.{IsHad, found_had}
use Rattle.ecp_coord.proofs.StandLaws.{block_row}

-- no position is kept yet
none_kept : (shape : Shape) (test : PlainTable → Entry → Bool) (hand : ℕ) (front : Log) → AreVoids shape test hand front (record { len = 0; at = replicate MAX_ATTEMPTS 0 })
none_kept shape test hand front = record {
  rising = λ k within. absurd (omega (arith, within));
  within = All-nil (λ v. v < length front);
  each = All-nil (λ v. IsTrue (passes_at shape (history_of front) test v));
  late = All-nil (λ v. items_by hand (drop v front) ≡ []);
  rest = refl;
}

-- the open call of a pass asks, at this part, for the block of a name and a number, and the part is due
pub record IsAsking (shape : Shape) (v : PassState) (front : Log) (asked : Deed) (at : Part) (name : List ℕ) (index : ℕ) : Type 0 where
  pub is_open : IsOpen v asked
  pub of_block : OfBlock (kind_of (Some asked)) (place_of at)
  pub due : IsDue shape v asked at front
  pub block : (t : PlainTable) → deed_block shape t at (Some asked) ≡ block_at shape t name index

-- a coordinator of these parts
abbrev pub state : SequencerState → StampsSeen → ℕ → ℕ → ℕ → Bool → List Log → CoordState
state s stamps repairs stripes slice cyclic nodes =
    record { sequence = s; stamps = stamps; repairs = repairs; stripes = stripes; slice = slice; cyclic = cyclic; nodes = nodes }

module _ (shape : Shape) (told : Bool) (callers spares : ℕ) (s : SequencerState) (v : PassState) (p : CoordParts) (is : IsCoord shape told callers spares s p) (met : IsMet shape told callers spares s v) where
  -- a block that is found has helpers
  pub found_can : (name : List ℕ) (index : ℕ) (b : BlockName) → sought shape (table_of shape (history_of s.history)) name index ≡ Ok b → CanHelp p.catalog b
  found_can name index b found =
      let had : IsHad shape (table_of shape (history_of s.history)) name index b = found_had shape (table_of shape (history_of s.history)) name index b found in
      can_help shape told p.catalog (history_of s.history) is.outline is.each_node b is.range met.kept.legal.legal (block_row shape (table_of shape (history_of s.history)) name index b is.range had.named) had.had

  module _ {N : Type 0} (x : StampsSeen) (m : Making) (plan : Plan N) (first : IsFirst p.catalog x.stamps m s.history plan) where
    pub first_stamped : All (λ h. h.node < MAX_NODES) plan.hops.items
    first_stamped = made_stamped shape told p.catalog s.history is.range met.kept.legal is.outline is.each_node x.stamps m.cyclic plan first.made

    pub first_plans : (t : SequencerState) (w : PassState) (y : StampsSeen) (stripes : ℕ) (nodes : List Log) (asked : Deed) (name : List ℕ) (index : ℕ) → IsAsking shape v s.history asked m.part name index
        → sought shape (table_of shape (history_of s.history)) name index ≡ Ok m.block → m.slice ≡ p.slice
        → Event shape told s v [] (note (length s.history) ROOM (planning_of plan) ∷ []) t w → w.calls ≡ v.calls → IsRaised x y (map (λ h. h.node) plan.hops.items)
        → Plans shape told (state s x m.repair stripes m.slice m.cyclic nodes) v plan (state t y (m.repair + 1) stripes m.slice m.cyclic nodes) w
    first_plans t w y stripes nodes asked name index asks found slice event calls raised =
        let u : PlainTable = table_of shape (history_of s.history) in
        let had : IsHad shape u name index m.block = found_had shape u name index m.block found in
        let front : plan.front.items ≡ s.history = ap (λ (k : Known). k.items) first.made.front in
        let own : is_recoverable shape u (block_of plan) ≡ true = ap (is_recoverable shape u) first.block ∙ had.had in
        let row : plan.row < shape.n =
        omega (arith, ap (λ (b : BlockName). b.row) first.block, block_row shape u name index m.block is.range had.named) in
        let size : plan.block ≡ shape.block = first.sizes.0 ∙ ap (λ (z : Shape). z.block) is.outline.sizes in
        let cut : plan.slice ≡ p.slice = first.sizes.1 ∙ slice in
        let tries : plan.voids.len ≡ 0 = ap (λ (z : Voids). z.len) first.tries in
        let attempt : plan.attempt ≡ 1 = first.numbered.1 in
        let fit : IsFit shape told asked v plan = record {
          sound = made_sound shape told p.catalog s.history is.range met.kept.legal is.outline is.each_node x.stamps m.cyclic plan first.made row size (omega (arith, cut, is.sliced.0)) (omega (arith, cut, is.sliced.1)) own;
          of_block = subst (λ (at : Part). OfBlock (kind_of (Some asked)) (place_of at)) (sym first.part) asks.of_block;
          due = subst (λ (items : Log). IsDue shape v asked plan.part items) (sym front) (subst (λ (at : Part). IsDue shape v asked at s.history) (sym first.part) asks.due);
          block = ap (λ (at : Part). deed_block shape (told_table shape plan.front.items) at (Some asked)) first.part ∙ asks.block (told_table shape plan.front.items)
              ∙ ap (λ (items : Log). block_at shape (told_table shape items) name index) front ∙ had.named ∙ ap (λ (b : BlockName). Some b) (sym first.block);
          recoverable = subst (λ (items : Log). IsRecoverable shape (told_table shape items) plan.stripe plan.row) (sym front) (recoverable shape u (block_of plan) own);
          attempt = omega (arith, attempt, tries);
          most = omega (arith, attempt);
          voids = subst (λ (z : Voids). AreVoids shape (λ tab e. is_voiding tab plan.stripe e) v.hand plan.front.items z) (sym first.tries) (none_kept shape (λ tab e. is_voiding tab plan.stripe e) v.hand plan.front.items);
          fits = omega (arith, first.made.fits, ap (λ (z : Shape). z.k) is.outline.sizes);
          live = made_live shape told p.catalog s.history is.range met.kept.legal is.outline is.each_node x.stamps m.cyclic plan first.made;
          onto = first.onto;
        } in
        record {
          event = event;
          planned = planned_is shape told s t v w asked ROOM plan event calls asks.is_open (omega arith) (omega (arith, attempt)) front first.made.point fit;
          made = record {
            front = front;
            chosen = made_chosen shape told p.catalog s.history is.range met.kept.legal is.outline is.each_node x.stamps m.cyclic plan first.made;
            raised = raised;
          };
          numbered = first.numbered;
          sliced = first.sizes.1;
          rest = refl;
          calls = calls;
        }
