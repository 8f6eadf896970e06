-- What is found by listing the blocks that a rebuild is to restore, and the entry that says it.
use Rattle.std.proofs.Common.{◌≡◌, ◌≢◌, ℕ, ◌-◌, ◌^◌, ◌<◌, ◌≤◌, Bool, true, false, cond, List, [], ◌∷◌, length, Option, Some, None, Result, Ok, Err, Vec, refl, sym, ◌∙◌, ap, subst, arith, inl, inr}
use Rattle.std.specs.Prelude.{MatchOption, nat_lt, ⊤}
use Rattle.std.proofs.lemmas.Bool.{false≢true}
use Rattle.std.proofs.lemmas.Bool.Decides.{nat_tests}
use Rattle.std.proofs.lemmas.List.{length-map}
use Rattle.std.proofs.lemmas.Option.{same_Some}
use Rattle.std.specs.declared.alloc.Global.{Global}
use Rattle.ecp_shape.specs.declared.shape.Shape.{Shape}
use Rattle.ecp_entry.specs.declared.act.Act.{Act}
use Rattle.ecp_entry.specs.declared.act.Act.TheVariants as act
use Rattle.ecp_entry.specs.declared.deed.Deed.TheVariants.{Rebuild}
use Rattle.ecp_entry.specs.declared.entry.Entry.{Entry}
use Rattle.ecp_entry.specs.Told.{history_of}
use Rattle.ecp_history.specs.declared.table.block_name.BlockName.{BlockName}
use Rattle.ecp_history.specs.declared.table.node.Node.{Node}
use Rattle.ecp_history.specs.declared.task.Task.{Task}
use Rattle.ecp_history.specs.Follows.{is_same_caller}
use Rattle.ecp_history.specs.Legal.{MayFollow}
use Rattle.ecp_history.specs.Parts.{IsAlone}
use Rattle.ecp_history.specs.table.Steps.{table_of}
use Rattle.ecp_history.specs.table.Tables.{PlainTable, is_up, lost_on}
use Rattle.ecp_catalog.specs.Catalogs.{NodeSeen}
use Rattle.ecp_catalog.specs.LostBlocks.{tasks_of}
use Rattle.ecp_catalog.proofs.LostBlockLaws.{length-put}
use Rattle.ecp_sequencer.specs.Facts.{room_noted}
use Rattle.ecp_sequencer.specs.Hands.{hands_of}
use Rattle.ecp_sequencer.specs.Passes.{PassState}
use Rattle.ecp_sequencer.specs.Sequencers.{SequencerState}
use Rattle.ecp_coord.specs.declared.no_list.NoList.{NoList}
use Rattle.ecp_coord.specs.declared.no_list.NoList.TheVariants as no
use Rattle.ecp_coord.specs.Calls.{Enters, Ends, IsFresh, ended, part_of}
use Rattle.ecp_coord.specs.Coords.{CoordParts, IsCoord}
use Rattle.ecp_coord.specs.Listing.{AnswersList, Lists, act_hindering, hindrance}
use Rattle.ecp_coord.specs.Refusals.{EndsWhere}
use Rattle.ecp_coord.proofs.CallLaws.{ended_kept, waited_kept}
use Rattle.ecp_coord.proofs.CoverLaws.{covered_free, open_fresh}
use Rattle.ecp_coord.proofs.EndLaws.{after_last_within, may_end}
use Rattle.ecp_coord.proofs.FollowLaws.{IsMet}
use Rattle.ecp_coord.proofs.LoseLaws.{length_told, not_up}
use Rattle.ecp_coord.proofs.OpeningLaws.{part_kept}
use Rattle.ecp_coord.proofs.SeekLaws.{fresh_alone}

-- where nothing hinders it, both nodes are there and the second is up
pub record IsUnhindered (shape : Shape) (t : PlainTable) (from to : ℕ) : Type 0 where
  pub source : from < shape.nodes
  pub target : is_up t to ≡ true

unhindered : (shape : Shape) (t : PlainTable) (from to : ℕ) → hindrance shape t from to ≡ None → IsUnhindered shape t from to
unhindered shape t from to none = by_from (nat_lt from shape.nodes) refl none where
  by_up : (below : from < shape.nodes) (up : Bool) → is_up t to ≡ up → cond up None (Some (no.TargetDown to)) ≡ None → IsUnhindered shape t from to
  by_up below true up is = record { source = below; target = up }
  by_up below false up is = absurd (cc is)

  by_to : (below : from < shape.nodes) (there : Bool) → nat_lt to shape.nodes ≡ there → cond there (cond (is_up t to) None (Some (no.TargetDown to))) (Some (no.NoSuchNode to)) ≡ None → IsUnhindered shape t from to
  by_to below true there is = by_up below (is_up t to) refl is
  by_to below false there is = absurd (cc is)

  by_from : (there : Bool) → nat_lt from shape.nodes ≡ there
      → cond there (cond (nat_lt to shape.nodes) (cond (is_up t to) None (Some (no.TargetDown to))) (Some (no.NoSuchNode to))) (Some (no.NoSuchNode from)) ≡ None → IsUnhindered shape t from to
  by_from true there is = let below : from < shape.nodes = grind (arith, nat_tests) in by_to below (nat_lt to shape.nodes) refl is
  by_from false there is = absurd (cc is)

-- as many tasks as blocks
counted : (blocks : List BlockName) → length (tasks_of blocks) ≡ length blocks
counted blocks = omega (arith, length-put [] blocks)

module _ (shape : Shape) (told : Bool) (callers spares : ℕ) (s : SequencerState) (v : PassState) (p : CoordParts) (is : IsCoord shape told callers spares s p) (met : IsMet shape told callers spares s v)
    (from to : ℕ) (fresh : IsFresh v (Rebuild from to)) where
  abbrev before : List Entry
  before = history_of s.history

  abbrev t : PlainTable
  t = table_of shape before

  each : length t.nodes ≡ shape.nodes
  each = sym (ap (λ (ns : List Node). length ns) is.outline.nodes) ∙ length-map p.catalog.nodes (λ (x : NodeSeen). x.node) ∙ is.each_node

  apart : v.hand ≢ hands_of callers spares
  apart = λ same. omega (arith, same, met.in_range)

  alone : (position : ℕ) (what : Act) → IsAlone before (ended v (Rebuild from to) position what)
  alone position what = fresh_alone shape told callers spares s v (Rebuild from to) position what met is.idle fresh apart

  -- part 0 may follow
  pub listing_goes : (tasks : List Task) → hindrance shape t from to ≡ None → tasks ≡ tasks_of (lost_on t from)
      → MayFollow shape told before (part_of v (Rebuild from to) 0 (length s.history) (act.Listed (length tasks)))
  listing_goes tasks none are =
      let free : IsUnhindered shape t from to = unhindered shape t from to none in
      let what : Act = act.Listed (length tasks) in
      let e : Entry = part_of v (Rebuild from to) 0 (length before) what in
      subst (λ (n : ℕ). MayFollow shape told before (part_of v (Rebuild from to) 0 n what)) (length_told s.history)
      (record {
        point = record {
          late = after_last_within (is_same_caller e) before;
          early = omega arith;
          own = λ _. refl;
        };
        agrees = record {
          call = (refl, refl);
          caller = met.session;
          name = refl;
          bytes = refl;
        };
        part = alone (length before) what;
        holds = record { source = free.source; target = free.target; counted = ap (λ (xs : List Task). length xs) are ∙ counted (lost_on t from) };
      })

  -- what a refusal enters may follow
  abbrev Goes : NoList → Type 0
  Goes why = MatchOption (act_hindering why) ⊤ (λ what. MayFollow shape told before (ended v (Rebuild from to) (length before) what))

  hindered_goes : (why : NoList) → hindrance shape t from to ≡ Some why → Goes why
  hindered_goes why found = by_from (nat_lt from shape.nodes) refl found where
    by_up : (below : from < shape.nodes) (there : to < shape.nodes) (up : Bool) → is_up t to ≡ up → cond up None (Some (no.TargetDown to)) ≡ Some why → Goes why
    by_up below there true up h = absurd (cc h)
    by_up below there false up h =
        subst Goes (same_Some (no.TargetDown to) why h)
        (may_end shape told before v (Rebuild from to) (act.TargetDown to) met.session (refl, refl) refl (λ yes. alone (length before) (act.TargetDown to))
        (record { source = below; target = refl; down = not_up t.nodes to (omega (arith, there, each)) up }))

    by_to : (below : from < shape.nodes) (there : Bool) → nat_lt to shape.nodes ≡ there → cond there (cond (is_up t to) None (Some (no.TargetDown to))) (Some (no.NoSuchNode to)) ≡ Some why → Goes why
    by_to below true there h = let low : to < shape.nodes = grind (arith, nat_tests) in by_up below low (is_up t to) refl h
    by_to below false there h =
        let far : shape.nodes ≤ to = grind (arith, nat_tests) in
        subst Goes (same_Some (no.NoSuchNode to) why h)
        (may_end shape told before v (Rebuild from to) (act.NoNode to) met.session (refl, refl) refl (λ yes. alone (length before) (act.NoNode to)) (inr (below, far, refl)))

    by_from : (there : Bool) → nat_lt from shape.nodes ≡ there
        → cond there (cond (nat_lt to shape.nodes) (cond (is_up t to) None (Some (no.TargetDown to))) (Some (no.NoSuchNode to))) (Some (no.NoSuchNode from)) ≡ Some why → Goes why
    by_from true there h = let below : from < shape.nodes = grind (arith, nat_tests) in by_to below (nat_lt to shape.nodes) refl h
    by_from false there h =
        let far : shape.nodes ≤ from = grind (arith, nat_tests) in
        subst Goes (same_Some (no.NoSuchNode from) why h)
        (may_end shape told before v (Rebuild from to) (act.NoNode from) met.session (refl, refl) refl (λ yes. alone (length before) (act.NoNode from)) (inl (far, refl)))

  pub refusal_goes : (why : NoList) → AnswersList shape t from to (Err why) → Goes why
  refusal_goes why (inl found) = hindered_goes why found
  refusal_goes why (inr free) = subst Goes (sym free.0) tt

  -- and what holds of every coordinator holds
  pub listing_kept : (u : SequencerState) (w : PassState) (found : Result (Vec Task Global) NoList) → Lists shape told s v from to found u w → IsCoord shape told callers spares u p
  listing_kept u w (Ok tasks) enters =
      part_kept shape told callers spares s v p is met u w (Rebuild from to) 0 (act.Listed (length tasks.items)) fresh.is_open (λ m. refl) refl (record { stores = refl; drops = refl; spends = λ m. refl })
      (open_fresh shape v.notes fresh.none) enters
  listing_kept u w (Err (no.NoSuchNode node)) ends =
      let e : Entry = ended v (Rebuild from to) (length s.history) (act.NoNode node) in
      ended_kept shape told callers spares s u v w p is met e (room_noted v.notes - 1) refl refl (record { stores = refl; drops = refl; spends = λ m. refl }) (covered_free shape s v e (open_fresh shape v.notes fresh.none)) ends.event
  listing_kept u w (Err (no.TargetDown node)) ends =
      let e : Entry = ended v (Rebuild from to) (length s.history) (act.TargetDown node) in
      ended_kept shape told callers spares s u v w p is met e (room_noted v.notes - 1) refl refl (record { stores = refl; drops = refl; spends = λ m. refl }) (covered_free shape s v e (open_fresh shape v.notes fresh.none)) ends.event
  listing_kept u w (Err no.NoMemory) event = waited_kept shape told callers spares s u v w p is met event
