-- A legal history that has of each caller just the entries of its calls serves the input.
use Rattle.std.proofs.Common.{◌≡◌, ℕ, zero, suc, ◌+◌, ◌<◌, ◌≤◌, nat_lt, true, List, length, Option, Some, IsSomeAnd, refl, sym, ◌∙◌, ap, subst, arith}
use Rattle.std.specs.Prelude.{slice_get}
use Rattle.std.specs.Option.{option_map_or}
use Rattle.std.proofs.lemmas.Bool.{false≢true, and_from}
use Rattle.ecp_cluster.specs.Whole.{opened_count}
use Rattle.ecp_cluster.specs.declared.answer.Answer.{Answer}
use Rattle.ecp_command.specs.Input.Accepted.{Content}
use Rattle.ecp_command.specs.declared.input.planned.Planned.{Planned}
use Rattle.ecp_entry.specs.declared.act.Act.{Act}
use Rattle.ecp_entry.specs.declared.act.Act.TheVariants.{Stored}
use Rattle.ecp_entry.specs.declared.deed.Deed.{Deed}
use Rattle.ecp_entry.specs.declared.entry.Entry.{Entry}
use Rattle.ecp_entry.specs.declared.part.Part.{Part}
use Rattle.ecp_entry.specs.declared.part.Part.TheVariants as part
use Rattle.ecp_shape.specs.declared.limits.TheConstants.{MAX_SESSIONS}
use Rattle.ecp_shape.specs.declared.shape.Shape.{Shape}
use Rattle.ecp_history.specs.Calls.{AtEnd, FitsCall, Kind, kind_of, place_of}
use Rattle.ecp_history.specs.Files.{is_stored}
use Rattle.ecp_history.specs.Legal.{IsLegal}
use Rattle.ecp_history.specs.Spans.{is_of, is_end}
use Rattle.ecp_service.specs.Asked.{call_at, put_bytes}
use Rattle.ecp_service.specs.Serves.{IsOfCall, NamesCalls, opened_blocks, part_count, EachComplete, AreInOrder, phase_of, PhasesApart}
use Rattle.ecp_service.proofs.served.Entries.{HasCaller, HasCallers, HasEntries, HasFenced, IsTold, LiesIn, end_stands, has_entries, in_order, is_of_it, its_part, its_parts, lies_in, one_end, same_end, told_at}
use Rattle.ecp_service.proofs.served.Fits.{kind_for, parts_asked, stored_is}
use Rattle.ecp_service.proofs.served.Inputs.{IsCall, IsInput}
use Rattle.ecp_service.proofs.served.Kept.{StoodAt}
use Rattle.ecp_service.proofs.served.Lists.{of_last, one_if, place_of as place_in}
use Rattle.ecp_service.proofs.served.Parts.{opened_of}
use Rattle.ecp_service.proofs.served.Passes.{IsIn}

-- an entry that stores a file ends its call
stored_last : (kind : Kind) (p : Part) (act : Act) → FitsCall kind (place_of p) act → is_stored act ≡ true → is_end p ≡ true
stored_last kind part.End act fits stored = refl
stored_last kind (part.Part j) (Stored first stripes up) fits stored = absurd (no_end j fits.1) where
  no_end : (i : ℕ) → place_of (part.Part i) ≡ AtEnd → ⊥
  no_end zero is = absurd (cc)
  no_end (suc i) is = absurd (cc)
stored_last kind (part.Part j) _ fits stored = absurd (false≢true stored)

module _ (shape : Shape) (content : Content) (answers : ℕ → List Answer) (history : List Entry) (legal : IsLegal shape true history) where
  -- what a legal history says of the act of an answer
  pub act_fits : (c n : ℕ) (p : Planned) (one : HasEntries content answers history c n p) → FitsCall (kind_for p.call) AtEnd one.answer.act
  act_fits c n p one =
      let last : Entry = one.group.last in
      let stands : StoodAt (is_of c n) history (length one.group.parts) last = end_stands content answers history c n p one in
      let its : IsIn c n p last = of_last (IsIn c n p) one.group.parts last one.reply.own in
      subst (λ (act : Act). FitsCall (kind_for p.call) AtEnd act) one.reply.act
      (subst (λ (d : Option Deed). FitsCall (kind_of d) AtEnd last.line.act) its.deed
      (subst (λ (q : Part). FitsCall (kind_of last.deed) (place_of q) last.line.act) one.reply.last (legal stands.at last stands.here).agrees.call))

  module _ (input : IsInput content) (all : HasCallers content answers history) where
    -- each entry of a session is of a call of the input
    pub names_calls : NamesCalls content history
    names_calls i e here session =
        let told : IsTold content answers history e = told_at content answers history i e (all i e here session) here in
        let c : ℕ = e.line.caller in
        let n : ℕ = e.line.call in
        let p : Planned = told.planned in
        let one : HasEntries content answers history c n p = told.has in
        let bytes : is_stored e.line.act ≡ true → e.bytes ≡ put_bytes p.call = λ stored.
        let last : is_end e.line.part ≡ true = stored_last (kind_of e.deed) e.line.part e.line.act (legal i e here).agrees.call stored in
        let same : e ≡ one.group.last = same_end content answers history c n p one i e here (and_from (is_of c n e) (is_end e.line.part) (is_of_it c n p e told.is) last) in
        ap (λ (x : Entry). x.bytes) same
        ∙ stored_is p.call one.answer one.group.last.bytes one.reply.gives (act_fits c n p one)
        (ap is_stored (sym one.reply.act ∙ ap (λ (x : Entry). x.line.act) (sym same)) ∙ stored) in
        let is : IsOfCall e p = record { deed = told.is.deed; bytes = bytes } in
        subst (λ (o : Option Planned). IsSomeAnd o (IsOfCall e)) (sym told.asked) is

    -- each call has its one end, and each part that this asks for
    pub complete : ((c n : ℕ) (p : Planned) → call_at content c n ≡ Some p → HasCaller content answers history c) → EachComplete content history
    complete each c n p asked =
        let call : IsCall content c p = input.calls c n p asked in
        let one : HasEntries content answers history c n p = has_entries content answers history c n p (each c n p asked) asked in
        let parts : List Entry = one.group.parts in
        let opened : opened_blocks history c n ≡ opened_of parts =
        ap (λ (o : Option Entry). option_map_or (λ e. opened_count e.line.act) o 0) (its_part content answers history c n p one 0) in
        record {
          one_end = one_end content answers history c n p one;
          parts = λ e j there ending.
              let at : (k : ℕ) × (slice_get history k ≡ Some e) = place_in history e there in
              let act : one.answer.act ≡ e.line.act = sym one.reply.act ∙ ap (λ (x : Entry). x.line.act) (sym (same_end content answers history c n p one at.0 e at.1 ending)) in
              its_parts content answers history c n p one j
              ∙ parts_asked p.call one.answer parts call.plain (act_fits c n p one) one.reply.parted j
              ∙ ap (λ (k : ℕ). one_if (nat_lt j (part_count k one.answer.act))) (sym opened)
              ∙ ap (λ (x : Act). one_if (nat_lt j (part_count (opened_blocks history c n) x))) act;
        }

    -- the calls of a session stand in their order
    pub ordered : AreInOrder history
    ordered i j d e here there session same less = in_order content answers history i j d e all here there session same less

    -- the phase of an entry is that of its call
    its_phase : (e : Entry) (told : IsTold content answers history e) → phase_of content e ≡ told.planned.phase
    its_phase e told = ap (λ (o : Option Planned). option_map_or (λ p. p.phase) o 0) told.asked

    pub phases_apart : (fences : ℕ → ℕ) → ((a b : ℕ) → a ≤ b → fences a ≤ fences b)
        → ((i : ℕ) (e : Entry) → slice_get history i ≡ Some e → e.line.caller < MAX_SESSIONS → HasFenced content answers fences history e.line.caller)
        → PhasesApart content history
    phases_apart fences rising fenced i j d e here there first second less =
        let one : IsTold content answers history d = told_at content answers history i d (all i d here first) here in
        let other : IsTold content answers history e = told_at content answers history j e (all j e there second) there in
        let earlier : LiesIn fences one.planned.phase i d = lies_in content answers fences history i d one.planned (fenced i d here first) here one.asked in
        let later : LiesIn fences other.planned.phase j e = lies_in content answers fences history j e other.planned (fenced j e there second) there other.asked in
        between i (fences (one.planned.phase + 1)) (fences other.planned.phase) e.line.point earlier.ended
        (rising (one.planned.phase + 1) other.planned.phase (next one.planned.phase other.planned.phase
        (subst (λ (k : ℕ). k < other.planned.phase) (its_phase d one) (subst (λ (k : ℕ). phase_of content d < k) (its_phase e other) less))))
        later.begun
      where
        between : (a b c d : ℕ) → a < b → b ≤ c → c ≤ d → a < d
        between a b c d p q r = omega (arith, p, q, r)

        next : (a b : ℕ) → a < b → a + 1 ≤ b
        next a b p = omega (arith, p)
