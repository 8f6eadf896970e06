-- What a pass noted whose calls were answered: the entries of each call, in the order of the calls.
use Rattle.std.proofs.Common.{◌≡◌, ℕ, zero, suc, ◌+◌, ◌<◌, ◌≤◌, Bool, List, [], ◌∷◌, ◌++◌, length, map, Some, Contains, inl, inr, refl, sym, ◌∙◌, ap, subst, arith, add-zero, append-nil, append_assoc, le_trans}
use Rattle.std.specs.Prelude.{All, slice_get}
use Rattle.std.specs.List.{AllByRecursion, enumerate_from}
use mathlib.Core.List.{IsPrefix}
use Rattle.std.proofs.lemmas.List.{map-append}
use Rattle.std.proofs.lemmas.List.Elements.{All-contains, All-from_recursion, Contains-append_cases, recursion_from_All}
use Rattle.std.proofs.lemmas.Option.{none-some, same_Some}
use Rattle.ecp_shape.specs.declared.shape.Shape.{Shape}
use Rattle.ecp_book.specs.Logs.{Log}
use Rattle.ecp_book.proofs.Prefixes.{prefix_trans}
use Rattle.ecp_cluster.specs.declared.answer.Answer.{Answer}
use Rattle.ecp_command.specs.declared.input.call.Call as the_call
use Rattle.ecp_command.specs.declared.input.call.Call.TheVariants.{Put, Read, Sum, Cat, Lose, Join, Rebuild, Stat}
use Rattle.ecp_command.specs.declared.input.planned.Planned.{Planned}
use Rattle.ecp_coord.specs.Numbers.{storing_of, stripes_asked}
use Rattle.ecp_entry.specs.declared.entry.Entry.{Entry}
use Rattle.ecp_entry.specs.declared.part.Part.TheVariants as part
use Rattle.ecp_entry.specs.Items.{item}
use Rattle.ecp_entry.specs.Told.{history_of}
use Rattle.ecp_history.specs.Files.{Storing}
use Rattle.ecp_sequencer.specs.Facts.{entries_noted}
use Rattle.ecp_sequencer.specs.Notes.{Call}
use Rattle.ecp_sequencer.specs.Passes.{PassState}
use Rattle.ecp_sequencer.specs.Steps as steps
use Rattle.ecp_sequencer.specs.Steps.{Called, Steps, call_with}
use Rattle.ecp_service.specs.Asked.{deed_of, put_stripes}
use Rattle.ecp_service.specs.Served.{Gives, HasParts, Served, ServedOne}
use Rattle.ecp_service.proofs.served.Fronts.{StandsLast, stands_last}
use Rattle.ecp_service.proofs.served.Lists.{all_weaker, of_last}
use Rattle.ecp_service.proofs.served.Parts.{CallEntries, NoEnds, all_entries, ends_of, entries_of, parts_unended}

-- an entry of a call, by the numbers of its caller and of the call
pub record IsIn (c n : ℕ) (p : Planned) (e : Entry) : Type 0 where
  pub caller : e.line.caller ≡ c
  pub call : e.line.call ≡ n
  pub deed : e.deed ≡ Some (deed_of p.call)

-- the entries of a call that was answered so
pub record IsReply (c n : ℕ) (p : Planned) (a : Answer) (g : CallEntries) : Type 0 where
  pub own : AllByRecursion (IsIn c n p) (entries_of g)
  pub unended : NoEnds g.parts
  pub last : g.last.line.part ≡ part.End
  pub act : g.last.line.act ≡ a.act
  pub parted : HasParts p.call a g.parts
  pub gives : Gives p.call a g.last.bytes

-- those of each call from a number on, in their order
abbrev pub AreReplies : ℕ → ℕ → List Planned → List Answer → List CallEntries → Type 0
AreReplies c n [] [] [] = Unit {0}
AreReplies c n (p ∷ calls) (a ∷ answers) (g ∷ groups) = IsReply c n p a g × AreReplies c (n + 1) calls answers groups
AreReplies c n _ _ _ = ⊥

-- The entries of a call have their points no earlier than the call's phase, and the last of them stands in the history before the next one
pub record IsFenced (fences : ℕ → ℕ) (history : List Entry) (p : Planned) (g : CallEntries) : Type 0 where
  pub begun : AllByRecursion (λ e. fences p.phase ≤ e.line.point) (entries_of g)
  pub place : ℕ
  pub here : slice_get history place ≡ Some g.last
  pub ended : place < fences (p.phase + 1)

-- so have those of these calls
abbrev pub AreFenced : (ℕ → ℕ) → List Entry → List Planned → List CallEntries → Type 0
AreFenced fences history [] [] = Unit {0}
AreFenced fences history (p ∷ calls) (g ∷ groups) = IsFenced fences history p g × AreFenced fences history calls groups
AreFenced fences history _ _ = ⊥

-- A pass went from v to w, and noted just the entries of these calls, which stand in this history
pub record Went (fences : ℕ → ℕ) (history : Log) (v : PassState) (calls : List Planned) (answers : List Answer) (w : PassState) : Type 0 where
  pub groups : List CallEntries
  pub replies : AreReplies v.caller v.calls calls answers groups
  pub fenced : AreFenced fences (history_of history) calls groups
  pub noted : entries_noted w.notes ≡ entries_noted v.notes ++ map (item v.hand) (all_entries groups)
  pub hand : w.hand ≡ v.hand
  pub spare : w.spare ≡ v.spare
  pub count : w.calls ≡ v.calls + length calls
  pub grows : IsPrefix v.front w.front

-- ---- one call

-- no part of a call ends it
unended_parts : (call : the_call.Call) (a : Answer) (parts : List Entry) → HasParts call a parts → NoEnds parts
unended_parts (Cat name) a parts has = parts_unended 0 parts has.numbered
unended_parts (Put name bytes) a parts has = subst NoEnds (sym has) tt
unended_parts (Read name index) a parts has = subst NoEnds (sym has) tt
unended_parts (Sum name index) a parts has = subst NoEnds (sym has) tt
unended_parts (Lose node) a parts has = subst NoEnds (sym has) tt
unended_parts (Join node) a parts has = subst NoEnds (sym has) tt
unended_parts (Rebuild from to) a parts has = subst NoEnds (sym has) tt
unended_parts (Stat name) a parts has = subst NoEnds (sym has) tt

abbrev group_of : List Entry → Entry → CallEntries
group_of parts last = record { parts = parts; last = last }

its_own : (v : PassState) (p : Planned) (es : List Entry) → All (steps.IsOfCall v.caller (call_with v.calls (deed_of p.call))) es → AllByRecursion (IsIn v.caller v.calls p) es
its_own v p es own =
    all_weaker (steps.IsOfCall v.caller (call_with v.calls (deed_of p.call))) (IsIn v.caller v.calls p) es
    (λ e is. record { caller = is.by; call = ap (λ (k : Call). k.number) is.of_call; deed = ap (λ (k : Call). k.deed) is.of_call })
    (recursion_from_All (steps.IsOfCall v.caller (call_with v.calls (deed_of p.call))) es own)

its_late : (least : ℕ) (v : PassState) (es : List Entry) → least ≤ length v.front → All (λ e. length v.front ≤ e.line.point) es → AllByRecursion (λ e. least ≤ e.line.point) es
its_late least v es begun late =
    all_weaker (λ (e : Entry). length v.front ≤ e.line.point) (λ (e : Entry). least ≤ e.line.point) es (λ e is. le_trans begun is)
    (recursion_from_All (λ (e : Entry). length v.front ≤ e.line.point) es late)

-- A call by which a pass went from v, after its front had grown, to u
record WentOne (fences : ℕ → ℕ) (history : Log) (v : PassState) (p : Planned) (a : Answer) (u : PassState) : Type 0 where
  group : CallEntries
  reply : IsReply v.caller v.calls p a group
  fenced : IsFenced fences (history_of history) p group
  noted : entries_noted u.notes ≡ entries_noted v.notes ++ map (item v.hand) (entries_of group)
  caller : u.caller ≡ v.caller
  hand : u.hand ≡ v.hand
  spare : u.spare ≡ v.spare
  count : u.calls ≡ v.calls + 1
  grows : IsPrefix v.front u.front

went_one : (shape : Shape) (told : Bool) (fences : ℕ → ℕ) (history : Log) (v : PassState) (p : Planned) (a : Answer) (u : PassState) → IsPrefix u.front history
    → ServedOne shape told fences v p a u → WentOne fences history v p a u
went_one shape told fences history v p a u begins one =
    let t : PassState = record v { front = one.from.front } in
    let parts : List Entry = one.answered.parts in
    let end : Entry = one.answered.last in
    let its : Called shape told t (deed_of p.call) parts end u =
    subst (λ (x : PassState). Called shape told x (deed_of p.call) parts end u) one.grown.same one.answered.called in
    let step : Steps t (parts ++ end ∷ []) its.more u = its.steps in
    let stands : StandsLast u.front history end = stands_last v.hand u.front history end its.stands begins in
    record {
      group = group_of parts end;
      reply = record {
        own = its_own t p (parts ++ end ∷ []) its.own;
        unended = unended_parts p.call a parts one.answered.parted;
        last = its.ends;
        act = one.answered.act;
        parted = one.answered.parted;
        gives = one.answered.gives;
      };
      fenced = record {
        begun = its_late (fences p.phase) t (parts ++ end ∷ []) one.begun its.late;
        place = stands.place;
        here = stands.here;
        ended = behind stands.place (length u.front) (fences (p.phase + 1)) stands.last one.ended;
      };
      noted = sym step.settled ∙ step.entered ∙ ap (λ (xs : List (List ℕ)). xs ++ map (item v.hand) (parts ++ end ∷ [])) step.known;
      caller = step.caller;
      hand = step.hand;
      spare = step.spare;
      count = its.counted;
      grows = prefix_trans v.front t.front u.front one.grown.longer step.extends;
    }
  where
    behind : (place len fence : ℕ) → place + 1 ≡ len → len ≤ fence → place < fence
    behind place len fence p q = omega (arith, p, q)

-- ---- one call after another

-- a pass grows by its calls
served_grows : (shape : Shape) (told : Bool) (fences : ℕ → ℕ) (v w : PassState) (calls : List Planned) (answers : List Answer) → Served shape told fences v calls answers w → IsPrefix v.front w.front
served_grows shape told fences v w calls [] served = served.longer
served_grows shape told fences v w [] (a ∷ answers) served = absurd served
served_grows shape told fences v w (p ∷ calls) (a ∷ answers) served =
    let one : ServedOne shape told fences v p a served.0 = served.1 in
    prefix_trans v.front one.from.front w.front one.grown.longer
    (prefix_trans one.from.front served.0.front w.front one.answered.called.steps.extends (served_grows shape told fences served.0 w calls answers served.2))

pub went : (shape : Shape) (told : Bool) (fences : ℕ → ℕ) (history : Log) (v w : PassState) (calls : List Planned) (answers : List Answer) → IsPrefix w.front history
    → length answers ≡ length calls → Served shape told fences v calls answers w → Went fences history v calls answers w
went shape told fences history v w [] [] begins long grown = record {
  groups = [];
  replies = tt;
  fenced = tt;
  noted = ap (λ (p : PassState). entries_noted p.notes) grown.same ∙ sym (append-nil (entries_noted v.notes));
  hand = ap (λ (p : PassState). p.hand) grown.same;
  spare = ap (λ (p : PassState). p.spare) grown.same;
  count = ap (λ (p : PassState). p.calls) grown.same ∙ sym (add-zero v.calls);
  grows = grown.longer;
}
went shape told fences history v w [] (a ∷ answers) begins long served = absurd served
went shape told fences history v w (p ∷ calls) [] begins long served = absurd (omega (arith, long))
went shape told fences history v w (p ∷ calls) (a ∷ answers) begins long served =
    let u : PassState = served.0 in
    let grows : IsPrefix u.front w.front = served_grows shape told fences u w calls answers served.2 in
    let one : WentOne fences history v p a u = went_one shape told fences history v p a u (prefix_trans u.front w.front history grows begins) served.1 in
    let rest : Went fences history u calls answers w = went shape told fences history u w calls answers begins (omega (arith, long)) served.2 in
    record {
      groups = one.group ∷ rest.groups;
      replies = (
        one.reply,
        subst (λ (c : ℕ). AreReplies c (v.calls + 1) calls answers rest.groups) one.caller
            (subst (λ (n : ℕ). AreReplies u.caller n calls answers rest.groups) one.count rest.replies),
      );
      fenced = (one.fenced, rest.fenced);
      noted = rest.noted
          ∙ ap (λ (h : ℕ). entries_noted u.notes ++ map (item h) (all_entries rest.groups)) one.hand
          ∙ ap (λ (xs : List (List ℕ)). xs ++ map (item v.hand) (all_entries rest.groups)) one.noted
          ∙ append_assoc (entries_noted v.notes) (map (item v.hand) (entries_of one.group)) (map (item v.hand) (all_entries rest.groups))
          ∙ ap (λ (xs : List (List ℕ)). entries_noted v.notes ++ xs) (sym (map-append (item v.hand) (entries_of one.group) (all_entries rest.groups)));
      hand = rest.hand ∙ one.hand;
      spare = rest.spare ∙ one.spare;
      count = more u.calls v.calls (length calls) w.calls one.count rest.count;
      grows = prefix_trans v.front u.front w.front one.grows rest.grows;
    }
  where
    more : (b a k d : ℕ) → b ≡ a + 1 → d ≡ b + k → d ≡ a + suc k
    more b a k d p q = omega (arith, p, q)

-- ---- the entries of a call by its number

pub next_is : (a b : ℕ) → a + 1 + b ≡ a + suc b
next_is a b = omega arith

-- a call has the entries that have its number
pub record HasReply (c n k : ℕ) (p : Planned) (answers : List Answer) (groups : List CallEntries) : Type 0 where
  pub answer : Answer
  pub group : CallEntries
  pub given : slice_get answers k ≡ Some answer
  pub here : slice_get groups k ≡ Some group
  pub reply : IsReply c (n + k) p answer group

pub entries_of_call : (c n : ℕ) (calls : List Planned) (answers : List Answer) (groups : List CallEntries) (k : ℕ) (p : Planned) → AreReplies c n calls answers groups
    → slice_get calls k ≡ Some p → HasReply c n k p answers groups
entries_of_call c n [] answers groups k p are asked = absurd (none-some p asked)
entries_of_call c n (q ∷ calls) (a ∷ answers) (g ∷ groups) zero p are asked = record {
  answer = a;
  group = g;
  given = refl;
  here = refl;
  reply = subst (λ (y : Planned). IsReply c (n + 0) y a g) (same_Some q p asked) (subst (λ (m : ℕ). IsReply c m q a g) (sym (add-zero n)) are.0);
}
entries_of_call c n (q ∷ calls) (a ∷ answers) (g ∷ groups) (suc k) p are asked =
    let rest : HasReply c (n + 1) k p answers groups = entries_of_call c (n + 1) calls answers groups k p are.1 asked in
    record {
      answer = rest.answer;
      group = rest.group;
      given = rest.given;
      here = rest.here;
      reply = subst (λ (m : ℕ). IsReply c m p rest.answer rest.group) (next_is n k) rest.reply;
    }
entries_of_call c n (q ∷ calls) [] groups k p are asked = absurd are
entries_of_call c n (q ∷ calls) (a ∷ answers) [] k p are asked = absurd are

-- they are fenced
pub fenced_call : (fences : ℕ → ℕ) (history : List Entry) (calls : List Planned) (groups : List CallEntries) (k : ℕ) (p : Planned) (g : CallEntries) → AreFenced fences history calls groups
    → slice_get calls k ≡ Some p → slice_get groups k ≡ Some g → IsFenced fences history p g
fenced_call fences history [] groups k p g fenced asked here = absurd (none-some p asked)
fenced_call fences history (q ∷ calls) [] k p g fenced asked here = absurd fenced
fenced_call fences history (q ∷ calls) (x ∷ groups) zero p g fenced asked here =
    subst (λ (y : Planned). IsFenced fences history y g) (same_Some q p asked) (subst (λ (y : CallEntries). IsFenced fences history q y) (same_Some x g here) fenced.0)
fenced_call fences history (q ∷ calls) (x ∷ groups) (suc k) p g fenced asked here = fenced_call fences history calls groups k p g fenced.1 asked here

-- an entry of these calls is of the one that has its number
pub record IsOfOne (c n : ℕ) (calls : List Planned) (e : Entry) : Type 0 where
  pub number : ℕ
  pub planned : Planned
  pub asked : slice_get calls number ≡ Some planned
  pub is : IsIn c (n + number) planned e

pub call_of_entry : (c n : ℕ) (calls : List Planned) (answers : List Answer) (groups : List CallEntries) (e : Entry) → AreReplies c n calls answers groups
    → Contains (all_entries groups) e → IsOfOne c n calls e
call_of_entry c n [] [] [] e are there = absurd (omega (arith, there.1))
call_of_entry c n (p ∷ calls) (a ∷ answers) (g ∷ groups) e are there = elim (Contains-append_cases (entries_of g) (all_entries groups) e there) [
  | inl this ↦
      let is : IsIn c n p e = All-contains (IsIn c n p) (entries_of g) e (All-from_recursion (IsIn c n p) (entries_of g) are.0.own) this in
      record { number = zero; planned = p; asked = refl; is = subst (λ (m : ℕ). IsIn c m p e) (sym (add-zero n)) is }
  | inr other ↦
      let rest : IsOfOne c (n + 1) calls e = call_of_entry c (n + 1) calls answers groups e are.1 other in
      record { number = suc rest.number; planned = rest.planned; asked = rest.asked; is = subst (λ (m : ℕ). IsIn c m rest.planned e) (next_is n rest.number) rest.is }
]
call_of_entry c n [] [] (g ∷ groups) e are there = absurd are
call_of_entry c n [] (a ∷ answers) _ e are there = absurd are
call_of_entry c n (p ∷ calls) [] _ e are there = absurd are
call_of_entry c n (p ∷ calls) (a ∷ answers) [] e are there = absurd are

-- there are as many answers as calls
pub as_many : (c n : ℕ) (calls : List Planned) (answers : List Answer) (groups : List CallEntries) → AreReplies c n calls answers groups → length answers ≡ length calls
as_many c n [] [] [] are = refl
as_many c n (p ∷ calls) (a ∷ answers) (g ∷ groups) are = ap (λ (m : ℕ). suc m) (as_many c (n + 1) calls answers groups are.1)
as_many c n [] [] (g ∷ groups) are = absurd are
as_many c n [] (a ∷ answers) _ are = absurd are
as_many c n (p ∷ calls) [] _ are = absurd are
as_many c n (p ∷ calls) (a ∷ answers) [] are = absurd are

-- ---- the stripes that the calls may store

-- the calls from a number on, each with the stripes that it may store
abbrev pub storings : Shape → ℕ → ℕ → List Planned → List Storing
storings shape c n calls = map (λ p. record { caller = c; call = p.0; stripes = put_stripes shape p.1.call }) (enumerate_from n calls)

asked_is : (shape : Shape) (call : the_call.Call) → stripes_asked shape (Some (deed_of call)) ≡ put_stripes shape call
asked_is shape (Put name bytes) = refl
asked_is shape (Read name index) = refl
asked_is shape (Sum name index) = refl
asked_is shape (Cat name) = refl
asked_is shape (Lose node) = refl
asked_is shape (Join node) = refl
asked_is shape (Rebuild from to) = refl
asked_is shape (Stat name) = refl

abbrev storing : ℕ → ℕ → ℕ → Storing
storing c n k = record { caller = c; call = n; stripes = k }

storing_is : (shape : Shape) (c n : ℕ) (p : Planned) (e : Entry) → IsIn c n p e → storing_of shape e ≡ record { caller = c; call = n; stripes = put_stripes shape p.call }
storing_is shape c n p e is =
    ap (λ (x : ℕ). storing x e.line.call (stripes_asked shape e.deed)) is.caller
    ∙ ap (λ (x : ℕ). storing c x (stripes_asked shape e.deed)) is.call
    ∙ ap (λ x. storing c n (stripes_asked shape x)) is.deed
    ∙ ap (storing c n) (asked_is shape p.call)

pub storings_are : (shape : Shape) (c n : ℕ) (calls : List Planned) (answers : List Answer) (groups : List CallEntries) → AreReplies c n calls answers groups
    → map (storing_of shape) (ends_of groups) ≡ storings shape c n calls
storings_are shape c n [] [] [] are = refl
storings_are shape c n (p ∷ calls) (a ∷ answers) (g ∷ groups) are =
    ap (λ (x : Storing). x ∷ map (storing_of shape) (ends_of groups)) (storing_is shape c n p g.last (of_last (IsIn c n p) g.parts g.last are.0.own))
    ∙ ap (λ (xs : List Storing). record { caller = c; call = n; stripes = put_stripes shape p.call } ∷ xs) (storings_are shape c (n + 1) calls answers groups are.1)
storings_are shape c n [] [] (g ∷ groups) are = absurd are
storings_are shape c n [] (a ∷ answers) _ are = absurd are
storings_are shape c n (p ∷ calls) [] _ are = absurd are
storings_are shape c n (p ∷ calls) (a ∷ answers) [] are = absurd are
