-- What stays of a helper where a part of it changes.
use Rattle.std.proofs.Common.{rules, ◌≡◌, ℕ, zero, suc, ◌≤◌, Bool, List, length, Result, ap, sym, subst, refl, ◌∙◌, arith, length-set}
use Rattle.std.specs.Prelude.{All}
use Rattle.std.proofs.lemmas.List.Elements.{All-weaker}
use Rattle.std.proofs.lemmas.List.{with_items_is}
use Rattle.std.specs.Vec.{with_items}
use Rattle.ecp_shape.specs.declared.shape.Shape.{Shape}
use Rattle.ecp_node.specs.Nodes.{NodeState}
use Rattle.ecp_node.specs.declared.node_read.NodeRead.{NodeRead}
use Rattle.ecp_link.specs.Links.{Sending}
use Rattle.ecp_slice.specs.Cancels.{Finds}
use Rattle.ecp_slice.specs.Messages.{Message, next_of}
use Rattle.ecp_slice.specs.declared.next.Next.{Next}
use Rattle.ecp_slice.specs.declared.next.Next.TheVariants.{Node, Home}
use Rattle.ecp_slice.specs.declared.reasons.TheConstants.{HELPER_LOST}
use Rattle.ecp_helper.specs.declared.helper.Helper.TheInside.{Inside}
use Rattle.ecp_helper.specs.Gates.{Question}
use Rattle.ecp_helper.specs.HelperParts.{helper_seen, IsHelper}
use Rattle.ecp_helper.specs.Helpers.{HelperState}
use Rattle.ecp_helper.specs.Senders.{Senders, HasSender, ChangesOne, Sends, IsShut}
use Rattle.ecp_helper.specs.Steps.{Terms, GoesOut, IsKept, looked, given_up, IsHere, IsToAdd, question, Reads, Adds}
use Rattle.ecp_helper.specs.Turns.{with_node, GivesUp, Works, Serves, SendsOut}
use Rattle.ecp_helper.specs.declared.turn.Turn.{Turn}
use Rattle.ecp_helper.specs.declared.turn.Turn.TheVariants.{Passed, Held, Waited, Dropped, Astray, Lost, Fault, Idle}

-- a sender stays one
still_has : (old new : Senders) (to : Next) (was now : Sending Message) → ChangesOne old new to was now → (other : Next) → HasSender old other → HasSender new other
still_has old new (Node n) was now h (Node k) has =
    let same : length new.to_nodes ≡ length old.to_nodes = ap (λ (s : Senders). length s.to_nodes) h.others ∙ length-set old.to_nodes n now in omega arith
still_has old new (Node n) was now h (Home k) has =
    let same : length new.to_homes ≡ length old.to_homes = ap (λ (s : Senders). length s.to_homes) h.others in omega arith
still_has old new (Home n) was now h (Node k) has =
    let same : length new.to_nodes ≡ length old.to_nodes = ap (λ (s : Senders). length s.to_nodes) h.others in omega arith
still_has old new (Home n) was now h (Home k) has =
    let same : length new.to_homes ≡ length old.to_homes = ap (λ (s : Senders). length s.to_homes) h.others ∙ length-set old.to_homes n now in omega arith

-- each of these messages has a sender to its next stop
abbrev pub AllHave : Senders → List Message → Type 0
AllHave s ms = All (λ m. HasSender s (next_of m)) ms

all_have : (old new : Senders) (to : Next) (was now : Sending Message) → ChangesOne old new to was now → (ms : List Message) → AllHave old ms → AllHave new ms
all_have old new to was now h ms all =
    All-weaker (λ m. HasSender old (next_of m)) (λ m. HasSender new (next_of m)) (λ m has. still_has old new to was now h (next_of m) has) ms all

pub have_after_send : (old new : Senders) (to : Next) (m : Message) → Sends old new to m → (ms : List Message) → AllHave old ms → AllHave new ms
have_after_send old new to m h ms all = all_have old new to h.was h.now h.one ms all

pub have_though_shut : (old new : Senders) (to : Next) → IsShut old new to → (ms : List Message) → AllHave old ms → AllHave new ms
have_though_shut old new to h ms all = all_have old new to h.was h.now h.one ms all

pub has_though_shut : (old new : Senders) (to other : Next) → IsShut old new to → HasSender old other → HasSender new other
has_though_shut old new to other h has = still_has old new to h.was h.now h.one other has

-- a handle that finds no reason knew none
pub unknown : (known found : ℕ) → Finds known found → found ≡ 0 → known ≡ 0
unknown zero found h none = refl
unknown (suc k) found h none =
    let least : HELPER_LOST ≤ suc k = search rules in
    let good : found ≡ suc k = h.for_good least in absurd (omega arith)

-- a look at the cancel word leaves where the message is
pub here_after : (h : HelperState) (m w : Message) (found : ℕ) → w ≡ looked m found → IsHere h m → IsHere h w
here_after h m w found e x = subst (IsHere h) (sym e) (let y : IsHere h (looked m found) = record { here = x.here; onward = x.onward } in y)

pub here_before : (h : HelperState) (m w : Message) (found : ℕ) → w ≡ looked m found → IsHere h w → IsHere h m
here_before h m w found e x = let y : IsHere h (looked m found) = subst (IsHere h) e x in record { here = y.here; onward = y.onward }

-- what goes on after it was added was worked on
pub works_so : {N : Type 0} (told tells : Bool) (old mid new : HelperState) (m added : Message) (answer : Turn N) → mid ≡ record old { node = mid.node }
    → Adds told tells old.node mid.node m added → SendsOut mid new added answer → Works told tells old new m answer
works_so told tells old mid new m added Passed same adds out =
    let node : mid.node ≡ new.node = sym (ap (λ (h : HelperState). h.node) out.is) in
    let at : mid ≡ with_node old new = same ∙ ap (λ n. record old { node = n }) node in
    record { added = added; adds = subst (λ n. Adds told tells old.node n m added) node adds; out = subst (λ (h : HelperState). GoesOut h new added) at out }
works_so told tells old mid new m added (Held to) same adds kept =
    let node : mid.node ≡ new.node = sym (ap (λ (h : HelperState). h.node) kept.is) in
    let at : mid ≡ with_node old new = same ∙ ap (λ n. record old { node = n }) node in
    record { added = added; adds = subst (λ n. Adds told tells old.node n m added) node adds; kept = subst (λ (h : HelperState). IsKept h new added to) at kept }
works_so told tells old mid new m added Waited same adds never = absurd never
works_so told tells old mid new m added (Dropped back) same adds never = absurd never
works_so told tells old mid new m added (Astray back) same adds never = absurd never
works_so told tells old mid new m added (Lost back now) same adds never = absurd never
works_so told tells old mid new m added (Fault back) same adds never = absurd never
works_so told tells old mid new m added Idle same adds never = absurd never

-- a message that the node gave an answer for, and that is the same, is given up
pub gives_up_so : (result : Result (Unit {0}) NodeRead) (reason : ℕ) (old new : HelperState) (m w back : Message) (found : ℕ) → Reads result old.node new.node m → w ≡ m
    → Finds w.cancel.known found → back ≡ given_up w reason found → new ≡ with_node old new → GivesUp result reason old new m back
gives_up_so result reason old new m w back found reads kept finds back_is is = record {
  reads = reads;
  found = found;
  finds = subst (λ (x : Message). Finds x.cancel.known found) kept finds;
  back_is = back_is ∙ ap (λ (x : Message). given_up x reason found) kept;
  is = is;
}

-- what is wanted and here is served by what was worked on it
pub serves_so : {N : Type 0} (terms : Terms) (old new : HelperState) (m : Message) (answer : Turn N) → IsToAdd old m → Works terms.told terms.tells old new (looked m 0) answer
    → Serves terms old new m answer
serves_so terms old new m Passed ours works = (ours, works)
serves_so terms old new m (Held to) ours works = (ours, works)
serves_so terms old new m (Lost back now) ours works = (ours, works)
serves_so terms old new m (Fault back) ours works = (ours, works)
serves_so terms old new m Waited ours works = absurd works
serves_so terms old new m (Dropped back) ours works = absurd works
serves_so terms old new m (Astray back) ours works = absurd works
serves_so terms old new m Idle ours works = absurd works

-- the gate is asked for the message
pub same_question : (node repair attempt slice number : ℕ) (m : Message) → node ≡ number → repair ≡ m.repair → attempt ≡ m.attempt → slice ≡ m.slice
    → (let asked : Question = record { node = node; repair = repair; attempt = attempt; slice = slice } in asked) ≡ question number m
same_question node repair attempt slice number m a b c d = cc

module _ {N S : Type 0} (f : Inside N S) (node : NodeState) (bytes : List ℕ) (same : length bytes ≡ length f.room.buffer.items) (whole : length bytes ≡ f.room.buffer.len) where
  -- the fields after a read
  abbrev pub read_fields : Inside N S
  read_fields = record f { node = node; room = record f.room { buffer = with_items f.room.buffer bytes } }

  still_long : length (with_items f.room.buffer bytes).items ≡ length f.room.buffer.items
  still_long = ap (λ (xs : List ℕ). length xs) (with_items_is f.room.buffer bytes whole) ∙ same

  pub read_keeps : (shape : Shape) (told : Bool) → IsHelper shape told f → IsHelper shape told read_fields
  read_keeps shape told met = record {
    sized = still_long ∙ met.sized;
    some = met.some;
    within = met.within;
    room_added = met.room_added;
    room_waiting = met.room_waiting;
    onward = met.onward;
    sound = record { added = met.sound.added; waiting = met.sound.waiting };
  }

  pub read_view : (h : HelperState) → helper_seen f ≡ h → helper_seen read_fields ≡ record h { node = node }
  read_view h seen =
      ap (λ (n : ℕ). let x : HelperState = record (helper_seen f) { node = node; block = n } in x) still_long
      ∙ ap (λ (x : HelperState). let y : HelperState = record x { node = node } in y) seen
