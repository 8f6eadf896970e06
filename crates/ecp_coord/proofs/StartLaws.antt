-- A coordinator as it is made.
use Rattle.std.proofs.Common.{◌≡◌, ℕ, zero, suc, ◌+◌, ◌*◌, ◌/◌, ◌<◌, Bool, cond, List, [], length, replicate, Option, None, refl, sym, ◌∙◌, ap, subst, arith}
use Rattle.std.specs.Prelude.{is_some, sum, sum_by}
use Rattle.std.specs.Option.{option_map_or}
use Rattle.std.proofs.lemmas.List.Elements.{All-nil}
use Rattle.std.proofs.lemmas.List.Folds.{sum_by-replicate}
use Rattle.std.proofs.Math.Nat.{mul-div_cancel}
use Rattle.std.proofs.lemmas.List.{length-map, length-replicate, get_or-map, get_or-replicate, ext_get_or}
use Rattle.ecp_shape.specs.declared.shape.Shape.{Shape}
use Rattle.ecp_book.specs.Logs.{Known, Log, empty_log}
use Rattle.ecp_catalog.specs.Catalogs.{empty, new_node}
use Rattle.ecp_catalog.proofs.OutlineLaws as outline
use Rattle.ecp_entry.specs.declared.entry.Entry.{Entry}
use Rattle.ecp_history.specs.Files.{StripesBelow}
use Rattle.ecp_sequencer.specs.Hands.{hands_of}
use Rattle.ecp_sequencer.specs.Histories.{notes_at}
use Rattle.ecp_sequencer.specs.Sequencers as sequencers
use Rattle.ecp_coord.specs.Bookings.{AreBooked, bookers, booking, promised, still_due, taken_by}
use Rattle.ecp_coord.specs.Coords.{AreNodeLogs, AreTags, CanOpen, IsCoord, heard, parts_of}
use Rattle.ecp_coord.proofs.BookLaws.{none_some, nothing_booked}
use Rattle.ecp_coord.proofs.RoomLaws.{losers-none}

-- as many hands as there are ties, halved
pub ties_halved : (callers hands ties : ℕ) → ties ≡ 2 * hands_of callers hands → ties / 2 ≡ hands_of callers hands
ties_halved callers hands ties is = omega (arith, is)

pub callers_counted : (callers hands : ℕ) → hands_of callers hands / (1 + hands) ≡ callers
callers_counted callers hands = mul-div_cancel callers (omega arith)

-- what is known of logs that are empty
pub heard-empty : (nodes : ℕ) (tags : List Known) → AreNodeLogs nodes tags → heard tags ≡ replicate nodes []
heard-empty nodes tags are =
    let size : length (heard tags) ≡ nodes = length-map tags (λ (t : Known). t.items) ∙ are.each in
    ext_get_or [] (heard tags) (replicate nodes []) (size ∙ sym (length-replicate {A = Log} nodes []))
    (λ i below.
    let within : i < nodes = omega (arith, below, size) in
    get_or-map (λ (t : Known). t.items) tags i (empty_log 0) [] (omega (arith, within, are.each)) ∙ ap (λ (t : Known). t.items) (are.empty i (empty_log 0) within)
    ∙ sym (get_or-replicate nodes i [] [] within))

tags_empty : (nodes : ℕ) (tags : List Known) → AreNodeLogs nodes tags → AreTags nodes [] tags
tags_empty nodes tags are = record {
  each = are.each;
  on_logs = λ m t below. ap (λ (k : Known). k.log) (are.empty m t below);
  paid = λ m t below. omega arith;
}

none_noted : (n h : ℕ) → notes_at (replicate n []) h ≡ []
none_noted zero h = refl
none_noted (suc n) zero = refl
none_noted (suc n) (suc h) = none_noted n h

none_open : (n h : ℕ) → booking (notes_at (replicate n []) h) ≡ None
none_open n h = ap (λ (ns : Log). booking ns) (none_noted n h) ∙ nothing_booked

sum-none : (n : ℕ) → sum (replicate n 0) ≡ 0
sum-none n = sum_by-replicate (λ (x : ℕ). x) n 0 ∙ (let none : n * 0 ≡ 0 = omega arith in none)

taken-none : (n : ℕ) → sum_by taken_by (replicate n []) ≡ 0
taken-none n = sum_by-replicate taken_by n [] ∙ (let none : n * 0 ≡ 0 = omega arith in none)

bookers-none : (n : ℕ) → bookers (replicate n []) ≡ 0
bookers-none n =
    sum_by-replicate (λ (x : Log). cond (is_some (booking x)) 1 0) n []
    ∙ ap (λ (o : Option (List ℕ)). n * cond (is_some o) 1 0) nothing_booked ∙ (let none : n * 0 ≡ 0 = omega arith in none)

booked_none : (shape : Shape) (all : ℕ) → AreBooked (sequencers.at_start all) (empty shape) 0 (replicate all 0)
booked_none shape all = record {
  counted = sym (taken-none all);
  stored = All-nil (λ (e : Entry). StripesBelow 0 e.line.act);
  each = λ h b is. absurd (none_some b (sym (none_open all h) ∙ is));
  apart = λ g h a b ne is_a is_b. absurd (none_some a (sym (none_open all g) ∙ is_a));
  room = omega (arith, bookers-none all);
  due = λ h. let none : promised (notes_at (replicate all []) h) ≡ 0 = ap (λ (o : Option (List ℕ)). option_map_or still_due o 0) (none_open all h) in omega (arith, none);
  numbers = omega (arith, sum-none all);
  sized = length-replicate all 0 ∙ sym (length-replicate {A = Log} all []);
}

module _ (shape : Shape) (told : Bool) (callers spares slice hands : ℕ) where
  pub start_is : (history : Known) (nodes ties tags : List Known) (all : ℕ) (promises : List ℕ) → CanOpen shape callers spares slice hands history nodes ties → tags ≡ nodes
      → all ≡ hands_of callers spares → promises ≡ replicate all 0
      → IsCoord shape told callers spares (sequencers.at_start all) (parts_of (empty shape) all slice tags 0 promises)
  start_is history nodes ties tags all promises can same count none = record {
    outline = outline.at_start shape told;
    range = can.range;
    each_node = length-replicate shape.nodes new_node;
    most = can.called.1;
    counted = count;
    sliced = can.sliced;
    tagged = subst (AreTags shape.nodes []) (sym same) (tags_empty shape.nodes nodes can.of_nodes);
    room = λ m below. omega (arith, losers-none m all);
    idle = λ caller hand its off. none_noted all hand;
    no_drops = refl;
    covered = λ each. omega arith;
    booked = subst (AreBooked (sequencers.at_start all) (empty shape) 0) (sym none) (booked_none shape all);
  }
