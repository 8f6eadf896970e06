-- A node that is up and is not lost stays up, in its incarnation.
use Rattle.std.proofs.Common.{◌≡◌, ◌≢◌, ℕ, zero, suc, Bool, true, false, List, [], ◌∷◌, ◌++◌, Option, Some, None, refl, sym, ◌∙◌, ap, subst, append-nil, append_assoc}
use Rattle.std.specs.Prelude.{not, slice_get, slice_set, IsSomeAnd}
use Rattle.std.specs.List.{list_any}
use Rattle.std.specs.Option.{option_map_or}
use Rattle.std.proofs.lemmas.Bool.{eq-eqb, false≢true}
use Rattle.ecp_shape.specs.declared.shape.Shape.{Shape}
use Rattle.ecp_node.specs.Receipts.{ReceiptState}
use Rattle.ecp_entry.specs.declared.act.Act.{Act}
use Rattle.ecp_entry.specs.declared.act.Act.TheVariants.{Lost, Joined}
use Rattle.ecp_entry.specs.declared.entry.Entry.{Entry}
use Rattle.ecp_entry.specs.Entries.{deed_node, is_loss, is_number, lost_node}
use Rattle.ecp_history.specs.declared.table.node.Node.{Node}
use Rattle.ecp_history.specs.table.Tables.{PlainTable, is_down}
use Rattle.ecp_history.specs.table.Steps.{after_act, joined, lost, table_of}
use Rattle.ecp_history.specs.Acts.{HoldsIn, Joins}
use Rattle.ecp_history.specs.Legal.{IsLegal, MayFollow}
use Rattle.ecp_history.proofs.LegalLaws.{beginning, last_follows}
use Rattle.ecp_catalog.specs.Outline.{AreKept}
use Rattle.ecp_catalog.proofs.OutlineLaws.{one_more}
use Rattle.ecp_coord.proofs.AnyLaws.{or_none}

get_other : (xs : List Node) (i m : ℕ) (y : Node) → i ≢ m → slice_get (slice_set xs i y) m ≡ slice_get xs m
get_other [] i m y apart = refl
get_other (x ∷ xs) zero zero y apart = absurd (apart refl)
get_other (x ∷ xs) zero (suc m) y apart = refl
get_other (x ∷ xs) (suc i) zero y apart = refl
get_other (x ∷ xs) (suc i) (suc m) y apart = get_other xs i m y (λ same. apart (ap (λ (n : ℕ). suc n) same))

stays_lost : (t : PlainTable) (m : ℕ) (y : Node) (node : Option ℕ) → is_number node m ≡ false → slice_get t.nodes m ≡ Some y → slice_get (option_map_or (lost t) node t).nodes m ≡ Some y
stays_lost t m y None off is = is
stays_lost t m y (Some i) off is = get_other t.nodes i m _ (λ same. false≢true (sym off ∙ eq-eqb i m same)) ∙ is

-- a node that joins was down
stays_joined : (t : PlainTable) (inc m : ℕ) (y : Node) (node : Option ℕ) → IsSomeAnd node (Joins t inc) → y.up ≡ true → slice_get t.nodes m ≡ Some y
    → slice_get (option_map_or (λ i. joined t i inc) node t).nodes m ≡ Some y
stays_joined t inc m y None joins up is = is
stays_joined t inc m y (Some i) joins up is =
    let apart : i ≢ m = λ same.
    let down : is_down t m ≡ true = subst (λ (k : ℕ). is_down t k ≡ true) same joins.down in
    false≢true (sym (ap (λ (o : Option Node). option_map_or (λ x. not x.up) o false) is ∙ ap not up) ∙ down) in
    get_other t.nodes i m _ apart ∙ is

one_stays : (shape : Shape) (told : Bool) (h : List Entry) (t p : PlainTable) (e : Entry) (act : Act) (m : ℕ) (y : Node) → HoldsIn shape told h t p e act
    → is_number (lost_node act e.deed) m ≡ false → y.up ≡ true → slice_get t.nodes m ≡ Some y → slice_get (after_act shape t e act).nodes m ≡ Some y
one_stays shape told h t p e (Lost count) m y holds off up is = stays_lost t m y (deed_node e.deed) off is
one_stays shape told h t p e (Joined inc) m y holds off up is = stays_joined t inc m y (deed_node e.deed) holds up is
one_stays shape told h t p e _ m y holds off up is = is

pub stays_up : (shape : Shape) (told : Bool) (before more : List Entry) (m : ℕ) (y : Node) → IsLegal shape told (before ++ more) → list_any (is_loss m) more ≡ false → y.up ≡ true
    → slice_get (table_of shape before).nodes m ≡ Some y → slice_get (table_of shape (before ++ more)).nodes m ≡ Some y
stays_up shape told before [] m y legal none up is = subst (λ (h : List Entry). slice_get (table_of shape h).nodes m ≡ Some y) (sym (append-nil before)) is
stays_up shape told before (e ∷ more) m y legal none up is =
    let split : (before ++ e ∷ []) ++ more ≡ before ++ e ∷ more = append_assoc before (e ∷ []) more in
    let whole : IsLegal shape told ((before ++ e ∷ []) ++ more) = subst (IsLegal shape told) (sym split) legal in
    let next : MayFollow shape told before e = last_follows shape told before e (beginning shape told (before ++ e ∷ []) more whole) in
    let off = or_none (is_loss m e) (list_any (is_loss m) more) none in
    let one : slice_get (table_of shape (before ++ e ∷ [])).nodes m ≡ Some y =
    ap (λ (t : PlainTable). slice_get t.nodes m) (one_more shape before e)
    ∙ one_stays shape told before (table_of shape before) _ e e.line.act m y next.holds off.0 up is in
    subst (λ (h : List Entry). slice_get (table_of shape h).nodes m ≡ Some y) split (stays_up shape told (before ++ e ∷ []) more m y whole off.1 up one)

-- receipts that were kept on nodes that stay are kept by the later table too
pub kept_later : (shape : Shape) (told : Bool) (t u : PlainTable) (first up : ℕ) (content : List ℕ) (rows : List ReceiptState)
    → ((m : ℕ) (y : Node) → y.up ≡ true → slice_get t.nodes m ≡ Some y → slice_get u.nodes m ≡ Some y)
    → AreKept shape told t first up content rows → AreKept shape told u first up content rows
kept_later shape told t u first up content rows stays kept = λ i r blocks x at low here.
    let is = kept i r blocks x at low here in
    record {
      of_stripe = is.of_stripe;
      of_row = is.of_row;
      placed = is.placed;
      alive = stays x.node (record { up = true; inc = x.inc }) refl is.alive;
      bytes = is.bytes;
    }
