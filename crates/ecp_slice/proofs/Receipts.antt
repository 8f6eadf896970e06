-- What the receipts of a sound message name.
use Rattle.std.proofs.Common.{◌≡◌, ℕ, ◌+◌, ◌<◌, ◌≤◌, ◌⊎◌, inl, inr, Bool, true, false, List, [], length, map, get_or, sym, ◌∙◌, ap, arith}
use Rattle.std.specs.Prelude.{All}
use Rattle.std.proofs.lemmas.List.{length-map, get_or-map}
use Rattle.std.proofs.lemmas.List.Elements.{All-same, All-map, All-get_or}
use Rattle.ecp_code.specs.Weights.{weight}
use Rattle.ecp_shape.specs.declared.shape.Shape.{Shape}
use Rattle.ecp_entry.specs.Told.{history_of}
use Rattle.ecp_history.specs.Fronts.{told_table}
use Rattle.ecp_history.specs.table.Tables.{PlainTable, block}
use Rattle.ecp_history.specs.Plans.{Route, AreRows, IsSum, IsDirect}
use Rattle.ecp_node.specs.Receipts.{ReceiptState}
use Rattle.ecp_slice.specs.Messages.{Message, helpers, receipt_at, no_receipt, slice_of}
use Rattle.ecp_slice.specs.Sound.{IsSound, AreNamed, plan_of}
use Rattle.ecp_slice.proofs.StripeData.{length_block}

-- as many weights as helpers
weights_of : (shape : Shape) (target : ℕ) (rows ws : List ℕ) → IsSum shape target rows ws ⊎ IsDirect target rows ws → length ws ≡ length rows
weights_of shape target rows ws (inl sum) = ap length sum.weighted ∙ length-map rows (λ (j : ℕ). weight rows j target)
weights_of shape target rows ws (inr direct) = ap length direct.weighted ∙ sym (ap length direct.itself)

pub weight_count : (shape : Shape) (told : Bool) (m : Message) → IsSound shape told m → length m.weights ≡ helpers m
weight_count shape told m sound = weights_of shape m.row m.rows m.weights sound.planned.makes

pub node_count : (shape : Shape) (told : Bool) (m : Message) → IsSound shape told m → length m.nodes ≡ helpers m
node_count shape told m sound = sound.planned.helpers.known.one_each

pub receipt_count : (m : Message) → AreNamed m → length m.route ≡ helpers m
receipt_count m named = sym (length-map m.route (λ (r : ReceiptState). r.row)) ∙ ap length named.of_rows

-- the receipt of a helper is one of its node
pub receipt_node : (m : Message) (hop : ℕ) → AreNamed m → hop < helpers m → (receipt_at m hop).node ≡ get_or m.nodes hop 0
receipt_node m hop named within =
    sym (get_or-map (λ (r : ReceiptState). r.node) m.route hop no_receipt 0 (omega (arith, receipt_count m named)))
    ∙ ap (λ (ns : List ℕ). get_or ns hop 0) named.of_nodes

-- each list of bytes that a route names is as long as a block
named_lengths : (shape : Shape) (told : Bool) (t : PlainTable) (route : Route) → ((r : ℕ) → length (block t route.stripe r) ≡ shape.block) → AreRows shape told t route
    → All (λ b. length b ≡ shape.block) route.bytes
named_lengths shape true t route blocks named =
    All-same (λ (b : List ℕ). length b ≡ shape.block) route.bytes (map (block t route.stripe) route.rows) named
    (All-map (λ (b : List ℕ). length b ≡ shape.block) (block t route.stripe) route.rows (λ k d within. blocks (get_or route.rows k d)))
named_lengths shape false t route blocks named = named.1

pub receipt_len : (shape : Shape) (told : Bool) (m : Message) (hop : ℕ) → IsSound shape told m → hop < helpers m → length (receipt_at m hop).bytes ≡ m.block
receipt_len shape told m hop sound within =
    let known = sound.planned.helpers.known in
    let named : List (List ℕ) = map (λ r. r.bytes) m.route in
    let inside : hop < length m.route = omega (arith, receipt_count m sound.named) in
    let all : All (λ b. length b ≡ shape.block) named = named_lengths shape told (told_table shape m.front) (plan_of m).route (λ r. length_block shape (history_of m.front) m.stripe r known.there) known.named in
    ap length (sym (get_or-map (λ (r : ReceiptState). r.bytes) m.route hop no_receipt [] inside))
    ∙ All-get_or (λ (b : List ℕ). length b ≡ shape.block) named hop [] (omega (arith, length-map m.route (λ (r : ReceiptState). r.bytes))) all
    ∙ sym sound.planned.len_is

-- the slice lies in the block
pub slice_within : (shape : Shape) (told : Bool) (m : Message) → IsSound shape told m → m.off + m.len ≤ m.block
slice_within shape told m sound = omega (arith, sound.placed.ends)

-- the slice of a helper among those of all
pub slice_at : (m : Message) (hop : ℕ) → AreNamed m → hop < helpers m → get_or (map (λ r. slice_of m r.bytes) m.route) hop [] ≡ slice_of m (receipt_at m hop).bytes
slice_at m hop named within = get_or-map (λ (r : ReceiptState). slice_of m r.bytes) m.route hop no_receipt [] (omega (arith, receipt_count m named))
