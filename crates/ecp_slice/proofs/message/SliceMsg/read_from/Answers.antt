use Rattle.std.proofs.Common.{◌≡◌, ◌<◌, sym, ◌∙◌, ap, subst, length, arith}
use Rattle.std.proofs.lemmas.List.{get_or_read}
use Rattle.ecp_node.specs.Receipts.{ReceiptState}
use Rattle.ecp_slice.specs.declared.message.Parts.{Parts}
use Rattle.ecp_slice.specs.Messages.{Message, helpers, receipt_at, no_receipt}
use Rattle.ecp_slice.specs.MessageParts.{message_seen, IsMessage}
use Rattle.ecp_slice.proofs.Receipts.{receipt_count, receipt_len, slice_within}
use Rattle.ecp_slice.proofs.message.SliceMsg.read_from.Goals as goal

pub read_slice-requires-clause-within : goal.read_slice-requires-clause-within
read_slice-requires-clause-within g c =
    let m : Message = message_seen c.deref_mut.result.now in
    let met = c.deref_mut.ensures.value in
    let before : IsMessage g.N.Names.shape g.N.Names.told c.deref_mut.result.now = subst (IsMessage g.N.Names.shape g.N.Names.told) (sym met) c.self.invariant in
    let sound = before.sound in
    let view_is : m ≡ c.args.self.now = ap message_seen met ∙ c.self.view_is in
    let low : c.from-hop.result < helpers m = omega (arith, c.from-hop.ensures, c.next_hop.ensures.within, ap helpers view_is) in
    let it : c.index_mut-receipt.result.now ≡ receipt_at m c.from-hop.result =
    get_or_read m.route c.from-hop.result c.index_mut-receipt.result.now (omega (arith, low, receipt_count m sound.named)) c.index_mut-receipt.ensures.value no_receipt in
    let size : length c.args.buf.now ≡ m.len = c.requires.len ∙ sym (ap (λ (x : Message). x.len) view_is) in
    let off : c.deref.result.now.span.off ≡ m.off = ap (λ (x : Parts g.row.N.Denot). x.span.off) (c.deref.ensures ∙ sym met) in
    omega (arith, ap (λ (r : ReceiptState). length r.bytes) it, receipt_len g.N.Names.shape g.N.Names.told m c.from-hop.result sound low, slice_within g.N.Names.shape g.N.Names.told m sound, size, off)
