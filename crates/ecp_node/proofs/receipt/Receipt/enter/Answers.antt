use Rattle.std.proofs.Common.{◌∙◌, ap, sym}
use Rattle.ecp_book.specs.Logs.{node_log}
use Rattle.ecp_node.proofs.Laws.{new_receipt}
use Rattle.ecp_node.proofs.receipt.Receipt.enter.Goals as goal

pub invariant_of-result : goal.invariant_of-result
invariant_of-result g c =
    let tag = c.tag-tag.ensures.tag in
    let added = c.keep-serial.ensures.added in
    new_receipt c.args.log.now.items _ c.args.stripe c.args.row c.args.bytes.now _ _ _ _
    (ap (λ t. t.log) tag ∙ ap node_log (ap (λ l. l.node) added ∙ sym c.node-node.ensures)) (ap (λ t. t.items) tag ∙ ap (λ l. l.items) added) c.keep-serial.ensures.serial c.wiped-inc.ensures
