use Rattle.std.proofs.Common.{List, ◌∷◌, [], ◌++◌, refl, sym, ◌∙◌, ap, subst}
use Rattle.ecp_node.specs.Receipts.{ReceiptState}
use Rattle.ecp_plan.specs.declared.hop.Hop.{Hop}
use Rattle.ecp_requestor.proofs.OneBlocks.{takes_the_row}
use Rattle.ecp_requestor.proofs.tests.kept_row.KeptRow.plan.Goals as goal

pub returns-clause-sound : goal.returns-clause-sound
returns-clause-sound g c =
    let kept = c.args.self.now in
    let hop : Hop g.row.N.Denot = record { row = 0; node = 0; inc = 0; weight = 1; receipt = c.copy.result } in
    let receipt = kept.names in
    let same = c.copy.ensures.copy in
    takes_the_row g.N.Names.shape g.N.Names.told _ hop kept.of_shape (record {
      front = c.copy-2.ensures.copy ∙ kept.of_file;
      hops = c.in_ok-push.ensures.items ∙ ap (λ (xs : List (Hop g.row.N.Denot)). xs ++ hop ∷ []) c.in_ok-hops.ensures.items;
      receipt = record {
        stripe = ap (λ (r : ReceiptState). r.stripe) same ∙ receipt.stripe;
        row = ap (λ (r : ReceiptState). r.row) same ∙ receipt.row;
        node = ap (λ (r : ReceiptState). r.node) same ∙ receipt.node;
        bytes = ap (λ (r : ReceiptState). r.bytes) same ∙ receipt.bytes;
      };
      row = refl;
      node = refl;
      weight = refl;
      of_stripe = refl;
      of_row = refl;
      lanes = refl;
      block = refl;
      slice = refl;
    })
