use Rattle.std.proofs.Common.{◌∙◌, ℕ, eqb, cond, Some, ap, subst, refl}
use Rattle.std.specs.HashMap as hash
use Rattle.ecp_store.specs.Stores.{Puts}
use Rattle.ecp_node.specs.Receipts.{next_kept}
use Rattle.ecp_node.proofs.Steps.{kept_inv, faulted_inv, kept_moves, failed_moves}
use Rattle.ecp_node.proofs.node.Node.keep.Goals as goal

pub invariant_of-self-in-Ok : goal.invariant_of-self-in-Ok
invariant_of-self-in-Ok g c =
    let n = c.self.inside.log in
    let old = c.self.inside.store in
    let new = c.keep_block.new.store in
    let kept = next_kept n.items c.args.stripe c.args.row c.args.bytes.now in
    kept_inv g.S.Store g.N.Names.told g.N.Names.stores c.self.inside.past.log n c.enter.new.log c.self.inside.past.items c.self.inside.fault kept old new
    (hash.get eqb c.self.inside.index) (hash.get eqb c.keep_block.new.index) c.self.invariant
    c.enter.ensures.log refl (kept_moves g.S.Store old new c.in-Ok.ensures.counts c.keep_block.ensures.same)
    (λ q. c.in-Ok.ensures.entered q ∙ ap (λ (s : ℕ). cond (eqb s q) (Some (record { stripe = c.args.stripe; row = c.args.row })) (hash.get eqb c.self.inside.index q)) c.len.ensures)
    (λ tells. subst (λ (s : ℕ). Puts (record { stripe = c.args.stripe; row = c.args.row; serial = s }) (Some c.args.bytes.now) (g.S.Store.held old) (g.S.Store.held new)) c.len.ensures (c.in-Ok.ensures.ok tells))

pub invariant_of-self-in-Err-Failed : goal.invariant_of-self-in-Err-Failed
invariant_of-self-in-Err-Failed g c =
    let n = c.self.inside.log in
    let old = c.self.inside.store in
    let new = c.keep_block.new.store in
    let counts = rw c.in-Err-Failed.field-0-is at c.in-Err-Failed.ensures.counts in
    let never = rw c.in-Err-Failed.field-0-is at c.in-Err-Failed.ensures.faultless in
    faulted_inv g.S.Store g.N.Names.told g.N.Names.stores c.self.inside.past.log n c.fault.new.self c.self.inside.past.items c.self.inside.fault _ old new
    (hash.get eqb c.self.inside.index) (hash.get eqb c.keep_block.new.index) c.self.invariant
    c.fault.ensures (failed_moves g.S.Store old new counts.0 c.keep_block.ensures.same (λ sure. never sure refl)) counts.1
    c.in-Err-Failed.ensures.kept c.in-Err-Failed.ensures.err
