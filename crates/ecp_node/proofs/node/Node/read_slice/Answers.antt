use Rattle.std.proofs.Common.{◌≡◌, ◌∙◌, true, None, eqb, ap, sym, subst, refl, inl, length}
use Rattle.std.specs.HashMap as hash
use Rattle.std.specs.Option.{is_some}
use Rattle.ecp_store.specs.Stores.{HasPart}
use Rattle.ecp_store.specs.declared.key.Key.{Key}
use Rattle.ecp_node.specs.Receipts.{named}
use Rattle.ecp_node.specs.Shelves.{key_of}
use Rattle.ecp_node.proofs.Growth.{found, has_part, is_part}
use Rattle.ecp_node.proofs.Steps.{moved_inv, faulted_inv, failed_moves, still}
use Rattle.ecp_node.proofs.node.Node.read_slice.Goals as goal

-- the block was given up
pub invariant_of-self : goal.invariant_of-self
invariant_of-self g c =
    moved_inv g.S.Store g.N.Names.told g.N.Names.stores c.self.inside.past.log c.self.inside.log c.meet.new.log c.self.inside.past.items c.self.inside.fault None
    c.self.inside.store c.self.inside.store (hash.get eqb c.self.inside.index) (hash.get eqb c.self.inside.index) c.self.invariant c.meet.ensures.log
    (still g.S.Store g.N.Names.told g.N.Names.stores c.self.inside.store)
    (λ q. refl) (inl refl) (λ tells was. was)

pub read-requires : goal.read-requires
read-requires g c =
    let kept = named c.args.receipt.now in
    let index = hash.get eqb c.self.inside.index in
    let key : c.key-key.result ≡ key_of kept = c.key-key.ensures ∙ ap (λ r. key_of (named r)) c.meet.ensures.kept in
    let there : is_some (index c.key-key.result.serial) ≡ true = cc in
    let here : is_some (index kept.serial) ≡ true = subst (λ (k : Key). is_some (hash.get eqb c.self.inside.index k.serial) ≡ true) key there in
    let held = (found index c.self.inside.log.items kept c.self.invariant.indexed c.meet.ensures.there here).1 in
    λ tells. subst (λ (k : Key). HasPart (g.S.Store.held c.self.inside.store k) c.args.off (length c.args.buf.now)) (sym key)
    (has_part _ kept.bytes c.args.off (length c.args.buf.now) (c.self.invariant.stored tells kept.serial kept held) c.requires.within)

pub returns-in-Ok-clause-bytes : goal.returns-in-Ok-clause-bytes
returns-in-Ok-clause-bytes g c =
    let kept = named c.args.receipt.now in
    let index = hash.get eqb c.self.inside.index in
    let key : c.key-key.result ≡ key_of kept = c.key-key.ensures ∙ ap (λ r. key_of (named r)) c.meet.ensures.kept in
    let there : is_some (index c.key-key.result.serial) ≡ true = cc in
    let here : is_some (index kept.serial) ≡ true = subst (λ (k : Key). is_some (hash.get eqb c.self.inside.index k.serial) ≡ true) key there in
    let held = (found index c.self.inside.log.items kept c.self.invariant.indexed c.meet.ensures.there here).1 in
    λ tells. is_part _ kept.bytes c.args.off c.read.new.buf
    (ap (λ (k : Key). g.S.Store.held c.self.inside.store k) key ∙ c.self.invariant.stored tells kept.serial kept held) (c.in-Ok.ensures.bytes tells)

pub returns-in-Ok-clause-told : goal.returns-in-Ok-clause-told
returns-in-Ok-clause-told g c = λ told. returns-in-Ok-clause-bytes g c (c.self.invariant.tells told)

-- the store failed, and the log has it
pub invariant_of-self-2 : goal.invariant_of-self-2
invariant_of-self-2 g c =
    let old = c.self.inside.store in
    let new = c.read.new.self in
    let failed = c.in-Err.ensures in
    faulted_inv g.S.Store g.N.Names.told g.N.Names.stores c.self.inside.past.log c.self.inside.log c.fault.new.self c.self.inside.past.items c.self.inside.fault _ old new
    (hash.get eqb c.self.inside.index) (hash.get eqb c.self.inside.index) c.self.invariant
    (cc) (failed_moves g.S.Store old new failed.counts.never_falls failed.same (λ sure. absurd (cc (failed.faultless sure)))) failed.counts.cause
    (λ q. refl) failed.stays
