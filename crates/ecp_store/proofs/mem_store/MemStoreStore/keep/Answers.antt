use Rattle.std.proofs.Common.{◌≡◌, Some, ap, arith}
use Rattle.std.proofs.lemmas.Grind.{common_steps}
use Rattle.ecp_store.proofs.MemStoreLaws.{puts}
use Rattle.ecp_store.proofs.mem_store.MemStoreStore.keep.Goals as goal

pub returns-clause-ok : goal.returns-clause-ok
returns-clause-ok c =
    let copied : c.new-block.result ≡ c.args.bytes.now = grind (arith, common_steps) in
    puts c.args.key (Some c.args.bytes.now) _ _ (ap (λ s. s.blocks) c.self.view_is) (ap (λ bytes. Some bytes) copied) c.in_ok-insert.ensures.updates.0
