use Rattle.std.proofs.Common.{None, refl, ap}
use Rattle.ecp_store.proofs.MemStoreLaws.{puts}
use Rattle.ecp_store.proofs.mem_store.MemStoreStore.remove.Goals as goal

pub returns-clause-ok : goal.returns-clause-ok
returns-clause-ok c = puts c.args.key None _ _ (ap (λ s. s.blocks) c.self.view_is) refl c.remove.ensures.updates.0
