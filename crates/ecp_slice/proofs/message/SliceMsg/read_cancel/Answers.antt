use Rattle.std.proofs.Common.{sym, subst}
use Rattle.ecp_slice.specs.MessageParts.{IsMessage}
use Rattle.ecp_slice.proofs.Handles.{with_handle}
use Rattle.ecp_slice.proofs.message.SliceMsg.read_cancel.Goals as goal

pub invariant_of-self : goal.invariant_of-self
invariant_of-self g c =
    with_handle g.N.Names.shape g.N.Names.told c.deref_mut.result.now c.read.new.self
    (subst (IsMessage g.N.Names.shape g.N.Names.told) (sym c.deref_mut.ensures.value) c.self.invariant)
