use Rattle.std.proofs.Common.{◌≡◌, ◌<◌, List, ℕ, refl, sym, ◌∙◌, ap, subst, length, take}
use Rattle.std.specs.Vec.{with_items}
use Rattle.std.proofs.lemmas.List.{with_items_is}
use Rattle.ecp_plan.specs.Order.{slice_count}
use Rattle.ecp_slice.specs.Messages.{Message}
use Rattle.ecp_slice.specs.MessageParts.{message_seen, IsMessage}
use Rattle.ecp_slice.proofs.SoundMessages.{begun}
use Rattle.ecp_slice.proofs.message.SliceMsg.restart_for.Goals as goal

pub invariant_of-self : goal.invariant_of-self
invariant_of-self g c =
    let parts = c.deref_mut-parts.result.now in
    let met = c.deref_mut-parts.ensures.value in
    let before : IsMessage g.N.Names.shape g.N.Names.told parts = subst (IsMessage g.N.Names.shape g.N.Names.told) (sym met) c.self.invariant in
    let view_is : message_seen parts ≡ c.args.self.now = ap message_seen met ∙ c.self.view_is in
    let named = before.sound.named in
    let bytes : (with_items parts.room c.clear.new.room).items ≡ c.clear.new.room =
    with_items_is parts.room c.clear.new.room (c.clear.auto.room ∙ c.as_mut_slice.ensures.len) in
    record {
      of_history = before.of_history;
      roomy = ap length bytes ∙ c.clear.auto.room ∙ ap length c.as_mut_slice.ensures.value ∙ before.roomy;
      few = before.few;
      sound =
          begun g.N.Names.shape g.N.Names.told _ before.sound.planned
          (record { of_stripe = named.of_stripe; of_rows = named.of_rows; of_nodes = named.of_nodes })
          (record {
            of_block = subst (λ (m : Message). c.args.slice < slice_count m.block m.size) (sym view_is) c.requires;
            begins = c.of-parts.ensures.begins;
            ends = c.of-parts.ensures.ends;
          })
          refl refl (ap (λ (xs : List ℕ). take c.of-parts.result.len xs) bytes ∙ c.clear.ensures);
    }
