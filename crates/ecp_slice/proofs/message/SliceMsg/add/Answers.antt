use Rattle.std.proofs.Common.{◌≡◌, ◌<◌, ◌^◌, ◌*◌, ◌%◌, ℕ, sym, ◌∙◌, ap, subst, length, take, get_or, arith}
use Rattle.std.specs.Prelude.{IsTrue, bit_or}
use Rattle.std.specs.Vec.{with_items}
use Rattle.std.proofs.lemmas.List.{with_items_is, get_or_read}
use Rattle.ecp_plan.proofs.OrderLaws.{helper_within}
use Rattle.ecp_slice.specs.Messages.{Message, helpers, next_hop, HasNext, receipt_at, slice_of, after_add}
use Rattle.ecp_slice.specs.MessageParts.{message_seen, IsMessage}
use Rattle.ecp_slice.specs.Sound.{IsSound}
use Rattle.ecp_slice.proofs.Bits.{shifted}
use Rattle.ecp_slice.proofs.Receipts.{weight_count}
use Rattle.ecp_slice.proofs.SoundMessages.{seen_after, sound_more}
use Rattle.ecp_slice.proofs.message.SliceMsg.add.Goals as goal

pub invariant_of-self : goal.invariant_of-self
invariant_of-self g c =
    let parts = c.deref_mut-parts.result.now in
    let met = c.deref_mut-parts.ensures.value in
    let before : IsMessage g.N.Names.shape g.N.Names.told parts = subst (IsMessage g.N.Names.shape g.N.Names.told) (sym met) c.self.invariant in
    let view_is : message_seen parts ≡ c.args.self.now = ap message_seen met ∙ c.self.view_is in
    let m : Message = message_seen parts in
    let more : HasNext m = subst HasNext (sym view_is) c.requires.more in
    let hop : c.args.hop ≡ next_hop m = c.requires.hop ∙ sym (ap next_hop view_is) in
    let low : c.args.hop < helpers m = subst (λ (n : ℕ). n < helpers m) (sym hop) (helper_within m.lanes (helpers m) m.slice m.at before.sound.planned.lanes_are more) in
    let size : length c.args.bytes.now ≡ m.len = c.requires.len ∙ sym (ap (λ (x : Message). x.len) view_is) in
    let is : IsTrue g.N.Names.told → c.args.bytes.now ≡ slice_of m (receipt_at m (next_hop m)).bytes = λ telling.
    c.requires.bytes telling ∙ sym (ap (λ (x : Message). slice_of x (receipt_at x c.args.hop).bytes) view_is) ∙ ap (λ (n : ℕ). slice_of m (receipt_at m n).bytes) hop in
    let weight : c.index-weight.result.now ≡ get_or m.weights c.args.hop 0 =
    get_or_read m.weights c.from.result c.index-weight.result.now (omega (arith, c.from.ensures, weight_count g.N.Names.shape g.N.Names.told m before.sound)) c.index-weight.ensures 0
    ∙ ap (λ (n : ℕ). get_or m.weights n 0) c.from.ensures in
    let written = with_items_is parts.room c.add_scaled.new.room (c.add_scaled.auto.room ∙ c.as_mut_slice.ensures.len) in
    let seen =
    seen_after m c.args.hop (bit_or parts.summed (1 * 2 ^ c.args.hop % 4294967296)) c.index-weight.result.now c.args.bytes.now c.as_mut_slice.result.now c.add_scaled.new.room
    (with_items parts.room c.add_scaled.new.room).items (ap (take m.len) (sym c.as_mut_slice.ensures.value)) before.sound.summed_up.empty
    (ap (bit_or parts.summed) (shifted c.args.hop (omega (arith, before.few)))) weight size c.add_scaled.ensures written in
    record {
      of_history = before.of_history;
      roomy = ap length written ∙ c.add_scaled.auto.room ∙ ap length c.as_mut_slice.ensures.value ∙ before.roomy;
      few = before.few;
      sound =
          subst (IsSound g.N.Names.shape g.N.Names.told) (sym (seen ∙ ap (λ (n : ℕ). after_add m n c.args.bytes.now) hop))
          (sound_more g.N.Names.shape g.N.Names.told m c.args.bytes.now before.sound more size is);
    }

pub returns : goal.returns
returns g c =
    let parts = c.deref_mut-parts.result.now in
    let met = c.deref_mut-parts.ensures.value in
    let before : IsMessage g.N.Names.shape g.N.Names.told parts = subst (IsMessage g.N.Names.shape g.N.Names.told) (sym met) c.self.invariant in
    let view_is : message_seen parts ≡ c.args.self.now = ap message_seen met ∙ c.self.view_is in
    let m : Message = message_seen parts in
    let more : HasNext m = subst HasNext (sym view_is) c.requires.more in
    let hop : c.args.hop ≡ next_hop m = c.requires.hop ∙ sym (ap next_hop view_is) in
    let low : c.args.hop < helpers m = subst (λ (n : ℕ). n < helpers m) (sym hop) (helper_within m.lanes (helpers m) m.slice m.at before.sound.planned.lanes_are more) in
    let size : length c.args.bytes.now ≡ m.len = c.requires.len ∙ sym (ap (λ (x : Message). x.len) view_is) in
    let weight : c.index-weight.result.now ≡ get_or m.weights c.args.hop 0 =
    get_or_read m.weights c.from.result c.index-weight.result.now (omega (arith, c.from.ensures, weight_count g.N.Names.shape g.N.Names.told m before.sound)) c.index-weight.ensures 0
    ∙ ap (λ (n : ℕ). get_or m.weights n 0) c.from.ensures in
    let written = with_items_is parts.room c.add_scaled.new.room (c.add_scaled.auto.room ∙ c.as_mut_slice.ensures.len) in
    let seen =
    seen_after m c.args.hop (bit_or parts.summed (1 * 2 ^ c.args.hop % 4294967296)) c.index-weight.result.now c.args.bytes.now c.as_mut_slice.result.now c.add_scaled.new.room
    (with_items parts.room c.add_scaled.new.room).items (ap (take m.len) (sym c.as_mut_slice.ensures.value)) before.sound.summed_up.empty
    (ap (bit_or parts.summed) (shifted c.args.hop (omega (arith, before.few)))) weight size c.add_scaled.ensures written in
    seen ∙ ap (λ (x : Message). after_add x c.args.hop c.args.bytes.now) view_is
