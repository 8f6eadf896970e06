use Rattle.std.proofs.Common.{◌≡◌, ◌⊎◌, ℕ, true, length, sym, ◌∙◌, ap, subst, arith}
use mathlib.Core.List.{IsPrefix}
use Rattle.std.proofs.Math.ListN.{set}
use Rattle.std.specs.Prelude.{count_by}
use Rattle.std.proofs.lemmas.List.{with_items_is}
use Rattle.ecp_book.specs.Logs.{Known, Log}
use Rattle.ecp_slice.specs.Messages.{Message, IsFull}
use Rattle.ecp_slice.specs.Sound.{IsSound}
use Rattle.ecp_requestor.specs.declared.accepted.Accepted.TheVariants.{Taken}
use Rattle.ecp_requestor.specs.Accepting.{answer_to, with_slice}
use Rattle.ecp_requestor.specs.Assemblies.{AssemblyState, IsAssembly}
use Rattle.ecp_requestor.specs.AssemblyParts.{assembly_seen}
use Rattle.ecp_requestor.proofs.Answered.{Belongs, belongs, are_one}
use Rattle.ecp_requestor.proofs.Counting.{one_more}
use Rattle.ecp_requestor.proofs.Taking.{Fits, fits, seen_with, sound_more}
use Rattle.ecp_requestor.proofs.Writing.{written_is, length-written}
use Rattle.ecp_requestor.proofs.assembly.Assembly.take.Goals as goal

pub invariant_of-self : goal.invariant_of-self
invariant_of-self g c =
    let shape = g.N.Names.shape in
    let told = g.N.Names.told in
    let a : AssemblyState = assembly_seen c.self.inside in
    let m : Message = c.front-front.new.self in
    let before = c.self.invariant in
    let sound : IsSound shape told m = c.payload-payload.ensures.sound in
    let full : IsFull m = subst IsFull (sym c.front-front.ensures.kept) c.requires.full in
    let taken : answer_to a m ≡ Taken = ap (λ (x : AssemblyState). answer_to x m) c.self.view_is ∙ ap (answer_to c.args.self.now) c.front-front.ensures.kept ∙ c.requires.taken in
    let belong : Belongs a m = belongs a m taken in
    let fit : Fits a m = fits shape told a m before.sound sound (are_one a m belong.of_repair) in
    let front : c.front-front.result.items ≡ m.front =
    ap (λ (t : Known). t.items) c.front-front.ensures.front ∙ ap (λ (x : Message). x.front) (sym c.front-front.ensures.kept) in
    let met : IsPrefix a.front m.front ⊎ IsPrefix m.front a.front = subst (λ (xs : Log). IsPrefix a.front xs ⊎ IsPrefix xs a.front) front c.meet_tags.ensures.prefix in
    let there : set a.there c.slice.result true ≡ (with_slice a m).there = ap (λ (n : ℕ). set a.there n true) c.slice.ensures in
    let bytes =
    written_is a.bytes m.payload c.deref_mut.result.now c.copy_from_slice.new.self m.off c.off-start.result (length c.payload-payload.result.now)
    c.deref_mut.ensures.value (c.copy_from_slice.ensures.after ∙ c.payload-payload.ensures.payload) c.off-start.ensures (ap length c.payload-payload.ensures.payload) in
    let room = with_items_is c.self.inside.room _ (ap length bytes ∙ length-written a.bytes m.payload m.off fit.ends ∙ sym c.self.inside.room.ok.0) in
    record {
      of_history = ap (λ (t : Known). t.log) c.meet_tags.ensures.a ∙ before.of_history;
      counted =
          omega (arith, before.counted, one_more a.there m.slice (omega (arith, fit.low, before.sound.places)) belong.missing, ap (λ (n : ℕ). count_by (λ x. x) (set a.there n true)) c.slice.ensures);
      sound =
          subst (IsAssembly shape told) (sym (seen_with a m c.meet_tags.new.a.items _ _ (ap (λ (t : Known). t.items) c.meet_tags.ensures.a) there (room ∙ bytes)))
          (sound_more shape told a m before.sound sound full belong met);
    }

pub returns-clause-sound : goal.returns-clause-sound
returns-clause-sound g c = (invariant_of-self g c).sound
