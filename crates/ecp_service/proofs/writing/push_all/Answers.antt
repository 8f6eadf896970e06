use Rattle.std.proofs.Common.{◌∙◌, ℕ, arith, length-drop}
use Rattle.ecp_store.proofs.PushLaws.{pushed-front}
use Rattle.ecp_service.proofs.writing.push_all.Goals as goal

pub loop-pushed-preserved : goal.loop-pushed-preserved
loop-pushed-preserved g c =
    let e = c.in_ok-pushed.ensures in
    let was = c.loop-pushed.invariant in
    record {
      within = omega (arith, length-drop {A = ℕ}, e.within);
      sound = e.kept ∙ was.sound;
      appended = λ told. pushed-front _ _ _ _ _ _ (was.appended told) (e.appends told);
    }
