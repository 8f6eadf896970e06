-- A call that is answered by the digest of its bytes.
use Rattle.std.proofs.Common.{◌≡◌, ℕ, Bool, true, false, List, [], Result, Ok, Err, IfOk, refl, sym, ◌∙◌, ap, subst}
use Rattle.ecp_shape.specs.declared.shape.Shape.{Shape}
use Rattle.ecp_entry.specs.declared.act.Act.{Act}
use Rattle.ecp_entry.specs.declared.act.Act.TheVariants as act
use Rattle.ecp_entry.specs.declared.deed.Deed.{Deed}
use Rattle.ecp_history.specs.Parts.{is_data}
use Rattle.ecp_sequencer.specs.Passes.{PassState}
use Rattle.ecp_cluster.specs.Answered.{Answered, HasBegun}
use Rattle.ecp_cluster.specs.Concluded.{Concludes}
use Rattle.ecp_cluster.specs.Summed.{Summed, digest_of, no_digest}
use Rattle.ecp_cluster.specs.declared.answer.Answer.{Answer}
use Rattle.ecp_cluster.proofs.CallLaws.{answered_after}

-- no act but data is data
pub no_data : (a : Act) → (a ≡ act.Data → ⊥) → is_data a ≡ false
no_data act.Data off = absurd (off refl)
no_data _ off = refl

-- a call that began, and was concluded with the bytes of one answer, was answered by the other, which has their digest
pub summed : (shape : Shape) (told : Bool) (u v w : PassState) (asked : Deed) (read a : Answer) → HasBegun u asked v → Concludes shape told v asked read.act read.bytes w → a.act ≡ read.act → a.bytes ≡ []
    → a.by_digest ≡ true → a.digest ≡ digest_of read.act read.bytes → Summed shape told u asked a w
summed shape told u v w asked read a began c same none by_digest digest = record {
  by_digest = by_digest;
  bytes = read.bytes;
  answered = subst (λ (x : Act). Answered shape told u asked x read.bytes w) (sym same) (answered_after shape told u v w asked read.act read.bytes began c);
  none = none;
  digest = digest ∙ ap (λ (x : Act). digest_of x read.bytes) (sym same);
}
