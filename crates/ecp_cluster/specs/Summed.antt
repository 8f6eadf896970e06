-- The digest of a block, and a call that was answered by it.
use Rattle.std.specs.Prelude.{◌≡◌, ℕ, Bool, true, if◌then◌else◌, List, [], replicate}
use Rattle.sha2.specs.Sha256.{sha256}
use Rattle.ecp_shape.specs.declared.shape.Shape.{Shape}
use Rattle.ecp_entry.specs.declared.act.Act.{Act}
use Rattle.ecp_entry.specs.declared.deed.Deed.{Deed}
use Rattle.ecp_history.specs.Parts.{is_data}
use Rattle.ecp_sequencer.specs.Passes.{PassState}
use Rattle.ecp_cluster.specs.declared.answer.Answer.{Answer}
use Rattle.ecp_cluster.specs.Answered.{Answered}

-- no digest: 32 zeros
abbrev pub no_digest : List ℕ
no_digest = replicate 32 0

-- the digest of these bytes where an act is data, else none
abbrev pub digest_of : Act → List ℕ → List ℕ
digest_of what bytes = if is_data what then sha256 bytes else no_digest

-- a call that was answered by the digest of the block's bytes, which it does not give
pub record Summed (shape : Shape) (told : Bool) (v : PassState) (asked : Deed) (a : Answer) (w : PassState) : Type 0 where
  pub bytes : List ℕ
  pub answered : Answered shape told v asked a.act bytes w
  pub none : a.bytes ≡ []
  pub by_digest : a.by_digest ≡ true
  pub digest : a.digest ≡ digest_of a.act bytes
