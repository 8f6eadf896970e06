-- The text of the replies.
use Rattle.std.specs.Prelude.{ℕ, Bool, true, false, if◌then◌else◌, List, [], ◌∷◌, ◌++◌, codes, decimal}
use Rattle.std.specs.List.{join_with_byte}
use Rattle.ecp_text.specs.declared.bytes.TheConstants.{SPACE, LINE_FEED}
use Rattle.hex.specs.Hex.{encode_lower}
use Rattle.ecp_entry.specs.declared.act.Act.{Act}
use Rattle.ecp_entry.specs.declared.act.Act.TheVariants.{Stored, Data, Whole, Broken, Rebuilt}
use Rattle.ecp_entry.specs.declared.deed.Deed.{Deed}
use Rattle.ecp_entry.specs.declared.deed.Deed.TheVariants as deed
use Rattle.ecp_entry.specs.declared.reply.Reply.{Reply}
use Rattle.ecp_entry.specs.declared.reply.Reply.TheVariants as reply
use Rattle.ecp_entry.specs.JournalText.{act_words}

-- the data of a `sum` are answered by their digest, and those of a `read` by themselves
abbrev pub data_reply : Deed → Reply
data_reply (deed.Sum name index) = reply.Sum
data_reply _ = reply.Data

-- the reply to a call by the act that ended it. For a `cat` len is the length in its `Opened`, and cause the act of its last part
abbrev pub reply_of : Deed → Act → ℕ → Act → Reply
reply_of deed Data len cause = data_reply deed
reply_of deed Whole len cause = reply.File len
reply_of deed (Broken index) len cause = reply.Broken index cause
reply_of deed act len cause = reply.Ended act

-- the words of the act that ended a call: those of the journal, but that `stored` has no mask, and `rebuilt` says what it counts
abbrev pub ended_words : Act → List (List ℕ)
ended_words (Stored first stripes up) = codes "stored" ∷ decimal first ∷ decimal stripes ∷ []
ended_words (Rebuilt restored live clash gone failed unsteady down) =
    codes "rebuilt" ∷ decimal restored ∷ codes "live" ∷ decimal live ∷ codes "clash" ∷ decimal clash
    ∷ codes "gone" ∷ decimal gone ∷ codes "failed" ∷ decimal failed ∷ codes "unsteady" ∷ decimal unsteady
    ∷ codes "down" ∷ decimal down ∷ []
ended_words act = act_words act

-- the words of a reply that stand before its hexadecimal, if it has any
abbrev pub reply_words : Reply → List (List ℕ)
reply_words (reply.Ended act) = ended_words act
reply_words reply.Data = codes "data" ∷ []
reply_words reply.Sum = codes "sum" ∷ []
reply_words (reply.File len) = codes "file" ∷ decimal len ∷ []
reply_words (reply.Broken index cause) = codes "broken" ∷ decimal index ∷ act_words cause

-- whether a reply ends in hexadecimal
abbrev pub has_hex : Reply → Bool
has_hex (reply.Ended act) = false
has_hex reply.Data = true
has_hex reply.Sum = true
has_hex (reply.File len) = true
has_hex (reply.Broken index cause) = false

-- what a reply prints in hexadecimal: the bytes of the block, or the digest
abbrev pub payload : Reply → List ℕ → List ℕ → List ℕ
payload reply.Data bytes digest = bytes
payload _ bytes digest = digest

-- a reply line up to its hexadecimal, or to its end where it has none
abbrev pub reply_start : Reply → List ℕ
reply_start reply = join_with_byte SPACE (reply_words reply) ++ (if has_hex reply then SPACE else LINE_FEED) ∷ []

-- the rest of a reply line: lower-case hexadecimal and the line end
abbrev pub reply_rest : Reply → List ℕ → List ℕ
reply_rest reply hidden = if has_hex reply then encode_lower hidden ++ LINE_FEED ∷ [] else []

-- a reply line: its words with single spaces, and a line end
abbrev pub reply_line : Reply → List ℕ → List ℕ → List ℕ
reply_line reply bytes digest = reply_start reply ++ reply_rest reply (payload reply bytes digest)
