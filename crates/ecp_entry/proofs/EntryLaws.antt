-- The words and numbers of an act, a part and a deed give it back.
use Rattle.std.proofs.Common.{◌≡◌, ℕ, Option, Some, None, refl}
use Rattle.std.proofs.Common.{◌≤◌, length, lit≤}
use Rattle.ecp_entry.specs.JournalText.{act_words}
use Rattle.ecp_entry.specs.ReplyText.{ended_words}
use Rattle.ecp_entry.specs.declared.act.Act.{Act}
use Rattle.ecp_entry.specs.declared.act.Act.TheVariants.{Stored, NameTaken, TooFewNodes, StoreFailed, Data, NoSuchFile, NoSuchBlock, Unrecoverable, Unsteady, Opened, Whole, Broken, Lost, NoSuchNode, NodeDown, Joined, NodeUp, Listed, NoNode, TargetDown, Restored, AlreadyLive, Clash, Gone, MendFailed, MendUnsteady, MendDown, Rebuilt, Stat, Drop}
use Rattle.ecp_entry.specs.declared.deed.Deed.{Deed}
use Rattle.ecp_entry.specs.declared.deed.Deed.TheVariants as deed
use Rattle.ecp_entry.specs.declared.part.Part.{Part}
use Rattle.ecp_entry.specs.declared.part.Part.TheVariants as part
use Rattle.ecp_entry.specs.Entries.{act_word, act_numbers, part_numbers, deed_word, deed_name, deed_numbers}
use Rattle.ecp_entry.specs.ReadBack.{part_from, act_from, deed_from}

pub part_from-numbers : (p : Part) → part_from (part_numbers p) ≡ p
part_from-numbers (part.Part j) = refl
part_from-numbers part.End = refl

pub act_from-words : (a : Act) → act_from (act_word a) (act_numbers a) ≡ a
act_from-words (Stored first stripes up) = refl
act_from-words NameTaken = refl
act_from-words (TooFewNodes up) = refl
act_from-words (StoreFailed node) = refl
act_from-words Data = refl
act_from-words NoSuchFile = refl
act_from-words (NoSuchBlock count) = refl
act_from-words (Unrecoverable live) = refl
act_from-words (Unsteady at) = refl
act_from-words (Opened len count first) = refl
act_from-words Whole = refl
act_from-words (Broken index) = refl
act_from-words (Lost count) = refl
act_from-words NoSuchNode = refl
act_from-words NodeDown = refl
act_from-words (Joined inc) = refl
act_from-words NodeUp = refl
act_from-words (Listed count) = refl
act_from-words (NoNode node) = refl
act_from-words (TargetDown node) = refl
act_from-words (Restored stripe row node inc) = refl
act_from-words (AlreadyLive stripe row) = refl
act_from-words (Clash stripe row other) = refl
act_from-words (Gone stripe row live) = refl
act_from-words (MendFailed stripe row node) = refl
act_from-words (MendUnsteady stripe row at) = refl
act_from-words (MendDown stripe row node) = refl
act_from-words (Rebuilt restored live clash gone failed unsteady down) = refl
act_from-words (Stat len count live) = refl
act_from-words (Drop stripe row) = refl

pub deed_from-words : (d : Option Deed) → deed_from (deed_word d) (deed_name d) (deed_numbers d) ≡ d
deed_from-words (Some (deed.Put name len)) = refl
deed_from-words (Some (deed.Read name index)) = refl
deed_from-words (Some (deed.Sum name index)) = refl
deed_from-words (Some (deed.Cat name)) = refl
deed_from-words (Some (deed.Lose node)) = refl
deed_from-words (Some (deed.Join node)) = refl
deed_from-words (Some (deed.Rebuild from to)) = refl
deed_from-words (Some (deed.Stat name)) = refl
deed_from-words None = refl

-- no word is long
pub length-act_word : (a : Act) → length (act_word a) ≤ 14
length-act_word (Stored first stripes up) = lit≤ tt
length-act_word NameTaken = lit≤ tt
length-act_word (TooFewNodes up) = lit≤ tt
length-act_word (StoreFailed node) = lit≤ tt
length-act_word Data = lit≤ tt
length-act_word NoSuchFile = lit≤ tt
length-act_word (NoSuchBlock count) = lit≤ tt
length-act_word (Unrecoverable live) = lit≤ tt
length-act_word (Unsteady at) = lit≤ tt
length-act_word (Opened len count first) = lit≤ tt
length-act_word Whole = lit≤ tt
length-act_word (Broken index) = lit≤ tt
length-act_word (Lost count) = lit≤ tt
length-act_word NoSuchNode = lit≤ tt
length-act_word NodeDown = lit≤ tt
length-act_word (Joined inc) = lit≤ tt
length-act_word NodeUp = lit≤ tt
length-act_word (Listed count) = lit≤ tt
length-act_word (NoNode node) = lit≤ tt
length-act_word (TargetDown node) = lit≤ tt
length-act_word (Restored stripe row node inc) = lit≤ tt
length-act_word (AlreadyLive stripe row) = lit≤ tt
length-act_word (Clash stripe row other) = lit≤ tt
length-act_word (Gone stripe row live) = lit≤ tt
length-act_word (MendFailed stripe row node) = lit≤ tt
length-act_word (MendUnsteady stripe row at) = lit≤ tt
length-act_word (MendDown stripe row node) = lit≤ tt
length-act_word (Rebuilt restored live clash gone failed unsteady down) = lit≤ tt
length-act_word (Stat len count live) = lit≤ tt
length-act_word (Drop stripe row) = lit≤ tt

-- the words of a reply are those of the journal, but for two acts
pub ended_words-plain : (a : Act) → ((x y z : ℕ) → a ≡ Stored x y z → ⊥) → ((p q r s t u v : ℕ) → a ≡ Rebuilt p q r s t u v → ⊥) → ended_words a ≡ act_words a
ended_words-plain (Stored x y z) h g = absurd (h x y z refl)
ended_words-plain (Rebuilt p q r s t u v) h g = absurd (g p q r s t u v refl)
ended_words-plain _ h g = refl
