-- What the act that ended a call says of its parts, of its entry and of its reply.
use Rattle.std.proofs.Common.{◌≡◌, ◌⊎◌, ℕ, nat_lt, Bool, true, false, cond, List, [], length, Option, Some, inl, inr, refl, sym, ◌∙◌, subst, ap, arith}
use Rattle.std.specs.Option.{option_map_or}
use Rattle.std.proofs.lemmas.Bool.{false≢true, le-ltb}
use Rattle.sha2.specs.Sha256.{sha256}
use Rattle.ecp_cluster.specs.Puts.{bytes_stored}
use Rattle.ecp_cluster.specs.Summed.{digest_of, no_digest}
use Rattle.ecp_cluster.specs.Whole.{count_in, opened_count, parts_by}
use Rattle.ecp_cluster.specs.declared.answer.Answer.{Answer}
use Rattle.ecp_command.specs.declared.input.call.Call.{Call}
use Rattle.ecp_command.specs.declared.input.call.Call.TheVariants.{Put, Read, Sum, Cat, Lose, Join, Rebuild, Stat}
use Rattle.ecp_entry.specs.declared.act.Act.{Act}
use Rattle.ecp_entry.specs.declared.act.Act.TheVariants.{Stored, Data, Whole, Broken, Rebuilt}
use Rattle.ecp_entry.specs.declared.deed.Deed.TheVariants as deed
use Rattle.ecp_entry.specs.declared.entry.Entry.{Entry}
use Rattle.ecp_entry.specs.declared.reply.Reply.{Reply}
use Rattle.ecp_entry.specs.declared.reply.Reply.TheVariants as reply
use Rattle.ecp_entry.specs.ReplyText.{data_reply, reply_line, reply_of}
use Rattle.ecp_history.specs.Calls.{Kind, ToPut, ToRead, ToCat, ToLose, ToRebuild, AtEnd, AtLater, FitsCall, kind_of}
use Rattle.ecp_history.specs.Files.{is_stored}
use Rattle.ecp_history.specs.Parts.{is_data}
use Rattle.ecp_service.specs.Asked.{deed_of, put_bytes}
use Rattle.ecp_service.specs.Servable.{IsServable}
use Rattle.ecp_service.specs.Served.{Gives, HasParts, TellsFile, answer_line, reply_by}
use Rattle.ecp_service.specs.Serves.{part_count}
use Rattle.ecp_service.proofs.served.Lists.{one_if}
use Rattle.ecp_service.proofs.served.Parts.{AreAsked, count_part, find_part, first_count, opened_of}

-- a call that has no part
abbrev pub IsSingle : Call → Type 0
IsSingle (Cat name) = ⊥
IsSingle (Rebuild from to) = ⊥
IsSingle _ = Unit {0}

-- a call that is served has none, or reads a file whole
abbrev pub IsFile : Call → Type 0
IsFile call = (name : List ℕ) × (call ≡ Cat name)

pub kinds_served : (call : Call) → IsServable call → IsSingle call ⊎ IsFile call
kinds_served (Put name bytes) plain = inl tt
kinds_served (Read name index) plain = inl tt
kinds_served (Sum name index) plain = inl tt
kinds_served (Cat name) plain = inr (name, refl)
kinds_served (Lose node) plain = inl tt
kinds_served (Join node) plain = inl tt
kinds_served (Rebuild from to) plain = absurd plain
kinds_served (Stat name) plain = inl tt

-- the reply to a call that has no part
abbrev pub simple_reply : Call → Act → Reply
simple_reply call act = cond (is_data act) (data_reply (deed_of call)) (reply.Ended act)

-- a call that ends with this act is replied to so
abbrev pub IsReplied : Act → Call → Type 0
IsReplied act call = (len : ℕ) (cause : Act) → reply_of (deed_of call) act len cause ≡ simple_reply call act

-- the kind of a call
abbrev pub kind_for : Call → Kind
kind_for call = kind_of (Some (deed_of call))

stored_put : (kind : Kind) (act : Act) → FitsCall kind AtEnd act → is_stored act ≡ true → kind ≡ ToPut
stored_put kind (Stored first stripes up) fits stored = fits.0
stored_put kind _ fits stored = absurd (false≢true stored)

bytes_storedtes : (act : Act) (bytes : List ℕ) → is_stored act ≡ true → bytes_stored act bytes ≡ bytes
bytes_storedtes (Stored first stripes up) bytes stored = refl
bytes_storedtes _ bytes stored = absurd (false≢true stored)

-- a call whose entry stores a file has its bytes there
pub stored_is : (call : Call) (a : Answer) (entered : List ℕ) → Gives call a entered → FitsCall (kind_for call) AtEnd a.act → is_stored a.act ≡ true → entered ≡ put_bytes call
stored_is (Put name bytes) a entered gives fits stored = gives ∙ bytes_storedtes a.act bytes stored
stored_is (Read name index) a entered gives fits stored = let is : ToRead ≡ ToPut = stored_put ToRead a.act fits stored in absurd (cc)
stored_is (Sum name index) a entered gives fits stored = let is : ToRead ≡ ToPut = stored_put ToRead a.act fits stored in absurd (cc)
stored_is (Cat name) a entered gives fits stored = let is : ToCat ≡ ToPut = stored_put ToCat a.act fits stored in absurd (cc)
stored_is (Lose node) a entered gives fits stored = let is : ToLose ≡ ToPut = stored_put ToLose a.act fits stored in absurd (cc)
stored_is (Join node) a entered gives fits stored = let is : kind_for (Join node) ≡ ToPut = stored_put (kind_for (Join node)) a.act fits stored in absurd (cc)
stored_is (Rebuild from to) a entered gives fits stored = let is : ToRebuild ≡ ToPut = stored_put ToRebuild a.act fits stored in absurd (cc)
stored_is (Stat name) a entered gives fits stored = let is : kind_for (Stat name) ≡ ToPut = stored_put (kind_for (Stat name)) a.act fits stored in absurd (cc)

-- ---- a call that has no part

no_cat : (call : Call) → IsSingle call → kind_for call ≡ ToCat → ⊥
no_cat (Put name bytes) plain is = absurd (cc)
no_cat (Read name index) plain is = absurd (cc)
no_cat (Sum name index) plain is = absurd (cc)
no_cat (Lose node) plain is = absurd (cc)
no_cat (Join node) plain is = absurd (cc)
no_cat (Stat name) plain is = absurd (cc)
no_cat _ plain is = absurd plain

no_rebuild : (call : Call) → IsSingle call → kind_for call ≡ ToRebuild → ⊥
no_rebuild (Put name bytes) plain is = absurd (cc)
no_rebuild (Read name index) plain is = absurd (cc)
no_rebuild (Sum name index) plain is = absurd (cc)
no_rebuild (Lose node) plain is = absurd (cc)
no_rebuild (Join node) plain is = absurd (cc)
no_rebuild (Stat name) plain is = absurd (cc)
no_rebuild _ plain is = absurd plain

parts_none : (call : Call) (act : Act) → IsSingle call → FitsCall (kind_for call) AtEnd act → (opened : ℕ) → part_count opened act ≡ 0
parts_none call Whole plain fits opened = absurd (no_cat call plain fits.0)
parts_none call (Broken index) plain fits opened = absurd (no_cat call plain fits.0)
parts_none call (Rebuilt restored live clash gone failed unsteady down) plain fits opened = absurd (no_rebuild call plain fits.0)
parts_none call _ plain fits opened = refl

single_none : (call : Call) (a : Answer) (parts : List Entry) → IsSingle call → HasParts call a parts → parts ≡ []
single_none (Put name bytes) a parts plain has = has
single_none (Read name index) a parts plain has = has
single_none (Sum name index) a parts plain has = has
single_none (Cat name) a parts plain has = absurd plain
single_none (Lose node) a parts plain has = has
single_none (Join node) a parts plain has = has
single_none (Rebuild from to) a parts plain has = absurd plain
single_none (Stat name) a parts plain has = has

-- ---- the parts are those that the end asks for

none_asked : (act : Act) → ((opened : ℕ) → part_count opened act ≡ 0) → AreAsked [] act
none_asked act none j = sym (ap (λ (n : ℕ). one_if (nat_lt j n)) (none 0) ∙ ap one_if (le-ltb j 0 (omega arith)))

-- the parts of a file that is read whole are as many as the end asks for
same_count : (count : ℕ) (act : Act) → FitsCall ToCat AtEnd act → parts_by count act ≡ part_count count act
same_count count (Rebuilt restored live clash gone failed unsteady down) fits = let is : ToCat ≡ ToRebuild = fits.0 in absurd (cc)
same_count count _ fits = refl

file_asked : (a : Answer) (parts : List Entry) → FitsCall ToCat AtEnd a.act → TellsFile a parts → AreAsked parts a.act
file_asked a parts fits tells j =
    let opened : opened_of parts ≡ count_in parts =
    ap (λ (o : Option Entry). option_map_or (λ e. opened_count e.line.act) o 0) (find_part 0 parts tells.numbered) ∙ first_count parts in
    let many : length parts ≡ part_count (opened_of parts) a.act =
    tells.counted ∙ same_count (count_in parts) a.act fits ∙ ap (λ (n : ℕ). part_count n a.act) (sym opened) in
    count_part j parts tells.numbered ∙ ap (λ (n : ℕ). one_if (nat_lt j n)) many

pub parts_asked : (call : Call) (a : Answer) (parts : List Entry) → IsServable call → FitsCall (kind_for call) AtEnd a.act → HasParts call a parts → AreAsked parts a.act
parts_asked call a parts plain fits has = elim (kinds_served call plain) [
  | inl single ↦
      subst (λ (es : List Entry). AreAsked es a.act) (sym (single_none call a parts single has)) (none_asked a.act (parts_none call a.act single fits))
  | inr file ↦
      file_asked a parts (subst (λ (c : Call). FitsCall (kind_for c) AtEnd a.act) file.1 fits) (subst (λ (c : Call). HasParts c a parts) file.1 has)
]

-- ---- its reply says the act, and a block where the act is data

-- data is of a read
data_read : (call : Call) → FitsCall (kind_for call) AtEnd Data → kind_for call ≡ ToRead
data_read call (inl fits) = fits.0
data_read call (inr fits) = let later : AtEnd ≡ AtLater = fits.1 in absurd (cc)

pub replied : (call : Call) (act : Act) → IsSingle call → FitsCall (kind_for call) AtEnd act → IsReplied act call
replied call Data plain fits = λ len cause. refl
replied call Whole plain fits = absurd (no_cat call plain fits.0)
replied call (Broken index) plain fits = absurd (no_cat call plain fits.0)
replied call _ plain fits = λ len cause. refl

pub data_act : (act : Act) → is_data act ≡ true → act ≡ Data
data_act Data is = refl
data_act _ is = absurd (false≢true is)

-- a digest is that of the bytes of the entry
digest_is : (a : Answer) (entered : List ℕ) → is_data a.act ≡ true → a.digest ≡ digest_of a.act entered → a.digest ≡ sha256 entered
digest_is a entered has is = is ∙ ap (λ (b : Bool). cond b (sha256 entered) no_digest) has

-- the reply of an answer to it
plain_reply : (call : Call) (act : Act) (by_digest : Bool) (len : ℕ) (cause : Act) → IsSingle call → FitsCall (kind_for call) AtEnd act
    → cond (is_data act) (cond by_digest reply.Sum reply.Data) (reply.Ended act) ≡ reply_by act by_digest len cause
plain_reply call Data by_digest len cause plain fits = refl
plain_reply call Whole by_digest len cause plain fits = absurd (no_cat call plain fits.0)
plain_reply call (Broken index) by_digest len cause plain fits = absurd (no_cat call plain fits.0)
plain_reply call _ by_digest len cause plain fits = refl

-- the line of an answer says the bytes of the entry, or their digest
data_line : (call : Call) (a : Answer) (entered digest : List ℕ) → IsSingle call → kind_for call ≡ ToRead → is_data a.act ≡ true → Gives call a entered → digest ≡ sha256 entered
    → reply_line (data_reply (deed_of call)) entered digest ≡ reply_line (cond a.by_digest reply.Sum reply.Data) a.bytes a.digest
data_line (Put name bytes) a entered digest plain kind has gives is = absurd (cc)
data_line (Read name index) a entered digest plain kind has gives is =
    ap (λ (xs : List ℕ). reply_line reply.Data xs digest) gives.0
    ∙ ap (λ (b : Bool). reply_line (cond b reply.Sum reply.Data) a.bytes a.digest) (sym gives.1)
data_line (Sum name index) a entered digest plain kind has gives is =
    ap (λ (xs : List ℕ). reply_line reply.Sum entered xs) (is ∙ sym (digest_is a entered has gives.1))
    ∙ ap (λ (b : Bool). reply_line (cond b reply.Sum reply.Data) a.bytes a.digest) (sym gives.0)
data_line (Cat name) a entered digest plain kind has gives is = absurd (cc)
data_line (Lose node) a entered digest plain kind has gives is = absurd (cc)
data_line (Join node) a entered digest plain kind has gives is = absurd (cc)
data_line (Rebuild from to) a entered digest plain kind has gives is = absurd (cc)
data_line (Stat name) a entered digest plain kind has gives is = absurd (cc)

pub same_line : (call : Call) (a : Answer) (entered digest : List ℕ) → IsSingle call → FitsCall (kind_for call) AtEnd a.act → Gives call a entered
    → (is_data a.act ≡ true → digest ≡ sha256 entered) → reply_line (simple_reply call a.act) entered digest ≡ answer_line a
same_line call a entered digest plain fits gives is =
    either (is_data a.act) refl ∙ ap (λ (r : Reply). reply_line r a.bytes a.digest) (plain_reply call a.act a.by_digest a.len a.cause plain fits)
  where
    either : (b : Bool) → is_data a.act ≡ b
        → reply_line (cond b (data_reply (deed_of call)) (reply.Ended a.act)) entered digest ≡ reply_line (cond b (cond a.by_digest reply.Sum reply.Data) (reply.Ended a.act)) a.bytes a.digest
    either true has =
        data_line call a entered digest plain (data_read call (subst (λ (act : Act). FitsCall (kind_for call) AtEnd act) (data_act a.act has) fits)) has gives (is has)
    either false none = refl

-- ---- the reply to a call that reads a file whole

pub file_line : (name : List ℕ) (act : Act) (by_digest : Bool) (len said : ℕ) (cause why : Act) (bytes digest hidden told : List ℕ) → FitsCall ToCat AtEnd act
    → len ≡ said → cause ≡ why → (act ≡ Whole → digest ≡ told)
    → reply_line (reply_of (deed.Cat name) act len cause) bytes digest ≡ reply_line (reply_by act by_digest said why) hidden told
file_line name Whole by_digest len said cause why bytes digest hidden told fits same_len same_cause same_digest =
    ap (λ (n : ℕ). reply_line (reply.File n) bytes digest) same_len ∙ ap (λ (xs : List ℕ). reply_line (reply.File said) bytes xs) (same_digest refl)
file_line name (Broken index) by_digest len said cause why bytes digest hidden told fits same_len same_cause same_digest =
    ap (λ (x : Act). reply_line (reply.Broken index x) bytes digest) same_cause
file_line name Data by_digest len said cause why bytes digest hidden told (inl fits) same_len same_cause same_digest = let is : ToCat ≡ ToRead = fits.0 in absurd (cc)
file_line name Data by_digest len said cause why bytes digest hidden told (inr fits) same_len same_cause same_digest = let later : AtEnd ≡ AtLater = fits.1 in absurd (cc)
file_line name _ by_digest len said cause why bytes digest hidden told fits same_len same_cause same_digest = refl
