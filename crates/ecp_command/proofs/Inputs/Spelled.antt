-- What a line that spells a form looks like, word by word.
use Rattle.std.proofs.Common.{◌≡◌, ◌≢◌, ℕ, ◌<◌, ◌^◌, ◌==◌, get_or, true, false, not, List, [], ◌∷◌, ◌++◌, length, decimal, refl, sym, ap, subst, ◌∙◌, append_assoc}
use Rattle.std.specs.Prelude.{codes}
use Rattle.std.specs.List.{AllByRecursion, list_all}
use Rattle.std.proofs.lemmas.Bool.{false≢true, eqb-false, and_parts}
use Rattle.std.proofs.lemmas.List.{append_cancel_left}
use Rattle.std.proofs.lemmas.List.Elements.{recursion_from_All}
use Rattle.ecp_shape.specs.declared.limits.TheConstants.{MAX_SESSIONS}
use Rattle.ecp_command.specs.declared.input.call.Call.{Call}
use Rattle.ecp_command.specs.declared.input.call.Call.TheVariants.{Put, Read, Sum, Cat, Lose, Join, Rebuild, Stat}
use Rattle.ecp_command.specs.declared.input.form.Form.{Form}
use Rattle.ecp_command.specs.declared.input.form.Form.TheVariants as form
use Rattle.ecp_command.specs.Input.Cuts.{IsClear, IsCut}
use Rattle.ecp_command.specs.Input.Forms.{is_name_byte, IsName, GiveBytes, Spells, NamesBlock}
use Rattle.ecp_command.specs.Input.Limits.{put_len}

-- a text is cut in one way
pub same_cut : (b : ℕ) (f g r s : List ℕ) → IsClear b f → IsClear b g → f ++ b ∷ r ≡ g ++ b ∷ s → (f ≡ g) × (r ≡ s)
same_cut b [] [] r s cf cg e = (refl, cc)
same_cut b [] (y ∷ g) r s cf cg e = absurd (cg.0 cc)
same_cut b (x ∷ f) [] r s cf cg e = absurd (cf.0 cc)
same_cut b (x ∷ f) (y ∷ g) r s cf cg e =
    let same : x ≡ y = cc in
    let rest : f ++ b ∷ r ≡ g ++ b ∷ s = cc in
    let both = same_cut b f g r s cf.1 cg.1 rest in
    (rw (same, both.0) refl, both.1)

pub not_clear : (b : ℕ) (front rest : List ℕ) → IsClear b (front ++ b ∷ rest) → ⊥
not_clear b [] rest h = h.0 refl
not_clear b (x ∷ front) rest h = not_clear b front rest h.1

name_byte : (b : ℕ) → is_name_byte b ≡ true → b ≢ 32
name_byte b h e = false≢true (subst (λ (x : ℕ). is_name_byte x ≡ true) e h)

all_name : (name : List ℕ) → AllByRecursion (λ b. is_name_byte b ≡ true) name → IsClear 32 name
all_name [] h = tt
all_name (b ∷ bs) h = (name_byte b h.0, all_name bs h.1)

pub clear_name : (name : List ℕ) → IsName name → IsClear 32 name
clear_name name h = all_name name (recursion_from_All (λ b. is_name_byte b ≡ true) name h.bytes)

-- a text without spaces, as a test finds
clear_word : (w : List ℕ) → list_all (λ b. not (b == 32)) w ≡ true → IsClear 32 w
clear_word [] h = tt
clear_word (b ∷ w) h =
    let parts = and_parts (not (b == 32)) (list_all (λ x. not (x == 32)) w) h in
    ((λ e. false≢true (subst (λ (x : ℕ). not (x == 32) ≡ true) e parts.0)), clear_word w parts.1)

-- lines that begin with other bytes
pub begins_other : (line other : List ℕ) → line ≡ other → (get_or line 0 0 == get_or other 0 0) ≡ false → ⊥
begins_other line other e d = eqb-false _ _ d (ap (λ (l : List ℕ). get_or l 0 0) e)

-- and lines that go on with another byte behind the first
pub goes_on_other : (line other : List ℕ) → line ≡ other → (get_or line 1 0 == get_or other 1 0) ≡ false → ⊥
goes_on_other line other e d = eqb-false _ _ d (ap (λ (l : List ℕ). get_or l 1 0) e)

-- ---- the forms behind each word

pub session_is : (rest : List ℕ) (f : Form) → Spells (codes "session " ++ rest) f → (n : ℕ) × (n < MAX_SESSIONS) × (rest ≡ decimal n) × (f ≡ form.Session n)
session_is rest (form.Session n) h = (n, h.0, append_cancel_left (codes "session ") rest (decimal n) h.1, refl)
session_is rest form.Barrier h = absurd (begins_other _ _ h refl)
session_is rest (form.Call (Put name bytes)) h = absurd (begins_other _ _ h.3 refl)
session_is rest (form.Call (Read name index)) h = absurd (begins_other _ _ h.2 refl)
session_is rest (form.Call (Sum name index)) h = absurd (goes_on_other _ _ h.2 refl)
session_is rest (form.Call (Lose node)) h = absurd (begins_other _ _ h.1 refl)
session_is rest (form.Call (Join node)) h = absurd (begins_other _ _ h.1 refl)
session_is rest (form.Call (Stat name)) h = absurd (goes_on_other _ _ h.1 refl)
session_is rest (form.Call (Cat name)) h = absurd (begins_other _ _ h.1 refl)
session_is rest (form.Call (Rebuild from to)) h = absurd h

-- the parts of a put, behind its word
pub record IsPut (rest : List ℕ) (f : Form) : Type 0 where
  pub name : List ℕ
  pub words : List ℕ
  pub bytes : List ℕ
  pub is_name : IsName name
  pub give : GiveBytes words bytes
  pub whole : rest ≡ name ++ 32 ∷ words
  pub form_is : f ≡ form.Call (Put name bytes)

pub put_is : (rest : List ℕ) (f : Form) → Spells (codes "put " ++ rest) f → IsPut rest f
put_is rest (form.Session n) h = absurd (begins_other _ _ h.1 refl)
put_is rest form.Barrier h = absurd (begins_other _ _ h refl)
put_is rest (form.Call (Put name bytes)) h = record {
  name = name;
  words = h.1;
  bytes = bytes;
  is_name = h.0;
  give = h.2;
  whole = append_cancel_left (codes "put ") rest (name ++ 32 ∷ h.1) (h.3 ∙ append_assoc (codes "put " ++ name) (codes " ") h.1 ∙ append_assoc (codes "put ") name (codes " " ++ h.1));
  form_is = refl;
}
put_is rest (form.Call (Read name index)) h = absurd (begins_other _ _ h.2 refl)
put_is rest (form.Call (Sum name index)) h = absurd (begins_other _ _ h.2 refl)
put_is rest (form.Call (Lose node)) h = absurd (begins_other _ _ h.1 refl)
put_is rest (form.Call (Join node)) h = absurd (begins_other _ _ h.1 refl)
put_is rest (form.Call (Stat name)) h = absurd (begins_other _ _ h.1 refl)
put_is rest (form.Call (Cat name)) h = absurd (begins_other _ _ h.1 refl)
put_is rest (form.Call (Rebuild from to)) h = absurd h

-- the parts of a line that names a block, behind its word
pub record IsOfBlock (call : List ℕ → ℕ → Call) (rest : List ℕ) (f : Form) : Type 0 where
  pub name : List ℕ
  pub index : ℕ
  pub is_name : IsName name
  pub fits : index < 2 ^ 32
  pub whole : rest ≡ name ++ 32 ∷ decimal index
  pub form_is : f ≡ form.Call (call name index)

pub read_is : (rest : List ℕ) (f : Form) → Spells (codes "read " ++ rest) f → IsOfBlock Read rest f
read_is rest (form.Session n) h = absurd (begins_other _ _ h.1 refl)
read_is rest form.Barrier h = absurd (begins_other _ _ h refl)
read_is rest (form.Call (Put name bytes)) h = absurd (begins_other _ _ h.3 refl)
read_is rest (form.Call (Read name index)) h = record {
  name = name;
  index = index;
  is_name = h.0;
  fits = h.1;
  whole = append_cancel_left (codes "read ") rest (name ++ 32 ∷ decimal index) (h.2 ∙ append_assoc (codes "read " ++ name) (codes " ") (decimal index) ∙ append_assoc (codes "read ") name (codes " " ++ decimal index));
  form_is = refl;
}
read_is rest (form.Call (Sum name index)) h = absurd (begins_other _ _ h.2 refl)
read_is rest (form.Call (Lose node)) h = absurd (begins_other _ _ h.1 refl)
read_is rest (form.Call (Join node)) h = absurd (begins_other _ _ h.1 refl)
read_is rest (form.Call (Stat name)) h = absurd (begins_other _ _ h.1 refl)
read_is rest (form.Call (Cat name)) h = absurd (begins_other _ _ h.1 refl)
read_is rest (form.Call (Rebuild from to)) h = absurd h

pub sum_is : (rest : List ℕ) (f : Form) → Spells (codes "sum " ++ rest) f → IsOfBlock Sum rest f
sum_is rest (form.Session n) h = absurd (goes_on_other _ _ h.1 refl)
sum_is rest form.Barrier h = absurd (begins_other _ _ h refl)
sum_is rest (form.Call (Put name bytes)) h = absurd (begins_other _ _ h.3 refl)
sum_is rest (form.Call (Read name index)) h = absurd (begins_other _ _ h.2 refl)
sum_is rest (form.Call (Sum name index)) h = record {
  name = name;
  index = index;
  is_name = h.0;
  fits = h.1;
  whole = append_cancel_left (codes "sum ") rest (name ++ 32 ∷ decimal index) (h.2 ∙ append_assoc (codes "sum " ++ name) (codes " ") (decimal index) ∙ append_assoc (codes "sum ") name (codes " " ++ decimal index));
  form_is = refl;
}
sum_is rest (form.Call (Lose node)) h = absurd (begins_other _ _ h.1 refl)
sum_is rest (form.Call (Join node)) h = absurd (begins_other _ _ h.1 refl)
sum_is rest (form.Call (Stat name)) h = absurd (goes_on_other _ _ h.1 refl)
sum_is rest (form.Call (Cat name)) h = absurd (begins_other _ _ h.1 refl)
sum_is rest (form.Call (Rebuild from to)) h = absurd h

pub barrier_is : (f : Form) → Spells (codes "barrier") f → f ≡ form.Barrier
barrier_is (form.Session n) h = absurd (begins_other _ _ h.1 refl)
barrier_is form.Barrier h = refl
barrier_is (form.Call (Put name bytes)) h = absurd (begins_other _ _ h.3 refl)
barrier_is (form.Call (Read name index)) h = absurd (begins_other _ _ h.2 refl)
barrier_is (form.Call (Sum name index)) h = absurd (begins_other _ _ h.2 refl)
barrier_is (form.Call (Lose node)) h = absurd (begins_other _ _ h.1 refl)
barrier_is (form.Call (Join node)) h = absurd (begins_other _ _ h.1 refl)
barrier_is (form.Call (Stat name)) h = absurd (begins_other _ _ h.1 refl)
barrier_is (form.Call (Cat name)) h = absurd (begins_other _ _ h.1 refl)
barrier_is (form.Call (Rebuild from to)) h = absurd h

pub cat_is : (rest : List ℕ) (f : Form) → Spells (codes "cat " ++ rest) f → (name : List ℕ) × IsName name × (rest ≡ name) × (f ≡ form.Call (Cat name))
cat_is rest (form.Session n) h = absurd (begins_other _ _ h.1 refl)
cat_is rest form.Barrier h = absurd (begins_other _ _ h refl)
cat_is rest (form.Call (Put name bytes)) h = absurd (begins_other _ _ h.3 refl)
cat_is rest (form.Call (Read name index)) h = absurd (begins_other _ _ h.2 refl)
cat_is rest (form.Call (Sum name index)) h = absurd (begins_other _ _ h.2 refl)
cat_is rest (form.Call (Cat name)) h = (name, h.0, append_cancel_left (codes "cat ") rest name h.1, refl)
cat_is rest (form.Call (Lose node)) h = absurd (begins_other _ _ h.1 refl)
cat_is rest (form.Call (Join node)) h = absurd (begins_other _ _ h.1 refl)
cat_is rest (form.Call (Stat name)) h = absurd (begins_other _ _ h.1 refl)
cat_is rest (form.Call (Rebuild from to)) h = absurd h

pub lose_is : (rest : List ℕ) (f : Form) → Spells (codes "lose " ++ rest) f → (n : ℕ) × (n < 2 ^ 32) × (rest ≡ decimal n) × (f ≡ form.Call (Lose n))
lose_is rest (form.Session n) h = absurd (begins_other _ _ h.1 refl)
lose_is rest form.Barrier h = absurd (begins_other _ _ h refl)
lose_is rest (form.Call (Put name bytes)) h = absurd (begins_other _ _ h.3 refl)
lose_is rest (form.Call (Read name index)) h = absurd (begins_other _ _ h.2 refl)
lose_is rest (form.Call (Sum name index)) h = absurd (begins_other _ _ h.2 refl)
lose_is rest (form.Call (Lose node)) h = (node, h.0, append_cancel_left (codes "lose ") rest (decimal node) h.1, refl)
lose_is rest (form.Call (Join node)) h = absurd (begins_other _ _ h.1 refl)
lose_is rest (form.Call (Stat name)) h = absurd (begins_other _ _ h.1 refl)
lose_is rest (form.Call (Cat name)) h = absurd (begins_other _ _ h.1 refl)
lose_is rest (form.Call (Rebuild from to)) h = absurd h

pub join_is : (rest : List ℕ) (f : Form) → Spells (codes "join " ++ rest) f → (n : ℕ) × (n < 2 ^ 32) × (rest ≡ decimal n) × (f ≡ form.Call (Join n))
join_is rest (form.Session n) h = absurd (begins_other _ _ h.1 refl)
join_is rest form.Barrier h = absurd (begins_other _ _ h refl)
join_is rest (form.Call (Put name bytes)) h = absurd (begins_other _ _ h.3 refl)
join_is rest (form.Call (Read name index)) h = absurd (begins_other _ _ h.2 refl)
join_is rest (form.Call (Sum name index)) h = absurd (begins_other _ _ h.2 refl)
join_is rest (form.Call (Lose node)) h = absurd (begins_other _ _ h.1 refl)
join_is rest (form.Call (Join node)) h = (node, h.0, append_cancel_left (codes "join ") rest (decimal node) h.1, refl)
join_is rest (form.Call (Stat name)) h = absurd (begins_other _ _ h.1 refl)
join_is rest (form.Call (Cat name)) h = absurd (begins_other _ _ h.1 refl)
join_is rest (form.Call (Rebuild from to)) h = absurd h

pub stat_is : (rest : List ℕ) (f : Form) → Spells (codes "stat " ++ rest) f → (name : List ℕ) × IsName name × (rest ≡ name) × (f ≡ form.Call (Stat name))
stat_is rest (form.Session n) h = absurd (goes_on_other _ _ h.1 refl)
stat_is rest form.Barrier h = absurd (begins_other _ _ h refl)
stat_is rest (form.Call (Put name bytes)) h = absurd (begins_other _ _ h.3 refl)
stat_is rest (form.Call (Read name index)) h = absurd (begins_other _ _ h.2 refl)
stat_is rest (form.Call (Sum name index)) h = absurd (goes_on_other _ _ h.2 refl)
stat_is rest (form.Call (Lose node)) h = absurd (begins_other _ _ h.1 refl)
stat_is rest (form.Call (Join node)) h = absurd (begins_other _ _ h.1 refl)
stat_is rest (form.Call (Stat name)) h = (name, h.0, append_cancel_left (codes "stat ") rest name h.1, refl)
stat_is rest (form.Call (Cat name)) h = absurd (begins_other _ _ h.1 refl)
stat_is rest (form.Call (Rebuild from to)) h = absurd h

-- ---- the word of a line

-- what stands behind the word of a line
pub behind : (line word rest w tail : List ℕ) → IsCut 32 line word rest → IsClear 32 w → line ≡ w ++ 32 ∷ tail → word ≡ w
behind line word rest w tail c clear e = (same_cut 32 word w rest tail c.clear clear (sym c.whole ∙ e)).0

pub no_word : (line word rest : List ℕ) → IsCut 32 line word rest → word ≢ codes "session" → word ≢ codes "put" → word ≢ codes "read" → word ≢ codes "sum" → word ≢ codes "cat" → word ≢ codes "lose" → word ≢ codes "join"
    → word ≢ codes "stat" → (f : Form) → Spells line f → ⊥
no_word line word rest c s p r m a l j t (form.Session n) h = s (behind line word rest (codes "session") (decimal n) c (clear_word (codes "session") refl) h.1)
no_word line word rest c s p r m a l j t form.Barrier h = not_clear 32 word rest (subst (λ (w : List ℕ). IsClear 32 w) (sym h ∙ c.whole) (clear_word (codes "barrier") refl))
no_word line word rest c s p r m a l j t (form.Call (Put name bytes)) h =
    p (behind line word rest (codes "put") (name ++ (codes " " ++ h.1)) c (clear_word (codes "put") refl) (h.3 ∙ append_assoc (codes "put " ++ name) (codes " ") h.1 ∙ append_assoc (codes "put ") name (codes " " ++ h.1)))
no_word line word rest c s p r m a l j t (form.Call (Read name index)) h =
    r (behind line word rest (codes "read") (name ++ (codes " " ++ decimal index)) c (clear_word (codes "read") refl) (h.2 ∙ append_assoc (codes "read " ++ name) (codes " ") (decimal index) ∙ append_assoc (codes "read ") name (codes " " ++ decimal index)))
no_word line word rest c s p r m a l j t (form.Call (Sum name index)) h =
    m (behind line word rest (codes "sum") (name ++ (codes " " ++ decimal index)) c (clear_word (codes "sum") refl) (h.2 ∙ append_assoc (codes "sum " ++ name) (codes " ") (decimal index) ∙ append_assoc (codes "sum ") name (codes " " ++ decimal index)))
no_word line word rest c s p r m a l j t (form.Call (Cat name)) h = a (behind line word rest (codes "cat") name c (clear_word (codes "cat") refl) h.1)
no_word line word rest c s p r m a l j t (form.Call (Lose node)) h = l (behind line word rest (codes "lose") (decimal node) c (clear_word (codes "lose") refl) h.1)
no_word line word rest c s p r m a l j t (form.Call (Join node)) h = j (behind line word rest (codes "join") (decimal node) c (clear_word (codes "join") refl) h.1)
no_word line word rest c s p r m a l j t (form.Call (Stat name)) h = t (behind line word rest (codes "stat") name c (clear_word (codes "stat") refl) h.1)
no_word line word rest c s p r m a l j t (form.Call (Rebuild from to)) h = h

-- ---- the parts of a put, and of words that name a block, where these are cut

pub record IsPutAt (name words : List ℕ) (f : Form) : Type 0 where
  pub bytes : List ℕ
  pub is_name : IsName name
  pub give : GiveBytes words bytes
  pub len : put_len f ≡ length bytes

pub put_at : (rest name words : List ℕ) (f : Form) → IsCut 32 rest name words → Spells (codes "put " ++ rest) f → IsPutAt name words f
put_at rest name words f c h =
    let p = put_is rest f h in
    let same = same_cut 32 name p.name words p.words c.clear (clear_name p.name p.is_name) (sym c.whole ∙ p.whole) in
    record {
      bytes = p.bytes;
      is_name = subst (λ (n : List ℕ). IsName n) (sym same.0) p.is_name;
      give = subst (λ (w : List ℕ). GiveBytes w p.bytes) (sym same.1) p.give;
      len = ap put_len p.form_is;
    }

pub no_put : (rest : List ℕ) (f : Form) → IsClear 32 rest → Spells (codes "put " ++ rest) f → ⊥
no_put rest f clear h =
    let p = put_is rest f h in
    not_clear 32 p.name p.words (subst (λ (t : List ℕ). IsClear 32 t) p.whole clear)

pub record IsBlockAt (name text : List ℕ) : Type 0 where
  pub index_is : ℕ
  pub is_name : IsName name
  pub fits : index_is < 2 ^ 32
  pub text_is : text ≡ decimal index_is

pub block_at : (words name text other : List ℕ) (index : ℕ) → IsCut 32 words name text → NamesBlock words other index → IsBlockAt name text
block_at words name text other index c names =
    let same = same_cut 32 name other text (decimal index) c.clear (clear_name other names.0) (sym c.whole ∙ names.2) in
    record { index_is = index; is_name = subst (λ (n : List ℕ). IsName n) (sym same.0) names.0; fits = names.1; text_is = same.1 }

-- words without a space name no block
pub no_block : (words name : List ℕ) (index : ℕ) → IsClear 32 words → NamesBlock words name index → ⊥
no_block words name index clear names = not_clear 32 name (decimal index) (subst (λ (t : List ℕ). IsClear 32 t) names.2 clear)

-- the line behind whose word they stand
pub block_line : (word words name : List ℕ) (index : ℕ) → NamesBlock words name index → word ++ words ≡ word ++ name ++ codes " " ++ decimal index
block_line word words name index names =
    ap (λ (t : List ℕ). word ++ t) names.2 ∙ sym (append_assoc (word ++ name) (codes " ") (decimal index) ∙ append_assoc word name (codes " " ++ decimal index))
