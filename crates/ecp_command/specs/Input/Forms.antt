-- How the lines of a script are spelled.
use Rattle.std.specs.Prelude.{◌≡◌, ℕ, ◌<◌, ◌≤◌, ◌^◌, ◌⊎◌, Bool, ◌&&◌, ◌||◌, ◌==◌, nat_le, List, [], ◌∷◌, ◌++◌, length, Ok, Option, MatchOption, codes, decimal}
use Rattle.std.specs.List.{AllPass}
use Rattle.hex.specs.Hex.{decode_of}
use Rattle.ecp_shape.specs.declared.limits.TheConstants.{MAX_NAME, MAX_PUT_BYTES, MAX_SESSIONS}
use Rattle.ecp_command.specs.declared.input.call.Call.{Call}
use Rattle.ecp_command.specs.declared.input.call.Call.TheVariants.{Put, Read, Sum, Cat, Lose, Join, Rebuild, Stat}
use Rattle.ecp_command.specs.declared.input.form.Form.{Form}
use Rattle.ecp_command.specs.declared.input.form.Form.TheVariants as form
use Rattle.ecp_command.specs.Generated.{generated}
use Rattle.ecp_command.specs.Input.Limits.{put_len}

-- a small letter, a capital, a digit, and the other bytes of names
abbrev pub is_small : ℕ → Bool
is_small b = nat_le 97 b && nat_le b 122

abbrev pub is_capital : ℕ → Bool
is_capital b = nat_le 65 b && nat_le b 90

abbrev pub is_digit : ℕ → Bool
is_digit b = nat_le 48 b && nat_le b 57

abbrev pub dot : ℕ
dot = 46

abbrev pub underscore : ℕ
underscore = 95

abbrev pub dash : ℕ
dash = 45

-- one of the bytes `a-z A-Z 0-9 . _ -`
abbrev pub is_name_byte : ℕ → Bool
is_name_byte b = is_small b || is_capital b || is_digit b || b == dot || b == underscore || b == dash

-- at least one such byte, and no more than a name may have
pub record IsName (name : List ℕ) : Type 0 where
  pub some : 1 ≤ length name
  pub short : length name ≤ MAX_NAME
  pub bytes : AllPass is_name_byte name

-- a dash for no bytes, else two hexadecimal digits of either case for each byte
abbrev pub IsHex : List ℕ → List ℕ → Type 0
IsHex digits bytes = ((digits ≡ codes "-") × (bytes ≡ [])) ⊎ ((0 < length digits) × (decode_of digits ≡ Ok bytes))

-- a seed and a length, for which the generator makes the bytes
pub record IsRecipe (text bytes : List ℕ) : Type 0 where
  pub seed : ℕ
  pub len : ℕ
  pub seed_fits : seed < 2 ^ 64
  pub len_fits : len < 2 ^ 32
  pub spelled : text ≡ decimal seed ++ codes " " ++ decimal len
  pub made : bytes ≡ generated seed len

-- the words behind the name of a put give the bytes: in hexadecimal, or by a recipe for the generator
abbrev pub GiveBytes : List ℕ → List ℕ → Type 0
GiveBytes words bytes =
    ((digits : List ℕ) × IsHex digits bytes × (words ≡ codes "hex " ++ digits)) ⊎ ((recipe : List ℕ) × IsRecipe recipe bytes × (words ≡ codes "gen " ++ recipe))

-- the bytes that a text gives in this way, where they are no more than a put may have
abbrev pub AreBytesOf : (List ℕ → Type 0) → Option (List ℕ) → Type 0
AreBytesOf gives found = MatchOption found ((bytes : List ℕ) → gives bytes → length bytes ≤ MAX_PUT_BYTES → ⊥) gives

-- the words name a file, and a block of it by its number
abbrev pub NamesBlock : List ℕ → List ℕ → ℕ → Type 0
NamesBlock words name index = IsName name × (index < 2 ^ 32) × (words ≡ name ++ (codes " " ++ decimal index))

-- the file and the number of the block that words name, where they name one
abbrev pub IsBlockNamed : List ℕ → Option (List ℕ × ℕ) → Type 0
IsBlockNamed words found = MatchOption found ((name : List ℕ) (index : ℕ) → NamesBlock words name index → ⊥) (λ b. NamesBlock words b.0 b.1)

-- the line spells the call
abbrev pub SpellsCall : List ℕ → Call → Type 0
SpellsCall line (Put name bytes) = IsName name × (words : List ℕ) × GiveBytes words bytes × (line ≡ codes "put " ++ name ++ codes " " ++ words)
SpellsCall line (Read name index) = IsName name × (index < 2 ^ 32) × (line ≡ codes "read " ++ name ++ codes " " ++ decimal index)
SpellsCall line (Sum name index) = IsName name × (index < 2 ^ 32) × (line ≡ codes "sum " ++ name ++ codes " " ++ decimal index)
SpellsCall line (Cat name) = IsName name × (line ≡ codes "cat " ++ name)
SpellsCall line (Lose node) = (node < 2 ^ 32) × (line ≡ codes "lose " ++ decimal node)
SpellsCall line (Join node) = (node < 2 ^ 32) × (line ≡ codes "join " ++ decimal node)
SpellsCall line (Stat name) = IsName name × (line ≡ codes "stat " ++ name)
SpellsCall line (Rebuild from to) = ⊥

-- the line spells the form
abbrev pub Spells : List ℕ → Form → Type 0
Spells line (form.Session number) = (number < MAX_SESSIONS) × (line ≡ codes "session " ++ decimal number)
Spells line form.Barrier = line ≡ codes "barrier"
Spells line (form.Call call) = SpellsCall line call

-- the form of a line, where it has one that puts no more bytes than a put may have
abbrev pub IsFormOf : List ℕ → Option Form → Type 0
IsFormOf line found = MatchOption found ((f : Form) → Spells line f → put_len f ≤ MAX_PUT_BYTES → ⊥) (Spells line)

-- the lines spell the forms, one each
abbrev pub SpellEach : List (ℕ × List ℕ) → List Form → Type 0
SpellEach [] [] = Unit {0}
SpellEach [] (f ∷ fs) = ⊥
SpellEach (line ∷ rest) [] = ⊥
SpellEach (line ∷ rest) (f ∷ fs) = Spells line.1 f × SpellEach rest fs
