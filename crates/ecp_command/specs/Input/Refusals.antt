-- What is printed of a refusal.
use Rattle.std.specs.Prelude.{ℕ, List, [], ◌++◌, codes, decimal}
use Rattle.ecp_command.specs.declared.input.refusal.Refusal.{Refusal}
use Rattle.ecp_command.specs.declared.input.refusal.Refusal.TheVariants as refusal
use Rattle.ecp_command.specs.declared.input.refusal_text.RefusalText.{RefusalText}
use Rattle.ecp_command.specs.declared.input.subject.Subject.{Subject}
use Rattle.ecp_command.specs.declared.input.subject.Subject.TheVariants.{Nothing, Key, Line}
use Rattle.ecp_command.specs.Input.Settings.{key}

-- the words for a refusal
abbrev pub refusal_text : Refusal → List ℕ
refusal_text refusal.NotToml = codes "head: not TOML"
refusal_text refusal.NoRule = codes "head: no line ---"
refusal_text (refusal.Key setting) = codes "head: " ++ key setting
refusal_text refusal.UnknownKey = codes "head: unknown key"
refusal_text (refusal.Line number) = codes "line " ++ decimal number
refusal_text refusal.NoMemory = codes "no memory"

-- what stands behind the words
abbrev pub subject_text : Subject → List ℕ
subject_text Nothing = []
subject_text (Key setting) = codes " " ++ key setting
subject_text (Line number) = codes " " ++ decimal number

-- the words and what stands behind them
abbrev pub whole_text : RefusalText → List ℕ
whole_text text = text.words.now ++ subject_text text.subject
