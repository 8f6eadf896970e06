-- The lines of a script, read one by one.
use Rattle.std.specs.Prelude.{◌≡◌, ℕ, List, [], ◌∷◌, ◌++◌, map}
use Rattle.ecp_command.specs.declared.input.form.Form.{Form}
use Rattle.ecp_command.specs.declared.input.head.Head.{Head}
use Rattle.ecp_command.specs.declared.input.numbered.Numbered.{Numbered}
use Rattle.ecp_command.specs.declared.input.refusal.Refusal.{Refusal}
use Rattle.ecp_command.specs.declared.input.refusal.Refusal.TheVariants.{NotToml, NoRule, Key, UnknownKey, Line, NoMemory}
use Rattle.ecp_command.specs.declared.input.script.Script.{Script}
use Rattle.ecp_command.specs.Input.Accepted.{RefusesForm}
use Rattle.ecp_command.specs.Input.Forms.{SpellEach}
use Rattle.ecp_command.specs.Input.Lines.{numbered}
use Rattle.ecp_command.specs.Input.Totals.{AreTotals}

-- the forms, and the numbers of their lines
abbrev pub forms_of : List Numbered → List Form
forms_of ns = map (λ n. n.form) ns

abbrev pub numbers_of : List Numbered → List ℕ
numbers_of ns = map (λ n. n.line) ns

-- the forms are those of these lines
pub record AreRead (lines : List (ℕ × List ℕ)) (forms : List Numbered) : Type 0 where
  pub spelled : SpellEach lines (forms_of forms)
  pub numbers : numbers_of forms ≡ map (λ line. line.0) lines

-- the script has read these lines, which keep the limits
pub record HasRead (head : Head) (lines : List (ℕ × List ℕ)) (script : Script) : Type 0 where
  pub read : AreRead lines script.forms.items
  pub totals : AreTotals head (forms_of script.forms.items) script.totals

-- The refusal is that of the first of the lines that is refused. Want of memory may come at any line.
abbrev pub MayRefuseForm : Head → List (ℕ × List ℕ) → Refusal → Type 0
MayRefuseForm head lines NoMemory = Unit {0}
MayRefuseForm head lines (Line number) = RefusesForm head lines number
MayRefuseForm head lines NotToml = ⊥
MayRefuseForm head lines NoRule = ⊥
MayRefuseForm head lines (Key setting) = ⊥
MayRefuseForm head lines UnknownKey = ⊥

-- the script has read this line too, behind those that it had read
abbrev pub ReadsLine : Head → ℕ → List ℕ → Script → Script → Type 0
ReadsLine head number line old new = (before : List (ℕ × List ℕ)) → HasRead head before old → HasRead head (before ++ numbered number (line ∷ [])) new

-- the line is refused so, behind those that the script had read
abbrev pub MayRefuseLine : Head → ℕ → List ℕ → Script → Refusal → Type 0
MayRefuseLine head number line old refusal = (before : List (ℕ × List ℕ)) → HasRead head before old → MayRefuseForm head (before ++ numbered number (line ∷ [])) refusal
