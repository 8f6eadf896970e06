-- Accepted inputs, and the first refusal of every other.
use Rattle.std.specs.Prelude.{◌≡◌, ℕ, ◌+◌, ◌<◌, ◌≤◌, ◌⊎◌, List, [], ◌∷◌, ◌++◌, length, map, take, Result, Ok, Err}
use Rattle.toml.specs.Data.{Members}
use Rattle.ecp_shape.specs.declared.limits.TheConstants.{MAX_INPUT, MAX_ENTRIES}
use Rattle.ecp_command.specs.declared.input.form.Form.{Form}
use Rattle.ecp_command.specs.declared.input.head.Head.{Head}
use Rattle.ecp_command.specs.declared.input.Input.{Input}
use Rattle.ecp_command.specs.declared.input.refusal.Refusal.{Refusal}
use Rattle.ecp_command.specs.declared.input.refusal.Refusal.TheVariants.{NotToml, NoRule, Key, UnknownKey, Line, NoMemory}
use Rattle.ecp_command.specs.declared.input.session.Session.{Session}
use Rattle.ecp_command.specs.Input.Lines.{Parts, ArePartsOf, HasNoRule}
use Rattle.ecp_command.specs.Input.Settings.{IsDocument, head_of}
use Rattle.ecp_command.specs.Input.Forms.{Spells, SpellEach}
use Rattle.ecp_command.specs.Input.Limits.{KeepLimits, costs}
use Rattle.ecp_command.specs.Input.Calls.{SessionCalls, sessions_of, phases_of}

-- what an input asks for, without where it lies in memory
pub record Content : Type 0 where
  pub head : Head
  pub sessions : List SessionCalls
  pub phases : ℕ

abbrev pub session_view : Session → SessionCalls
session_view s = record { number = s.number; calls = s.calls.items }

abbrev pub view : Input → Content
view input = record { head = input.head; sessions = map session_view input.sessions.items; phases = input.phases }

-- the head of the input reads so: its settings, or its first fault
pub record HasHead (input : List ℕ) (script : List (ℕ × List ℕ)) (head : Result Head Refusal) : Type 0 where
  pub parts : Parts
  pub split : ArePartsOf input parts
  pub script_is : parts.script ≡ script
  pub top : Members
  pub document : IsDocument parts.head top
  pub head_is : head_of top ≡ head

-- the lines of the script have forms, which keep the limits
pub record HasForms (head : Head) (script : List (ℕ × List ℕ)) (forms : List Form) : Type 0 where
  pub spelled : SpellEach script forms
  pub within : KeepLimits head forms

-- The input is accepted: it is no longer than it may be, and it has a head and a script whose lines have forms that keep the limits,
-- also that on costs.
pub record IsAccepted (input : List ℕ) (content : Content) : Type 0 where
  pub short : length input ≤ MAX_INPUT
  pub script : List (ℕ × List ℕ)
  pub head : HasHead input script (Ok content.head)
  pub forms : List Form
  pub has_forms : HasForms content.head script forms
  pub cheap : costs content.head forms forms ≤ MAX_ENTRIES
  pub sessions : content.sessions ≡ sessions_of forms
  pub phases : content.phases ≡ phases_of forms

-- The line of this number is the first that has no form with which the lines up to it keep the limits.
pub record RefusesForm (head : Head) (script : List (ℕ × List ℕ)) (number : ℕ) : Type 0 where
  pub before : List (ℕ × List ℕ)
  pub line : List ℕ
  pub after : List (ℕ × List ℕ)
  pub whole : script ≡ before ++ (number, line) ∷ after
  pub forms : List Form
  pub has_forms : HasForms head before forms
  pub refused : (f : Form) → Spells line f → KeepLimits head (forms ++ f ∷ []) → ⊥

-- Every line has its form, and the line of this number is the first at which the costs pass their limit.
pub record RefusesCost (head : Head) (script : List (ℕ × List ℕ)) (number : ℕ) : Type 0 where
  pub before : List (ℕ × List ℕ)
  pub line : List ℕ
  pub after : List (ℕ × List ℕ)
  pub whole : script ≡ before ++ (number, line) ∷ after
  pub forms : List Form
  pub has_forms : HasForms head script forms
  pub cheap : costs head forms (take (length before) forms) ≤ MAX_ENTRIES
  pub dear : MAX_ENTRIES < costs head forms (take (length before + 1) forms)

-- the head is accepted, and this line is the first refused, in the first pass or else in the second
pub record RefusesLine (input : List ℕ) (number : ℕ) : Type 0 where
  pub script : List (ℕ × List ℕ)
  pub settings : Head
  pub head : HasHead input script (Ok settings)
  pub refused : RefusesForm settings script number ⊎ RefusesCost settings script number

-- the head is refused so
pub record RefusesHead (input : List ℕ) (refusal : Refusal) : Type 0 where
  pub script : List (ℕ × List ℕ)
  pub head : HasHead input script (Err refusal)

-- the input has a head that is no document
pub record HasNoDocument (input : List ℕ) : Type 0 where
  pub parts : Parts
  pub split : ArePartsOf input parts
  pub none : (top : Members) → IsDocument parts.head top → ⊥

-- The refusal is the input's first one. Want of memory may come at any input.
abbrev pub MayRefuse : List ℕ → Refusal → Type 0
MayRefuse input NoRule = HasNoRule input
MayRefuse input NotToml = HasNoDocument input
MayRefuse input (Key setting) = RefusesHead input (Key setting)
MayRefuse input UnknownKey = RefusesHead input UnknownKey
MayRefuse input (Line number) = RefusesLine input number
MayRefuse input NoMemory = Unit {0}
