-- The settings that a head gives.
use Rattle.std.specs.Prelude.{◌≡◌, ℕ, ◌+◌, ◌-◌, ◌≤◌, min, pos, Bool, true, false, ◌&&◌, nat_le, if◌then◌else◌, List, [], ◌∷◌, Option, Some, None, Result, Ok, Err, ok_or, codes, IsUtf8}
use Rattle.std.specs.Str.{bytes_eq}
use Rattle.std.specs.List.{list_any}
use Rattle.toml.specs.Data.{Data, string, integer, Members, no_members, member, get_member}
use Rattle.toml.specs.Parse.{parse_document}
use Rattle.ecp_shape.specs.declared.limits.TheConstants.{MAX_ROWS, MAX_NODES, MAX_BLOCK, MAX_WINDOW, MAX_WORKERS}
use Rattle.ecp_shape.specs.declared.shape.Shape.{Shape}
use Rattle.ecp_shape.specs.Range as range
use Rattle.ecp_command.specs.declared.input.head.Head.{Head}
use Rattle.ecp_command.specs.declared.input.defaults.TheConstants.{DEFAULT_SLICE, DEFAULT_WINDOW, DEFAULT_WORKERS}
use Rattle.ecp_command.specs.declared.input.refusal.Refusal.{Refusal}
use Rattle.ecp_command.specs.declared.input.refusal.Refusal.TheVariants.{NotToml, NoRule, Key, UnknownKey, Line, NoMemory}
use Rattle.ecp_command.specs.declared.input.setting.Setting.{Setting}
use Rattle.ecp_command.specs.declared.input.setting.Setting.TheVariants.{K, N, Nodes, Block, Slice, Window, Workers, Path}

-- the key as a head spells it
abbrev pub key : Setting → List ℕ
key K = codes "k"
key N = codes "n"
key Nodes = codes "nodes"
key Block = codes "block"
key Slice = codes "slice"
key Window = codes "window"
key Workers = codes "workers"
key Path = codes "path"

-- the text is UTF-8 and a TOML document with these keys at its top
pub record IsDocument (text : List ℕ) (top : Members) : Type 0 where
  pub utf8 : IsUtf8 text
  pub toml : parse_document text ≡ Some top

infixl 10 ◌>>=◌
abbrev pub ◌>>=◌ : {A B : Type 0} → Result A Refusal → (A → Result B Refusal) → Result B Refusal
(Ok x) >>= f = f x
(Err e) >>= f = Err e

-- a whole number in a range, both ends in it, or the default where the key is missing
abbrev pub number_in : ℕ → ℕ → Option ℕ → Option Data → Option ℕ
number_in low high default None = default
number_in low high default (Some (integer (pos n))) = if nat_le low n && nat_le n high then Some n else None
number_in low high default (Some _) = None

-- whether the path is cyclic: the one path is the linear one, which is also the default
abbrev pub path_in : Option Data → Option Bool
path_in None = Some false
path_in (Some (string text)) = if bytes_eq text (codes "linear") then Some false else None
path_in (Some _) = None

-- the number that a setting has in a head, or the refusal of its key
unfoldable pub number_of : Setting → ℕ → ℕ → Option ℕ → Members → Result ℕ Refusal
number_of setting low high default top = ok_or (number_in low high default (get_member (key setting) top)) (Key setting)

unfoldable pub cyclic_of : Members → Result Bool Refusal
cyclic_of top = ok_or (path_in (get_member (key Path) top)) (Key Path)

-- the key is that of a setting
abbrev pub is_setting : List ℕ → Bool
is_setting name = list_any (λ setting. bytes_eq name (key setting)) (K ∷ N ∷ Nodes ∷ Block ∷ Slice ∷ Window ∷ Workers ∷ Path ∷ [])

-- each key at the top is that of a setting
abbrev pub has_settings_only : Members → Bool
has_settings_only no_members = true
has_settings_only (member name d rest) = is_setting name && has_settings_only rest

-- the settings of a head, or its first fault
unfoldable pub head_of : Members → Result Head Refusal
head_of top = do
  k ← number_of K 1 (MAX_ROWS - 1) None top
  n ← number_of N (k + 1) MAX_ROWS None top
  nodes ← number_of Nodes n MAX_NODES None top
  block ← number_of Block 1 MAX_BLOCK None top
  slice ← number_of Slice 1 block (Some (min block DEFAULT_SLICE)) top
  window ← number_of Window 1 MAX_WINDOW (Some DEFAULT_WINDOW) top
  workers ← number_of Workers 0 MAX_WORKERS (Some DEFAULT_WORKERS) top
  cyclic ← cyclic_of top
  if has_settings_only top then Ok (record { k = k; n = n; nodes = nodes; block = block; slice = slice; window = window; workers = workers; cyclic = cyclic }) else Err UnknownKey

-- the sizes that a head states
abbrev pub shape_of : Head → Shape
shape_of head = record { n = head.n; k = head.k; nodes = head.nodes; block = head.block }

-- each setting is in its range
pub record IsInRange (head : Head) : Type 0 where
  pub sizes : range.IsInRange (shape_of head)
  pub slice_low : 1 ≤ head.slice
  pub slice_high : head.slice ≤ head.block
  pub window_low : 1 ≤ head.window
  pub window_high : head.window ≤ MAX_WINDOW
  pub workers_high : head.workers ≤ MAX_WORKERS

-- The refusal is the first fault of the text of a head. Want of memory may come at any text.
abbrev pub MayRefuseHead : List ℕ → Refusal → Type 0
MayRefuseHead text NoMemory = Unit {0}
MayRefuseHead text NotToml = (top : Members) → IsDocument text top → ⊥
MayRefuseHead text (Key setting) = (top : Members) × IsDocument text top × (head_of top ≡ Err (Key setting))
MayRefuseHead text UnknownKey = (top : Members) × IsDocument text top × (head_of top ≡ Err UnknownKey)
MayRefuseHead text NoRule = ⊥
MayRefuseHead text (Line number) = ⊥

-- the text of a head gives these settings
abbrev pub GivesHead : List ℕ → Head → Type 0
GivesHead text head = (top : Members) × IsDocument text top × (head_of top ≡ Ok head)
