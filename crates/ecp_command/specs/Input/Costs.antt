-- The line at which the costs pass their limit.
use Rattle.std.specs.Prelude.{◌≡◌, ℕ, ◌+◌, ◌<◌, ◌≤◌, List, length, take, slice_index, unwrap_or, bytes_eq}
use Rattle.std.specs.Borrow.{Bor}
use Rattle.std.specs.HashMap.{HashMap, get_by}
use Rattle.ecp_shape.specs.declared.limits.TheConstants.{MAX_ENTRIES}
use Rattle.ecp_command.specs.declared.input.head.Head.{Head}
use Rattle.ecp_command.specs.declared.input.numbered.Numbered.{Numbered}
use Rattle.ecp_command.specs.declared.input.form.Form.{Form}
use Rattle.ecp_command.specs.Input.Limits.{costs, most_blocks}
use Rattle.ecp_command.specs.Input.Script.{forms_of, numbers_of}

-- the line of this number is the first one
pub record IsOver (head : Head) (forms : List Numbered) (number : ℕ) : Type 0 where
  pub place : ℕ
  pub within : place < length forms
  pub number_is : number ≡ slice_index (numbers_of forms) place
  pub cheap : costs head (forms_of forms) (take place (forms_of forms)) ≤ MAX_ENTRIES
  pub dear : MAX_ENTRIES < costs head (forms_of forms) (take (place + 1) (forms_of forms))

-- a map has of each name how many blocks its largest file has, of those that these lines put
abbrev pub AreMost : {S : Type 0} → Head → List Form → HashMap (Bor (List ℕ)) ℕ S → Type 0
AreMost head forms m = (name : List ℕ) → unwrap_or (get_by (λ k. bytes_eq name k.now) m) 0 ≡ most_blocks head forms name
