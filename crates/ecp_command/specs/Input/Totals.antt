-- What the lines of a script come to.
use Rattle.std.specs.Prelude.{◌≡◌, List, length, Option, MatchOption, sum_by, count_by}
use Rattle.ecp_command.specs.declared.input.form.Form.{Form}
use Rattle.ecp_command.specs.declared.input.head.Head.{Head}
use Rattle.ecp_command.specs.declared.input.totals.Totals.{Totals}
use Rattle.ecp_command.specs.Input.Limits.{KeepLimits, put_len, put_stripes, is_read}

-- the lines keep the limits, and come to this
pub record AreTotals (head : Head) (forms : List Form) (totals : Totals) : Type 0 where
  pub keep : KeepLimits head forms
  pub lines : totals.lines ≡ length forms
  pub bytes : totals.bytes ≡ sum_by put_len forms
  pub stripes : totals.stripes ≡ sum_by (put_stripes head) forms
  pub reads : totals.reads ≡ count_by is_read forms

-- the totals of the lines, where these keep the limits
abbrev pub HaveTotals : Head → List Form → Option Totals → Type 0
HaveTotals head forms found = MatchOption found (KeepLimits head forms → ⊥) (AreTotals head forms)
