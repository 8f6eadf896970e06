-- What a script may ask for.
use Rattle.std.specs.Prelude.{ℕ, ◌+◌, ◌-◌, ◌*◌, ◌/◌, ◌≤◌, max, Bool, true, false, if◌then◌else◌, List, length, fold, sum_by, count_by, bytes_eq}
use Rattle.std.specs.List.{AllByRecursion}
use Rattle.ecp_code.specs.Stripes.{stripe_count}
use Rattle.ecp_shape.specs.declared.limits.TheConstants.{MAX_LINES, MAX_PUT_BYTES, MAX_PUT_STRIPES, MAX_BYTES, MAX_STRIPES, MAX_STORED, MAX_READ}
use Rattle.ecp_command.specs.declared.input.call.Call.TheVariants.{Put, Read, Sum, Cat, Lose, Join, Rebuild, Stat}
use Rattle.ecp_command.specs.declared.input.form.Form.{Form}
use Rattle.ecp_command.specs.declared.input.form.Form.TheVariants.{Session, Barrier, Call}
use Rattle.ecp_command.specs.declared.input.head.Head.{Head}

-- how many bytes a line puts
abbrev pub put_len : Form → ℕ
put_len (Session number) = 0
put_len Barrier = 0
put_len (Call (Put name bytes)) = length bytes
put_len (Call (Read name index)) = 0
put_len (Call (Sum name index)) = 0
put_len (Call (Cat name)) = 0
put_len (Call (Lose node)) = 0
put_len (Call (Join node)) = 0
put_len (Call (Rebuild from to)) = 0
put_len (Call (Stat name)) = 0

-- how many stripes they fill
abbrev pub put_stripes : Head → Form → ℕ
put_stripes head f = stripe_count head.k head.block (put_len f)

-- whether the line asks for a block
abbrev pub is_read : Form → Bool
is_read (Session number) = false
is_read Barrier = false
is_read (Call (Put name bytes)) = false
is_read (Call (Read name index)) = true
is_read (Call (Sum name index)) = false
is_read (Call (Cat name)) = false
is_read (Call (Lose node)) = false
is_read (Call (Join node)) = false
is_read (Call (Rebuild from to)) = false
is_read (Call (Stat name)) = false

-- the lines together keep each limit
pub record KeepLimits (head : Head) (forms : List Form) : Type 0 where
  pub lines : length forms ≤ MAX_LINES
  pub each_bytes : AllByRecursion (λ f. put_len f ≤ MAX_PUT_BYTES) forms
  pub each_stripes : AllByRecursion (λ f. put_stripes head f ≤ MAX_PUT_STRIPES) forms
  pub bytes : sum_by put_len forms ≤ MAX_BYTES
  pub stripes : sum_by (put_stripes head) forms ≤ MAX_STRIPES
  pub stored : sum_by (put_stripes head) forms * head.n * head.block ≤ MAX_STORED
  pub reads : count_by is_read forms * head.block ≤ MAX_READ

-- how many blocks a file of this name has that the line puts, or 0
abbrev pub blocks_put : Head → List ℕ → Form → ℕ
blocks_put head name (Call (Put other bytes)) = if bytes_eq other name then (length bytes + head.block - 1) / head.block else 0
blocks_put head name _ = 0

-- how many the largest one has
abbrev pub most_blocks : Head → List Form → List ℕ → ℕ
most_blocks head forms name = fold (λ most f. max most (blocks_put head name f)) 0 forms

-- What a line of these costs, of the entries that a history may have: a `cat` has an end, a part that opens the file, and one for each block
-- of the largest file of its name; every other call has an end
abbrev pub cost : Head → List Form → Form → ℕ
cost head forms (Session number) = 0
cost head forms Barrier = 0
cost head forms (Call (Put name bytes)) = 1
cost head forms (Call (Read name index)) = 1
cost head forms (Call (Sum name index)) = 1
cost head forms (Call (Cat name)) = 2 + most_blocks head forms name
cost head forms (Call (Lose node)) = 1
cost head forms (Call (Join node)) = 1
cost head forms (Call (Rebuild from to)) = 1
cost head forms (Call (Stat name)) = 1

-- what they cost together
abbrev pub costs : Head → List Form → List Form → ℕ
costs head forms some = sum_by (cost head forms) some
