-- What a catalog keeps of its parts.
use Rattle.std.specs.Prelude.{◌≡◌, ℕ, ◌+◌, ◌-◌, ◌*◌, ◌<◌, ◌≤◌, nat_le, nat_lt, Bool, true, ◌&&◌, List, [], ◌∷◌, length, reverse, find, sum_by, slice_get, All, Option, Some, None, option_map, option_and_then, MatchOption, ⊤}
use Rattle.ecp_shape.specs.declared.shape.Shape.{Shape}
use Rattle.ecp_shape.specs.Range.{IsInRange}
use Rattle.ecp_code.specs.Stripes.{stripe_count}
use Rattle.ecp_history.specs.declared.table.file.File.{File}
use Rattle.ecp_catalog.specs.declared.limits.TheConstants.{END_OF_STRIPES}
use Rattle.ecp_catalog.specs.declared.span.Span.{Span}
use Rattle.ecp_catalog.specs.Standing.{FileSeen, file_with, has_number}
use Rattle.ecp_catalog.specs.Catalogs.{NodeSeen, file_named}

-- whether a span has the stripe with this number
abbrev pub covers : ℕ → Span → Bool
covers s x = nat_le x.first s && nat_lt s x.end

-- the numbers of the stripes of a file at this index
abbrev pub span_of : File → ℕ → Span
span_of f at = record { first = f.first; end = f.first + f.stripes; file = at }

-- spans from this number on and up to that, none empty, each at or behind the end of the one before it
abbrev pub IsSpread : ℕ → ℕ → List Span → Type 0
IsSpread from to [] = from ≤ to
IsSpread from to (x ∷ xs) = (from ≤ x.first) × (x.first < x.end) × IsSpread x.end to xs

-- how many numbers some spans have
abbrev pub spanned : List Span → ℕ
spanned spans = sum_by (λ x. x.end - x.first) spans

-- the file that an entered name leads to, if it has one
abbrev pub joined : Option (Option ℕ) → Option ℕ
joined None = None
joined (Some i) = i

-- the file at the index that a span names
abbrev pub file_at : List FileSeen → Option Span → Option FileSeen
file_at files x = option_and_then (λ y. slice_get files y.file) x

-- how many stripes these files have
abbrev pub stripes_stored : List FileSeen → ℕ
stripes_stored files = sum_by (λ f. f.file.stripes) files

-- a file has as many stripes as its bytes fill, with numbers below the end, and a receipt for each of their rows
pub record IsFile (shape : Shape) (f : FileSeen) : Type 0 where
  pub counted : f.file.stripes ≡ stripe_count shape.k shape.block f.file.len
  pub below : f.file.first + f.file.stripes ≤ END_OF_STRIPES
  pub full : length f.rows ≡ f.file.stripes * shape.n

-- no two of these files have one number
abbrev pub AreApart : List FileSeen → Type 0
AreApart files = (i j s : ℕ) (f g : FileSeen) → slice_get files i ≡ Some f → slice_get files j ≡ Some g → has_number s f ≡ true → has_number s g ≡ true → i ≡ j

-- each name leads to its file, and each stripe number to the file that has it; the files stand in order of storing
pub record AreFiles (shape : Shape) (files : List FileSeen) (led : List ℕ → Option ℕ) (spans : List Span) : Type 0 where
  pub in_range : IsInRange shape
  pub each : All (IsFile shape) files
  pub named : (q : List ℕ) → file_named (reverse files) q ≡ option_map (λ f. f.file) (option_and_then (slice_get files) (led q))
  pub within : (q : List ℕ) → MatchOption (led q) ⊤ (λ i. i < length files)
  pub numbered : (s : ℕ) → file_with (reverse files) s ≡ file_at files (find (covers s) spans)
  pub apart : AreApart files
  pub known : All (λ x. x.file < length files) spans
  pub spread : IsSpread 0 END_OF_STRIPES spans
  pub all : stripes_stored (reverse files) ≡ spanned spans

-- there is room for so many files more
pub record HasRoom (room files_len files_cap spans_len spans_cap : ℕ) : Type 0 where
  pub files : files_len + room ≤ files_cap
  pub spans : spans_len + room ≤ spans_cap

-- how many rows the stripes of these files have
abbrev pub rows_stored : Shape → List FileSeen → ℕ
rows_stored shape files = stripes_stored files * shape.n

-- the sizes are in their range, there is a node for each number, and no more blocks are live than were stored
pub record AreNodes (shape : Shape) (files : List FileSeen) (nodes : List NodeSeen) : Type 0 where
  pub in_range : IsInRange shape
  pub count : length nodes ≡ shape.nodes
  pub few : All (λ x. x.live ≤ rows_stored shape files) nodes
