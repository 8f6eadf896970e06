-- The slices of a block, and in which order a slice visits its helpers.
use Rattle.std.specs.Prelude.{ℕ, ◌+◌, ◌*◌, ◌%◌, ◌==◌, if◌then◌else◌, min}
use Rattle.std.specs.Int.{div_ceil}

-- how many slices of size bytes a block of len bytes has
abbrev pub slice_count : ℕ → ℕ → ℕ
slice_count len size = div_ceil len size

-- the bytes of slice j of a block of len bytes, with slices of size bytes: from slice_start up to slice_end
abbrev pub slice_start : ℕ → ℕ → ℕ
slice_start size j = j * size

abbrev pub slice_end : ℕ → ℕ → ℕ → ℕ
slice_end len size j = min ((j + 1) * size) len

-- the helper that slice j visits after `at` others: all slices go along one lane, or slice j begins at helper j mod h
-- of the h helpers and goes round
abbrev pub helper_after : ℕ → ℕ → ℕ → ℕ → ℕ
helper_after lanes h j at = if lanes == 1 then at else (j % h + at) % h
