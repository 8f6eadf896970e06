-- The items of a node's log. An item is a list of whole numbers, and begins with the mark of its kind.
use Rattle.std.specs.Prelude.{ℕ, ◌==◌, Bool, false, ◌&&◌, if◌then◌else◌, List, [], ◌∷◌, Option, Some, None}

-- a block that a node kept
pub record Kept : Type 0 where
  pub stripe : ℕ
  pub row : ℕ
  pub serial : ℕ
  pub bytes : List ℕ

-- the block was kept
abbrev pub kept_item : Kept → List ℕ
kept_item kept = 0 ∷ kept.stripe ∷ kept.row ∷ kept.serial ∷ kept.bytes

-- the block with this serial was given up
abbrev pub removed_item : ℕ → List ℕ
removed_item serial = 1 ∷ serial ∷ []

-- all blocks were given up, and this incarnation began
abbrev pub wiped_item : ℕ → List ℕ
wiped_item inc = 2 ∷ inc ∷ []

-- a keep or a read of the store failed
abbrev pub faulted_item : List ℕ
faulted_item = 3 ∷ []

-- a failure was spent
abbrev pub spent_item : List ℕ
spent_item = 4 ∷ []

-- whether the item begins with this mark
abbrev pub has_mark : ℕ → List ℕ → Bool
has_mark mark (first ∷ rest) = first == mark
has_mark mark [] = false

abbrev pub is_wiped : List ℕ → Bool
is_wiped item = has_mark 2 item

abbrev pub is_faulted : List ℕ → Bool
is_faulted item = has_mark 3 item

abbrev pub is_spent : List ℕ → Bool
is_spent item = has_mark 4 item

-- whether the block with this serial was given up
abbrev pub is_removed : ℕ → List ℕ → Bool
is_removed serial (mark ∷ removed ∷ rest) = (mark == 1) && (removed == serial)
is_removed serial _ = false

-- the block with this serial, where the item says that it was kept
abbrev pub kept_as : ℕ → List ℕ → Option Kept
kept_as serial (mark ∷ stripe ∷ row ∷ own ∷ bytes) =
    if (mark == 0) && (own == serial) then Some (record { stripe = stripe; row = row; serial = serial; bytes = bytes }) else None
kept_as serial _ = None
