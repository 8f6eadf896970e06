-- The rule of a book, and what each kind of step does to a view.
use Rattle.std.specs.Prelude.{ℕ, ◌≡◌, ◌<◌, ◌≤◌, ◌⊎◌, List, [], ◌∷◌, ◌++◌, length, slice_index}
use mathlib.Core.Option.{some}
use mathlib.Core.List.{IsPrefix}
use lib.ListN.{get_elem?}
use Rattle.atomic_table.specs.Seated.{TableId}
use Rattle.atomic_table.specs.Table.{Me}
use Rattle.ecp_book.specs.Logs.{Log}
use Rattle.ecp_book.specs.declared.view.Role.{Role}
use Rattle.ecp_book.specs.declared.view.Role.TheVariants.{Opener, Keeper, Tag, Ended, Spent}
use Rattle.ecp_book.specs.declared.view.View.{View}

-- what a seat may claim of the lists of the logs, and of who keeps each log
abbrev pub Claims : (ℕ → Log) → (ℕ → ℕ) → ℕ → ℕ → Log → Role → Type 0
Claims lists keepers seat log items Opener = (later : ℕ) → log ≤ later → (keepers later ≡ seat) × (lists later ≡ [])
Claims lists keepers seat log items Keeper = (keepers log ≡ seat) × (items ≡ lists log)
Claims lists keepers seat log items Tag = IsPrefix items (lists log)
Claims lists keepers seat log items Ended = (keepers log ≡ seat) × (items ≡ lists log)
Claims lists keepers seat log items Spent = Unit {0}

-- the view says only what is so, of the list that it met too
abbrev pub Fits : (ℕ → Log) → (ℕ → ℕ) → ℕ → View → Type 0
Fits lists keepers seat v = Claims lists keepers seat v.log v.items v.role × IsPrefix v.met (lists v.log)

-- Each log has one list, which its keeper has whole. Each word is the length of its log's list, and each tag's list is a prefix of that list
pub record IsKept (logs : ℕ) (words : List ℕ) (views : List View) : Type 0 where
  pub lists : ℕ → Log
  pub keepers : ℕ → ℕ
  pub count : length words ≡ logs
  pub lengths : (log : ℕ) → log < logs → slice_index words log ≡ length (lists log)
  pub fits : (seat : ℕ) (v : View) → get_elem? views seat ≡ some v → Fits lists keepers seat v

-- the views of a seat outside a meeting
abbrev pub opener_of : ℕ → View
opener_of log = record { role = Opener; log = log; items = []; met = [] }

abbrev pub keeper_of : ℕ → Log → View
keeper_of log items = record { role = Keeper; log = log; items = items; met = [] }

abbrev pub tag_of : ℕ → Log → View
tag_of log items = record { role = Tag; log = log; items = items; met = [] }

abbrev pub ended_of : ℕ → Log → View
ended_of log items = record { role = Ended; log = log; items = items; met = [] }

abbrev pub spent : View
spent = record { role = Spent; log = 0; items = []; met = [] }

-- the view in a meeting with a list
abbrev pub meeting : View → Log → View
meeting v met = record { role = v.role; log = v.log; items = v.items; met = met }

-- what a meeting teaches of the lists of its two sides
abbrev pub Teaches : Role → Log → Log → Type 0
Teaches Keeper items met = IsPrefix met items
Teaches role items met = IsPrefix met items ⊎ IsPrefix items met

-- the keeper's list grows by the item
abbrev pub Grows : List ℕ → View → View → Type 0
Grows item v w = w ≡ keeper_of v.log (v.items ++ item ∷ [])

-- the meeting ends: what it teaches, and the view is as before it
abbrev pub Learns : View → View → Type 0
Learns v w = (w ≡ meeting v []) × Teaches v.role v.items v.met

-- a seat of the book, with this view of a log of the book, whose length is counted
pub record IsSeated (book table : TableId) (me : Me (Unit {0}) View) (view : ℕ → Log → View) (log len : ℕ) : Type 0 where
  pub in_book : table ≡ book
  pub in_range : log < book.words
  pub counted : len ≡ length me.0.items
  pub knows : me ≡ (view log me.0.items, [])

-- a table of so many words, with the seat that opens it
pub record IsBlank (book : TableId) (key : ℕ) (table : TableId) (me : Me (Unit {0}) View) (logs : ℕ) : Type 0 where
  pub in_book : table ≡ book
  pub counted : book.words ≡ logs
  pub told : key ≡ logs
  pub some : 1 ≤ logs
  pub knows : me ≡ (opener_of 0, [])
