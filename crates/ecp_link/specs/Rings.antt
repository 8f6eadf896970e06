-- The rule of a ring, and what each kind of step does to a view.
use Rattle.std.specs.Prelude.{◌≡◌, ◌≢◌, ℕ, ◌+◌, ◌%◌, ◌<◌, ◌≤◌, Bool, true, false, if◌then◌else◌, List, [], ◌∷◌, ◌++◌, length, slice_index, slice_get, Option, Some, None}
use mathlib.Core.Option as kept
use mathlib.Core.List.{IsPrefix}
use lib.ListN.{get_elem?}
use Rattle.atomic_table.specs.Seated.{TableId}
use Rattle.atomic_table.specs.Table.{Me}
use Rattle.ecp_link.specs.declared.ring.view.View.{View}

-- 1 where it is so
abbrev pub bit : Bool → ℕ
bit b = if b then 1 else 0

module _ {T : Type 0} where
  -- the first seat of a ring, where nothing was pushed
  abbrev pub fresh : View T
  fresh = record { sends = true; pushed = []; fills = false; takes = true; taken = []; empties = false; looks = [] }

  -- the sender's seat between its calls, and with a free place out
  abbrev pub sender_of : List T → List ℕ → View T
  sender_of pushed looks = record { sends = true; pushed = pushed; fills = false; takes = false; taken = []; empties = false; looks = looks }

  abbrev pub filler_of : List T → List ℕ → View T
  filler_of pushed looks = record { sends = true; pushed = pushed; fills = true; takes = false; taken = []; empties = false; looks = looks }

  -- the taker's seat between its calls, and with the place of the last item out; `sends` says that the sender was taken in, which pushed this
  abbrev pub taker_of : Bool → List T → List T → List ℕ → View T
  taker_of sends pushed taken looks = record { sends = sends; pushed = pushed; fills = false; takes = true; taken = taken; empties = false; looks = looks }

  abbrev pub emptier_of : Bool → List T → List T → List ℕ → View T
  emptier_of sends pushed taken looks = record { sends = sends; pushed = pushed; fills = false; takes = true; taken = taken; empties = true; looks = looks }

  -- a seat that says nothing
  abbrev pub spent : View T
  spent = record { sends = false; pushed = []; fills = false; takes = false; taken = []; empties = false; looks = [] }

  -- the view says only what is so of the sender's list, of how many items were given up, and of who has which turn
  pub record Fits (sent : List T) (taken sender taker : ℕ) (filling emptying : Bool) (seat : ℕ) (v : View T) : Type 0 where
    pub own : v.sends ≡ true → (sender ≡ seat) × (v.pushed ≡ sent) × (filling ≡ v.fills)
    pub reads : v.takes ≡ true → (taker ≡ seat) × IsPrefix v.taken sent × (length v.taken ≡ taken + bit v.empties) × (emptying ≡ v.empties)

  -- The words count what the sender pushed and what was given up. The sender has the turn of the free places, and the taker that of
  -- the others, which hold what was pushed, in order: item p lies at p modulo their number. Of each at most the first may be out
  pub record Stands (sent : List T) (taken sender taker : ℕ) (filling emptying : Bool) (words : List ℕ) (homes : List (kept.Option (Option T))) (views : List (View T)) : Type 0 where
    pub count : length words ≡ 48
    pub pushed_word : slice_index words 16 ≡ length sent
    pub taken_word : slice_index words 32 ≡ taken
    pub behind : taken + bit emptying ≤ length sent
    pub room : length sent + bit filling ≤ taken + length homes
    pub places : (p : ℕ) → taken ≤ p → p < taken + length homes → (filling ≡ true → p ≢ length sent) → (emptying ≡ true → p ≢ taken)
        → get_elem? homes (p % length homes) ≡ kept.some (kept.some (slice_get sent p))
    pub fits : (seat : ℕ) (v : View T) → get_elem? views seat ≡ kept.some v → Fits sent taken sender taker filling emptying seat v

  -- a ring in turn
  pub record IsRing (words : List ℕ) (homes : List (kept.Option (Option T))) (views : List (View T)) : Type 0 where
    pub sent : List T
    pub taken : ℕ
    pub sender : ℕ
    pub taker : ℕ
    pub filling : Bool
    pub emptying : Bool
    pub stands : Stands sent taken sender taker filling emptying words homes views

  -- the sender found so many taken: either there is room, and the next free place is out, or there is none
  pub record FindsRoom (places : ℕ) (v : Me (Option T) (View T)) (found : ℕ) (w : Me (Option T) (View T)) : Type 0 where
    pub behind : found ≤ length v.0.pushed
    pub free : length v.0.pushed < found + places → w ≡ (filler_of v.0.pushed (v.0.looks ++ found ∷ []), (length v.0.pushed % places, None) ∷ [])
    pub full : found + places ≤ length v.0.pushed → w ≡ (sender_of v.0.pushed (v.0.looks ++ found ∷ []), [])

  -- the items in the places that are out
  abbrev pub carried : List (ℕ × Option T) → List T
  carried [] = []
  carried ((k, None) ∷ xs) = carried xs
  carried ((k, Some x) ∷ xs) = x ∷ carried xs

  -- the place was given back with its item, which was pushed
  abbrev pub filled : Me (Option T) (View T) → Me (Option T) (View T)
  filled v = (sender_of (v.0.pushed ++ carried v.1) v.0.looks, [])

  -- the taker found so many pushed: either there is an item, whose place is out, or there is none
  pub record FindsItem (places : ℕ) (v : Me (Option T) (View T)) (found : ℕ) (w : Me (Option T) (View T)) : Type 0 where
    pub ahead : length v.0.taken ≤ found
    pub there : length v.0.taken < found → (x : T) × (w ≡ (emptier_of v.0.sends v.0.pushed (v.0.taken ++ x ∷ []) (v.0.looks ++ found ∷ []), (length v.0.taken % places, Some x) ∷ []))
        × (v.0.sends ≡ true → IsPrefix (v.0.taken ++ x ∷ []) v.0.pushed)
    pub none : found ≤ length v.0.taken → (w ≡ (taker_of v.0.sends v.0.pushed v.0.taken (v.0.looks ++ found ∷ []), [])) × (v.0.sends ≡ true → v.0.taken ≡ v.0.pushed)

  -- the taker found so many pushed: either there is none, or the look says nothing
  pub record FindsNoItem (v : Me (Option T) (View T)) (found : ℕ) (w : Me (Option T) (View T)) : Type 0 where
    pub ahead : length v.0.taken ≤ found
    pub none : found ≤ length v.0.taken → (w ≡ (taker_of v.0.sends v.0.pushed v.0.taken (v.0.looks ++ found ∷ []), [])) × (v.0.sends ≡ true → v.0.taken ≡ v.0.pushed)
    pub some : length v.0.taken < found → w ≡ v

  -- the empty place was given back
  abbrev pub emptied : Me (Option T) (View T) → Me (Option T) (View T)
  emptied v = (taker_of v.0.sends v.0.pushed v.0.taken v.0.looks, [])

  -- the parts of the first seat
  abbrev pub sender_part : View T → View T
  sender_part v = sender_of v.pushed []

  abbrev pub taker_part : View T → View T
  taker_part v = taker_of false [] v.taken []

  -- the taker once it took the sender in
  abbrev pub ended : View T → View T → View T
  ended v w = taker_of true w.pushed v.taken v.looks

  -- what is known of a sender that was taken in: how many items it pushed, and that what was taken begins them
  pub record Knows (v : View T) (found : ℕ) : Type 0 where
    pub counted : found ≡ length v.pushed
    pub begins : IsPrefix v.taken v.pushed

  -- what a seat knows of an ended sender
  abbrev pub ended_in : View T → Option (List T)
  ended_in v = if v.sends then Some v.pushed else None

  -- a sender's seat at a ring of so many places, between its calls
  pub record IsSender (ring table : TableId) (me : Me (Option T) (View T)) (capacity place pushed : ℕ) : Type 0 where
    pub in_ring : table ≡ ring
    pub knows : me ≡ (sender_of me.0.pushed me.0.looks, [])
    pub counted : pushed ≡ length me.0.pushed
    pub some_room : 1 ≤ capacity
    pub at_place : place ≡ pushed % capacity

  -- the taker's, of one sender
  pub record IsTaker (ring table : TableId) (me : Me (Option T) (View T)) (capacity place taken : ℕ) : Type 0 where
    pub in_ring : table ≡ ring
    pub knows : me ≡ (taker_of me.0.sends me.0.pushed me.0.taken me.0.looks, [])
    pub counted : taken ≡ length me.0.taken
    pub some_room : 1 ≤ capacity
    pub at_place : place ≡ taken % capacity
