-- The rule of the queue, and what a pass knows.
use Rattle.std.specs.Prelude.{◌≡◌, ℕ, ◌≤◌, true, false, List, [], length, slice_set, Some}
use mathlib.Core.Option.{some}
use lib.ListN.{get_elem?}
use Rattle.crossbeam_queue.specs.Passes.{Pass, view}
use Rattle.ecp_link.specs.declared.known.Known.{Known}
use Rattle.ecp_link.specs.declared.by_queue.view.Parcel.{Parcel}
use Rattle.ecp_link.specs.declared.by_queue.view.View.{View}
use Rattle.ecp_link.specs.Links.{IsInOrder, with_taken, with_ended}
use Rattle.ecp_link.specs.Queued.{of, known_of}

module _ {T : Type 0} where
  -- the views of a sender, of the taker, and of a sender that was taken in
  abbrev pub sender_of : ℕ → List T → View T
  sender_of from pushed = record { sends = true; from = from; pushed = pushed; takes = false; known = [] }

  abbrev pub taker_of : List (Known T) → View T
  taker_of known = record { sends = false; from = 0; pushed = []; takes = true; known = known }

  abbrev pub spent : View T
  spent = record { sends = false; from = 0; pushed = []; takes = false; known = [] }

  -- what the taker knows once it took this
  abbrev pub known_after : List (Known T) → Parcel T → List (Known T)
  known_after known x = slice_set known x.from (with_taken (known_of known x.from) x.item)

  -- what the taker knows once the sender ended
  abbrev pub known_ended : List (Known T) → ℕ → List T → List (Known T)
  known_ended known p pushed = slice_set known p (with_ended (known_of known p) pushed)

  -- The view says only what is so. Each sender has one pass; those of ended and of unmade senders are the taker's
  pub record Fits (sent : ℕ → List T) (seats : ℕ → ℕ) (taker : ℕ) (known : List (Known T)) (seat : ℕ) (v : View T) : Type 0 where
    pub own : v.sends ≡ true → (seats v.from ≡ seat) × (v.pushed ≡ sent v.from)
    pub reader : v.takes ≡ true → (taker ≡ seat) × (v.known ≡ known)
    pub unmade : v.takes ≡ true → (p : ℕ) → length v.known ≤ p → (seats p ≡ seat) × (sent p ≡ [])
    pub ended : v.takes ≡ true → (p : ℕ) (all : List T) → (known_of v.known p).ended ≡ Some all → (seats p ≡ seat) × (sent p ≡ all)

  -- of each sender, what was taken and then what the queue holds is what it pushed
  pub record IsDelivering (items : List (Parcel T)) (views : List (View T)) : Type 0 where
    pub sent : ℕ → List T
    pub seats : ℕ → ℕ
    pub taker : ℕ
    pub known : List (Known T)
    pub order : (p : ℕ) → IsInOrder (known_of known p).taken (of p items) (sent p)
    pub fits : (seat : ℕ) (v : View T) → get_elem? views seat ≡ some v → Fits sent seats taker known seat v

  -- what a sender learns of the items that the queue holds
  abbrev pub HoldsOwn : View T → List (Parcel T) → Type 0
  HoldsOwn v items = (taken : List T) × IsInOrder taken (of v.from items) v.pushed

  -- what the taker learns of them: of every ended sender, the rest of what it pushed
  abbrev pub HoldsRest : View T → List (Parcel T) → Type 0
  HoldsRest v items = (p : ℕ) (all : List T) → (known_of v.known p).ended ≡ Some all → IsInOrder (known_of v.known p).taken (of p items) all

  -- what a sender pushed, and what the taker knows
  abbrev pub pushed_by : Pass (Parcel T) (View T) → List T
  pushed_by pass = (view pass).pushed

  abbrev pub known_by : Pass (Parcel T) (View T) → List (Known T)
  known_by pass = (view pass).known

  -- a sender's pass
  pub record IsSender (pass : Pass (Parcel T) (View T)) (number pushed : ℕ) : Type 0 where
    pub knows : view pass ≡ sender_of number (pushed_by pass)
    pub counted : pushed ≡ length (pushed_by pass)

  -- the taker's pass
  abbrev pub IsTaker : Pass (Parcel T) (View T) → Type 0
  IsTaker pass = view pass ≡ taker_of (known_by pass)
