-- What the ends of a link know whose items lie together, each with its sender.
use Rattle.std.specs.Prelude.{◌≡◌, ℕ, ◌<◌, ◌≤◌, ◌⊎◌, List, [], ◌∷◌, ◌++◌, ◌==◌, if◌then◌else◌, length, replicate, slice_get, slice_set, slice_index_or, Some}
use Rattle.atomic_table.specs.Seated.{TableId}
use Rattle.ecp_link.specs.declared.known.Known.{Known}
use Rattle.ecp_link.specs.declared.by_queue.view.Parcel.{Parcel}
use Rattle.ecp_link.specs.declared.limits.TheConstants.{MOST_PUSHES}
use Rattle.ecp_link.specs.Links.{IsInOrder, IsAllTaken, unknown, with_taken, with_ended}

-- what a sender knows: which link it is of, its number there, how much that holds, and what it pushed
pub record Sending (T : Type 0) : Type 0 where
  pub link : TableId
  pub number : ℕ
  pub capacity : ℕ
  pub pushed : List T

-- what the taker knows: which link it is of, how much that holds, and what it knows of each sender
pub record Taking (T : Type 0) : Type 0 where
  pub link : TableId
  pub capacity : ℕ
  pub known : List (Known T)

module _ {T : Type 0} where
  -- the items of sender p among these, in order
  abbrev pub of : ℕ → List (Parcel T) → List T
  of p [] = []
  of p (x ∷ xs) = if x.from == p then x.item ∷ of p xs else of p xs

  -- what the taker knows of sender p
  abbrev pub known_of : List (Known T) → ℕ → Known T
  known_of known p = slice_index_or known p unknown

  -- the sender with its list
  abbrev pub with_pushed : Sending T → List T → Sending T
  with_pushed s pushed = record { link = s.link; number = s.number; capacity = s.capacity; pushed = pushed }

  -- the taker with what it knows
  abbrev pub with_known : Taking T → List (Known T) → Taking T
  with_known t known = record { link = t.link; capacity = t.capacity; known = known }

  -- at a step of the call the link held so many items as it may, those of this sender the last that it pushed
  pub record HeldAll (s : Sending T) : Type 0 where
    pub held : List (Parcel T)
    pub taken : List T
    pub full : length held ≡ s.capacity
    pub order : IsInOrder taken (of s.number held) s.pushed

  -- why an item came back: the link was full at a step of the call, or the sender has pushed as many as it may
  abbrev pub IsRefused : Sending T → Type 0
  IsRefused s = HeldAll s ⊎ (MOST_PUSHES ≤ length s.pushed)

  -- an item of some sender was taken
  pub record Takes (old new : Taking T) (x : T) : Type 0 where
    pub from : ℕ
    pub known : from < length old.known
    pub taken : new ≡ with_known old (slice_set old.known from (with_taken (known_of old.known from) x))

  -- of every ended sender, all was taken
  abbrev pub AreAllTaken : Taking T → Type 0
  AreAllTaken t = (p : ℕ) → IsAllTaken (known_of t.known p)

  -- the sender ended
  abbrev pub ended_by : Taking T → Sending T → Taking T
  ended_by t s = with_known t (slice_set t.known s.number (with_ended (known_of t.known s.number) s.pushed))

  -- the next sender, of which nothing is known
  pub record IsNext (old new : Taking T) (s : Sending T) : Type 0 where
    pub sender : s ≡ record { link = old.link; number = length old.known; capacity = old.capacity; pushed = [] }
    pub known : new ≡ with_known old (old.known ++ unknown ∷ [])

  -- the ends of a new link
  pub record IsNew (senders capacity : ℕ) (ends : List (Sending T)) (taker : Taking T) : Type 0 where
    pub count : length ends ≡ senders
    pub taken : taker ≡ record { link = taker.link; capacity = capacity; known = replicate senders unknown }
    pub pushed : (p : ℕ) → p < senders → slice_get ends p ≡ Some (record { link = taker.link; number = p; capacity = capacity; pushed = [] })
