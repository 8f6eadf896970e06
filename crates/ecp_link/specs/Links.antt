-- Links: what a sender pushed, what was taken of it, and what the link holds of it.
use Rattle.std.specs.Prelude.{◌≡◌, ℕ, ◌+◌, ◌-◌, ◌<◌, ◌≤◌, ◌⊎◌, List, [], ◌∷◌, ◌++◌, length, slice_get, slice_set, Some, None}
use Rattle.atomic_table.specs.Seated.{TableId}
use Rattle.ecp_link.specs.declared.limits.TheConstants.{MOST_PUSHES}
use mathlib.Core.List.{IsPrefix}
use Rattle.ecp_link.specs.declared.known.Known.{Known}
use Rattle.ecp_link.specs.declared.pushed.Pushed.{Pushed}
use Rattle.ecp_link.specs.declared.pushed.Pushed.TheVariants as answer

-- the order of a link, of each sender: what was taken of it, followed by what the link holds of it, is what it pushed
abbrev pub IsInOrder : {T : Type 0} → List T → List T → List T → Type 0
IsInOrder taken held pushed = taken ++ held ≡ pushed

-- a fact where the item went onto the link
abbrev pub OnPushed : {T : Type 0} → Pushed T → Type 0 → Type 0
OnPushed answer.Ok p = p
OnPushed (answer.Full x) p = Unit {0}

-- a fact of the item that came back
abbrev pub IfFull : {T : Type 0} → Pushed T → (T → Type 0) → Type 0
IfFull answer.Ok p = Unit {0}
IfFull (answer.Full x) p = p x

-- what a taker knows of a sender at first
abbrev pub unknown : {T : Type 0} → Known T
unknown = record { taken = []; ended = None }

-- one more item was taken of it
abbrev pub with_taken : {T : Type 0} → Known T → T → Known T
with_taken k x = record { taken = k.taken ++ x ∷ []; ended = k.ended }

-- it ended, and pushed these
abbrev pub with_ended : {T : Type 0} → Known T → List T → Known T
with_ended k all = record { taken = k.taken; ended = Some all }

-- what was taken of an ended sender begins what it pushed
abbrev pub IsBeginning : {T : Type 0} → Known T → Type 0
IsBeginning {T} k = (all : List T) → k.ended ≡ Some all → IsPrefix k.taken all

-- of an ended sender all was taken
abbrev pub IsAllTaken : {T : Type 0} → Known T → Type 0
IsAllTaken {T} k = (all : List T) → k.ended ≡ Some all → k.taken ≡ all

-- what a sender knows: its end of the link, its number there, how much the link holds of it, what it pushed, and of each look at the link how many of its items were taken by then
pub record Sending (T : Type 0) : Type 0 where
  pub place : TableId
  pub number : ℕ
  pub capacity : ℕ
  pub pushed : List T
  pub looks : List ℕ

-- what the taker knows of one sender: the other end of its part of the link, what was taken of it and what it pushed in the end, and of each look how many items it had pushed by then
pub record Taking (T : Type 0) : Type 0 where
  pub place : TableId
  pub known : Known T
  pub looks : List ℕ

-- what the taker knows: of each sender by its number, and whose turn it is to be asked first
pub record Takings (T : Type 0) : Type 0 where
  pub each : List (Taking T)
  pub next : ℕ

-- of one sender at one moment: how many items it had pushed, and how many of them were taken
pub record Count : Type 0 where
  pub pushed : ℕ
  pub taken : ℕ

-- how many items the whole link holds, and how many its senders have pushed
abbrev pub held_in : List Count → ℕ
held_in [] = 0
held_in (c ∷ link) = c.pushed - c.taken + held_in link

abbrev pub pushed_in : List Count → ℕ
pushed_in [] = 0
pushed_in (c ∷ link) = c.pushed + pushed_in link

-- sender p is asked before sender q: those from sender `next` on are asked first, in rising order, and then the others
abbrev pub IsBefore : ℕ → ℕ → ℕ → Type 0
IsBefore next p q = ((next ≤ p) × (q < next)) ⊎ ((p < q) × ((q < next) ⊎ (next ≤ p)))

module _ {T : Type 0} where
  -- the sender after a look, and with one more item pushed
  abbrev pub with_look : Sending T → ℕ → Sending T
  with_look s found = record { place = s.place; number = s.number; capacity = s.capacity; pushed = s.pushed; looks = s.looks ++ found ∷ [] }

  abbrev pub with_pushed : Sending T → T → Sending T
  with_pushed s x = record { place = s.place; number = s.number; capacity = s.capacity; pushed = s.pushed ++ x ∷ []; looks = s.looks }

  -- the same sender
  pub record IsSame (old new : Sending T) : Type 0 where
    pub place : new.place ≡ old.place
    pub number : new.number ≡ old.number
    pub capacity : new.capacity ≡ old.capacity

  -- the item went onto the link: a look of this call found fewer of the sender's items there than it holds
  pub record Goes (old new : Sending T) (x : T) : Type 0 where
    pub found : ℕ
    pub room : length old.pushed < found + old.capacity
    pub is : new ≡ with_pushed (with_look old found) x

  -- there was no room: a look of this call found as many of the sender's items on the link as it holds
  pub record FindsFull (old new : Sending T) : Type 0 where
    pub found : ℕ
    pub full : found + old.capacity ≤ length old.pushed
    pub is : new ≡ with_look old found

  -- why an item came back: there was no room, or the sender has pushed as many items as it may
  abbrev pub IsRefused : Sending T → Sending T → Type 0
  IsRefused old new = FindsFull old new ⊎ ((MOST_PUSHES ≤ length old.pushed) × (new ≡ old))

  -- an item of the sender was taken: a look found that it had pushed more than were taken. Of an ended sender, what was taken still begins what it pushed
  pub record TakesOne (old new : Taking T) (x : T) : Type 0 where
    pub found : ℕ
    pub there : length old.known.taken < found
    pub is : new ≡ record { place = old.place; known = with_taken old.known x; looks = old.looks ++ found ∷ [] }
    pub begins : IsBeginning new.known

  -- a look found nothing of the sender: it had pushed as many as were taken. Of an ended sender, that is all
  pub record FindsNone (old new : Taking T) : Type 0 where
    pub is : new ≡ record { place = old.place; known = old.known; looks = old.looks ++ length old.known.taken ∷ [] }
    pub all : IsAllTaken old.known

  -- the item is that of the first sender, in turn, that had one on the link
  pub record TakesInTurn (next : ℕ) (old new : List (Taking T)) (from : ℕ) (x : T) : Type 0 where
    pub was : Taking T
    pub now : Taking T
    pub before : slice_get old from ≡ Some was
    pub after : slice_get new from ≡ Some now
    pub one : TakesOne was now x
    pub count : length new ≡ length old
    pub asked : (p : ℕ) (a b : Taking T) → IsBefore next p from → slice_get old p ≡ Some a → slice_get new p ≡ Some b → FindsNone a b
    pub others : (p : ℕ) → IsBefore next from p → slice_get new p ≡ slice_get old p

  -- nothing was on the link of any sender
  pub record NoneOfAny (old new : List (Taking T)) : Type 0 where
    pub count : length new ≡ length old
    pub each : (p : ℕ) (a b : Taking T) → slice_get old p ≡ Some a → slice_get new p ≡ Some b → FindsNone a b

  -- an item was taken; the next turn begins behind its sender
  pub record Takes (old new : Takings T) (x : T) : Type 0 where
    pub from : ℕ
    pub taken : TakesInTurn old.next old.each new.each from x
    pub next : new.next ≡ from + 1

  -- nothing was there
  pub record FindsNothing (old new : Takings T) : Type 0 where
    pub none : NoneOfAny old.each new.each
    pub next : new.next ≡ old.next

  -- the sender is of the taker's link
  pub record IsOf (t : Takings T) (s : Sending T) : Type 0 where
    pub end : Taking T
    pub there : slice_get t.each s.number ≡ Some end
    pub same : s.place ≡ end.place

  -- the senders of the link are still its senders
  abbrev pub KeepsSenders : Takings T → Takings T → Type 0
  KeepsSenders old new = (s : Sending T) → IsOf old s → IsOf new s

  -- the sender ended, and pushed this
  abbrev pub with_end : Taking T → List T → Taking T
  with_end t pushed = record { place = t.place; known = with_ended t.known pushed; looks = t.looks }

  -- the sender ended, and the taker knows what it pushed, which what was taken of it begins
  pub record Ends (old new : Takings T) (s : Sending T) : Type 0 where
    pub was : Taking T
    pub there : slice_get old.each s.number ≡ Some was
    pub begins : IsPrefix was.known.taken s.pushed
    pub is : new ≡ record { each = slice_set old.each s.number (with_end was s.pushed); next = old.next }

  -- a sender and the taker's end of its part of the link, at their making
  pub record IsPair (number capacity : ℕ) (s : Sending T) (t : Taking T) : Type 0 where
    pub sender : s ≡ record { place = s.place; number = number; capacity = capacity; pushed = []; looks = [] }
    pub taker : t ≡ record { place = s.place; known = unknown; looks = [] }

  -- the two ends of a new link
  pub record IsNew (senders capacity : ℕ) (ends : List (Sending T)) (taker : Takings T) : Type 0 where
    pub count : length ends ≡ senders
    pub known : length taker.each ≡ senders
    pub next : taker.next ≡ 0
    pub pairs : (p : ℕ) (s : Sending T) (t : Taking T) → slice_get ends p ≡ Some s → slice_get taker.each p ≡ Some t → IsPair p capacity s t
