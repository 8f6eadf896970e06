-- What looks at some of the senders find, at those from `first` to before `last`.
use Rattle.std.specs.Prelude.{◌≡◌, ℕ, ◌<◌, ◌≤◌, List, length, slice_get, Some}
use Rattle.ecp_link.specs.Links.{Taking, TakesOne, FindsNone}

module _ {T : Type 0} where
  -- nothing is there of any
  pub record NoneAmong (first last : ℕ) (old new : List (Taking T)) : Type 0 where
    pub count : length new ≡ length old
    pub asked : (p : ℕ) (a b : Taking T) → first ≤ p → p < last → slice_get old p ≡ Some a → slice_get new p ≡ Some b → FindsNone a b
    pub below : (p : ℕ) → p < first → slice_get new p ≡ slice_get old p
    pub above : (p : ℕ) → last ≤ p → slice_get new p ≡ slice_get old p

  -- the item is that of the first that has one
  pub record TakesAmong (first last : ℕ) (old new : List (Taking T)) (from : ℕ) (x : T) : Type 0 where
    pub was : Taking T
    pub now : Taking T
    pub not_below : first ≤ from
    pub within : from < last
    pub before : slice_get old from ≡ Some was
    pub after : slice_get new from ≡ Some now
    pub one : TakesOne was now x
    pub count : length new ≡ length old
    pub asked : (p : ℕ) (a b : Taking T) → first ≤ p → p < from → slice_get old p ≡ Some a → slice_get new p ≡ Some b → FindsNone a b
    pub below : (p : ℕ) → p < first → slice_get new p ≡ slice_get old p
    pub above : (p : ℕ) → from < p → slice_get new p ≡ slice_get old p
