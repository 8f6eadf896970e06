-- Tasks with their outcomes, as the lists of the hands have them.
use Rattle.std.specs.Prelude.{◌≡◌, ◌≢◌, ℕ, List, [], ◌∷◌, ◌++◌, All, AllPairs, IsPermutation}
use Rattle.std.specs.List.{flat_map}
use Rattle.ecp_history.specs.declared.task.Task.{Task}
use Rattle.ecp_rebuild.specs.declared.outcome.Outcome.{Outcome}

-- a task that was done, with its outcome
abbrev pub Did : Type 0
Did = Task × Outcome

-- none of these tasks is of this part
abbrev pub HasNoPart : List Did → ℕ → Type 0
HasNoPart did part = All (λ d. d.0.part ≢ part) did

-- none of these tasks is of the part of a task that is still to be done
abbrev pub HasNoneOf : List Task → List Did → Type 0
HasNoneOf tasks did = All (λ t. HasNoPart did t.part) tasks

-- no two tasks are of one part
abbrev pub HasDistinctParts : List Task → Type 0
HasDistinctParts tasks = AllPairs (λ t u. t.part ≢ u.part) tasks

module _ {H : Type 0} (did : H → List Did) where
  -- hand by hand, the list has grown at its end by this share
  abbrev pub GrewBy : List H → List H → List (List Did) → Type 0
  GrewBy [] [] [] = Unit {0}
  GrewBy (g ∷ before) (h ∷ after) (share ∷ shares) = (did h ≡ did g ++ share) × GrewBy before after shares
  GrewBy before after shares = ⊥

  -- the lists of the hands have together grown by all of these, each once, and by nothing else
  pub record DidTogether (before after : List H) (all : List Did) : Type 0 where
    pub shares : List (List Did)
    pub grew : GrewBy before after shares
    pub once : IsPermutation (flat_map (λ share. share) shares) all
