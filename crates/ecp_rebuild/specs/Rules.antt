-- The rule of the queue that hands out the jobs, and what each step does to a view.
use Rattle.std.specs.Prelude.{◌≡◌, ℕ, ◌+◌, ◌<◌, ◌≤◌, List, [], ◌∷◌, ◌++◌, Contains}
use mathlib.Core.Option.{some}
use lib.ListN.{get_elem?}
use Rattle.ecp_rebuild.specs.declared.job.Job.{Job}
use Rattle.ecp_rebuild.specs.declared.view.View.{View}

-- the weights of the jobs, added up
abbrev pub weigh : (Job → ℕ) → List Job → ℕ
weigh h [] = 0
weigh h (x ∷ xs) = h x + weigh h xs

-- what the views have, added up
abbrev pub total : (View → ℕ) → List View → ℕ
total f [] = 0
total f (v ∷ vs) = f v + total f vs

-- more parts than there can be hands
abbrev pub every_part : ℕ
every_part = 18446744073709551616

abbrev pub view_of : ℕ → List Job → List Job → View
view_of parts jobs taken = record { parts = parts; jobs = jobs; taken = taken }

-- a pass with a part knows all jobs, those that came out and then those that are left; one with no part took nothing
pub record Knows (out items : List Job) (v : View) : Type 0 where
  pub jobs : 0 < v.parts → v.jobs ≡ out ++ items
  pub idle : v.parts ≡ 0 → v.taken ≡ []

-- What came out of the queue was taken by the passes, each job once, however jobs are weighed
pub record HandsOut (items : List Job) (views : List View) : Type 0 where
  pub out : List Job
  pub parts : total (λ v. v.parts) views ≡ every_part
  pub taken : (h : Job → ℕ) → total (λ v. weigh h v.taken) views ≡ weigh h out
  pub known : (port : ℕ) (v : View) → get_elem? views port ≡ some v → Knows out items v

-- a job was taken: it is one of the jobs, and the pass took no job more often than it is among them
pub record Takes (v : View) (x : Job) (w : View) : Type 0 where
  pub view : w ≡ view_of v.parts v.jobs (v.taken ++ x ∷ [])
  pub among : Contains v.jobs x
  pub once : (h : Job → ℕ) → weigh h v.taken + h x ≤ weigh h v.jobs

-- the pass that has every part took what is not left
abbrev pub TookAll : View → List Job → Type 0
TookAll v items = v.parts ≡ every_part → (h : Job → ℕ) → weigh h v.taken + weigh h items ≡ weigh h v.jobs
