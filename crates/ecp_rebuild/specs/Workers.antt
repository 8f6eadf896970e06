-- What a worker needs before it takes jobs, and what it leaves.
use Rattle.std.specs.Prelude.{◌≡◌, ◌≢◌, ℕ, ◌+◌, ◌<◌, ◌≤◌, List, [], ◌∷◌, ◌++◌, All, AllPairs, Contains, Option, Vec, map, length, vec_len, vec_capacity, slice_set}
use Rattle.std.specs.declared.alloc.Global.{Global}
use Rattle.std.specs.List.{AllZip, flat_map}
use Rattle.crossbeam_queue.specs.declared.array_queue.Doing.{Doing}
use Rattle.crossbeam_queue.specs.declared.array_queue.Slotted.{Slotted}
use Rattle.crossbeam_queue.specs.Passes.{view, IsPassOf}
use Rattle.ecp_history.specs.declared.task.Task.{Task}
use Rattle.ecp_rebuild.specs.declared.done.Done.{Done}
use Rattle.ecp_rebuild.specs.declared.job.Job.{Job}
use Rattle.ecp_rebuild.specs.declared.ended.Ended.{Ended}
use Rattle.ecp_rebuild.specs.declared.outcome.Outcome.{Outcome}
use Rattle.ecp_rebuild.specs.declared.view.View.{View}
use Rattle.ecp_rebuild.specs.declared.worker.Worker.{Worker}
use Rattle.ecp_rebuild.specs.Tasks.{Did, HasNoPart}
use Rattle.ecp_rebuild.specs.Rules.{view_of, weigh, every_part}

-- the tasks with their places, counted from n
abbrev pub jobs_from : ℕ → List Task → List Job
jobs_from n [] = []
jobs_from n (t ∷ ts) = record { number = n; task = t } ∷ jobs_from (n + 1) ts

-- a job that was done, as the list of its hand has it
abbrev pub did_of : Ended → Did
did_of e = (e.job.task, e.outcome)

abbrev pub job_of : Ended → Job
job_of e = e.job

-- none of these jobs is of this part
abbrev pub NoJobOf : List Job → ℕ → Type 0
NoJobOf jobs part = All (λ j. j.task.part ≢ part) jobs

-- jobs that may be handed out: each is of a part of its own, and its task is taken
pub record AreJobs (takes : Task → Type 0) (jobs : List Job) : Type 0 where
  pub distinct : AllPairs (λ j k. j.task.part ≢ k.task.part) jobs
  pub taken : All (λ j. takes j.task) jobs

-- a worker may take jobs: its hand has done nothing of a part that its own pass did not take, and it has room for all outcomes
pub record MayTake (takes : Task → Type 0) (did : List Did) (v : View) (ended capacity : ℕ) : Type 0 where
  pub part : 0 < v.parts
  pub jobs : AreJobs takes v.jobs
  pub fresh : (x : Job) → Contains v.jobs x → NoJobOf v.taken x.task.part → HasNoPart did x.task.part
  pub room : length v.jobs ≤ capacity
  pub within : ended ≤ length v.taken

-- what a worker did: the jobs that its pass took are done, each with its outcome
pub record DidJobs (answers : Task → Outcome → Type 0) (old new : List Did) (v w : View) (before after : List Ended) : Type 0 where
  pub more : List Ended
  pub ended : after ≡ before ++ more
  pub took : w ≡ view_of v.parts v.jobs (v.taken ++ map job_of more)
  pub did : new ≡ old ++ map did_of more
  pub among : All (λ e. Contains v.jobs e.job) more
  pub answered : All (λ e. answers e.job.task e.outcome) more

-- the pass that has every part took each job once
abbrev pub TookEach : View → Type 0
TookEach v = v.parts ≡ every_part → (h : Job → ℕ) → weigh h v.taken ≡ weigh h v.jobs

module _ {H Q A : Type 0} (q : Slotted (Option Job) (Doing Job View) Q A) where
  -- a worker that begins, with this hand
  pub record IsSeated (jobs : List Job) (g : H) (w : Worker H) : Type 0 where
    pub hand : w.hand ≡ g
    pub pass : IsPassOf q w.pass
    pub starts : view w.pass ≡ view_of 1 jobs []
    pub ended : w.ended.items ≡ []
    pub room : length jobs ≤ vec_capacity w.ended

  -- a worker that may go to work
  pub record IsReady (is_fit : H → Type 0) (takes : Task → Type 0) (did : H → List Did) (w : Worker H) : Type 0 where
    pub pass : IsPassOf q w.pass
    pub fit : is_fit w.hand
    pub may : MayTake takes (did w.hand) (view w.pass) (vec_len w.ended) (vec_capacity w.ended)

  -- a worker before and after its work
  pub record Worked {I : Type 0} (is_fit : H → Type 0) (answers : Task → Outcome → Type 0) (did_by : H → List Did) (who : H → I) (o w : Worker H) : Type 0 where
    pub pass : IsPassOf q w.pass
    pub fit : is_fit w.hand
    pub same : who w.hand ≡ who o.hand
    pub did : DidJobs answers (did_by o.hand) (did_by w.hand) (view o.pass) (view w.pass) o.ended.items w.ended.items
    pub room : vec_capacity w.ended ≡ vec_capacity o.ended

  -- a pass of one part took just the jobs that its worker did
  pub record TookItsOwn (jobs : List Job) (w : Worker H) : Type 0 where
    pub pass : IsPassOf q w.pass
    pub took : view w.pass ≡ view_of 1 jobs (map job_of w.ended.items)
    pub among : All (λ e. Contains jobs e.job) w.ended.items

-- each of the lists is empty, and has room for so many
abbrev pub HaveRoom : ℕ → List (Vec Ended Global) → Type 0
HaveRoom n rooms = All (λ e. (e.items ≡ []) × (n ≤ vec_capacity e)) rooms

-- each outcome at the number of its job
abbrev pub placed : List Ended → List Outcome → List Outcome
placed [] outcomes = outcomes
placed (e ∷ ended) outcomes = placed ended (slice_set outcomes e.job.number e.outcome)

module _ {H : Type 0} where
  -- the hands of these workers, and all that they did
  abbrev pub hands_of : List (Worker H) → List H
  hands_of workers = map (λ w. w.hand) workers

  abbrev pub all_ended : List (Worker H) → List Ended
  all_ended workers = flat_map (λ w. w.ended.items) workers

  -- a view that took in the passes of these workers
  abbrev pub gathered : View → List (Worker H) → View
  gathered v workers = view_of (v.parts + length workers) v.jobs (v.taken ++ map job_of (all_ended workers))

  -- a hand that went on: what it did since is added to its list, each task with an outcome that answers it
  pub record WentOn {I : Type 0} (is_fit : H → Type 0) (answers : Task → Outcome → Type 0) (did_by : H → List Did) (who : H → I) (o w : Worker H) : Type 0 where
    pub fit : is_fit w.hand
    pub same : who w.hand ≡ who o.hand
    pub more : List Ended
    pub ended : w.ended.items ≡ o.ended.items ++ more
    pub did : did_by w.hand ≡ did_by o.hand ++ map did_of more
    pub answered : All (λ e. answers e.job.task e.outcome) more

  -- the hands of these workers come back in their order with all outcomes in their places, and each job was done once
  pub record Finishes {I : Type 0} (is_fit : H → Type 0) (answers : Task → Outcome → Type 0) (did_by : H → List Did) (who : H → I)
      (jobs : List Job) (workers : List (Worker H)) (before : List Outcome) (d : Done H) : Type 0 where
    pub last : List (Worker H)
    pub went_on : AllZip (WentOn is_fit answers did_by who) workers last
    pub hands : d.hands.items ≡ hands_of last
    pub outcomes : d.outcomes.items ≡ placed (all_ended last) before
    pub once : (h : Job → ℕ) → weigh h (map job_of (all_ended last)) ≡ weigh h jobs
