-- The outcomes of all jobs, each at its place.
use Rattle.std.proofs.Common.{◌≡◌, ◌≢◌, ℕ, ◌+◌, ◌<◌, ◌≤◌, List, [], ◌∷◌, ◌++◌, length, map, set, get_or, sym, refl, ◌∙◌, subst, append_assoc, arith}
use Rattle.std.specs.Prelude.{All, IsPermutation}
use Rattle.std.specs.List.{AllZip, zip}
use Rattle.std.proofs.lemmas.List.{get_or-set_same, get_or-set_other, length-set, length-append}
use Rattle.std.proofs.lemmas.List.Elements.{All-nil, All-cons, All-head, All-tail}
use Rattle.std.proofs.lemmas.List.Sorted.{IsPermutation-map}
use Rattle.ecp_history.specs.declared.task.Task.{Task}
use Rattle.ecp_rebuild.specs.declared.job.Job.{Job}
use Rattle.ecp_rebuild.specs.declared.ended.Ended.{Ended}
use Rattle.ecp_rebuild.specs.declared.outcome.Outcome.{Outcome}
use Rattle.ecp_rebuild.specs.declared.outcome.Outcome.TheVariants.{NoMemory}
use Rattle.ecp_rebuild.specs.Tasks.{Did}
use Rattle.ecp_rebuild.specs.Rules.{weigh}
use Rattle.ecp_rebuild.specs.Workers.{jobs_from, job_of, did_of, placed}
use Rattle.ecp_rebuild.proofs.Counting.{with_key, one_with, one_at_most, same_jobs}
use Rattle.ecp_rebuild.proofs.Numbering.{numbers_distinct}

abbrev number_of : Job → ℕ
number_of j = j.number

abbrev times : ℕ → List Ended → ℕ
times k ended = weigh (with_key number_of k) (map job_of ended)

-- a place that none of the jobs has
untouched : (ended : List Ended) (out : List Outcome) (k : ℕ) (d : Outcome) → times k ended ≡ 0 → get_or (placed ended out) k d ≡ get_or out k d
untouched [] out k d none = refl
untouched (e ∷ ended) out k d none =
    let other : k ≢ e.job.number = λ same. absurd (omega (arith, none, one_with number_of k e.job (sym same))) in
    untouched ended (set out e.job.number e.outcome) k d (omega (arith, none)) ∙ get_or-set_other out e.job.number k e.outcome d other

-- each job's place has its outcome, where no two have one place
each_placed : (ended : List Ended) (out : List Outcome) (d : Outcome) → All (λ e. e.job.number < length out) ended → ((k : ℕ) → times k ended ≤ 1)
    → All (λ e. get_or (placed ended out) e.job.number d ≡ e.outcome) ended
each_placed [] out d below once = All-nil (λ (e : Ended). get_or out e.job.number d ≡ e.outcome)
each_placed (e ∷ ended) out d below once =
    let n = e.job.number in
    let out' = set out n e.outcome in
    let Has : Ended → Type 0 = λ x. get_or (placed ended out') x.job.number d ≡ x.outcome in
    let none : times n ended ≡ 0 = omega (arith, once n, one_with number_of n e.job refl) in
    let mine : Has e = untouched ended out' n d none ∙ get_or-set_same out n e.outcome d (All-head (λ x. x.job.number < length out) e ended below) in
    let rest : All (λ x. x.job.number < length out') ended = rw (length-set out n e.outcome) (All-tail (λ x. x.job.number < length out) e ended below) in
    All-cons Has e ended mine (each_placed ended out' d rest (λ k. omega (arith, once k)))

-- the jobs with what stands at their places
module _ (out : List Outcome) where
  abbrev pub answered_by : Job → Did
  answered_by j = (j.task, get_or out j.number NoMemory)

  dids_are : (ended : List Ended) → All (λ e. get_or out e.job.number NoMemory ≡ e.outcome) ended → map answered_by (map job_of ended) ≡ map did_of ended
  dids_are [] has = refl
  dids_are (e ∷ ended) has =
      let mine = All-head (λ (x : Ended). get_or out x.job.number NoMemory ≡ x.outcome) e ended has in
      let rest = dids_are ended (All-tail (λ (x : Ended). get_or out x.job.number NoMemory ≡ x.outcome) e ended has) in
      λ i. (e.job.task, mine i) ∷ rest i

at_length : (xs : List Outcome) (y : Outcome) (ys : List Outcome) (d : Outcome) → get_or (xs ++ y ∷ ys) (length xs) d ≡ y
at_length [] y ys d = refl
at_length (x ∷ xs) y ys d = at_length xs y ys d

jobs_answered : (before after : List Outcome) (ts : List Task) → length ts ≡ length after → map (answered_by (before ++ after)) (jobs_from (length before) ts) ≡ zip ts after
jobs_answered before after [] len = refl
jobs_answered before [] (t ∷ ts) len = absurd (omega (arith, len))
jobs_answered before (o ∷ after) (t ∷ ts) len =
    let whole : (before ++ o ∷ []) ++ after ≡ before ++ o ∷ after = append_assoc before (o ∷ []) after in
    let n : length (before ++ o ∷ []) ≡ length before + 1 = length-append before (o ∷ []) in
    let here : get_or (before ++ o ∷ after) (length before) NoMemory ≡ o = at_length before o after NoMemory in
    let P : List Outcome × ℕ → Type 0 = λ p. map (answered_by p.0) (jobs_from p.1 ts) ≡ zip ts after in
    let rest : map (answered_by (before ++ o ∷ after)) (jobs_from (length before + 1) ts) ≡ zip ts after =
    subst P (λ i. (whole i, n i)) (jobs_answered (before ++ o ∷ []) after ts (omega (arith, len))) in
    λ i. (t, here i) ∷ rest i

-- what was done, where each job was done once, is the tasks with their outcomes
module _ (ts : List Task) (ended : List Ended) (before : List Outcome) (same : (h : Job → ℕ) → weigh h (map job_of ended) ≡ weigh h (jobs_from 0 ts))
    (below : All (λ e. e.job.number < length before) ended) (len : length (placed ended before) ≡ length ts) where
  abbrev out : List Outcome
  out = placed ended before

  pub all_done : IsPermutation (map did_of ended) (zip ts out)
  all_done =
      let once : (k : ℕ) → times k ended ≤ 1 = λ k. omega (arith, same (with_key number_of k), one_at_most number_of k (jobs_from 0 ts) (numbers_distinct ts)) in
      let left : map (answered_by out) (map job_of ended) ≡ map did_of ended = dids_are out ended (each_placed ended before NoMemory below once) in
      let right : map (answered_by out) (jobs_from 0 ts) ≡ zip ts out = jobs_answered [] out ts (sym len) in
      let P : List Did × List Did → Type 0 = λ p. IsPermutation p.0 p.1 in
      subst P (λ i. (left i, right i)) (IsPermutation-map (answered_by out) (map job_of ended) (jobs_from 0 ts) (same_jobs (map job_of ended) (jobs_from 0 ts) same))

pub answers_zip : (answers : Task → Outcome → Type 0) (ts : List Task) (out : List Outcome) → length out ≡ length ts → All (λ d. answers d.0 d.1) (zip ts out) → AllZip answers ts out
answers_zip answers [] [] len all = tt
answers_zip answers [] (o ∷ out) len all = absurd (omega (arith, len))
answers_zip answers (t ∷ ts) [] len all = absurd (omega (arith, len))
answers_zip answers (t ∷ ts) (o ∷ out) len all =
    let P : Did → Type 0 = λ d. answers d.0 d.1 in
    (All-head P (t, o) (zip ts out) all, answers_zip answers ts out (omega (arith, len)) (All-tail P (t, o) (zip ts out) all))
