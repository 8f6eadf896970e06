-- Tasks with their places.
use Rattle.std.proofs.Common.{◌≡◌, ◌≢◌, ℕ, zero, suc, ◌+◌, ◌<◌, List, [], ◌∷◌, ◌++◌, length, map, get_or, take, sym, refl, ap, ◌∙◌, subst, arith}
use Rattle.std.specs.Prelude.{All, AllPairs}
use Rattle.std.proofs.lemmas.List.{length-take, take_more}
use Rattle.ecp_history.specs.declared.task.Task.{Task}
use Rattle.ecp_rebuild.specs.declared.job.Job.{Job}
use Rattle.ecp_rebuild.specs.declared.view.View.{View}
use Rattle.ecp_rebuild.specs.Rules.{view_of, every_part}
use Rattle.ecp_rebuild.specs.Tasks.{HasDistinctParts}
use Rattle.ecp_rebuild.specs.Workers.{jobs_from, AreJobs}

abbrev job : ℕ → Task → Job
job n t = record { number = n; task = t }

pub jobs_push : (n : ℕ) (ts : List Task) (t : Task) → jobs_from n (ts ++ t ∷ []) ≡ jobs_from n ts ++ record { number = n + length ts; task = t } ∷ []
jobs_push n [] t = ap (λ (k : ℕ). job k t ∷ []) (omega arith)
jobs_push n (u ∷ ts) t =
    let e : n + 1 + length ts ≡ n + length (u ∷ ts) = omega arith in
    ap (λ l. job n u ∷ l) (jobs_push (n + 1) ts t ∙ ap (λ (k : ℕ). jobs_from (n + 1) ts ++ job k t ∷ []) e)

pub length_jobs : (n : ℕ) (ts : List Task) → length (jobs_from n ts) ≡ length ts
length_jobs n [] = refl
length_jobs n (t ∷ ts) = ap suc (length_jobs (n + 1) ts)

pub get_job : (n : ℕ) (ts : List Task) (i : ℕ) (d : Job) → i < length ts → get_or (jobs_from n ts) i d ≡ record { number = n + i; task = get_or ts i d.task }
get_job n [] i d lt = absurd (omega (arith, lt))
get_job n (t ∷ ts) zero d lt = ap (λ (k : ℕ). job k t) (omega arith)
get_job n (t ∷ ts) (suc i) d lt =
    let e : n + 1 + i ≡ n + suc i = omega arith in
    get_job (n + 1) ts i d (omega (arith, lt)) ∙ ap (λ (k : ℕ). job k (get_or ts i d.task)) e

pub tasks_of_jobs : (n : ℕ) (ts : List Task) → map (λ (j : Job). j.task) (jobs_from n ts) ≡ ts
tasks_of_jobs n [] = refl
tasks_of_jobs n (t ∷ ts) = ap (λ l. t ∷ l) (tasks_of_jobs (n + 1) ts)

module _ (ts : List Task) where
  abbrev jobs : List Job
  jobs = jobs_from 0 ts

  within : (i : ℕ) → i < length jobs → i < length ts
  within i lt = subst (λ (n : ℕ). i < n) (length_jobs 0 ts) lt

  pub numbers_below : All (λ j. j.number < length ts) jobs
  numbers_below k d lt =
      let at = get_job 0 ts k d (within k lt) in
      subst (λ (j : Job). j.number < length ts) (sym at) (omega (arith, within k lt))

  pub numbers_distinct : AllPairs (λ j k. j.number ≢ k.number) jobs
  numbers_distinct i j d lt in' e =
      let one = ap (λ (x : Job). x.number) (get_job 0 ts i d (omega (arith, lt, within j in'))) in
      let two = ap (λ (x : Job). x.number) (get_job 0 ts j d (within j in')) in
      absurd (omega (arith, lt, sym one ∙ (e ∙ two)))

  pub all_jobs : (P : Task → Type 0) → All P ts → All (λ j. P j.task) jobs
  all_jobs P all k d lt =
      let at = get_job 0 ts k d (within k lt) in
      subst (λ (j : Job). P j.task) (sym at) (all k d.task (within k lt))

  pub are_jobs : (takes : Task → Type 0) → HasDistinctParts ts → All takes ts → AreJobs takes jobs
  are_jobs takes distinct all = record {
    distinct = λ i j d lt in' e.
        let one = ap (λ (x : Job). x.task.part) (get_job 0 ts i d (omega (arith, lt, within j in'))) in
        let two = ap (λ (x : Job). x.task.part) (get_job 0 ts j d (within j in')) in
        distinct i j d.task lt (within j in') (sym one ∙ (e ∙ two));
    taken = all_jobs takes all;
  }

-- one more job was put in
pub fills_one : (ts : List Task) (n : ℕ) (d : Task) (v w : View) → n < length ts → v ≡ view_of every_part (jobs_from 0 (take n ts)) []
    → w ≡ view_of v.parts (v.jobs ++ record { number = n; task = get_or ts n d } ∷ []) v.taken → w ≡ view_of every_part (jobs_from 0 (take (n + 1) ts)) []
fills_one ts n d v w lt was is =
    let t = get_or ts n d in
    let many : 0 + length (take n ts) ≡ n = omega (arith, length-take n ts, lt) in
    let parts : v.parts ≡ every_part = ap (λ (y : View). y.parts) was in
    let taken : v.taken ≡ [] = ap (λ (y : View). y.taken) was in
    let filled : v.jobs ++ job n t ∷ [] ≡ jobs_from 0 (take (n + 1) ts) =
    ap (λ (y : View). y.jobs ++ job n t ∷ []) was
    ∙ (ap (λ (k : ℕ). jobs_from 0 (take n ts) ++ job k t ∷ []) (sym many)
    ∙ (sym (jobs_push 0 (take n ts) t) ∙ ap (jobs_from 0) (sym (take_more ts n d lt)))) in
    is ∙ (λ i. view_of (parts i) (filled i) (taken i))
