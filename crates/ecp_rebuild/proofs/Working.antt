-- What one more job does to what a worker may take, and to what it did.
use Rattle.std.proofs.Common.{◌≡◌, ◌≢◌, ℕ, ◌+◌, ◌<◌, List, [], ◌∷◌, ◌++◌, map, sym, refl, ap, ◌∙◌, subst, append_assoc, append-nil, arith}
use Rattle.std.specs.Prelude.{All, Contains}
use Rattle.std.proofs.lemmas.List.{map-append, length-append}
use Rattle.std.proofs.lemmas.List.Elements.{All-push, All-nil, All-cons, All-head, All-tail}
use Rattle.ecp_history.specs.declared.task.Task.{Task}
use Rattle.ecp_rebuild.specs.declared.job.Job.{Job}
use Rattle.ecp_rebuild.specs.declared.ended.Ended.{Ended}
use Rattle.ecp_rebuild.specs.declared.outcome.Outcome.{Outcome}
use Rattle.ecp_rebuild.specs.declared.view.View.{View}
use Rattle.ecp_rebuild.specs.Tasks.{Did, HasNoPart}
use Rattle.ecp_rebuild.specs.Rules.{view_of, Takes}
use Rattle.ecp_rebuild.specs.Workers.{did_of, job_of, NoJobOf, MayTake, DidJobs}
use Rattle.ecp_rebuild.proofs.Counting.{with_key, one_with, one_at_most, all_from_zero, weigh_ones}

-- of a list that was made of two
pub all_of_both : {X : Type 0} (P : X → Type 0) (xs ys : List X) → All P (xs ++ ys) → All P xs × All P ys
all_of_both P [] ys all = (All-nil P, all)
all_of_both P (x ∷ xs) ys all =
    let rest = all_of_both P xs ys (All-tail P x (xs ++ ys) all) in (All-cons P x xs (All-head P x (xs ++ ys) all) rest.0, rest.1)

module _ (takes : Task → Type 0) (did : List Did) (v w : View) (ended capacity : ℕ) (x : Job) where
  -- no job of its part was taken before
  pub taken_once : MayTake takes did v ended capacity → Takes v x w → NoJobOf v.taken x.task.part
  taken_once may took =
      let part : Job → ℕ = λ j. j.task.part in
      all_from_zero part x.task.part v.taken
      (omega (arith, took.once (with_key part x.task.part), one_at_most part x.task.part v.jobs may.jobs.distinct, one_with part x.task.part x refl))

  pub is_fresh : MayTake takes did v ended capacity → Takes v x w → HasNoPart did x.task.part
  is_fresh may took = may.fresh x took.among (taken_once may took)

  pub has_room : MayTake takes did v ended capacity → Takes v x w → ended < capacity
  has_room may took = omega (arith, may.room, may.within, took.once (λ _. 1), weigh_ones v.taken, weigh_ones v.jobs)

  pub may_go_on : (o : Outcome) → MayTake takes did v ended capacity → Takes v x w → MayTake takes (did ++ (x.task, o) ∷ []) w (ended + 1) capacity
  may_go_on o may took =
      let P : View → Type 0 = λ u. MayTake takes (did ++ (x.task, o) ∷ []) u (ended + 1) capacity in
      subst P (sym took.view) (record {
        part = may.part;
        jobs = may.jobs;
        fresh = λ y among none.
            let Other : Job → Type 0 = λ j. j.task.part ≢ y.task.part in
            let apart = all_of_both Other v.taken (x ∷ []) none in
            All-push (λ d. d.0.part ≢ y.task.part) did (x.task, o) (may.fresh y among apart.0) (All-head Other x [] apart.1);
        room = may.room;
        within = omega (arith, may.within, length-append v.taken (x ∷ []));
      })

-- a worker that did nothing
pub did_none : (answers : Task → Outcome → Type 0) (did : List Did) (v : View) (ended : List Ended) → DidJobs answers did did v v ended ended
did_none answers did v ended = record {
  more = [];
  ended = sym (append-nil ended);
  took = ap (λ l. view_of v.parts v.jobs l) (sym (append-nil v.taken));
  did = sym (append-nil did);
  among = All-nil (λ e. Contains v.jobs e.job);
  answered = All-nil (λ e. answers e.job.task e.outcome);
}

pub goes_on : (answers : Task → Outcome → Type 0) (old new : List Did) (v u w : View) (before after : List Ended) (x : Job) (o : Outcome)
    → DidJobs answers old new v u before after → Takes u x w → answers x.task o
    → DidJobs answers old (new ++ (x.task, o) ∷ []) v w before (after ++ record { job = x; outcome = o } ∷ [])
goes_on answers old new v u w before after x o did took answered =
    let e : Ended = record { job = x; outcome = o } in
    let parts : u.parts ≡ v.parts = ap (λ y. y.parts) did.took in
    let jobs : u.jobs ≡ v.jobs = ap (λ y. y.jobs) did.took in
    let taken : u.taken ++ x ∷ [] ≡ v.taken ++ map job_of (did.more ++ e ∷ []) =
    ap (λ y. y.taken ++ x ∷ []) did.took ∙ (append_assoc v.taken (map job_of did.more) (x ∷ []) ∙ ap (λ l. v.taken ++ l) (sym (map-append job_of did.more (e ∷ [])))) in record {
      more = did.more ++ e ∷ [];
      ended = ap (λ l. l ++ e ∷ []) did.ended ∙ append_assoc before did.more (e ∷ []);
      took = took.view ∙ (λ i. view_of (parts i) (jobs i) (taken i));
      did = ap (λ l. l ++ (x.task, o) ∷ []) did.did ∙ (append_assoc old (map did_of did.more) ((x.task, o) ∷ []) ∙ ap (λ l. old ++ l) (sym (map-append did_of did.more (e ∷ []))));
      among = All-push (λ d. Contains v.jobs d.job) did.more e did.among (subst (λ (l : List Job). Contains l x) jobs took.among);
      answered = All-push (λ d. answers d.job.task d.outcome) did.more e did.answered answered;
    }
