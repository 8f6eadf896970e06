-- A whole run, from the hands that are given to the hands that come back.
use Rattle.std.proofs.Common.{◌≡◌, ℕ, ◌<◌, ◌≤◌, List, [], ◌∷◌, ◌++◌, Option, length, map, vec_len, vec_capacity, sym, ap, ◌∙◌, subst, arith}
use Rattle.std.specs.Prelude.{All, Contains, IsPermutation}
use Rattle.std.specs.List.{AllZip, zip}
use Rattle.std.proofs.lemmas.List.Elements.{All-nil, All-cons, All-head, All-tail, All-contains, All-map}
use Rattle.std.proofs.lemmas.List.Sorted.{IsPermutation-sym, All-permutation}
use mathlib.Core.List.{reverse, reverse-reverse}
use Rattle.crossbeam_queue.specs.declared.array_queue.Doing.{Doing}
use Rattle.crossbeam_queue.specs.declared.array_queue.Slotted.{Slotted}
use Rattle.crossbeam_queue.specs.Passes.{view}
use Rattle.ecp_history.specs.declared.task.Task.{Task}
use Rattle.ecp_rebuild.specs.declared.done.Done.{Done}
use Rattle.ecp_rebuild.specs.declared.job.Job.{Job}
use Rattle.ecp_rebuild.specs.declared.ended.Ended.{Ended}
use Rattle.ecp_rebuild.specs.declared.outcome.Outcome.{Outcome}
use Rattle.ecp_rebuild.specs.declared.view.View.{View}
use Rattle.ecp_rebuild.specs.declared.worker.Worker.{Worker}
use Rattle.ecp_rebuild.specs.Tasks.{Did, HasNoPart, HasNoneOf, GrewBy, DidTogether}
use Rattle.ecp_rebuild.specs.Rules.{view_of}
use Rattle.ecp_rebuild.specs.Workers.{jobs_from, did_of, job_of, AreJobs, MayTake, IsSeated, IsReady, Worked, TookItsOwn, WentOn, Finishes, placed, all_ended}
use Rattle.ecp_rebuild.proofs.Counting.{same_jobs}
use Rattle.ecp_rebuild.proofs.Numbering.{numbers_below, all_jobs}
use Rattle.ecp_rebuild.proofs.Gathering.{length_placed}
use Rattle.ecp_rebuild.proofs.Placing.{all_done, answers_zip}
use Rattle.ecp_rebuild.proofs.Finishing.{zips_through, zips_turned, all_turned, may_again, goes_twice, Began, began_and_went_on, all_fit, all_same, all_grew, all_shares, all_answered, shares_of}

-- what holds of each of the one list, of each of the other
zips_all : {X Y : Type 0} (R : X → Y → Type 0) (P : X → Type 0) (Q : Y → Type 0) → ((x : X) (y : Y) → R x y → P x → Q y) → (xs : List X) (ys : List Y) → AllZip R xs ys → All P xs → All Q ys
zips_all R P Q step [] [] zipped all = All-nil Q
zips_all R P Q step [] (y ∷ ys) zipped all = absurd zipped
zips_all R P Q step (x ∷ xs) [] zipped all = absurd zipped
zips_all R P Q step (x ∷ xs) (y ∷ ys) zipped all = All-cons Q y ys (step x y zipped.0 (All-head P x xs all)) (zips_all R P Q step xs ys zipped.1 (All-tail P x xs all))

all_mapped : {X Y : Type 0} (f : X → Y) (P : Y → Type 0) (xs : List X) → All P (map f xs) → All (λ x. P (f x)) xs
all_mapped f P [] all = All-nil (λ x. P (f x))
all_mapped f P (x ∷ xs) all = All-cons (λ y. P (f y)) x xs (All-head P (f x) (map f xs) all) (all_mapped f P xs (All-tail P (f x) (map f xs) all))

all_both : {X : Type 0} (P Q : X → Type 0) (xs : List X) → All P xs → All Q xs → All (λ x. P x × Q x) xs
all_both P Q xs ps qs k d lt = (ps k d lt, qs k d lt)

module _ {H I Q A : Type 0} (q : Slotted (Option Job) (Doing Job View) Q A) (is_fit : H → Type 0) (takes : Task → Type 0) (answers : Task → Outcome → Type 0) (did_by : H → List Did) (who : H → I)
    (ts : List Task) where
  abbrev jobs : List Job
  jobs = jobs_from 0 ts

  -- a worker as it begins
  pub record Begins (w : Worker H) : Type 0 where
    pub ready : IsReady q is_fit takes did_by w
    pub view : view w.pass ≡ view_of 1 jobs []
    pub ended : w.ended.items ≡ []

  seated_begins : AreJobs takes jobs → (g : H) (w : Worker H) → IsSeated q jobs g w → is_fit g × HasNoneOf ts (did_by g) → Begins w
  seated_begins are g w seated able = record {
    ready = record {
      pass = seated.pass;
      fit = subst is_fit (sym seated.hand) able.0;
      may = record {
        part = omega (arith, ap (λ v. v.parts) seated.starts);
        jobs = subst (AreJobs takes) (sym (ap (λ v. v.jobs) seated.starts)) are;
        fresh = λ x among none.
            let Free : Task → Type 0 = λ t. HasNoPart (did_by w.hand) t.part in
            All-contains (λ j. Free j.task) jobs x (all_jobs ts Free (subst (λ (h : H). HasNoneOf ts (did_by h)) (sym seated.hand) able.1))
            (subst (λ (l : List Job). Contains l x) (ap (λ v. v.jobs) seated.starts) among);
        room = subst (λ (l : List Job). length l ≤ w.ended.cap) (sym (ap (λ v. v.jobs) seated.starts)) seated.room;
        within = omega (arith, w.ended.ok.0, ap length seated.ended);
      };
    };
    view = seated.starts;
    ended = seated.ended;
  }

  pub all_begin : AreJobs takes jobs → (gs : List H) (ws : List (Worker H)) → AllZip (IsSeated q jobs) gs (reverse ws) → All is_fit gs → All (λ g. HasNoneOf ts (did_by g)) gs → All Begins ws
  all_begin are gs ws seated fit fresh =
      let turned = zips_all (IsSeated q jobs) (λ g. is_fit g × HasNoneOf ts (did_by g)) Begins (seated_begins are) gs (reverse ws) seated
      (all_both is_fit (λ g. HasNoneOf ts (did_by g)) gs fit fresh) in
      subst (λ (l : List (Worker H)). All Begins l) (reverse-reverse ws) (all_turned Begins (reverse ws) turned)

  -- a worker that has worked may work again, and its pass took what it did
  abbrev pub Ends : Worker H → Type 0
  Ends w = IsReady q is_fit takes did_by w × TookItsOwn q jobs w

  worked_ends : (o w : Worker H) → Worked q is_fit answers did_by who o w → Begins o → Ends w
  worked_ends o w worked begins =
      let did = worked.did in
      let ended : w.ended.items ≡ did.more = did.ended ∙ ap (λ l. l ++ did.more) begins.ended in
      let old : vec_len o.ended ≡ length o.ended.items = omega (arith, o.ended.ok.0) in
      let new : length w.ended.items ≡ vec_len w.ended = omega (arith, w.ended.ok.0) in
      let may = may_again takes answers (did_by o.hand) (did_by w.hand) (view o.pass) (view w.pass) o.ended.items w.ended.items (vec_capacity o.ended)
      (subst (λ (n : ℕ). MayTake takes (did_by o.hand) (view o.pass) n (vec_capacity o.ended)) old begins.ready.may) did in
      let Next : ℕ × ℕ → Type 0 = λ p. MayTake takes (did_by w.hand) (view w.pass) p.0 p.1 in
      let parts : (view o.pass).parts ≡ 1 = ap (λ v. v.parts) begins.view in
      let same : (view o.pass).jobs ≡ jobs = ap (λ v. v.jobs) begins.view in
      let taken : (view o.pass).taken ++ map job_of did.more ≡ map job_of w.ended.items = ap (λ v. v.taken ++ map job_of did.more) begins.view ∙ ap (map job_of) (sym ended) in
      let Among : List Job × List Ended → Type 0 = λ p. All (λ e. Contains p.0 e.job) p.1 in (
        record { pass = worked.pass; fit = worked.fit; may = subst Next (λ i. (new i, sym worked.room i)) may },
        record { pass = worked.pass; took = did.took ∙ (λ i. view_of (parts i) (same i) (taken i)); among = subst Among (λ i. (same i, sym ended i)) did.among },
      )

  pub all_end : (os ws : List (Worker H)) → AllZip (Worked q is_fit answers did_by who) os ws → All Begins os → All Ends ws
  all_end os ws worked begin = zips_all (Worked q is_fit answers did_by who) Begins Ends worked_ends os ws worked begin

  module _ (gs : List H) (os ws : List (Worker H)) (before : List Outcome) (d : Done H) (seated : AllZip (IsSeated q jobs) gs (reverse os)) (worked : AllZip (Worked q is_fit answers did_by who) os ws)
      (fin : Finishes is_fit answers did_by who jobs (reverse ws) before d) (len : length before ≡ length ts) where
    abbrev Goes : Worker H → Worker H → Type 0
    Goes = WentOn is_fit answers did_by who

    all_began : AllZip (Began is_fit answers did_by who) gs fin.last
    all_began =
        let through : AllZip Goes (reverse os) fin.last = zips_through (Worked q is_fit answers did_by who) Goes Goes
        (λ o m w k on. goes_twice is_fit answers did_by who o m w (record { fit = k.fit; same = k.same; more = k.did.more; ended = k.did.ended; did = k.did.did; answered = k.did.answered }) on)
        (reverse os) (reverse ws) fin.last (zips_turned (Worked q is_fit answers did_by who) os ws worked) fin.went_on in
        zips_through (IsSeated q jobs) Goes (Began is_fit answers did_by who) (λ g o w s on. began_and_went_on is_fit answers did_by who g o w s.hand s.ended on) gs (reverse os) fin.last seated through

    below : All (λ e. e.job.number < length before) (all_ended fin.last)
    below =
        let P : Job → Type 0 = λ j. j.number < length before in
        let all : All P jobs = subst (λ (n : ℕ). All (λ j. j.number < n) jobs) (sym len) (numbers_below ts) in
        all_mapped job_of P (all_ended fin.last)
        (All-permutation P jobs (map job_of (all_ended fin.last)) (IsPermutation-sym (map job_of (all_ended fin.last)) jobs (same_jobs (map job_of (all_ended fin.last)) jobs fin.once)) all)

    long : length (placed (all_ended fin.last) before) ≡ length ts
    long = length_placed (all_ended fin.last) before ∙ len

    together : IsPermutation (map did_of (all_ended fin.last)) (zip ts d.outcomes.items)
    together = subst (λ (o : List Outcome). IsPermutation (map did_of (all_ended fin.last)) (zip ts o)) (sym fin.outcomes) (all_done ts (all_ended fin.last) before fin.once below long)

    pub run_fit : All is_fit d.hands.items
    run_fit = subst (λ (hs : List H). All is_fit hs) (sym fin.hands) (all_fit is_fit answers did_by who gs fin.last all_began)

    pub run_same : AllZip (λ g h. who h ≡ who g) gs d.hands.items
    run_same = subst (λ (hs : List H). AllZip (λ g h. who h ≡ who g) gs hs) (sym fin.hands) (all_same is_fit answers did_by who gs fin.last all_began)

    pub run_did : DidTogether did_by gs d.hands.items (zip ts d.outcomes.items)
    run_did = record {
      shares = shares_of is_fit answers did_by who fin.last;
      grew = subst (λ (hs : List H). GrewBy did_by gs hs (shares_of is_fit answers did_by who fin.last)) (sym fin.hands) (all_grew is_fit answers did_by who gs fin.last all_began);
      once = subst (λ (l : List Did). IsPermutation l (zip ts d.outcomes.items)) (sym (all_shares is_fit answers did_by who fin.last)) together;
    }

    pub run_answers : AllZip answers ts d.outcomes.items
    run_answers =
        let P : Did → Type 0 = λ x. answers x.0 x.1 in
        let all : All P (map did_of (all_ended fin.last)) = All-map P did_of (all_ended fin.last) (all_answered is_fit answers did_by who gs fin.last all_began) in
        answers_zip answers ts d.outcomes.items (ap length fin.outcomes ∙ long) (All-permutation P (map did_of (all_ended fin.last)) (zip ts d.outcomes.items) together all)
