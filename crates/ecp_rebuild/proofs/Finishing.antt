-- From the workers' lists to what the hands did together.
use Rattle.std.proofs.Common.{◌≡◌, ◌≢◌, ℕ, suc, ◌<◌, ◌≤◌, List, [], ◌∷◌, ◌++◌, length, map, take, drop, get_or, sym, refl, ap, ◌∙◌, subst, append_assoc, append-nil, arith}
use Rattle.std.specs.Prelude.{All, Contains}
use Rattle.std.specs.List.{AllZip, flat_map}
use Rattle.std.proofs.lemmas.List.{map-append, length-append, length-map}
use Rattle.std.proofs.lemmas.List.Elements.{All-nil, All-cons, All-head, All-tail, All-append}
use Rattle.std.proofs.lemmas.Slice.Zip.{all_zipped_more}
use mathlib.Core.List.{reverse, reverse-cons}
use Rattle.ecp_history.specs.declared.task.Task.{Task}
use Rattle.ecp_rebuild.specs.declared.job.Job.{Job}
use Rattle.ecp_rebuild.specs.declared.ended.Ended.{Ended}
use Rattle.ecp_rebuild.specs.declared.outcome.Outcome.{Outcome}
use Rattle.ecp_rebuild.specs.declared.view.View.{View}
use Rattle.ecp_rebuild.specs.declared.worker.Worker.{Worker}
use Rattle.ecp_rebuild.specs.Tasks.{Did, HasNoPart, GrewBy}
use Rattle.ecp_rebuild.specs.Rules.{weigh}
use Rattle.ecp_rebuild.specs.Workers.{did_of, job_of, NoJobOf, AreJobs, MayTake, DidJobs, WentOn, hands_of, all_ended}
use Rattle.ecp_rebuild.proofs.Counting.{weigh_append}
use Rattle.ecp_rebuild.proofs.Working.{all_of_both}

module _ {X Y Z : Type 0} where
  -- three lists in step
  pub zips_through : (R : X → Y → Type 0) (S : Y → Z → Type 0) (T : X → Z → Type 0) → ((x : X) (y : Y) (z : Z) → R x y → S y z → T x z)
      → (xs : List X) (ys : List Y) (zs : List Z) → AllZip R xs ys → AllZip S ys zs → AllZip T xs zs
  zips_through R S T both [] [] [] r s = tt
  zips_through R S T both [] [] (z ∷ zs) r s = absurd s
  zips_through R S T both [] (y ∷ ys) zs r s = absurd r
  zips_through R S T both (x ∷ xs) [] zs r s = absurd r
  zips_through R S T both (x ∷ xs) (y ∷ ys) [] r s = absurd s
  zips_through R S T both (x ∷ xs) (y ∷ ys) (z ∷ zs) r s = (both x y z r.0 s.0, zips_through R S T both xs ys zs r.1 s.1)

module _ {X : Type 0} where
  pub zips_weaker : {Y : Type 0} (R S : X → Y → Type 0) → ((x : X) (y : Y) → R x y → S x y) → (xs : List X) (ys : List Y) → AllZip R xs ys → AllZip S xs ys
  zips_weaker R S weaker [] [] r = tt
  zips_weaker R S weaker [] (y ∷ ys) r = absurd r
  zips_weaker R S weaker (x ∷ xs) [] r = absurd r
  zips_weaker R S weaker (x ∷ xs) (y ∷ ys) r = (weaker x y r.0, zips_weaker R S weaker xs ys r.1)

  pub zips_turned : {Y : Type 0} (R : X → Y → Type 0) (xs : List X) (ys : List Y) → AllZip R xs ys → AllZip R (reverse xs) (reverse ys)
  zips_turned R [] [] r = tt
  zips_turned R [] (y ∷ ys) r = absurd r
  zips_turned R (x ∷ xs) [] r = absurd r
  zips_turned {Y} R (x ∷ xs) (y ∷ ys) r =
      let P : List X × List Y → Type 0 = λ p. AllZip R p.0 p.1 in
      subst P (λ i. (sym (reverse-cons x xs) i, sym (reverse-cons y ys) i)) (all_zipped_more R (reverse xs) (reverse ys) x y (zips_turned R xs ys r.1) r.0)

  pub zips_alone : (R : X → X → Type 0) (xs : List X) → All (λ x. R x x) xs → AllZip R xs xs
  zips_alone R [] all = tt
  zips_alone R (x ∷ xs) all = (All-head (λ y. R y y) x xs all, zips_alone R xs (All-tail (λ y. R y y) x xs all))

  -- by index, of two lists that are as long
  pub zips_by_index : (R : X → X → Type 0) (xs ys : List X) → length ys ≡ length xs → ((k : ℕ) (d : X) → k < length xs → R (get_or xs k d) (get_or ys k d)) → AllZip R xs ys
  zips_by_index R [] [] len each = tt
  zips_by_index R [] (y ∷ ys) len each = absurd (omega (arith, len))
  zips_by_index R (x ∷ xs) [] len each = absurd (omega (arith, len))
  zips_by_index R (x ∷ xs) (y ∷ ys) len each = (each 0 x (omega arith), zips_by_index R xs ys (omega (arith, len)) (λ k d lt. each (suc k) d (omega (arith, lt))))

  -- the first of a list, and the others
  pub all_turned : (P : X → Type 0) (xs : List X) → All P xs → All P (reverse xs)
  all_turned P [] all = all
  all_turned P (x ∷ xs) all =
      subst (λ (l : List X). All P l) (sym (reverse-cons x xs)) (All-append P (reverse xs) (x ∷ []) (all_turned P xs (All-tail P x xs all)) (All-cons P x [] (All-head P x xs all) (All-nil P)))

  pub first_and_rest : (xs rest : List X) (x : X) → 1 ≤ length xs → x ≡ get_or xs 0 x → rest ≡ take 0 xs ++ drop 1 xs → xs ≡ x ∷ rest
  first_and_rest [] rest x some first left = absurd (omega (arith, some))
  first_and_rest (y ∷ xs) rest x some first left = λ i. sym first i ∷ sym left i

  pub at_front : (P : X → Type 0) (xs : List X) (x : X) → 1 ≤ length xs → x ≡ get_or xs 0 x → All P xs → P x
  at_front P xs x some first all = subst P (sym first) (all 0 x (omega (arith, some)))

module _ {H I : Type 0} (is_fit : H → Type 0) (answers : Task → Outcome → Type 0) (did_by : H → List Did) (who : H → I) where
  -- what a worker's hand did, all of it
  pub record Began (g : H) (w : Worker H) : Type 0 where
    pub fit : is_fit w.hand
    pub same : who w.hand ≡ who g
    pub did : did_by w.hand ≡ did_by g ++ map did_of w.ended.items
    pub answered : All (λ e. answers e.job.task e.outcome) w.ended.items

  pub stays : (o w : Worker H) → w.hand ≡ o.hand → w.ended.items ≡ o.ended.items → is_fit w.hand → WentOn is_fit answers did_by who o w
  stays o w hand ended fit = record {
    fit = fit;
    same = ap who hand;
    more = [];
    ended = ended ∙ sym (append-nil o.ended.items);
    did = ap did_by hand ∙ sym (append-nil (did_by o.hand));
    answered = All-nil (λ e. answers e.job.task e.outcome);
  }

  pub goes_twice : (o m w : Worker H) → WentOn is_fit answers did_by who o m → WentOn is_fit answers did_by who m w → WentOn is_fit answers did_by who o w
  goes_twice o m w first second = record {
    fit = second.fit;
    same = second.same ∙ first.same;
    more = first.more ++ second.more;
    ended = second.ended ∙ (ap (λ l. l ++ second.more) first.ended ∙ append_assoc o.ended.items first.more second.more);
    did = second.did ∙ (ap (λ l. l ++ map did_of second.more) first.did
        ∙ (append_assoc (did_by o.hand) (map did_of first.more) (map did_of second.more) ∙ ap (λ l. did_by o.hand ++ l) (sym (map-append did_of first.more second.more))));
    answered = All-append (λ e. answers e.job.task e.outcome) first.more second.more first.answered second.answered;
  }

  pub began_and_went_on : (g : H) (o w : Worker H) → o.hand ≡ g → o.ended.items ≡ [] → WentOn is_fit answers did_by who o w → Began g w
  began_and_went_on g o w hand none on =
      let ended : w.ended.items ≡ on.more = on.ended ∙ ap (λ l. l ++ on.more) none in record {
        fit = on.fit;
        same = on.same ∙ ap who hand;
        did = on.did ∙ (λ i. did_by (hand i) ++ map did_of (sym ended i));
        answered = subst (λ (l : List Ended). All (λ e. answers e.job.task e.outcome) l) (sym ended) on.answered;
      }

  pub all_fit : (gs : List H) (ws : List (Worker H)) → AllZip Began gs ws → All is_fit (hands_of ws)
  all_fit [] [] all = All-nil is_fit
  all_fit [] (w ∷ ws) all = absurd all
  all_fit (g ∷ gs) [] all = absurd all
  all_fit (g ∷ gs) (w ∷ ws) all = All-cons is_fit w.hand (hands_of ws) all.0.fit (all_fit gs ws all.1)

  pub all_same : (gs : List H) (ws : List (Worker H)) → AllZip Began gs ws → AllZip (λ g h. who h ≡ who g) gs (hands_of ws)
  all_same [] [] all = tt
  all_same [] (w ∷ ws) all = absurd all
  all_same (g ∷ gs) [] all = absurd all
  all_same (g ∷ gs) (w ∷ ws) all = (all.0.same, all_same gs ws all.1)

  abbrev pub shares_of : List (Worker H) → List (List Did)
  shares_of ws = map (λ w. map did_of w.ended.items) ws

  pub all_grew : (gs : List H) (ws : List (Worker H)) → AllZip Began gs ws → GrewBy did_by gs (hands_of ws) (shares_of ws)
  all_grew [] [] all = tt
  all_grew [] (w ∷ ws) all = absurd all
  all_grew (g ∷ gs) [] all = absurd all
  all_grew (g ∷ gs) (w ∷ ws) all = (all.0.did, all_grew gs ws all.1)

  pub all_shares : (ws : List (Worker H)) → flat_map (λ (share : List Did). share) (shares_of ws) ≡ map did_of (all_ended ws)
  all_shares [] = refl
  all_shares (w ∷ ws) = ap (λ l. map did_of w.ended.items ++ l) (all_shares ws) ∙ sym (map-append did_of w.ended.items (all_ended ws))

  pub all_answered : (gs : List H) (ws : List (Worker H)) → AllZip Began gs ws → All (λ e. answers e.job.task e.outcome) (all_ended ws)
  all_answered [] [] all = All-nil (λ e. answers e.job.task e.outcome)
  all_answered [] (w ∷ ws) all = absurd all
  all_answered (g ∷ gs) [] all = absurd all
  all_answered (g ∷ gs) (w ∷ ws) all = All-append (λ e. answers e.job.task e.outcome) w.ended.items (all_ended ws) all.0.answered (all_answered gs ws all.1)

-- jobs that were done before and since
pub all_among : (jobs later : List Job) (before more after : List Ended) → later ≡ jobs → after ≡ before ++ more
    → All (λ e. Contains jobs e.job) before → All (λ e. Contains later e.job) more → All (λ e. Contains jobs e.job) after
all_among jobs later before more after same is first second =
    let P : Ended → Type 0 = λ e. Contains jobs e.job in
    subst (λ (l : List Ended). All P l) (sym is) (All-append P before more first (subst (λ (js : List Job). All (λ e. Contains js e.job) more) same second))

-- a pass that took in others may go on
pub may_more : (takes : Task → Type 0) (did : List Did) (v w : View) (ended capacity : ℕ) (xs : List Job) → 0 < w.parts → w.jobs ≡ v.jobs → w.taken ≡ v.taken ++ xs
    → MayTake takes did v ended capacity → MayTake takes did w ended capacity
may_more takes did v w ended capacity xs part jobs taken may = record {
  part = part;
  jobs = subst (AreJobs takes) (sym jobs) may.jobs;
  fresh = λ x among none.
      let Other : Job → Type 0 = λ j. j.task.part ≢ x.task.part in
      may.fresh x (subst (λ (l : List Job). Contains l x) jobs among) (all_of_both Other v.taken xs (subst (λ (l : List Job). All Other l) taken none)).0;
  room = subst (λ (l : List Job). length l ≤ capacity) (sym jobs) may.room;
  within = omega (arith, may.within, ap length taken, length-append v.taken xs);
}

-- a list of jobs done has none of a part that none of the jobs has
no_part : (more : List Ended) (part : ℕ) → NoJobOf (map job_of more) part → HasNoPart (map did_of more) part
no_part [] part none = All-nil (λ d. d.0.part ≢ part)
no_part (e ∷ more) part none =
    let Other : Job → Type 0 = λ j. j.task.part ≢ part in
    All-cons (λ d. d.0.part ≢ part) (did_of e) (map did_of more) (All-head Other e.job (map job_of more) none) (no_part more part (All-tail Other e.job (map job_of more) none))

-- a worker that has worked may work again
pub may_again : (takes : Task → Type 0) (answers : Task → Outcome → Type 0) (old new : List Did) (v w : View) (before after : List Ended) (capacity : ℕ)
    → MayTake takes old v (length before) capacity → DidJobs answers old new v w before after → MayTake takes new w (length after) capacity
may_again takes answers old new v w before after capacity may did =
    let taken : w.taken ≡ v.taken ++ map job_of did.more = ap (λ y. y.taken) did.took in
    let jobs : w.jobs ≡ v.jobs = ap (λ y. y.jobs) did.took in record {
      part = omega (arith, may.part, ap (λ y. y.parts) did.took);
      jobs = subst (AreJobs takes) (sym jobs) may.jobs;
      fresh = λ x among none.
          let Other : Job → Type 0 = λ j. j.task.part ≢ x.task.part in
          let apart = all_of_both Other v.taken (map job_of did.more) (subst (λ (l : List Job). All Other l) taken none) in
          let first = may.fresh x (subst (λ (l : List Job). Contains l x) jobs among) apart.0 in
          subst (λ (l : List Did). HasNoPart l x.task.part) (sym did.did)
          (All-append (λ d. d.0.part ≢ x.task.part) old (map did_of did.more) first (no_part did.more x.task.part apart.1));
      room = subst (λ (l : List Job). length l ≤ capacity) (sym jobs) may.room;
      within = omega (arith, may.within, ap length did.ended, length-append before did.more, ap length taken, length-append v.taken (map job_of did.more), length-map did.more job_of);
    }

-- what the pass that has every part took, in the lists of the workers
pub once_each : (E L M N : List Ended) (jobs : List Job) (v u w : View)
    → N ≡ L ++ M → v.taken ≡ map job_of L → u.taken ≡ v.taken ++ map job_of E → w.taken ≡ u.taken ++ map job_of M
    → w.jobs ≡ jobs → ((h : Job → ℕ) → weigh h w.taken ≡ weigh h w.jobs)
    → (h : Job → ℕ) → weigh h (map job_of (E ++ N)) ≡ weigh h jobs
once_each E L M N jobs v u w is first second third same each h =
    let whole : map job_of (E ++ N) ≡ map job_of E ++ (map job_of L ++ map job_of M) =
    map-append job_of E N ∙ ap (λ l. map job_of E ++ l) (ap (map job_of) is ∙ map-append job_of L M) in
    omega (
      arith,
      ap (weigh h) whole,
      ap (weigh h) first,
      ap (weigh h) second,
      ap (weigh h) third,
      ap (weigh h) same,
      each h,
      weigh_append h (map job_of E) (map job_of L ++ map job_of M),
      weigh_append h (map job_of L) (map job_of M),
      weigh_append h v.taken (map job_of E),
      weigh_append h u.taken (map job_of M),
    )
