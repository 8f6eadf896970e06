-- What the workers did is taken together, one worker after another.
use Rattle.std.proofs.Common.{◌≡◌, ℕ, ◌+◌, ◌<◌, List, [], ◌∷◌, ◌++◌, length, map, set, take, get_or, sym, refl, ap, ◌∙◌, subst, append_assoc, append-nil, arith}
use Rattle.std.specs.Prelude.{All, Contains}
use Rattle.std.proofs.lemmas.List.{map-append, length-append, length-set, take_more}
use Rattle.std.proofs.lemmas.List.Elements.{All-weaker, All-contains}
use Rattle.std.proofs.lemmas.Grind.{flat_map-append}
use mathlib.Core.List.{reverse, reverse-cons}
use Rattle.crossbeam_queue.specs.Passes.{view}
use Rattle.ecp_rebuild.specs.declared.job.Job.{Job}
use Rattle.ecp_rebuild.specs.declared.ended.Ended.{Ended}
use Rattle.ecp_rebuild.specs.declared.outcome.Outcome.{Outcome}
use Rattle.ecp_rebuild.specs.declared.view.View.{View}
use Rattle.ecp_rebuild.specs.declared.worker.Worker.{Worker}
use Rattle.ecp_rebuild.specs.Rules.{view_of}
use Rattle.ecp_rebuild.specs.Workers.{job_of, placed, hands_of, all_ended, gathered}

pub placed_append : (xs ys : List Ended) (o : List Outcome) → placed (xs ++ ys) o ≡ placed ys (placed xs o)
placed_append [] ys o = refl
placed_append (x ∷ xs) ys o = placed_append xs ys (set o x.job.number x.outcome)

pub length_placed : (xs : List Ended) (o : List Outcome) → length (placed xs o) ≡ length o
length_placed [] o = refl
length_placed (x ∷ xs) o = length_placed xs (set o x.job.number x.outcome) ∙ length-set o x.job.number x.outcome

pub place_one : (ended : List Ended) (i : ℕ) (d : Ended) (before after : List Outcome) → i < length ended → after ≡ placed (take i ended) before
    → set after (get_or ended i d).job.number (get_or ended i d).outcome ≡ placed (take (i + 1) ended) before
place_one ended i d before after lt so =
    let e = get_or ended i d in
    ap (λ o. set o e.job.number e.outcome) so ∙ (sym (placed_append (take i ended) (e ∷ []) before) ∙ ap (λ l. placed l before) (sym (take_more ended i d lt)))

-- the outcomes of these jobs have places
pub have_places : (jobs : List Job) (ended : List Ended) (n : ℕ) → All (λ j. j.number < n) jobs → All (λ e. Contains jobs e.job) ended → All (λ e. e.job.number < n) ended
have_places jobs ended n below among = All-weaker (λ e. Contains jobs e.job) (λ e. e.job.number < n) (λ e in'. All-contains (λ j. j.number < n) jobs e.job below in') ended among

module _ {H : Type 0} where
  -- the workers from the end on are taken apart
  pub record Gathering (v u : View) (all workers : List (Worker H)) (old new : List H) (before after : List Outcome) : Type 0 where
    pub apart : List (Worker H)
    pub rest : all ≡ workers ++ apart
    pub took : u ≡ gathered v (reverse apart)
    pub hands : new ≡ old ++ hands_of (reverse apart)
    pub outcomes : after ≡ placed (all_ended (reverse apart)) before

  pub gathers_none : (v : View) (all : List (Worker H)) (old : List H) (before : List Outcome) → Gathering v v all all old old before before
  gathers_none v all old before =
      let parts : v.parts ≡ v.parts + 0 = omega arith in record {
        apart = [];
        rest = sym (append-nil all);
        took = λ i. view_of (parts i) v.jobs (sym (append-nil v.taken) i);
        hands = sym (append-nil old);
        outcomes = refl;
      }

  pub ended_push : (ws : List (Worker H)) (w : Worker H) → all_ended (ws ++ w ∷ []) ≡ all_ended ws ++ w.ended.items
  ended_push ws w = flat_map-append (λ (x : Worker H). x.ended.items) ws (w ∷ []) ∙ ap (λ l. all_ended ws ++ l) (append-nil w.ended.items)

  one_apart : (v u : View) (all workers ws : List (Worker H)) (old new : List H) (before after : List Outcome) (w : Worker H)
      → ws ≡ workers ++ w ∷ [] → Gathering v u all ws old new before after
      → Gathering v (view_of (u.parts + 1) u.jobs (u.taken ++ map job_of w.ended.items)) all workers old (new ++ w.hand ∷ []) before (placed w.ended.items after)
  one_apart v u all workers ws old new before after w is so =
      let ran : List (Worker H) = reverse so.apart in
      let turned : reverse (w ∷ so.apart) ≡ ran ++ w ∷ [] = reverse-cons w so.apart in
      let ended : all_ended (reverse (w ∷ so.apart)) ≡ all_ended ran ++ w.ended.items = ap all_ended turned ∙ ended_push ran w in
      let parts : u.parts + 1 ≡ v.parts + length (reverse (w ∷ so.apart)) =
      omega (arith, ap (λ (y : View). y.parts) so.took, ap length turned, length-append ran (w ∷ [])) in
      let jobs : u.jobs ≡ v.jobs = ap (λ (y : View). y.jobs) so.took in
      let taken : u.taken ++ map job_of w.ended.items ≡ v.taken ++ map job_of (all_ended (reverse (w ∷ so.apart))) =
      ap (λ (y : View). y.taken ++ map job_of w.ended.items) so.took
      ∙ (append_assoc v.taken (map job_of (all_ended ran)) (map job_of w.ended.items)
      ∙ (ap (λ l. v.taken ++ l) (sym (map-append job_of (all_ended ran) w.ended.items)) ∙ ap (λ l. v.taken ++ map job_of l) (sym ended))) in record {
        apart = w ∷ so.apart;
        rest = so.rest ∙ (ap (λ l. l ++ so.apart) is ∙ append_assoc workers (w ∷ []) so.apart);
        took = λ i. view_of (parts i) (jobs i) (taken i);
        hands = ap (λ l. l ++ w.hand ∷ []) so.hands
            ∙ (append_assoc old (hands_of ran) (w.hand ∷ [])
            ∙ (ap (λ l. old ++ l) (sym (map-append (λ (x : Worker H). x.hand) ran (w ∷ []))) ∙ ap (λ l. old ++ hands_of l) (sym turned)));
        outcomes = ap (placed w.ended.items) so.outcomes ∙ (sym (placed_append (all_ended ran) w.ended.items before) ∙ ap (λ l. placed l before) (sym ended));
      }

  -- one more worker was taken apart
  pub gathers_one : (v u z y : View) (jobs : List Job) (all workers ws : List (Worker H)) (old new hands : List H) (before after outcomes : List Outcome) (w : Worker H)
      → ws ≡ workers ++ w ∷ [] → z ≡ view_of 1 jobs (map job_of w.ended.items) → y ≡ view_of (u.parts + z.parts) u.jobs (u.taken ++ z.taken)
      → hands ≡ new ++ w.hand ∷ [] → outcomes ≡ placed w.ended.items after
      → Gathering v u all ws old new before after → Gathering v y all workers old hands before outcomes
  gathers_one v u z y jobs all workers ws old new hands before after outcomes w is took view pushed put so =
      let seen : y ≡ view_of (u.parts + 1) u.jobs (u.taken ++ map job_of w.ended.items) = view ∙ (λ i. view_of (u.parts + (took i).parts) u.jobs (u.taken ++ (took i).taken)) in
      let G : View × (List H × List Outcome) → Type 0 = λ p. Gathering v p.0 all workers old p.1.0 before p.1.1 in
      subst G (λ i. (sym seen i, (sym pushed i, sym put i))) (one_apart v u all workers ws old new before after w is so)
