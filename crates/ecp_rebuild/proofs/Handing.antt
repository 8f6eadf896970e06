-- Each step keeps the rule of the queue that hands out the jobs.
use Rattle.std.proofs.Common.{◌≡◌, ◌≢◌, ℕ, zero, suc, ◌+◌, ◌-◌, ◌<◌, ◌≤◌, List, [], ◌∷◌, ◌++◌, set, sym, refl, ap, ◌∙◌, subst, ⊎_elim, append_assoc, arith}
use Rattle.std.specs.Prelude.{Contains}
use Rattle.std.proofs.lemmas.List.Elements.{Contains-append_right}
use mathlib.Core.Option.{some, some-ne-none, some-injective}
use lib.ListN.{get_elem?}
use Rattle.crossbeam_queue.specs.Fifo.{Pushes, Pops, Forks, Merges, Learns}
use Rattle.crossbeam_queue.proofs.Lists.{at_set, at_snoc}
use Rattle.ecp_rebuild.proofs.Counting.{weigh_append}
use Rattle.ecp_rebuild.specs.declared.job.Job.{Job}
use Rattle.ecp_rebuild.specs.declared.view.View.{View}
use Rattle.ecp_rebuild.specs.Rules.{weigh, total, every_part, view_of, Knows, HandsOut, Takes, TookAll}

-- the total after a change of one view
total_set : (f : View → ℕ) (views : List View) (port : ℕ) (v w : View) → get_elem? views port ≡ some v → total f (set views port w) + f v ≡ total f views + f w
total_set f [] port v w at = absurd (some-ne-none v (sym at))
total_set f (u ∷ views) zero v w at = let e : u ≡ v = some-injective u v at in omega (arith, ap f e)
total_set f (u ∷ views) (suc port) v w at = omega (arith, total_set f views port v w at)

total_snoc : (f : View → ℕ) (views : List View) (v : View) → total f (views ++ v ∷ []) ≡ total f views + f v
total_snoc f [] v = omega arith
total_snoc f (u ∷ views) v = omega (arith, total_snoc f views v)

part_le_total : (f : View → ℕ) (views : List View) (port : ℕ) (v : View) → get_elem? views port ≡ some v → f v ≤ total f views
part_le_total f [] port v at = absurd (some-ne-none v (sym at))
part_le_total f (u ∷ views) zero v at = let e : u ≡ v = some-injective u v at in omega (arith, ap f e)
part_le_total f (u ∷ views) (suc port) v at = omega (arith, part_le_total f views port v at)

two_le_total : (f : View → ℕ) (views : List View) (i j : ℕ) (v u : View) → get_elem? views i ≡ some v → get_elem? views j ≡ some u → j ≢ i → f v + f u ≤ total f views
two_le_total f [] i j v u at at' apart = absurd (some-ne-none v (sym at))
two_le_total f (x ∷ views) zero zero v u at at' apart = absurd (apart refl)
two_le_total f (x ∷ views) zero (suc j) v u at at' apart = let e : x ≡ v = some-injective x v at in omega (arith, ap f e, part_le_total f views j u at')
two_le_total f (x ∷ views) (suc i) zero v u at at' apart = let e : x ≡ u = some-injective x u at' in omega (arith, ap f e, part_le_total f views i v at)
two_le_total f (x ∷ views) (suc i) (suc j) v u at at' apart = omega (arith, two_le_total f views i j v u at at' (λ e. apart (ap suc e)))

-- where one view has all the parts, and a view with no part has nothing, the total is what that view has
zero_total : (f g : View → ℕ) (views : List View) → total g views ≡ 0 → ((port : ℕ) (u : View) → get_elem? views port ≡ some u → g u ≡ 0 → f u ≡ 0) → total f views ≡ 0
zero_total f g [] none idle = refl
zero_total f g (u ∷ views) none idle = omega (arith, idle 0 u refl (omega arith), zero_total f g views (omega arith) (λ port. idle (suc port)))

alone_total : (f g : View → ℕ) (views : List View) (port : ℕ) (v : View) → get_elem? views port ≡ some v → total g views ≡ g v
    → ((port : ℕ) (u : View) → get_elem? views port ≡ some u → g u ≡ 0 → f u ≡ 0) → total f views ≡ f v
alone_total f g [] port v at all idle = absurd (some-ne-none v (sym at))
alone_total f g (u ∷ views) zero v at all idle = let e : u ≡ v = some-injective u v at in
    omega (arith, ap f e, zero_total f g views (omega (arith, ap g e)) (λ port. idle (suc port)))
alone_total f g (u ∷ views) (suc port) v at all idle = let le = part_le_total g views port v at in
    omega (arith, idle 0 u refl (omega arith), alone_total f g views port v at (omega arith) (λ port. idle (suc port)))

abbrev All : (ℕ → View → Type 0) → List View → Type 0
All F views = (port : ℕ) (v : View) → get_elem? views port ≡ some v → F port v

all_set : (F : ℕ → View → Type 0) (views : List View) (port : ℕ) (w : View) → F port w → ((j : ℕ) (u : View) → j ≢ port → get_elem? views j ≡ some u → F j u) → All F (set views port w)
all_set F views port w mine others j u e = ⊎_elim (λ (x : (j ≡ port) × (w ≡ u)). subst (λ (y : ℕ × View). F y.0 y.1) (λ i. (sym x.0 i, x.1 i)) mine)
    (λ (x : (j ≢ port) × (get_elem? views j ≡ some u)). others j u x.0 x.1) (at_set views port j w u e)

all_snoc : (F : View → Type 0) (views : List View) (w : View) → F w → All (λ _. F) views → All (λ _. F) (views ++ w ∷ [])
all_snoc F views w mine others j u e = ⊎_elim (λ x. others j u x) (λ (is : w ≡ u). subst F is mine) (at_snoc views w u j e)

pub begins : HandsOut [] (view_of every_part [] [] ∷ [])
begins = record {
  out = [];
  parts = refl;
  taken = λ h. refl;
  known = λ port v at. first port v at;
}
  where
    first : (port : ℕ) (v : View) → get_elem? (view_of every_part [] [] ∷ []) port ≡ some v → Knows [] [] v
    first zero v at = subst (Knows [] []) (some-injective (view_of every_part [] []) v at) (record { jobs = λ _. refl; idle = λ _. refl })
    first (suc port) v at = absurd (some-ne-none v (sym at))

-- the pass that has every part puts one more job in
pub puts : (n port : ℕ) (v : View) (x : Job) → v.parts ≡ every_part → Pushes HandsOut n port v x (λ w. w ≡ view_of v.parts (v.jobs ++ x ∷ []) v.taken)
puts n port v x whole items views room h at =
    let w : View = view_of v.parts (v.jobs ++ x ∷ []) v.taken in
    let mine = (h.known port v at).jobs (omega (arith, whole)) in (
      w,
      record {
        out = h.out;
        parts = omega (arith, total_set (λ u. u.parts) views port v w at, h.parts);
        taken = λ k. omega (arith, total_set (λ u. weigh k u.taken) views port v w at, h.taken k);
        known = all_set (λ _. Knows h.out (items ++ x ∷ [])) views port w
            (record { jobs = λ _. ap (λ l. l ++ x ∷ []) mine ∙ append_assoc h.out items (x ∷ []); idle = λ none. absurd (omega (arith, whole, none)) })
            (λ j u apart e. record { jobs = λ some. absurd (omega (arith, two_le_total (λ y. y.parts) views port j v u at e apart, h.parts, whole, some)); idle = (h.known j u e).idle });
      },
      refl,
    )

-- a pass with a part takes a job
pub takes : (port : ℕ) (v : View) → 0 < v.parts → Pops HandsOut port v (Takes v)
takes port v part x items views h at =
    let w : View = view_of v.parts v.jobs (v.taken ++ x ∷ []) in
    let mine = (h.known port v at).jobs part in (
      w,
      record {
        out = h.out ++ x ∷ [];
        parts = omega (arith, total_set (λ u. u.parts) views port v w at, h.parts);
        taken = λ k. omega (arith, total_set (λ u. weigh k u.taken) views port v w at, h.taken k, weigh_append k v.taken (x ∷ []), weigh_append k h.out (x ∷ []));
        known = all_set (λ _. Knows (h.out ++ x ∷ []) items) views port w
            (record { jobs = λ _. mine ∙ sym (append_assoc h.out (x ∷ []) items); idle = λ none. absurd (omega (arith, part, none)) })
            (λ j u apart e. record { jobs = λ some. (h.known j u e).jobs some ∙ sym (append_assoc h.out (x ∷ []) items); idle = (h.known j u e).idle });
      },
      record {
        view = refl;
        among = subst (λ (l : List Job). Contains l x) (sym mine) (Contains-append_right h.out (x ∷ items) x (0, omega arith, refl));
        once = λ k. omega (arith, part_le_total (λ u. weigh k u.taken) views port v at, h.taken k, ap (weigh k) mine, weigh_append k h.out (x ∷ items));
      },
    )

-- a pass with more than one part gives one of them to a new pass
pub shares : (port : ℕ) (v : View) → 1 < v.parts → Forks HandsOut port v (view_of (v.parts - 1) v.jobs v.taken) (view_of 1 v.jobs [])
shares port v more items views h at =
    let l : View = view_of (v.parts - 1) v.jobs v.taken in
    let r : View = view_of 1 v.jobs [] in
    let mine = (h.known port v at).jobs (omega (arith, more)) in record {
      out = h.out;
      parts = omega (arith, total_snoc (λ u. u.parts) (set views port l) r, total_set (λ u. u.parts) views port v l at, h.parts, more);
      taken = λ k. omega (arith, total_snoc (λ u. weigh k u.taken) (set views port l) r, total_set (λ u. weigh k u.taken) views port v l at, h.taken k);
      known = all_snoc (Knows h.out items) (set views port l) r (record { jobs = λ _. mine; idle = λ _. refl })
          (all_set (λ _. Knows h.out items) views port l (record { jobs = λ _. mine; idle = λ none. absurd (omega (arith, more, none)) })
          (λ j u _ e. h.known j u e));
    }

-- a pass takes in another
pub gathers : (port : ℕ) (v : View) (other : ℕ) (u : View) → 0 < v.parts → Merges HandsOut port v other u (view_of (v.parts + u.parts) v.jobs (v.taken ++ u.taken)) (view_of 0 [] [])
gathers port v other u part items views h at two at' =
    let both : View = view_of (v.parts + u.parts) v.jobs (v.taken ++ u.taken) in
    let spent : View = view_of 0 [] [] in
    let mine = (h.known port v at).jobs part in
    let vs : List View = set views port both in record {
      out = h.out;
      parts = omega (arith, total_set (λ y. y.parts) vs other u spent at', total_set (λ y. y.parts) views port v both at, h.parts);
      taken = λ k. omega (arith, total_set (λ y. weigh k y.taken) vs other u spent at', total_set (λ y. weigh k y.taken) views port v both at, h.taken k, weigh_append k v.taken u.taken);
      known = all_set (λ _. Knows h.out items) vs other spent (record { jobs = λ some. absurd (omega (arith, some)); idle = λ _. refl })
          (λ j y apart e. all_set (λ _. Knows h.out items) views port both (record { jobs = λ _. mine; idle = λ none. absurd (omega (arith, part, none)) })
          (λ k z _ e'. h.known k z e') j y e);
    }

-- the pass that has every part learns what is left
pub learns : (port : ℕ) (v : View) → Learns HandsOut port v (TookAll v)
learns port v items views h at whole k =
    let mine = (h.known port v at).jobs (omega (arith, whole)) in
    omega (
      arith,
      ap (weigh k) mine,
      weigh_append k h.out items,
      h.taken k,
      alone_total (λ u. weigh k u.taken) (λ u. u.parts) views port v at (h.parts ∙ sym whole) (λ j u e none. ap (weigh k) ((h.known j u e).idle none)),
    )
