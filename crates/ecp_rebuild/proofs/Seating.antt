-- The hands take their seats, the last one first.
use Rattle.std.proofs.Common.{◌≡◌, ℕ, ◌+◌, ◌-◌, ◌<◌, ◌≤◌, List, [], ◌∷◌, ◌++◌, Option, length, take, drop, get_or, Vec, Global, vec_capacity, sym, ap, ◌∙◌, subst, append_assoc, append-nil, arith}
use Rattle.std.specs.Prelude.{All}
use Rattle.std.specs.List.{AllZip}
use Rattle.std.proofs.lemmas.List.Elements.{All-same, All-append, All-take, All-drop}
use mathlib.Core.List.{reverse, reverse-append}
use Rattle.crossbeam_queue.specs.declared.array_queue.Doing.{Doing}
use Rattle.crossbeam_queue.specs.declared.array_queue.Slotted.{Slotted}
use Rattle.ecp_rebuild.specs.declared.job.Job.{Job}
use Rattle.ecp_rebuild.specs.declared.ended.Ended.{Ended}
use Rattle.ecp_rebuild.specs.declared.view.View.{View}
use Rattle.ecp_rebuild.specs.declared.worker.Worker.{Worker}
use Rattle.ecp_rebuild.specs.Rules.{view_of}
use Rattle.ecp_rebuild.specs.Workers.{IsSeated}

-- one more pass was shared out
pub shares_one : (v u w : View) (k : ℕ) → u ≡ view_of (v.parts - k) v.jobs v.taken → w ≡ view_of (u.parts - 1) u.jobs u.taken → w ≡ view_of (v.parts - (k + 1)) v.jobs v.taken
shares_one v u w k was is =
    let fewer : u.parts ≡ v.parts - k = ap (λ (y : View). y.parts) was in
    let parts : u.parts - 1 ≡ v.parts - (k + 1) = omega (arith, fewer) in
    let jobs : u.jobs ≡ v.jobs = ap (λ (y : View). y.jobs) was in
    let taken : u.taken ≡ v.taken = ap (λ (y : View). y.taken) was in
    is ∙ (λ i. view_of (parts i) (jobs i) (taken i))

-- one of the rooms, and the others
module _ (n : ℕ) (rooms : List (Vec Ended Global)) (k : ℕ) (has_room : All (λ (e : Vec Ended Global). (e.items ≡ []) × (n ≤ vec_capacity e)) rooms) where
  pub room_at : (e : Vec Ended Global) → k < length rooms → e ≡ get_or rooms k e → (e.items ≡ []) × (n ≤ vec_capacity e)
  room_at e lt is = let P : Vec Ended Global → Type 0 = λ r. (r.items ≡ []) × (n ≤ vec_capacity r) in subst P (sym is) (has_room k e lt)

  pub rooms_left : (rest : List (Vec Ended Global)) → rest ≡ take k rooms ++ drop (k + 1) rooms → All (λ (e : Vec Ended Global). (e.items ≡ []) × (n ≤ vec_capacity e)) rest
  rooms_left rest is =
      let P : Vec Ended Global → Type 0 = λ r. (r.items ≡ []) × (n ≤ vec_capacity r) in
      All-same P rest (take k rooms ++ drop (k + 1) rooms) is (All-append P (take k rooms) (drop (k + 1) rooms) (All-take P k rooms has_room) (All-drop P (k + 1) rooms has_room))

module _ {H Q A : Type 0} (q : Slotted (Option Job) (Doing Job View) Q A) where
  -- the hands from the end on are workers
  pub record Seating (jobs : List Job) (all hands : List H) (workers : List (Worker H)) : Type 0 where
    pub moved : List H
    pub rest : all ≡ hands ++ moved
    pub seated : AllZip (IsSeated q jobs) moved (reverse workers)

  pub seats_none : (jobs : List Job) (all : List H) (workers : List (Worker H)) → workers ≡ [] → Seating jobs all all workers
  seats_none jobs all workers none = record {
    moved = [];
    rest = sym (append-nil all);
    seated = subst (λ (ws : List (Worker H)). AllZip (IsSeated q jobs) [] (reverse ws)) (sym none) tt;
  }

  pub seats_one : (jobs : List Job) (all hands gs : List H) (workers : List (Worker H)) (g : H) (w : Worker H)
      → gs ≡ hands ++ g ∷ [] → Seating jobs all gs workers → IsSeated q jobs g w → Seating jobs all hands (workers ++ w ∷ [])
  seats_one jobs all hands gs workers g w is so sits = record {
    moved = g ∷ so.moved;
    rest = so.rest ∙ (ap (λ l. l ++ so.moved) is ∙ append_assoc hands (g ∷ []) so.moved);
    seated = subst (λ (ws : List (Worker H)). AllZip (IsSeated q jobs) (g ∷ so.moved) ws) (sym (reverse-append workers (w ∷ []))) (sits, so.seated);
  }
