-- An event that notes nothing leaves to a pass its reservation and its plan: what a pass has is told by its hand, its notes and its calls alone.
use Rattle.std.proofs.Common.{◌≡◌, ℕ, ◌≤◌, Bool, [], sym, ◌∙◌, subst, append-nil}
use Rattle.ecp_shape.specs.declared.shape.Shape.{Shape}
use Rattle.ecp_plan.specs.declared.plan.Plan.{Plan}
use Rattle.ecp_sequencer.specs.Passes.{IsWhole, PassState}
use Rattle.ecp_sequencer.specs.Sequencers.{SequencerState}
use Rattle.ecp_sequencer.specs.Steps.{Event}
use Rattle.ecp_sequencer.proofs.StepLaws.{steps_whole}
use Rattle.ecp_coord.specs.declared.reservation.Reservation.{Reservation}
use Rattle.ecp_coord.specs.Plans.{IsPlanned}
use Rattle.ecp_coord.specs.Puts.{IsReserved}
use Rattle.ecp_coord.proofs.DueLaws.{due_by}

-- a reservation is one of a pass by the hand, the notes and the calls alone
reserved_by : (shape : Shape) (told : Bool) {N : Type 0} (v w : PassState) (res : Reservation N) → w.notes ≡ v.notes → w.hand ≡ v.hand → w.calls ≡ v.calls → IsWhole w → IsReserved shape told v res → IsReserved shape told w res
reserved_by shape told v w res notes hand calls whole is =
    record {
      is_open = record {
        whole = whole;
        begun = subst (λ (k : ℕ). 1 ≤ k) (sym calls) is.is_open.begun;
        call = rw (notes, calls) is.is_open.call;
        room = rw notes is.is_open.room;
      };
      last = rw notes is.last;
      on_history = is.on_history;
      legal = is.legal;
      point = is.point;
      own = rw (notes, hand) is.own;
      counted = is.counted;
      places = is.places;
      few = is.few;
      voids = rw hand is.voids;
      room = rw notes is.room;
    }

-- a reservation is still the pass's
pub stays_reserved : (shape : Shape) (told : Bool) (s t : SequencerState) {N : Type 0} (v w : PassState) (res : Reservation N) → Event shape told s v [] [] t w → w.calls ≡ v.calls → IsReserved shape told v res
    → IsReserved shape told w res
stays_reserved shape told s t v w res event calls is = reserved_by shape told v w res (event.steps.noted ∙ append-nil v.notes) event.steps.hand calls (steps_whole v w [] [] event.steps is.is_open.whole) is

-- a plan is one of a pass by the caller, the hand, the notes and the calls alone
pub planned_by : (shape : Shape) (told : Bool) {N : Type 0} (v w : PassState) (plan : Plan N) → w.notes ≡ v.notes → w.caller ≡ v.caller → w.hand ≡ v.hand → w.calls ≡ v.calls → IsWhole w → IsPlanned shape told v plan
    → IsPlanned shape told w plan
planned_by shape told v w plan notes caller hand calls whole is =
    record {
      asked = is.asked;
      is_open = record {
        whole = whole;
        begun = subst (λ (k : ℕ). 1 ≤ k) (sym calls) is.is_open.begun;
        call = rw (notes, calls) is.is_open.call;
        room = rw notes is.is_open.room;
      };
      last = rw notes is.last;
      sound = is.sound;
      of_block = is.of_block;
      due = due_by shape v w is.asked plan.part plan.front.items caller calls is.due;
      block = is.block;
      recoverable = is.recoverable;
      point = is.point;
      own = rw (notes, hand) is.own;
      attempt = is.attempt;
      most = is.most;
      voids = rw hand is.voids;
      room = rw notes is.room;
      fits = is.fits;
      live = is.live;
      onto = is.onto;
    }

-- a plan is still the pass's
pub stays_planned : (shape : Shape) (told : Bool) (s t : SequencerState) {N : Type 0} (v w : PassState) (plan : Plan N) → Event shape told s v [] [] t w → w.calls ≡ v.calls → IsPlanned shape told v plan
    → IsPlanned shape told w plan
stays_planned shape told s t v w plan event calls is = planned_by shape told v w plan (event.steps.noted ∙ append-nil v.notes) event.steps.caller event.steps.hand calls (steps_whole v w [] [] event.steps is.is_open.whole) is
