-- A put, from its places to its end.
use Rattle.std.specs.Prelude.{◌≡◌, ℕ, ◌≤◌, Bool, List, [], length, Option, Some, None}
use Rattle.ecp_shape.specs.declared.shape.Shape.{Shape}
use Rattle.ecp_entry.specs.declared.act.Act.{Act}
use Rattle.ecp_entry.specs.declared.act.Act.TheVariants as act
use Rattle.ecp_entry.specs.declared.deed.Deed.{Deed}
use Rattle.ecp_sequencer.specs.Passes.{PassState}
use Rattle.ecp_coord.specs.declared.no_places.NoPlaces.{NoPlaces}
use Rattle.ecp_coord.specs.declared.no_places.NoPlaces.TheVariants as no
use Rattle.ecp_coord.specs.declared.published.Published.{Published}
use Rattle.ecp_coord.specs.declared.published.Published.TheVariants as published
use Rattle.ecp_coord.specs.declared.reservation.Reservation.{Reservation}
use Rattle.ecp_coord.specs.Puts.{IsReserved}
use Rattle.ecp_cluster.specs.Concluded.{Concludes, GoesFrom, WentOn}

-- the bytes of the entry of a put that was answered by this act: all that was put, where it is stored, else none
abbrev pub bytes_stored : Act → List ℕ → List ℕ
bytes_stored (act.Stored first stripes up) bytes = bytes
bytes_stored _ bytes = []

-- the open call of a pass, which asks for this, has come to these places, which were found past the old front
pub record IsPlacedFrom (shape : Shape) (told : Bool) (v : PassState) (asked : Deed) {N : Type 0} (res : Reservation N) (w : PassState) : Type 0 where
  pub goes : GoesFrom v asked w
  pub reserved : IsReserved shape told w res
  pub late : length v.front ≤ res.point

-- it has none: the call ended with the reason, or goes on where no memory was found
abbrev pub EndsUnplaced : Shape → Bool → PassState → Deed → NoPlaces → PassState → Type 0
EndsUnplaced shape told v asked no.NameTaken w = Concludes shape told v asked act.NameTaken [] w
EndsUnplaced shape told v asked (no.TooFewNodes up) w = Concludes shape told v asked (act.TooFewNodes up) [] w
EndsUnplaced shape told v asked no.NoMemory w = WentOn v w

-- for any call that has come to these places and puts these bytes: it ended so
abbrev pub PutBy : {N : Type 0} → Shape → Bool → PassState → Reservation N → List ℕ → Act → PassState → Type 0
PutBy shape told p res bytes what w =
    (v : PassState) (asked : Deed) → IsPlacedFrom shape told v asked res p → Concludes shape told v asked what (bytes_stored what bytes) w

-- it made no entry
abbrev pub PutStops : {N : Type 0} → Shape → Bool → PassState → Reservation N → PassState → Type 0
PutStops shape told p res w = (v : PassState) (asked : Deed) → IsPlacedFrom shape told v asked res p → WentOn v w

-- it has these places, for as many bytes
pub record PutMoves (shape : Shape) (told : Bool) (p : PassState) {N : Type 0} (old new : Reservation N) (w : PassState) : Type 0 where
  pub reserved : IsReserved shape told w new
  pub same : new.len ≡ old.len
  pub from : (v : PassState) (asked : Deed) → IsPlacedFrom shape told v asked old p → IsPlacedFrom shape told v asked new w

-- what a step of a put did: the call ended with this act, or has places still
abbrev pub PutSteps : {N : Type 0} → Shape → Bool → PassState → Reservation N → List ℕ → Reservation N → PassState → Option Act → Type 0
PutSteps shape told p old bytes new w (Some what) = PutBy shape told p old bytes what w
PutSteps shape told p old bytes new w None = PutMoves shape told p old new w

-- the act that says in the history what became of a file that was to be stored on the nodes of a mask, where that ends the call
abbrev pub act_published : {N : Type 0} → ℕ → Published N → Option Act
act_published up (published.Stored first stripes) = Some (act.Stored first stripes up)
act_published up (published.NameTaken receipts) = Some act.NameTaken
act_published up (published.Overtaken at receipts) = None
