-- What an event does that has nothing to give.
use Rattle.std.specs.Prelude.{◌≡◌, Bool, [], Option, MatchOption, ⊤}
use Rattle.ecp_shape.specs.declared.shape.Shape.{Shape}
use Rattle.ecp_entry.specs.declared.act.Act.{Act}
use Rattle.ecp_entry.specs.declared.act.Act.TheVariants as act
use Rattle.ecp_entry.specs.declared.deed.Deed.{Deed}
use Rattle.ecp_sequencer.specs.Passes.{PassState}
use Rattle.ecp_sequencer.specs.Sequencers.{SequencerState}
use Rattle.ecp_sequencer.specs.Steps.{Event}
use Rattle.ecp_coord.specs.Calls.{Ends}
use Rattle.ecp_coord.specs.Coords.{CoordState}

-- the act says why a put stores nothing
abbrev pub SaysWhy : Act → Type 0
SaysWhy act.NameTaken = ⊤
SaysWhy (act.TooFewNodes up) = ⊤
SaysWhy (act.Unsteady at) = ⊤
SaysWhy _ = ⊥

-- where there is an act that says why, the call ends with it; else nothing is noted
abbrev pub EndsWhere : Shape → Bool → SequencerState → PassState → Deed → Option Act → SequencerState → PassState → Type 0
EndsWhere shape told s v asked said t w = MatchOption said (Event shape told s v [] [] t w) (λ what. Ends shape told s v asked what t w)

-- The call gets nothing. Where there is an act that says why, it ends with it; else nothing is noted
pub record Refuses (shape : Shape) (told : Bool) (s : CoordState) (v : PassState) (asked : Deed) (said : Option Act) (t : CoordState) (w : PassState) : Type 0 where
  pub event : EndsWhere shape told s.sequence v asked said t.sequence w
  pub rest : t ≡ record s { sequence = t.sequence }
  pub calls : w.calls ≡ v.calls
