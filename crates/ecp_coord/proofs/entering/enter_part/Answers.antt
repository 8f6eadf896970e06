use Rattle.std.proofs.Common.{◌-◌, [], ◌∷◌, length, sym, subst}
use Rattle.ecp_entry.specs.declared.entry.Entry.{Entry}
use Rattle.ecp_sequencer.specs.Facts.{room_noted}
use Rattle.ecp_sequencer.specs.Notes.{note, entering_of}
use Rattle.ecp_sequencer.specs.Passes.{PassState}
use Rattle.ecp_sequencer.specs.Sequencers.{SequencerState}
use Rattle.ecp_sequencer.specs.Steps.{Event}
use Rattle.ecp_sequencer.proofs.StepLaws.{steps_whole}
use Rattle.ecp_coord.specs.Calls.{part_of}
use Rattle.ecp_coord.proofs.OpeningLaws.{part_open, part_same}
use Rattle.ecp_coord.proofs.entering.enter_part.Goals as goal

pub returns : goal.returns
returns g c =
    let s : SequencerState = c.args.sequencer.now in
    let v : PassState = c.args.pass.now in
    let position = length s.history in
    let same = part_same v c.args.deed c.args.part position c.args.act c.caller.result c.calls.result c.len.result c.caller.ensures.caller c.calls.ensures c.len.ensures in
    let event : Event g.N.Names.shape g.N.Names.told s v (part_of v c.args.deed c.args.part position c.args.act ∷ [])
    (note position (room_noted v.notes - 1) (entering_of v.hand (part_of v c.args.deed c.args.part position c.args.act)) ∷ []) c.enter.new.self c.enter.new.pass =
    subst (λ (e : Entry). Event g.N.Names.shape g.N.Names.told s v (e ∷ []) (note position (room_noted v.notes - 1) (entering_of v.hand e) ∷ []) c.enter.new.self c.enter.new.pass)
    (sym same) c.enter.ensures.event in
    record {
      event = event;
      begins = c.requires.agree.begins;
      calls = c.enter.ensures.calls;
      still_open = part_open v c.enter.new.pass c.args.deed c.requires.open c.args.part position c.args.act event.steps.noted c.enter.ensures.calls
          (steps_whole v c.enter.new.pass (part_of v c.args.deed c.args.part position c.args.act ∷ []) (note position (room_noted v.notes - 1) (entering_of v.hand (part_of v c.args.deed c.args.part position c.args.act)) ∷ []) event.steps c.requires.open.whole);
    }
