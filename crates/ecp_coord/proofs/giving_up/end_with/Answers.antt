use Rattle.std.proofs.Common.{◌-◌, [], ◌∷◌, length, refl, sym, ◌∙◌, subst}
use Rattle.std.proofs.lemmas.Bool.{false≢true}
use Rattle.ecp_entry.specs.declared.deed.Deed.{Deed}
use Rattle.ecp_entry.specs.declared.entry.Entry.{Entry}
use Rattle.ecp_entry.specs.Told.{history_of}
use Rattle.ecp_history.specs.Legal.{MayFollow}
use Rattle.ecp_sequencer.specs.Facts.{room_noted}
use Rattle.ecp_sequencer.specs.Notes.{note, entering_of}
use Rattle.ecp_sequencer.specs.Passes.{PassState}
use Rattle.ecp_sequencer.specs.Sequencers.{SequencerState}
use Rattle.ecp_sequencer.specs.Steps.{Event, IsOwn}
use Rattle.ecp_coord.specs.Calls.{IsOpen}
use Rattle.ecp_coord.proofs.EndWithLaws.{asks_is, same_entry}
use Rattle.ecp_coord.proofs.giving_up.end_with.Goals as goal

pub enter-requires-clause-own : goal.enter-requires-clause-own
enter-requires-clause-own g c =
    let v : PassState = c.args.pass.now in
    let asked : Deed = c.requires.has_open.0 in
    let is : IsOpen v asked = c.requires.has_open.1 in
    let same = same_entry v asked c.caller.result c.calls.result c.args.part c.args.point c.args.act c.deed.result c.args.bytes.now c.caller.ensures.caller c.calls.ensures
    (asks_is v.notes c.deed.result (v.calls - 1) asked c.deed.ensures is.call) in
    subst (λ (e : Entry). IsOwn v.caller v.notes e) same (record { by = refl; of_call = is.call })

pub enter-requires-clause-follows : goal.enter-requires-clause-follows
enter-requires-clause-follows g c =
    let v : PassState = c.args.pass.now in
    let asked : Deed = c.requires.has_open.0 in
    let is : IsOpen v asked = c.requires.has_open.1 in
    let same = same_entry v asked c.caller.result c.calls.result c.args.part c.args.point c.args.act c.deed.result c.args.bytes.now c.caller.ensures.caller c.calls.ensures
    (asks_is v.notes c.deed.result (v.calls - 1) asked c.deed.ensures is.call) in
    subst (λ (e : Entry). MayFollow g.N.Names.shape g.N.Names.told (history_of c.args.sequencer.now.history) e) same (c.requires.follows asked is)

pub enter-requires-clause-bytes : goal.enter-requires-clause-bytes
enter-requires-clause-bytes g c = λ yes. absurd (false≢true (sym c.requires.stores ∙ yes))

pub returns : goal.returns
returns g c =
    let v : PassState = c.args.pass.now in
    let s : SequencerState = c.args.sequencer.now in
    let asked : Deed = c.requires.has_open.0 in
    let is : IsOpen v asked = c.requires.has_open.1 in
    let same = same_entry v asked c.caller.result c.calls.result c.args.part c.args.point c.args.act c.deed.result c.args.bytes.now c.caller.ensures.caller c.calls.ensures
    (asks_is v.notes c.deed.result (v.calls - 1) asked c.deed.ensures is.call) in
    record {
      asked = asked;
      is_open = is;
      event = subst (λ (e : Entry). Event g.N.Names.shape g.N.Names.told s v (e ∷ []) (note (length s.history) (room_noted v.notes - 1) (entering_of v.hand e) ∷ []) c.enter.new.self c.enter.new.pass)
          (sym same) c.enter.ensures.event;
      begins = c.requires.agree.begins;
      calls = c.enter.ensures.calls;
    }
