use Rattle.std.proofs.Common.{◌≡◌, ℕ, Bool, Some, sym, ◌∙◌, ap, subst}
use Rattle.ecp_entry.specs.declared.deed.Deed.TheVariants.{Put}
use Rattle.ecp_entry.specs.Told.{history_of}
use Rattle.ecp_history.specs.table.Steps.{table_of}
use Rattle.ecp_plan.specs.declared.voids.Voids.{Voids}
use Rattle.ecp_coord.specs.declared.renewed.Renewed.{Renewed}
use Rattle.ecp_coord.specs.declared.renewed.Renewed.TheVariants as renewed
use Rattle.ecp_coord.specs.Puts.{DidRenew, IsOvertaken, end_of, first_overtaking, found_anew, found_by_renewing}
use Rattle.ecp_coord.proofs.PublishLaws.{loss_is}
use Rattle.ecp_coord.proofs.RenewLaws.{gave_up, none_ends, overtaken_found, stands_by, stood_found}
use Rattle.ecp_shape.specs.declared.shape.Shape.{Shape}
use Rattle.ecp_sequencer.specs.Passes.{PassState}
use Rattle.ecp_sequencer.specs.Sequencers.{SequencerState}
use Rattle.ecp_coord.specs.Coords.{CoordParts, CoordState, parts_of}
use Rattle.ecp_coord.proofs.coord.Coord.renew.Goals as goal

pub returns-in_default-clause-answer : goal.returns-in_default-clause-answer
returns-in_default-clause-answer g c =
    let shape : Shape = g.N.Names.shape in
    let told : Bool = g.N.Names.told in
    let callers : ℕ = g.N.Names.callers in
    let spares : ℕ = g.N.Names.spare_hands in
    let s : SequencerState = c.self.inside.sequencer in
    let v : PassState = c.args.pass.now in
    let p : CoordParts = parts_of c.self.inside.catalog c.self.inside.hands c.self.inside.slice c.self.inside.nodes.items c.self.inside.stripes c.self.inside.promises.items in
    let res = c.args.res.now in
    let loss : c.first_loss_among.result ≡ first_overtaking res (history_of s.history) = c.first_loss_among.ensures ∙ loss_is shape told callers spares s v p res c.self.invariant c.requires in
    stood_found shape (history_of s.history) res (sym loss ∙ c.in_default.is) ∙ ap (λ (x : CoordState). found_by_renewing shape (history_of x.sequence.history) res) c.self.view_is

pub returns-in_default-clause-done : goal.returns-in_default-clause-done
returns-in_default-clause-done g c =
    let shape : Shape = g.N.Names.shape in
    let told : Bool = g.N.Names.told in
    let callers : ℕ = g.N.Names.callers in
    let spares : ℕ = g.N.Names.spare_hands in
    let s : SequencerState = c.self.inside.sequencer in
    let v : PassState = c.args.pass.now in
    let p : CoordParts = parts_of c.self.inside.catalog c.self.inside.hands c.self.inside.slice c.self.inside.nodes.items c.self.inside.stripes c.self.inside.promises.items in
    let res = c.args.res.now in
    let loss : c.first_loss_among.result ≡ first_overtaking res (history_of s.history) = c.first_loss_among.ensures ∙ loss_is shape told callers spares s v p res c.self.invariant c.requires in
    stands_by shape told c.args.self.now c.end_where.new.self v c.end_where.new.pass (Put res.name res.len) res c.end_where.ensures

pub go_on-requires-clause-overtaken : goal.go_on-requires-clause-overtaken
go_on-requires-clause-overtaken g c =
    let shape : Shape = g.N.Names.shape in
    let told : Bool = g.N.Names.told in
    let callers : ℕ = g.N.Names.callers in
    let spares : ℕ = g.N.Names.spare_hands in
    let s : SequencerState = c.self.inside.sequencer in
    let v : PassState = c.args.pass.now in
    let p : CoordParts = parts_of c.self.inside.catalog c.self.inside.hands c.self.inside.slice c.self.inside.nodes.items c.self.inside.stripes c.self.inside.promises.items in
    let res = c.args.res.now in
    let loss : c.first_loss_among.result ≡ first_overtaking res (history_of s.history) = c.first_loss_among.ensures ∙ loss_is shape told callers spares s v p res c.self.invariant c.requires in
    let first : first_overtaking res (history_of s.history) ≡ Some c.in-Some.at = sym loss ∙ c.in-Some.is in
    let anew : c.find-found.result ≡ found_anew shape (table_of shape (history_of s.history)) res = c.find-found.ensures shape told (history_of s.history) c.self.invariant.outline in
    let found : c.find-found.result ≡ found_by_renewing shape (history_of s.history) res = anew ∙ sym (overtaken_found shape (history_of s.history) res c.in-Some.at first) in
    let voids : Voids = c.keep.new.voids in
    subst (λ (x : CoordState). IsOvertaken (history_of x.sequence.history) res voids) c.self.view_is (record { at = c.in-Some.at; first = first; kept = c.keep.ensures })

pub go_on-requires-clause-found : goal.go_on-requires-clause-found
go_on-requires-clause-found g c =
    let shape : Shape = g.N.Names.shape in
    let told : Bool = g.N.Names.told in
    let callers : ℕ = g.N.Names.callers in
    let spares : ℕ = g.N.Names.spare_hands in
    let s : SequencerState = c.self.inside.sequencer in
    let v : PassState = c.args.pass.now in
    let p : CoordParts = parts_of c.self.inside.catalog c.self.inside.hands c.self.inside.slice c.self.inside.nodes.items c.self.inside.stripes c.self.inside.promises.items in
    let res = c.args.res.now in
    let loss : c.first_loss_among.result ≡ first_overtaking res (history_of s.history) = c.first_loss_among.ensures ∙ loss_is shape told callers spares s v p res c.self.invariant c.requires in
    let first : first_overtaking res (history_of s.history) ≡ Some c.in-Some.at = sym loss ∙ c.in-Some.is in
    let anew : c.find-found.result ≡ found_anew shape (table_of shape (history_of s.history)) res = c.find-found.ensures shape told (history_of s.history) c.self.invariant.outline in
    let found : c.find-found.result ≡ found_by_renewing shape (history_of s.history) res = anew ∙ sym (overtaken_found shape (history_of s.history) res c.in-Some.at first) in
    let voids : Voids = c.keep.new.voids in
    let now : c.find-found.result ≡ found_by_renewing shape (history_of c.args.self.now.sequence.history) res =
    found ∙ ap (λ (x : CoordState). found_by_renewing shape (history_of x.sequence.history) res) c.self.view_is in
    let again : c.find-found.result ≡ renewed.Again =
    anew ∙ none_ends shape (table_of shape (history_of s.history)) res voids (ap (end_of voids) (sym anew) ∙ sym c.act.ensures ∙ c.in_default-act.is) in
    sym now ∙ again

pub returns-in_default-act-clause-answer : goal.returns-in_default-act-clause-answer
returns-in_default-act-clause-answer g c =
    let shape : Shape = g.N.Names.shape in
    let told : Bool = g.N.Names.told in
    let callers : ℕ = g.N.Names.callers in
    let spares : ℕ = g.N.Names.spare_hands in
    let s : SequencerState = c.self.inside.sequencer in
    let v : PassState = c.args.pass.now in
    let p : CoordParts = parts_of c.self.inside.catalog c.self.inside.hands c.self.inside.slice c.self.inside.nodes.items c.self.inside.stripes c.self.inside.promises.items in
    let res = c.args.res.now in
    let loss : c.first_loss_among.result ≡ first_overtaking res (history_of s.history) = c.first_loss_among.ensures ∙ loss_is shape told callers spares s v p res c.self.invariant c.requires in
    let first : first_overtaking res (history_of s.history) ≡ Some c.in-Some.at = sym loss ∙ c.in-Some.is in
    let anew : c.find-found.result ≡ found_anew shape (table_of shape (history_of s.history)) res = c.find-found.ensures shape told (history_of s.history) c.self.invariant.outline in
    let found : c.find-found.result ≡ found_by_renewing shape (history_of s.history) res = anew ∙ sym (overtaken_found shape (history_of s.history) res c.in-Some.at first) in
    let voids : Voids = c.keep.new.voids in
    let now : c.find-found.result ≡ found_by_renewing shape (history_of c.args.self.now.sequence.history) res =
    found ∙ ap (λ (x : CoordState). found_by_renewing shape (history_of x.sequence.history) res) c.self.view_is in
    now

pub returns-in_default-act-clause-done : goal.returns-in_default-act-clause-done
returns-in_default-act-clause-done g c =
    let shape : Shape = g.N.Names.shape in
    let told : Bool = g.N.Names.told in
    let callers : ℕ = g.N.Names.callers in
    let spares : ℕ = g.N.Names.spare_hands in
    let s : SequencerState = c.self.inside.sequencer in
    let v : PassState = c.args.pass.now in
    let p : CoordParts = parts_of c.self.inside.catalog c.self.inside.hands c.self.inside.slice c.self.inside.nodes.items c.self.inside.stripes c.self.inside.promises.items in
    let res = c.args.res.now in
    let loss : c.first_loss_among.result ≡ first_overtaking res (history_of s.history) = c.first_loss_among.ensures ∙ loss_is shape told callers spares s v p res c.self.invariant c.requires in
    let first : first_overtaking res (history_of s.history) ≡ Some c.in-Some.at = sym loss ∙ c.in-Some.is in
    let anew : c.find-found.result ≡ found_anew shape (table_of shape (history_of s.history)) res = c.find-found.ensures shape told (history_of s.history) c.self.invariant.outline in
    let found : c.find-found.result ≡ found_by_renewing shape (history_of s.history) res = anew ∙ sym (overtaken_found shape (history_of s.history) res c.in-Some.at first) in
    let voids : Voids = c.keep.new.voids in
    let again : c.find-found.result ≡ renewed.Again =
    anew ∙ none_ends shape (table_of shape (history_of s.history)) res voids (ap (end_of voids) (sym anew) ∙ sym c.act.ensures ∙ c.in_default-act.is) in
    subst (λ (f : Renewed). DidRenew shape told c.args.self.now v res c.go_on.new.res c.go_on.new.self c.go_on.new.pass f) (sym again) c.go_on.ensures

pub give_up-requires-clause-overtaken : goal.give_up-requires-clause-overtaken
give_up-requires-clause-overtaken g c =
    let shape : Shape = g.N.Names.shape in
    let told : Bool = g.N.Names.told in
    let callers : ℕ = g.N.Names.callers in
    let spares : ℕ = g.N.Names.spare_hands in
    let s : SequencerState = c.self.inside.sequencer in
    let v : PassState = c.args.pass.now in
    let p : CoordParts = parts_of c.self.inside.catalog c.self.inside.hands c.self.inside.slice c.self.inside.nodes.items c.self.inside.stripes c.self.inside.promises.items in
    let res = c.args.res.now in
    let loss : c.first_loss_among.result ≡ first_overtaking res (history_of s.history) = c.first_loss_among.ensures ∙ loss_is shape told callers spares s v p res c.self.invariant c.requires in
    let first : first_overtaking res (history_of s.history) ≡ Some c.in-Some.at = sym loss ∙ c.in-Some.is in
    let anew : c.find-found.result ≡ found_anew shape (table_of shape (history_of s.history)) res = c.find-found.ensures shape told (history_of s.history) c.self.invariant.outline in
    let found : c.find-found.result ≡ found_by_renewing shape (history_of s.history) res = anew ∙ sym (overtaken_found shape (history_of s.history) res c.in-Some.at first) in
    let voids : Voids = c.keep.new.voids in
    subst (λ (x : CoordState). IsOvertaken (history_of x.sequence.history) res voids) c.self.view_is (record { at = c.in-Some.at; first = first; kept = c.keep.ensures })

pub give_up-requires-clause-says : goal.give_up-requires-clause-says
give_up-requires-clause-says g c =
    let shape : Shape = g.N.Names.shape in
    let told : Bool = g.N.Names.told in
    let callers : ℕ = g.N.Names.callers in
    let spares : ℕ = g.N.Names.spare_hands in
    let s : SequencerState = c.self.inside.sequencer in
    let v : PassState = c.args.pass.now in
    let p : CoordParts = parts_of c.self.inside.catalog c.self.inside.hands c.self.inside.slice c.self.inside.nodes.items c.self.inside.stripes c.self.inside.promises.items in
    let res = c.args.res.now in
    let loss : c.first_loss_among.result ≡ first_overtaking res (history_of s.history) = c.first_loss_among.ensures ∙ loss_is shape told callers spares s v p res c.self.invariant c.requires in
    let first : first_overtaking res (history_of s.history) ≡ Some c.in-Some.at = sym loss ∙ c.in-Some.is in
    let anew : c.find-found.result ≡ found_anew shape (table_of shape (history_of s.history)) res = c.find-found.ensures shape told (history_of s.history) c.self.invariant.outline in
    let found : c.find-found.result ≡ found_by_renewing shape (history_of s.history) res = anew ∙ sym (overtaken_found shape (history_of s.history) res c.in-Some.at first) in
    let voids : Voids = c.keep.new.voids in
    let now : c.find-found.result ≡ found_by_renewing shape (history_of c.args.self.now.sequence.history) res =
    found ∙ ap (λ (x : CoordState). found_by_renewing shape (history_of x.sequence.history) res) c.self.view_is in
    ap (end_of voids) (sym now) ∙ sym c.act.ensures ∙ c.in-Some-act.is

pub returns-clause-answer : goal.returns-clause-answer
returns-clause-answer g c =
    let shape : Shape = g.N.Names.shape in
    let told : Bool = g.N.Names.told in
    let callers : ℕ = g.N.Names.callers in
    let spares : ℕ = g.N.Names.spare_hands in
    let s : SequencerState = c.self.inside.sequencer in
    let v : PassState = c.args.pass.now in
    let p : CoordParts = parts_of c.self.inside.catalog c.self.inside.hands c.self.inside.slice c.self.inside.nodes.items c.self.inside.stripes c.self.inside.promises.items in
    let res = c.args.res.now in
    let loss : c.first_loss_among.result ≡ first_overtaking res (history_of s.history) = c.first_loss_among.ensures ∙ loss_is shape told callers spares s v p res c.self.invariant c.requires in
    let first : first_overtaking res (history_of s.history) ≡ Some c.in-Some.at = sym loss ∙ c.in-Some.is in
    let anew : c.find-found.result ≡ found_anew shape (table_of shape (history_of s.history)) res = c.find-found.ensures shape told (history_of s.history) c.self.invariant.outline in
    let found : c.find-found.result ≡ found_by_renewing shape (history_of s.history) res = anew ∙ sym (overtaken_found shape (history_of s.history) res c.in-Some.at first) in
    let voids : Voids = c.keep.new.voids in
    let now : c.find-found.result ≡ found_by_renewing shape (history_of c.args.self.now.sequence.history) res =
    found ∙ ap (λ (x : CoordState). found_by_renewing shape (history_of x.sequence.history) res) c.self.view_is in
    now

pub returns-clause-done : goal.returns-clause-done
returns-clause-done g c =
    let shape : Shape = g.N.Names.shape in
    let told : Bool = g.N.Names.told in
    let callers : ℕ = g.N.Names.callers in
    let spares : ℕ = g.N.Names.spare_hands in
    let s : SequencerState = c.self.inside.sequencer in
    let v : PassState = c.args.pass.now in
    let p : CoordParts = parts_of c.self.inside.catalog c.self.inside.hands c.self.inside.slice c.self.inside.nodes.items c.self.inside.stripes c.self.inside.promises.items in
    let res = c.args.res.now in
    let loss : c.first_loss_among.result ≡ first_overtaking res (history_of s.history) = c.first_loss_among.ensures ∙ loss_is shape told callers spares s v p res c.self.invariant c.requires in
    let first : first_overtaking res (history_of s.history) ≡ Some c.in-Some.at = sym loss ∙ c.in-Some.is in
    let anew : c.find-found.result ≡ found_anew shape (table_of shape (history_of s.history)) res = c.find-found.ensures shape told (history_of s.history) c.self.invariant.outline in
    let found : c.find-found.result ≡ found_by_renewing shape (history_of s.history) res = anew ∙ sym (overtaken_found shape (history_of s.history) res c.in-Some.at first) in
    let voids : Voids = c.keep.new.voids in
    gave_up shape told c.args.self.now c.give_up.new.self v c.give_up.new.pass res c.give_up.new.res voids c.find-found.result c.in-Some-act.act (sym c.act.ensures ∙ c.in-Some-act.is) c.give_up.ensures.done c.give_up.ensures.voids
