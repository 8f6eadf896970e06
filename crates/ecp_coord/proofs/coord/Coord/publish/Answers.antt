use Rattle.std.proofs.Common.{◌≡◌, ℕ, ◌<◌, Bool, true, false, length, sym, ◌∙◌, ap, subst}
use Rattle.std.specs.Prelude.{is_none}
use Rattle.ecp_shape.specs.declared.limits.TheConstants.{MAX_SESSIONS}
use Rattle.ecp_entry.specs.declared.act.Act.TheVariants as act
use Rattle.ecp_entry.specs.declared.deed.Deed.TheVariants.{Put}
use Rattle.ecp_entry.specs.Told.{history_of}
use Rattle.ecp_history.specs.Legal.{MayFollow}
use Rattle.ecp_history.specs.table.Tables.{file_of}
use Rattle.ecp_catalog.specs.Catalogs.{plain}
use Rattle.ecp_coord.specs.Calls.{ended}
use Rattle.ecp_coord.specs.Puts.{found_by_publishing}
use Rattle.ecp_coord.proofs.PublishLaws.{found_nothing, found_over, found_taken, named_taken, taken_follows}
use Rattle.ecp_shape.specs.declared.shape.Shape.{Shape}
use Rattle.ecp_sequencer.specs.Passes.{PassState}
use Rattle.ecp_sequencer.specs.Sequencers.{SequencerState}
use Rattle.ecp_coord.specs.Coords.{CoordParts, CoordState, parts_of}
use Rattle.ecp_coord.proofs.coord.Coord.publish.Goals as goal

pub end_taken-requires-clause-follows : goal.end_taken-requires-clause-follows
end_taken-requires-clause-follows g c =
    let shape : Shape = g.N.Names.shape in
    let told : Bool = g.N.Names.told in
    let callers : ℕ = g.N.Names.callers in
    let spares : ℕ = g.N.Names.spare_hands in
    let s : SequencerState = c.self.inside.sequencer in
    let v : PassState = c.args.pass.now in
    let p : CoordParts = parts_of c.self.inside.catalog c.self.inside.hands c.self.inside.slice c.self.inside.nodes.items c.self.inside.stripes c.self.inside.promises.items in
    let res = c.args.res.now in
    let taken : is_none (file_of (plain c.self.inside.catalog) res.name) ≡ false = sym c.is_free.ensures ∙ c.if-not-is_free.true in
    λ (session : v.caller < MAX_SESSIONS).
    subst (λ (x : CoordState). MayFollow shape told (history_of x.sequence.history) (ended v (Put res.name res.len) (length x.sequence.history) act.NameTaken)) c.self.view_is
    (taken_follows shape told s.history v res.name res.len session (named_taken shape told c.self.inside.catalog (history_of s.history) res.name c.self.invariant.outline taken))

pub returns-then-not-is_free-clause-answer : goal.returns-then-not-is_free-clause-answer
returns-then-not-is_free-clause-answer g c =
    let shape : Shape = g.N.Names.shape in
    let told : Bool = g.N.Names.told in
    let callers : ℕ = g.N.Names.callers in
    let spares : ℕ = g.N.Names.spare_hands in
    let s : SequencerState = c.self.inside.sequencer in
    let v : PassState = c.args.pass.now in
    let p : CoordParts = parts_of c.self.inside.catalog c.self.inside.hands c.self.inside.slice c.self.inside.nodes.items c.self.inside.stripes c.self.inside.promises.items in
    let res = c.args.res.now in
    let taken : is_none (file_of (plain c.self.inside.catalog) res.name) ≡ false = sym c.is_free.ensures ∙ c.if-not-is_free.true in
    ap (λ (x : CoordState). found_by_publishing shape (history_of x.sequence.history) res) (sym c.self.view_is) ∙ found_taken shape told callers spares s v p res c.self.invariant c.requires.reserved taken

pub returns-in-Some-clause-answer : goal.returns-in-Some-clause-answer
returns-in-Some-clause-answer g c =
    let shape : Shape = g.N.Names.shape in
    let told : Bool = g.N.Names.told in
    let callers : ℕ = g.N.Names.callers in
    let spares : ℕ = g.N.Names.spare_hands in
    let s : SequencerState = c.self.inside.sequencer in
    let v : PassState = c.args.pass.now in
    let p : CoordParts = parts_of c.self.inside.catalog c.self.inside.hands c.self.inside.slice c.self.inside.nodes.items c.self.inside.stripes c.self.inside.promises.items in
    let res = c.args.res.now in
    let free : is_none (file_of (plain c.self.inside.catalog) res.name) ≡ true = sym c.is_free.ensures ∙ c.if-not-is_free.false in
    ap (λ (x : CoordState). found_by_publishing shape (history_of x.sequence.history) res) (sym c.self.view_is) ∙ found_over shape told callers spares s v p res c.self.invariant c.requires.reserved c.in-Some.at free (sym c.first_loss_among.ensures ∙ c.in-Some.is)

pub store-requires-clause-found : goal.store-requires-clause-found
store-requires-clause-found g c =
    let shape : Shape = g.N.Names.shape in
    let told : Bool = g.N.Names.told in
    let callers : ℕ = g.N.Names.callers in
    let spares : ℕ = g.N.Names.spare_hands in
    let s : SequencerState = c.self.inside.sequencer in
    let v : PassState = c.args.pass.now in
    let p : CoordParts = parts_of c.self.inside.catalog c.self.inside.hands c.self.inside.slice c.self.inside.nodes.items c.self.inside.stripes c.self.inside.promises.items in
    let res = c.args.res.now in
    let free : is_none (file_of (plain c.self.inside.catalog) res.name) ≡ true = sym c.is_free.ensures ∙ c.if-not-is_free.false in
    ap (λ (x : CoordState). found_by_publishing shape (history_of x.sequence.history) res) (sym c.self.view_is) ∙ found_nothing shape told callers spares s v p res c.self.invariant c.requires.reserved free (sym c.first_loss_among.ensures ∙ c.in_default.is)

pub returns-clause-answer : goal.returns-clause-answer
returns-clause-answer g c =
    let shape : Shape = g.N.Names.shape in
    let told : Bool = g.N.Names.told in
    let callers : ℕ = g.N.Names.callers in
    let spares : ℕ = g.N.Names.spare_hands in
    let s : SequencerState = c.self.inside.sequencer in
    let v : PassState = c.args.pass.now in
    let p : CoordParts = parts_of c.self.inside.catalog c.self.inside.hands c.self.inside.slice c.self.inside.nodes.items c.self.inside.stripes c.self.inside.promises.items in
    let res = c.args.res.now in
    let free : is_none (file_of (plain c.self.inside.catalog) res.name) ≡ true = sym c.is_free.ensures ∙ c.if-not-is_free.false in
    ap (λ (x : CoordState). found_by_publishing shape (history_of x.sequence.history) res) (sym c.self.view_is) ∙ found_nothing shape told callers spares s v p res c.self.invariant c.requires.reserved free (sym c.first_loss_among.ensures ∙ c.in_default.is)
