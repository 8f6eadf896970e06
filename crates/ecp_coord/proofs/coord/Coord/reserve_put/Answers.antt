use Rattle.std.proofs.Common.{◌≡◌, ℕ, ◌<◌, Bool, List, length, Option, Some, None, sym, ◌∙◌, ap, subst}
use Rattle.std.specs.Prelude.{MatchOption, ⊤}
use Rattle.ecp_shape.specs.declared.limits.TheConstants.{MAX_SESSIONS}
use Rattle.ecp_entry.specs.declared.act.Act.{Act}
use Rattle.ecp_entry.specs.declared.deed.Deed.{Deed}
use Rattle.ecp_entry.specs.declared.deed.Deed.TheVariants.{Put}
use Rattle.ecp_entry.specs.Told.{history_of}
use Rattle.ecp_history.specs.Fronts.{told_table}
use Rattle.ecp_history.specs.Legal.{MayFollow}
use Rattle.ecp_history.specs.table.Steps.{table_of}
use Rattle.ecp_coord.specs.Calls.{IsOpen, ended}
use Rattle.ecp_coord.specs.Puts.{hindered, refusal_of}
use Rattle.ecp_coord.specs.Refusals.{Refuses, SaysWhy}
use Rattle.ecp_coord.specs.Numbers.{open_numbers}
use Rattle.ecp_coord.proofs.CoverLaws.{open_fresh}
use Rattle.ecp_coord.proofs.PlaceLaws.{put_refused_told, refusal_says, why_answers}
use Rattle.ecp_shape.specs.declared.shape.Shape.{Shape}
use Rattle.ecp_sequencer.specs.Passes.{PassState}
use Rattle.ecp_sequencer.specs.Sequencers.{SequencerState}
use Rattle.ecp_coord.specs.Coords.{CoordParts, CoordState, parts_of}
use Rattle.ecp_coord.proofs.coord.Coord.reserve_put.Goals as goal

pub end_where-requires-clause-open : goal.end_where-requires-clause-open
end_where-requires-clause-open g c =
    let shape : Shape = g.N.Names.shape in
    let told : Bool = g.N.Names.told in
    let callers : ℕ = g.N.Names.callers in
    let spares : ℕ = g.N.Names.spare_hands in
    let s : SequencerState = c.self.inside.sequencer in
    let v : PassState = c.args.pass.now in
    let p : CoordParts = parts_of c.self.inside.catalog c.self.inside.hands c.self.inside.slice c.self.inside.nodes.items c.self.inside.stripes c.self.inside.promises.items in
    let name : List ℕ = c.new-name.result in
    let same : Put c.args.name.now c.args.len ≡ Put name c.args.len = ap (λ (n : List ℕ). Put n c.args.len) (sym c.new-name.ensures) in
    subst (λ (d : Deed). IsOpen v d) same c.requires.fresh.is_open

pub end_where-requires-clause-says : goal.end_where-requires-clause-says
end_where-requires-clause-says g c =
    let shape : Shape = g.N.Names.shape in
    let told : Bool = g.N.Names.told in
    let callers : ℕ = g.N.Names.callers in
    let spares : ℕ = g.N.Names.spare_hands in
    let s : SequencerState = c.self.inside.sequencer in
    let v : PassState = c.args.pass.now in
    let p : CoordParts = parts_of c.self.inside.catalog c.self.inside.hands c.self.inside.slice c.self.inside.nodes.items c.self.inside.stripes c.self.inside.promises.items in
    subst (λ (o : Option Act). MatchOption o ⊤ SaysWhy) (sym c.act.ensures) (refusal_says c.in-Some.why)

pub end_where-requires-clause-free : goal.end_where-requires-clause-free
end_where-requires-clause-free g c = either c.act.result where
  either : (o : Option Act) → MatchOption o ⊤ (λ (a : Act). open_numbers g.N.Names.shape c.args.pass.now.notes ≡ 0)
  either None = tt
  either (Some a) = open_fresh g.N.Names.shape c.args.pass.now.notes c.requires.fresh.none

pub end_where-requires-clause-follows : goal.end_where-requires-clause-follows
end_where-requires-clause-follows g c =
    let shape : Shape = g.N.Names.shape in
    let told : Bool = g.N.Names.told in
    let callers : ℕ = g.N.Names.callers in
    let spares : ℕ = g.N.Names.spare_hands in
    let s : SequencerState = c.self.inside.sequencer in
    let v : PassState = c.args.pass.now in
    let p : CoordParts = parts_of c.self.inside.catalog c.self.inside.hands c.self.inside.slice c.self.inside.nodes.items c.self.inside.stripes c.self.inside.promises.items in
    let name : List ℕ = c.new-name.result in
    let same : Put c.args.name.now c.args.len ≡ Put name c.args.len = ap (λ (n : List ℕ). Put n c.args.len) (sym c.new-name.ensures) in
    let found : hindered shape (table_of shape (history_of s.history)) name ≡ Some c.in-Some.why =
    sym (c.hindrance.ensures shape told (history_of s.history) c.self.invariant.outline) ∙ c.in-Some.is in
    λ (session : v.caller < MAX_SESSIONS).
    subst (λ (x : CoordState). MatchOption c.act.result ⊤ (λ a. MayFollow shape told (history_of x.sequence.history) (ended v (Put name c.args.len) (length x.sequence.history) a))) c.self.view_is
    (subst (λ (o : Option Act). MatchOption o ⊤ (λ a. MayFollow shape told (history_of s.history) (ended v (Put name c.args.len) (length s.history) a))) (sym c.act.ensures)
    (put_refused_told shape told s.history v name c.args.len c.in-Some.why session found))

pub returns-in-Some-clause-err : goal.returns-in-Some-clause-err
returns-in-Some-clause-err g c =
    let shape : Shape = g.N.Names.shape in
    let told : Bool = g.N.Names.told in
    let callers : ℕ = g.N.Names.callers in
    let spares : ℕ = g.N.Names.spare_hands in
    let s : SequencerState = c.self.inside.sequencer in
    let v : PassState = c.args.pass.now in
    let p : CoordParts = parts_of c.self.inside.catalog c.self.inside.hands c.self.inside.slice c.self.inside.nodes.items c.self.inside.stripes c.self.inside.promises.items in
    let name : List ℕ = c.new-name.result in
    let same : Put c.args.name.now c.args.len ≡ Put name c.args.len = ap (λ (n : List ℕ). Put n c.args.len) (sym c.new-name.ensures) in
    subst (λ (d : Deed). Refuses shape told c.args.self.now v d (refusal_of c.in-Some.why) c.end_where.new.self c.end_where.new.pass) (sym same)
    (subst (λ (o : Option Act). Refuses shape told c.args.self.now v (Put name c.args.len) o c.end_where.new.self c.end_where.new.pass) c.act.ensures c.end_where.ensures)

pub returns-in-Some-clause-answer : goal.returns-in-Some-clause-answer
returns-in-Some-clause-answer g c =
    let shape : Shape = g.N.Names.shape in
    let told : Bool = g.N.Names.told in
    let callers : ℕ = g.N.Names.callers in
    let spares : ℕ = g.N.Names.spare_hands in
    let s : SequencerState = c.self.inside.sequencer in
    let v : PassState = c.args.pass.now in
    let p : CoordParts = parts_of c.self.inside.catalog c.self.inside.hands c.self.inside.slice c.self.inside.nodes.items c.self.inside.stripes c.self.inside.promises.items in
    let name : List ℕ = c.new-name.result in
    let same : Put c.args.name.now c.args.len ≡ Put name c.args.len = ap (λ (n : List ℕ). Put n c.args.len) (sym c.new-name.ensures) in
    let found : hindered shape (table_of shape (history_of s.history)) name ≡ Some c.in-Some.why =
    sym (c.hindrance.ensures shape told (history_of s.history) c.self.invariant.outline) ∙ c.in-Some.is in
    why_answers shape (told_table shape c.args.self.now.sequence.history) c.args.name.now c.in-Some.why
    (ap (λ (n : List ℕ). hindered shape (told_table shape c.args.self.now.sequence.history) n) (sym c.new-name.ensures)
    ∙ ap (λ (x : CoordState). hindered shape (told_table shape x.sequence.history) name) (sym c.self.view_is) ∙ found)

pub reserve-requires-clause-free : goal.reserve-requires-clause-free
reserve-requires-clause-free g c =
    let shape : Shape = g.N.Names.shape in
    let told : Bool = g.N.Names.told in
    let callers : ℕ = g.N.Names.callers in
    let spares : ℕ = g.N.Names.spare_hands in
    let s : SequencerState = c.self.inside.sequencer in
    let v : PassState = c.args.pass.now in
    let p : CoordParts = parts_of c.self.inside.catalog c.self.inside.hands c.self.inside.slice c.self.inside.nodes.items c.self.inside.stripes c.self.inside.promises.items in
    let name : List ℕ = c.new-name.result in
    let same : Put c.args.name.now c.args.len ≡ Put name c.args.len = ap (λ (n : List ℕ). Put n c.args.len) (sym c.new-name.ensures) in
    ap (λ (x : CoordState). hindered shape (told_table shape x.sequence.history) name) (sym c.self.view_is)
    ∙ sym (c.hindrance.ensures shape told (history_of s.history) c.self.invariant.outline) ∙ c.in_default.is

pub returns-in-Ok-clause-answer : goal.returns-in-Ok-clause-answer
returns-in-Ok-clause-answer g c =
    let shape : Shape = g.N.Names.shape in
    let told : Bool = g.N.Names.told in
    let callers : ℕ = g.N.Names.callers in
    let spares : ℕ = g.N.Names.spare_hands in
    let s : SequencerState = c.self.inside.sequencer in
    let v : PassState = c.args.pass.now in
    let p : CoordParts = parts_of c.self.inside.catalog c.self.inside.hands c.self.inside.slice c.self.inside.nodes.items c.self.inside.stripes c.self.inside.promises.items in
    let name : List ℕ = c.new-name.result in
    let same : Put c.args.name.now c.args.len ≡ Put name c.args.len = ap (λ (n : List ℕ). Put n c.args.len) (sym c.new-name.ensures) in
    ap (λ (n : List ℕ). hindered shape (told_table shape c.args.self.now.sequence.history) n) (sym c.new-name.ensures)
    ∙ ap (λ (x : CoordState). hindered shape (told_table shape x.sequence.history) name) (sym c.self.view_is)
    ∙ sym (c.hindrance.ensures shape told (history_of s.history) c.self.invariant.outline) ∙ c.in_default.is

pub returns-in-Err-clause-answer : goal.returns-in-Err-clause-answer
returns-in-Err-clause-answer g c =
    let shape : Shape = g.N.Names.shape in
    let told : Bool = g.N.Names.told in
    let callers : ℕ = g.N.Names.callers in
    let spares : ℕ = g.N.Names.spare_hands in
    let s : SequencerState = c.self.inside.sequencer in
    let v : PassState = c.args.pass.now in
    let p : CoordParts = parts_of c.self.inside.catalog c.self.inside.hands c.self.inside.slice c.self.inside.nodes.items c.self.inside.stripes c.self.inside.promises.items in
    let name : List ℕ = c.new-name.result in
    let same : Put c.args.name.now c.args.len ≡ Put name c.args.len = ap (λ (n : List ℕ). Put n c.args.len) (sym c.new-name.ensures) in
    ap (λ (n : List ℕ). hindered shape (told_table shape c.args.self.now.sequence.history) n) (sym c.new-name.ensures)
    ∙ ap (λ (x : CoordState). hindered shape (told_table shape x.sequence.history) name) (sym c.self.view_is)
    ∙ sym (c.hindrance.ensures shape told (history_of s.history) c.self.invariant.outline) ∙ c.in_default.is
