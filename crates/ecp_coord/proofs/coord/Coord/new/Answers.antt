use Rattle.std.proofs.Common.{◌≡◌, ◌∙◌, ℕ, ◌+◌, ◌*◌, ◌/◌, Bool, List, [], replicate, length, vec_len, ap, sym, subst, arith}
use Rattle.ecp_shape.specs.declared.shape.Shape.{Shape}
use Rattle.ecp_book.specs.Logs.{Log}
use Rattle.ecp_catalog.specs.Catalogs.{CatalogState, empty}
use Rattle.ecp_catalog.specs.Stamps.{StampsSeen}
use Rattle.ecp_sequencer.specs.Hands.{hands_of}
use Rattle.ecp_sequencer.specs.Passes.{first_passes}
use Rattle.ecp_sequencer.specs.Sequencers.{SequencerState}
use Rattle.ecp_sequencer.specs.Sequencers as sequencers
use Rattle.ecp_coord.specs.Coords.{CoordState, IsCoord, heard, no_stamps, parts_of}
use Rattle.ecp_coord.proofs.StartLaws.{ties_halved, callers_counted, heard-empty, start_is}
use Rattle.ecp_coord.proofs.coord.Coord.new.Goals as goal

pub new-requires-2-clause-count : goal.new-requires-2-clause-count
new-requires-2-clause-count g c =
    let callers : ℕ = g.N.Names.callers in
    let hands : ℕ = c.args.hands in
    let size : vec_len c.args.ties ≡ length c.args.ties.items = omega (arith, c.args.ties.ok.0) in
    let all : c.len-all.result / 2 ≡ hands_of callers hands = ties_halved callers hands c.len-all.result (c.len-all.ensures ∙ size ∙ c.requires.can.tied) in
    let counted : c.len-all.result / 2 / (1 + hands) ≡ callers = ap (λ (n : ℕ). n / (1 + hands)) all ∙ callers_counted callers hands in
    size ∙ c.requires.can.tied ∙ ap (λ (k : ℕ). 2 * hands_of k hands) (sym counted)

pub invariant_of-coord : goal.invariant_of-coord
invariant_of-coord g c =
    let callers : ℕ = g.N.Names.callers in
    let spares : ℕ = g.N.Names.spare_hands in
    let hands : ℕ = c.args.hands in
    let half : ℕ = c.len-all.result / 2 in
    let size : vec_len c.args.ties ≡ length c.args.ties.items = omega (arith, c.args.ties.ok.0) in
    let all : half ≡ hands_of callers hands = ties_halved callers hands c.len-all.result (c.len-all.ensures ∙ size ∙ c.requires.can.tied) in
    let counted : half / (1 + hands) ≡ callers = ap (λ (n : ℕ). n / (1 + hands)) all ∙ callers_counted callers hands in
    let sequencer : sequencers.at_start half ≡ c.in_ok-sequencer.sequencer =
    sym (c.in_ok-sequencer.ensures.sequencer ∙ ap (λ (k : ℕ). sequencers.at_start (hands_of k hands)) counted ∙ ap (λ (n : ℕ). sequencers.at_start n) (sym all)) in
    let tags : c.in_ok-tags.tags.items ≡ c.args.nodes.now.items = c.in_ok-tags.ensures.tags ∙ c.deref_mut.ensures.value in
    let promises : List ℕ = c.in_ok-promises.promises.items in
    let none : promises ≡ replicate half 0 = c.in_ok-promises.ensures in
    let made = start_is c.args.shape g.N.Names.told callers spares c.args.slice hands c.args.history c.args.nodes.now.items c.args.ties.items c.in_ok-tags.tags.items half promises c.requires.can tags
    (all ∙ ap (λ (h : ℕ). hands_of callers h) c.requires.can.handed.0) none in
    subst (λ (s : Shape). IsCoord s g.N.Names.told callers spares c.in_ok-sequencer.sequencer (parts_of c.in_ok-catalog.catalog half c.args.slice c.in_ok-tags.tags.items 0 promises)) c.requires.named
    (subst (λ (d : CatalogState). IsCoord c.args.shape g.N.Names.told callers spares c.in_ok-sequencer.sequencer (parts_of d half c.args.slice c.in_ok-tags.tags.items 0 promises)) (sym c.in_ok-catalog.ensures)
    (subst (λ (x : SequencerState). IsCoord c.args.shape g.N.Names.told callers spares x (parts_of (empty c.args.shape) half c.args.slice c.in_ok-tags.tags.items 0 promises)) sequencer made))

-- a coordinator with these parts
abbrev parts : ℕ → Bool → SequencerState → StampsSeen → List Log → CoordState
parts slice cyclic sequence stamps nodes = record { sequence = sequence; stamps = stamps; repairs = 0; stripes = 0; slice = slice; cyclic = cyclic; nodes = nodes }

pub returns-clause-coord : goal.returns-clause-coord
returns-clause-coord g c =
    let callers : ℕ = g.N.Names.callers in
    let hands : ℕ = c.args.hands in
    let half : ℕ = c.len-all.result / 2 in
    let size : vec_len c.args.ties ≡ length c.args.ties.items = omega (arith, c.args.ties.ok.0) in
    let all : half ≡ hands_of callers hands = ties_halved callers hands c.len-all.result (c.len-all.ensures ∙ size ∙ c.requires.can.tied) in
    let counted : half / (1 + hands) ≡ callers = ap (λ (n : ℕ). n / (1 + hands)) all ∙ callers_counted callers hands in
    let sequencer : c.in_ok-sequencer.sequencer ≡ sequencers.at_start (hands_of callers g.N.Names.spare_hands) =
    c.in_ok-sequencer.ensures.sequencer ∙ ap (λ (k : ℕ). sequencers.at_start (hands_of k hands)) counted ∙ ap (λ (h : ℕ). sequencers.at_start (hands_of callers h)) c.requires.can.handed.0 in
    let tags : c.in_ok-tags.tags.items ≡ c.args.nodes.now.items = c.in_ok-tags.ensures.tags ∙ c.deref_mut.ensures.value in
    let nodes : heard c.in_ok-tags.tags.items ≡ replicate c.args.shape.nodes [] = ap heard tags ∙ heard-empty c.args.shape.nodes c.args.nodes.now.items c.requires.can.of_nodes in
    ap (λ (s : SequencerState). parts c.args.slice c.args.cyclic s c.new-3.result (heard c.in_ok-tags.tags.items)) sequencer
    ∙ ap (λ (x : StampsSeen). parts c.args.slice c.args.cyclic (sequencers.at_start (hands_of callers g.N.Names.spare_hands)) x (heard c.in_ok-tags.tags.items)) c.new-3.ensures
    ∙ ap (λ (ns : List Log). parts c.args.slice c.args.cyclic (sequencers.at_start (hands_of callers g.N.Names.spare_hands)) no_stamps ns) nodes

pub returns-clause-passes : goal.returns-clause-passes
returns-clause-passes g c =
    let callers : ℕ = g.N.Names.callers in
    let hands : ℕ = c.args.hands in
    let half : ℕ = c.len-all.result / 2 in
    let size : vec_len c.args.ties ≡ length c.args.ties.items = omega (arith, c.args.ties.ok.0) in
    let all : half ≡ hands_of callers hands = ties_halved callers hands c.len-all.result (c.len-all.ensures ∙ size ∙ c.requires.can.tied) in
    let counted : half / (1 + hands) ≡ callers = ap (λ (n : ℕ). n / (1 + hands)) all ∙ callers_counted callers hands in
    c.in_ok-sequencer.ensures.passes ∙ ap (λ (k : ℕ). first_passes hands k) counted ∙ ap (λ (h : ℕ). first_passes h callers) c.requires.can.handed.0
