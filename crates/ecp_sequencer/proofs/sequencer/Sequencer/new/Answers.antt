use Rattle.std.proofs.Common.{◌≡◌, ◌∙◌, ℕ, List, [], ap, sym, subst, arith}
use Rattle.ecp_book.specs.Logs.{Known, Log}
use Rattle.ecp_history.specs.Journals.{Held}
use Rattle.ecp_sequencer.specs.Hands.{own_hand, hands_of}
use Rattle.ecp_sequencer.specs.Sequencers.{DeskState, SequencerState, IsSequencer, new_desks}
use Rattle.ecp_sequencer.proofs.EventLaws.{seen}
use Rattle.ecp_sequencer.proofs.StartLaws.{at_start_is, notes_of-new_desks}
use Rattle.ecp_sequencer.proofs.sequencer.Sequencer.new.Goals as goal

-- a sequencer of an empty history
abbrev with_notes : List Log → SequencerState
with_notes notes = record { history = []; notes = notes }

pub invariant_of-sequencer : goal.invariant_of-sequencer
invariant_of-sequencer g c =
    let i = c.loop-caller.invariant in
    let all : c.loop-caller.caller ≡ c.args.callers = omega (arith, c.loop-caller-test.false, c.loop-caller.auto.caller-end) in
    let desks : c.loop-caller.desks.items ≡ new_desks (hands_of c.args.callers c.args.spare) = i.desks ∙ ap (λ (k : ℕ). new_desks (own_hand c.args.spare k)) all in
    let journal : c.new.result ≡ record { lines = []; spare = 0 } = λ j. record { lines = c.new.ensures.lines j; spare = c.new.ensures.spare j } in
    let start = at_start_is g.N.Names.shape g.N.Names.told c.args.callers c.args.spare in
    let own : IsSequencer g.N.Names.shape g.N.Names.told c.args.callers c.args.spare c.loop-caller.history.log c.loop-caller.history.items c.new.result c.loop-caller.desks.items 0 =
    subst (λ (k : Known). IsSequencer g.N.Names.shape g.N.Names.told c.args.callers c.args.spare k.log k.items c.new.result c.loop-caller.desks.items 0) (sym i.history)
    (subst (λ (h : Held). IsSequencer g.N.Names.shape g.N.Names.told c.args.callers c.args.spare 0 [] h c.loop-caller.desks.items 0) (sym journal)
    (subst (λ (ds : List DeskState). IsSequencer g.N.Names.shape g.N.Names.told c.args.callers c.args.spare 0 [] (record { lines = []; spare = 0 }) ds 0) (sym desks) start)) in
    subst (λ (n : ℕ). IsSequencer g.N.Names.shape g.N.Names.told n g.N.Names.spare_hands c.loop-caller.history.log c.loop-caller.history.items c.new.result c.loop-caller.desks.items 0) c.requires.callers.0
    (subst (λ (n : ℕ). IsSequencer g.N.Names.shape g.N.Names.told c.args.callers n c.loop-caller.history.log c.loop-caller.history.items c.new.result c.loop-caller.desks.items 0) c.requires.spare.0 own)

pub returns-clause-sequencer : goal.returns-clause-sequencer
returns-clause-sequencer g c =
    let i = c.loop-caller.invariant in
    let all : c.loop-caller.caller ≡ c.args.callers = omega (arith, c.loop-caller-test.false, c.loop-caller.auto.caller-end) in
    let desks : c.loop-caller.desks.items ≡ new_desks (hands_of c.args.callers c.args.spare) = i.desks ∙ ap (λ (k : ℕ). new_desks (own_hand c.args.spare k)) all in
    ap (λ (k : Known). seen k.items c.loop-caller.desks.items) i.history ∙ ap (λ (ds : List DeskState). seen [] ds) desks ∙ ap (λ (ns : List Log). with_notes ns) (notes_of-new_desks (hands_of c.args.callers c.args.spare))
