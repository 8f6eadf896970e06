use Rattle.std.proofs.Common.{◌≡◌, ℕ, [], length, Option, Some, sym, ◌∙◌, subst}
use Rattle.std.specs.Prelude.{MatchOption, ⊤}
use Rattle.ecp_entry.specs.declared.act.Act.{Act}
use Rattle.ecp_entry.specs.Told.{history_of}
use Rattle.ecp_history.specs.Legal.{MayFollow}
use Rattle.ecp_sequencer.specs.Passes.{PassState}
use Rattle.ecp_sequencer.specs.Sequencers.{SequencerState}
use Rattle.ecp_coord.specs.Calls.{closing}
use Rattle.ecp_coord.specs.Plans.{refusal_of}
use Rattle.ecp_coord.proofs.asking.refuse.Goals as goal

pub end_with-requires-clause-follows : goal.end_with-requires-clause-follows
end_with-requires-clause-follows g c = λ asked is.
    let s : SequencerState = c.args.sequencer.now in
    let v : PassState = c.args.pass.now in
    let says : refusal_of c.args.why ≡ Some c.in-Some.act = sym c.act.ensures ∙ c.in-Some.is in
    subst (λ (n : ℕ). MayFollow g.N.Names.shape g.N.Names.told (history_of s.history) (closing v asked c.args.part n c.in-Some.act [])) (sym c.len-position.ensures)
    (subst (λ (o : Option Act). MatchOption o ⊤ (λ what. MayFollow g.N.Names.shape g.N.Names.told (history_of s.history) (closing v asked c.args.part (length s.history) what []))) says (c.requires.follows asked is))
