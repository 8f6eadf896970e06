use Rattle.std.proofs.Common.{◌≡◌, ◌∙◌, ℕ, List, Ok, [], ◌∷◌, length, ap, subst, sym, arith}
use Rattle.std.specs.Prelude.{All}
use Rattle.ecp_sequencer.specs.declared.limits.TheConstants.{ROOM}
use Rattle.ecp_sequencer.specs.Branches.{CanEnd, HasPlace, IsBranch, acting}
use Rattle.ecp_sequencer.specs.Facts.{room_noted}
use Rattle.ecp_sequencer.specs.Passes.{HandNotes, PassState}
use Rattle.ecp_sequencer.proofs.NoteLaws.{room-more}
use Rattle.ecp_sequencer.proofs.LentLaws.{can_release, comes_back, has_place}
use Rattle.ecp_sequencer.proofs.tests.lent.lend.Goals as goal

pub rejoin-requires-clause-branch : goal.rejoin-requires-clause-branch
rejoin-requires-clause-branch g c =
    let v : PassState = c.args.pass.now in
    let w : PassState = c.branch-pass.new.self in
    let lent = c.branch-pass.ensures in
    let b : PassState = lent.0 in
    let now : PassState = c.note_taking.new.pass in
    let known : Ok c.in_ok-branch.branch ≡ Ok b = sym c.in_ok-branch.was ∙ lent.1 in
    let was : c.in_ok-branch.branch ≡ b = cc in
    let met : c.meet.new.pass ≡ b = c.meet.ensures.pass ∙ was in
    let steps = c.in_ok-note_taking.ensures.ok.steps in
    subst (λ (n : ℕ). IsBranch n w now) (sym c.requires.names)
    (comes_back v w b now c.requires.own c.requires.spare lent.2 (steps.caller ∙ ap (λ (p : PassState). p.caller) met) (steps.hand ∙ ap (λ (p : PassState). p.hand) met)
    (c.note_taking.ensures.calls ∙ ap (λ (p : PassState). p.calls) met))

pub rejoin-requires-clause-place : goal.rejoin-requires-clause-place
rejoin-requires-clause-place g c =
    let v : PassState = c.args.pass.now in
    let w : PassState = c.branch-pass.new.self in
    let lent = c.branch-pass.ensures in
    subst (λ (n : ℕ). HasPlace n w) (sym c.requires.names) (has_place v w lent.0 c.requires.own c.requires.spare lent.2)

pub release-requires-clause-room : goal.release-requires-clause-room
release-requires-clause-room g c =
    let v : PassState = c.args.pass.now in
    let w : PassState = c.branch-pass.new.self in
    let lent = c.branch-pass.ensures in
    let now : PassState = c.note_taking.new.pass in
    let full : room_noted now.notes ≡ ROOM =
    ap room_noted c.in_ok-note_taking.ensures.ok.steps.noted ∙ room-more c.meet.new.pass.notes (length c.meet.new.self.history) ROOM (3 ∷ 5 ∷ []) in
    let joined = ap (λ (p : PassState). p.spare) c.gather.ensures.pass ∙ ap (λ (p : PassState). p.spare) c.rejoin.ensures.joined in
    let can : All CanEnd c.gather.new.pass.spare =
    subst (λ (hs : List HandNotes). All CanEnd hs) (sym joined) (can_release v w lent.0 (acting now) c.requires.spare lent.2 (omega (arith, full))) in
    can
