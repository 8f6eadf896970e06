use Rattle.std.proofs.Common.{◌≡◌, ◌∙◌, ℕ, ◌+◌, List, length, vec_len, [], None, ap, sym, subst, arith}
use Rattle.std.specs.Vec.Iter.{into_iter_items}
use Rattle.ecp_sequencer.specs.Hands.{own_hand}
use Rattle.ecp_book.specs.Logs.{Known}
use Rattle.ecp_sequencer.specs.Passes.{IsLastCall, HandNotes, call_seen, PassState, IsPass, pass_seen, first_pass, new_hands}
use Rattle.ecp_sequencer.specs.Sequencers.{DeskState, AreTies, new_desks}
use Rattle.ecp_sequencer.proofs.StartLaws.{hands_fit, length-new_desks, first_pass_is}
use Rattle.ecp_sequencer.proofs.AskLaws.{last_none}
use Rattle.ecp_sequencer.proofs.start.next_pass.Goals as goal

-- a hand that noted nothing
abbrev with_hand : ℕ → HandNotes
with_hand n = record { hand = n; notes = [] }

pub next_hand-requires-clause-few : goal.next_hand-requires-clause-few
next_hand-requires-clause-few g c =
    let at : vec_len c.args.desks.now ≡ own_hand c.args.spare c.args.caller =
    omega (arith, c.args.desks.now.ok.0, ap (λ (ds : List DeskState). length ds) c.requires.desks, length-new_desks (own_hand c.args.spare c.args.caller)) in
    omega (arith, at, hands_fit 8 c.args.spare c.args.caller c.requires.caller.1, c.requires.spare.1)

pub next_hand-requires-clause-desks : goal.next_hand-requires-clause-desks
next_hand-requires-clause-desks g c =
    let at : vec_len c.args.desks.now ≡ own_hand c.args.spare c.args.caller =
    omega (arith, c.args.desks.now.ok.0, ap (λ (ds : List DeskState). length ds) c.requires.desks, length-new_desks (own_hand c.args.spare c.args.caller)) in
    c.requires.desks ∙ ap new_desks (sym at)

pub next_hand-requires-clause-ties : goal.next_hand-requires-clause-ties
next_hand-requires-clause-ties g c =
    let at : vec_len c.args.desks.now ≡ own_hand c.args.spare c.args.caller =
    omega (arith, c.args.desks.now.ok.0, ap (λ (ds : List DeskState). length ds) c.requires.desks, length-new_desks (own_hand c.args.spare c.args.caller)) in
    subst (λ (n : ℕ). AreTies g.N.Names.shape.nodes n (into_iter_items c.args.keepers.now)) (sym at) c.requires.ties

pub loop-init : goal.loop-init
loop-init g c =
    let at : vec_len c.args.desks.now ≡ own_hand c.args.spare c.args.caller =
    omega (arith, c.args.desks.now.ok.0, ap (λ (ds : List DeskState). length ds) c.requires.desks, length-new_desks (own_hand c.args.spare c.args.caller)) in
    let made = c.in_ok-hand.ensures in
    record {
      so_far = omega (arith, at, made.len);
      desks = made.desks ∙ ap new_desks (sym made.len);
      ties = subst (λ (n : ℕ). AreTies g.N.Names.shape.nodes n (into_iter_items c.next_hand.new.keepers)) (sym made.len) made.ties;
      count = made.count;
      room = c.in_ok-held.ensures.len;
      capacity = c.in_ok-held.ensures.exact ∙ c.from.ensures;
      held = c.in_ok-held.ensures.items;
    }

pub invariant_of-result : goal.invariant_of-result
invariant_of-result g c =
    let at : vec_len c.args.desks.now ≡ own_hand c.args.spare c.args.caller =
    omega (arith, c.args.desks.now.ok.0, ap (λ (ds : List DeskState). length ds) c.requires.desks, length-new_desks (own_hand c.args.spare c.args.caller)) in
    let hand : HandNotes = c.in_ok-hand.hand in
    let held : List HandNotes = c.loop.held.items in
    let all : c.loop.counter ≡ c.args.spare = omega (arith, c.loop-test.false, c.loop.auto.counter-end) in
    let first : HandNotes = record { hand = own_hand c.args.spare c.args.caller; notes = [] } in
    let is_hand : hand ≡ first = c.in_ok-hand.ensures.hand ∙ ap (λ (n : ℕ). with_hand n) at in
    let whole : pass_seen c.args.spare c.args.caller 0 c.args.front.items hand held ≡ first_pass c.args.spare c.args.caller =
    ap (λ (k : Known). pass_seen c.args.spare c.args.caller 0 k.items hand held) c.requires.front
    ∙ ap (λ (h : HandNotes). pass_seen c.args.spare c.args.caller 0 [] h held) is_hand
    ∙ ap (λ (hs : List HandNotes). pass_seen c.args.spare c.args.caller 0 [] first hs) (c.loop.invariant.held ∙ ap (new_hands (own_hand c.args.spare c.args.caller + 1)) all) in
    let fresh : IsPass g.N.Names.callers c.args.spare 0 (first_pass c.args.spare c.args.caller) =
    first_pass_is g.N.Names.callers c.args.spare c.args.caller c.requires.caller.0 c.requires.caller.1 in (
      subst (λ (n : ℕ). IsPass g.N.Names.callers n c.args.front.log (pass_seen n c.args.caller 0 c.args.front.items hand held)) c.requires.spare.0
          (subst (λ (l : ℕ). IsPass g.N.Names.callers c.args.spare l (pass_seen c.args.spare c.args.caller 0 c.args.front.items hand held)) (sym (ap (λ (k : Known). k.log) c.requires.front))
          (subst (λ (p : PassState). IsPass g.N.Names.callers c.args.spare 0 p) (sym whole) fresh)),
      subst (λ (h : HandNotes). IsLastCall h.notes (call_seen 0 None)) (sym is_hand) (last_none (call_seen 0 None)),
      λ _. omega (arith, c.loop.invariant.capacity, c.requires.spare.0),
    )

pub returns-clause-pass : goal.returns-clause-pass
returns-clause-pass g c =
    let at : vec_len c.args.desks.now ≡ own_hand c.args.spare c.args.caller =
    omega (arith, c.args.desks.now.ok.0, ap (λ (ds : List DeskState). length ds) c.requires.desks, length-new_desks (own_hand c.args.spare c.args.caller)) in
    let hand : HandNotes = c.in_ok-hand.hand in
    let held : List HandNotes = c.loop.held.items in
    let all : c.loop.counter ≡ c.args.spare = omega (arith, c.loop-test.false, c.loop.auto.counter-end) in
    let first : HandNotes = record { hand = own_hand c.args.spare c.args.caller; notes = [] } in
    let is_hand : hand ≡ first = c.in_ok-hand.ensures.hand ∙ ap (λ (n : ℕ). with_hand n) at in
    let whole : pass_seen c.args.spare c.args.caller 0 c.args.front.items hand held ≡ first_pass c.args.spare c.args.caller =
    ap (λ (k : Known). pass_seen c.args.spare c.args.caller 0 k.items hand held) c.requires.front
    ∙ ap (λ (h : HandNotes). pass_seen c.args.spare c.args.caller 0 [] h held) is_hand
    ∙ ap (λ (hs : List HandNotes). pass_seen c.args.spare c.args.caller 0 [] first hs) (c.loop.invariant.held ∙ ap (new_hands (own_hand c.args.spare c.args.caller + 1)) all) in
    subst (λ (n : ℕ). pass_seen n c.args.caller 0 c.args.front.items hand held ≡ first_pass c.args.spare c.args.caller) c.requires.spare.0 whole
