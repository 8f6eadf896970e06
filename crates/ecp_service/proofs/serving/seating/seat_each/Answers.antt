use Rattle.std.proofs.Common.{◌≡◌, ◌∙◌, ◌∷◌, [], ◌++◌, ◌<◌, ◌≤◌, List, length, length-take, map, set, take, drop, ap, sym, subst, arith}
use Rattle.std.proofs.lemmas.List.{length-append}
use Rattle.ecp_command.specs.Input.Accepted.{session_view}
use Rattle.ecp_command.specs.declared.input.session.Session.{Session}
use Rattle.ecp_service.specs.Callers.{AreSeated}
use Rattle.ecp_service.proofs.SeatLaws.{at_last, drop_last, rest_front, seat_one}
use Rattle.ecp_service.proofs.serving.seating.seat_each.Goals as goal

pub loop-number-preserved : goal.loop-number-preserved
loop-number-preserved g c =
    let was = c.loop-number.invariant in
    let spares = g.N.Names.spare_hands in
    let callers = g.N.Names.callers in
    let all : List Session = c.args.sessions.items in
    let old : List Session = c.loop-number.sessions.items in
    let rest : List Session = c.pop.new.self.items in
    let s : Session = c.in-Some.field-0 in
    let items : old ≡ rest ++ s ∷ [] = c.in-Some.ensures.items in
    let front : rest ++ s ∷ [] ≡ take (length (rest ++ s ∷ [])) all = subst (λ (xs : List Session). xs ≡ take (length xs) all) items was.rest in
    let within : length (rest ++ s ∷ []) ≤ length all = omega (arith, ap (λ (xs : List Session). length xs) front, length-take (length (rest ++ s ∷ [])) all) in
    let place : length rest < length all = omega (arith, within, length-append rest (s ∷ [])) in
    let below : s.number < callers = subst (λ (x : Session). x.number < callers) (at_last all rest s s front) (c.requires.room (length rest) s place) in
    let one = seat_one spares callers (session_view s) (map session_view (drop (length old) all)) c.loop-number.callers c.seat.new.self c.index-callers-number.result was.seated below c.in_ok-seat.ensures in
    let next : drop (length rest) all ≡ s ∷ drop (length old) all =
    drop_last all rest s (length old) front within ∙ ap (λ (xs : List Session). s ∷ drop (length xs) all) (sym items) in
    record {
      rest = rest_front all rest s front;
      seated = subst (λ (ss : List Session). AreSeated {N = g.row.N.Denot} spares callers (map session_view ss) (set c.loop-number.callers s.number c.seat.new.self)) (sym next) one;
    }
