use Rattle.std.proofs.Common.{◌≡◌, drop, length, map, take}
use Rattle.ecp_command.specs.Input.Accepted.{session_view}
use Rattle.ecp_service.specs.Callers.{AreSeated}
use Rattle.ecp_service.proofs.serving.seating.seat_each.Given as goal

-- the sessions that were taken have their callers, and the others are as they were
abbrev pub invariant-loop-number : goal.invariant-loop-number
invariant-loop-number g l = record {
  rest : l.sessions.items ≡ take (length l.sessions.items) l.fn.sessions.items;
  seated : AreSeated g.N.Names.spare_hands g.N.Names.callers (map session_view (drop (length l.sessions.items) l.fn.sessions.items)) l.callers;
}

abbrev pub decreases-loop-number : goal.decreases-loop-number
decreases-loop-number g l = length l.sessions.items
