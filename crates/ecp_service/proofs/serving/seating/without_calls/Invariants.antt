use Rattle.std.proofs.Common.{◌≡◌, ◌≤◌, ◌<◌, ℕ, [], take, length, get_or}
use Rattle.std.specs.Prelude.{vec_capacity}
use Rattle.ecp_sequencer.specs.Passes.{first_pass}
use Rattle.ecp_service.specs.Callers.{IsSeated}
use Rattle.ecp_service.specs.declared.serving.caller.Caller.{Caller}
use Rattle.ecp_service.proofs.serving.seating.without_calls.Given as goal

-- there is a caller for each pass so far, and room for those of all
abbrev pub invariant-loop-pass : goal.invariant-loop-pass
invariant-loop-pass g l = record {
  front : l.yielded ≡ take (length l.yielded) l.fn.passes.items;
  each : length l.callers.items ≡ length l.yielded;
  seated : (c : ℕ) (d : Caller g.row.N.Denot) → c < length l.yielded → IsSeated (first_pass g.N.Names.spare_hands c) [] (get_or l.callers.items c d);
  room : length l.fn.passes.items ≤ vec_capacity l.callers;
}
