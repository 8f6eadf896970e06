use Rattle.std.proofs.Common.{length, ◌-◌, ◌≡◌, ◌≤◌, take}
use Rattle.ecp_service.specs.Sinks.{Got}
use Rattle.ecp_service.proofs.writing.push_all.Given as goal

-- what was appended so far is a beginning of the text
abbrev pub invariant-loop-pushed : goal.invariant-loop-pushed
invariant-loop-pushed g l =
    let sink = g.W.Sink in
    record {
      within : l.pushed ≤ length l.text;
      sound : sink.faults l.sink ≡ sink.faults l.fn.sink;
      appended : Got sink l.fn.sink l.sink (take l.pushed l.text);
    }

abbrev pub decreases-loop-pushed : goal.decreases-loop-pushed
decreases-loop-pushed g l = length l.text - l.pushed
