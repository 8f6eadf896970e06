use Rattle.std.proofs.Common.{◌≡◌, ◌≤◌, false, length, map, take}
use Rattle.std.specs.Prelude.{vec_capacity, All}
use Rattle.ecp_service.specs.Callers.{replies_of}
use Rattle.ecp_service.proofs.serving.seating.parted.Given as goal

-- of the callers so far none failed, and their passes and answers are there; there is room for those of all
abbrev pub invariant-loop-caller : goal.invariant-loop-caller
invariant-loop-caller g l = record {
  front : l.yielded ≡ take (length l.yielded) l.fn.callers.items;
  well : All (λ c. c.failed ≡ false) l.yielded;
  passes : l.passes.items ≡ map (λ c. c.pass) l.yielded;
  replies : l.replies.items ≡ map replies_of l.yielded;
  room : length l.fn.callers.items ≤ vec_capacity l.passes;
  also : length l.fn.callers.items ≤ vec_capacity l.replies;
}
