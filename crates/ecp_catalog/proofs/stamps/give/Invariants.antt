use Rattle.std.proofs.Common.{◌≡◌, ◌<◌, ◌==◌, ℕ, take, map, slice_index, if◌then◌else◌}
use Rattle.std.specs.List.{list_any}
use Rattle.ecp_shape.specs.declared.limits.TheConstants.{MAX_NODES}
use Rattle.ecp_catalog.proofs.stamps.give.Given as goal

abbrev pub invariant-loop-hop : goal.invariant-loop-hop
invariant-loop-hop g l =
    (m : ℕ) → m < MAX_NODES →
    slice_index l.stamps m ≡ (if list_any (λ x. x == m) (take l.hop-index (map (λ hop. hop.node) l.hops)) then l.stamp else slice_index l.fn.stamps m)
