use Rattle.std.proofs.Common.{◌≡◌, flat_map, map, reverse, take}
use Rattle.ecp_catalog.specs.LostBlocks.{lost_by, tasks_of}
use Rattle.ecp_catalog.specs.Standing.{receipts_in}
use Rattle.ecp_catalog.proofs.LostBlockLaws.{over}
use Rattle.ecp_catalog.proofs.file_list.FileList.lost_on.Given as goal

abbrev pub invariant-loop-span : goal.invariant-loop-span
invariant-loop-span g l =
    l.tasks.items ≡ tasks_of (flat_map (over (λ s. lost_by (map (λ x. x.node) l.nodes) l.node s (receipts_in l.self-inside.shape.n (reverse l.self-inside.files.items) s))) (take l.span-index l.span-items))
