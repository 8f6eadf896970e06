use Rattle.std.proofs.Common.{ℕ, List}
use Rattle.ecp_cluster.specs.Reading.{IsReading}
use Rattle.ecp_cluster.proofs.CatLaws.{ReadsTo}
use Rattle.ecp_cluster.proofs.service.Service.read_blocks.Given as goal

abbrev pub invariant-loop-index : goal.invariant-loop-index
invariant-loop-index g l =
    (name : List ℕ) → IsReading g.N.Names.shape l.initial.pass name l.fn.count 0 → ReadsTo g.N.Names.shape l.initial.pass name l.fn.len l.fn.count l.index l.sum l.pass
