use Rattle.std.proofs.Common.{List, ℕ, length, ap, subst}
use Rattle.ecp_entry.specs.declared.deed.Deed.{Deed}
use Rattle.ecp_entry.specs.declared.deed.Deed.TheVariants.{Put}
use Rattle.ecp_cluster.specs.Answered.{HasBegun}
use Rattle.ecp_cluster.specs.Puts.{bytes_stored}
use Rattle.ecp_cluster.proofs.CallLaws.{answered_either, none_either}
use Rattle.ecp_cluster.proofs.service.Service.put.Goals as goal

pub returns-clause-ok : goal.returns-clause-ok
returns-clause-ok g c =
    let bytes : List ℕ = c.args.bytes.now in
    let begun : HasBegun c.args.pass.now (Put c.args.name.now (length bytes)) c.begin.new.pass =
    subst (λ (d : Deed). HasBegun c.args.pass.now d c.begin.new.pass) (ap (λ (n : List ℕ). Put n (length bytes)) c.new.ensures) c.in_ok-begin.ensures.ok in
    answered_either (λ act. act) (λ act. bytes_stored act bytes) g.N.Names.shape g.N.Names.told c.args.pass.now c.begin.new.pass c.put_on.new.pass (Put c.args.name.now (length bytes)) c.put_on.result begun
    c.put_on.ensures.ok

pub returns-clause-err : goal.returns-clause-err
returns-clause-err g c =
    let bytes : List ℕ = c.args.bytes.now in
    let begun : HasBegun c.args.pass.now (Put c.args.name.now (length bytes)) c.begin.new.pass =
    subst (λ (d : Deed). HasBegun c.args.pass.now d c.begin.new.pass) (ap (λ (n : List ℕ). Put n (length bytes)) c.new.ensures) c.in_ok-begin.ensures.ok in
    none_either c.args.pass.now c.begin.new.pass c.put_on.new.pass (Put c.args.name.now (length bytes)) c.put_on.result begun c.put_on.ensures.err
