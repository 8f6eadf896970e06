use Rattle.std.proofs.Common.{◌≡◌, ℕ, suc, ◌<◌, ◌^◌, ◌++◌, List, flat_map, refl, sym, ◌∙◌, ap, subst, arith, []}
use Rattle.ecp_entry.specs.declared.act.Act.{Act}
use Rattle.ecp_entry.specs.declared.deed.Deed.TheVariants.{Cat}
use Rattle.ecp_entry.specs.declared.entry.Entry.{Entry}
use Rattle.ecp_cluster.specs.Reading.{HasTaken}
use Rattle.ecp_cluster.proofs.CallLaws.{on_err}
use Rattle.ecp_cluster.proofs.CatLaws.{breaks_on, none_yet, reads_to_next, reads_whole, stops_at}
use Rattle.ecp_cluster.proofs.SumLaws.{no_data}
use Rattle.ecp_cluster.proofs.WholeLaws.{asks_next, breaks_off, closes_whole}
use Rattle.ecp_cluster.proofs.service.Service.read_blocks.Goals as goal

pub loop-index-init : goal.loop-index-init
loop-index-init g c = λ name is. record {
  blocks = [];
  made = none_yet c.args.pass.now (Cat name) 1 is.known;
  counted = refl;
  reading = is;
  taken = c.new-sum.ensures;
}

pub read_on-requires : goal.read_on-requires
read_on-requires g c =
    let name : List ℕ = c.requires.0 in
    let low : c.loop-index.index < c.args.count = c.loop-index-test.true in
    let few : suc c.loop-index.index < 2 ^ 32 = omega (arith, low, c.ranges.count.fits) in
    (name, asks_next g.N.Names.shape c.loop-index.pass name c.args.count c.loop-index.index low few (c.loop-index.invariant name c.requires.1).reading)

pub returns-in_err-block-clause-err : goal.returns-in_err-block-clause-err
returns-in_err-block-clause-err g c = λ name is.
    on_err c.from_residual.result
    (stops_at g.N.Names.shape g.N.Names.told c.args.pass.now c.loop-index.pass c.read_on.new.pass name c.args.len c.args.count c.loop-index.index c.loop-index.sum (c.loop-index.invariant name is)
    c.in_err-block.ensures.err)

pub close_file-requires : goal.close_file-requires
close_file-requires g c =
    let name : List ℕ = c.requires.0 in
    let reading = (c.loop-index.invariant name c.requires.1).reading in
    breaks_off g.N.Names.shape g.N.Names.told c.loop-index.pass c.read_on.new.pass name (suc c.loop-index.index) c.in_ok-block.block.act c.in_ok-block.block.bytes
    (c.in_ok-block.ensures.ok (Cat name) reading.is_open) c.args.count c.loop-index.index refl reading c.loop-index-test.true (no_data c.in_ok-block.block.act c.in_default.not-Data)

pub returns-in_default : goal.returns-in_default
returns-in_default g c = record {
  ok = λ name is.
      let so_far = c.loop-index.invariant name is in
      let its = c.in_ok-block.ensures.ok (Cat name) so_far.reading.is_open in
      breaks_on g.N.Names.shape g.N.Names.told c.args.pass.now c.loop-index.pass c.read_on.new.pass name c.args.len c.args.count c.loop-index.index c.loop-index.sum so_far
      c.in_ok-block.block.act c.in_ok-block.block.bytes c.close_file.new.pass c.close_file.result its (c.close_file.ensures.ends (Cat name) its.left.0) c.close_file.ensures.act
      c.close_file.ensures.file.0 c.close_file.ensures.file.1 c.close_file.ensures.file.2 c.close_file.ensures.none;
  err = λ name is. tt;
}

pub loop-index-preserved : goal.loop-index-preserved
loop-index-preserved g c = λ name is.
    let so_far = c.loop-index.invariant name is in
    let bytes : List ℕ = flat_map (λ (e : Entry). e.bytes) so_far.blocks in
    reads_to_next g.N.Names.shape g.N.Names.told c.args.pass.now c.loop-index.pass c.read_on.new.pass name c.args.len c.args.count c.loop-index.index c.loop-index.sum so_far
    c.in_ok-block.block.act c.in_ok-block.block.bytes c.add.new.self c.in-Data.is (c.in_ok-block.ensures.ok (Cat name) so_far.reading.is_open)
    (subst (λ (xs : List ℕ). HasTaken c.args.len c.add.new.self (bytes ++ xs)) c.bytes.ensures (c.add.ensures c.args.len bytes so_far.taken))

pub close_file-requires-2 : goal.close_file-requires-2
close_file-requires-2 g c =
    let name : List ℕ = c.requires.0 in
    let all : c.loop-index.index ≡ c.args.count = omega (arith, c.loop-index-test.false, c.loop-index.auto.index-end) in
    closes_whole g.N.Names.shape c.loop-index.pass name c.args.count c.loop-index.index all (c.loop-index.invariant name c.requires.1).reading

pub returns-clause-ok : goal.returns-clause-ok
returns-clause-ok g c = λ name is.
    let so_far = c.loop-index.invariant name is in
    let all : c.loop-index.index ≡ c.args.count = omega (arith, c.loop-index-test.false, c.loop-index.auto.index-end) in
    reads_whole g.N.Names.shape g.N.Names.told c.args.pass.now c.loop-index.pass c.loop-index.pass name c.args.len c.args.count c.loop-index.index c.loop-index.sum so_far
    c.close_file-2.new.pass c.close_file-2.result all (c.close_file-2.ensures.ends (Cat name) so_far.reading.is_open) c.close_file-2.ensures.act
    c.close_file-2.ensures.file.0 c.close_file-2.ensures.file.1 (c.close_file-2.ensures.file.2 ∙ c.finish.ensures c.args.len (flat_map (λ (e : Entry). e.bytes) so_far.blocks) so_far.taken)
    c.close_file-2.ensures.none
