use Rattle.ecp_service.proofs.AnswerLaws.{cat_answered, put_answered, read_answered, stat_answered, sum_answered}
use Rattle.ecp_service.proofs.serving.calls.serve.Goals as goal

pub returns-in_ok-act-in-Put-clause-answered : goal.returns-in_ok-act-in-Put-clause-answered
returns-in_ok-act-in-Put-clause-answered g c =
    put_answered g.N.Names.shape g.N.Names.told c.args.pass.now c.put.new.pass c.args.call.now c.in-Put.name c.in-Put.bytes c.as_str.result.now c.bytes.result.now c.in_ok-act-in-Put.act c.without_bytes.result
    c.in-Put.is c.as_str.ensures c.bytes.ensures c.without_bytes.ensures.0 c.in_ok-act-in-Put.ensures.ok

pub returns-in-Read-clause-answered : goal.returns-in-Read-clause-answered
returns-in-Read-clause-answered g c =
    read_answered g.N.Names.shape g.N.Names.told c.args.pass.now c.read.new.pass c.args.call.now c.in-Read.name c.as_str-in-Read.result.now c.in-Read.index c.read.result
    c.in-Read.is c.as_str-in-Read.ensures c.read.ensures.ok c.read.ensures.digest

pub returns-in-Sum-clause-answered : goal.returns-in-Sum-clause-answered
returns-in-Sum-clause-answered g c =
    sum_answered g.N.Names.shape g.N.Names.told c.args.pass.now c.sum.new.pass c.args.call.now c.in-Sum.name c.as_str-in-Sum.result.now c.in-Sum.index c.sum.result
    c.in-Sum.is c.as_str-in-Sum.ensures c.sum.ensures.ok

pub returns-in-Cat-clause-answered : goal.returns-in-Cat-clause-answered
returns-in-Cat-clause-answered g c =
    cat_answered g.N.Names.shape g.N.Names.told c.args.pass.now c.cat.new.pass c.args.call.now c.in-Cat.name c.as_str-in-Cat.result.now c.cat.result
    c.in-Cat.is c.as_str-in-Cat.ensures c.cat.ensures.ok

pub returns-in_ok-act-in-Stat-clause-answered : goal.returns-in_ok-act-in-Stat-clause-answered
returns-in_ok-act-in-Stat-clause-answered g c =
    stat_answered g.N.Names.shape g.N.Names.told c.args.pass.now c.stat.new.pass c.args.call.now c.in-Stat.name c.as_str-in-Stat.result.now c.in_ok-act-in-Stat.act c.without_bytes-in-Stat.result
    c.in-Stat.is c.as_str-in-Stat.ensures c.without_bytes-in-Stat.ensures.0 c.without_bytes-in-Stat.ensures.1 c.in_ok-act-in-Stat.ensures.ok
