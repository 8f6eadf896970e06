use Rattle.ecp_cluster.proofs.tests.restarted.fetched.Goals as goal

pub fetch-requires-clause-planned : goal.fetch-requires-clause-planned
fetch-requires-clause-planned g c = (c.in-Ok.ensures.ok _ c.in_ok-begin.ensures.ok.fresh.is_open).planned
