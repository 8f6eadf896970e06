use Rattle.ecp_link.proofs.Senders.{is_of_same, ends_keep}
use Rattle.ecp_link.proofs.tests.sent_and_taken.Goals as goal

pub take_in-requires : goal.take_in-requires
take_in-requires g c =
    let h = c.join-first.ensures in
    is_of_same _ c.args.second _ (h.second c.args.second c.requires.second) h.first.1

pub take_in-requires-2 : goal.take_in-requires-2
take_in-requires-2 g c =
    let h = c.join-first.ensures in
    ends_keep _ _ _ c.take_in.ensures.ended _ (is_of_same _ c.args.first _ (h.second c.args.first c.requires.first) h.first.0)
