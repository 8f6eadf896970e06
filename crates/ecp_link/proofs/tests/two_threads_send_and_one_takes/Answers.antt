use Rattle.std.proofs.Common.{◌++◌, ap, ◌∙◌}
use Rattle.std.specs.Option.{option_to_list}
use Rattle.ecp_link.proofs.Order.{last_two}
use Rattle.ecp_link.proofs.Senders.{new_is_of}
use Rattle.ecp_link.proofs.tests.two_threads_send_and_one_takes.Goals as goal

pub sent_and_taken-requires-clause-first : goal.sent_and_taken-requires-clause-first
sent_and_taken-requires-clause-first g c = λ _.
    let both = last_two c.in_ok-senders.senders.items c.pop.new.self.items c.pop-2.new.self.items c.in_ok-second.second c.in_ok-first.first
    (c.pop.ensures.items ∙ ap (λ o. c.pop.new.self.items ++ option_to_list o) c.in_ok-second.ensures.ok_part)
    (c.pop-2.ensures.items ∙ ap (λ o. c.pop-2.new.self.items ++ option_to_list o) c.in_ok-first.ensures.ok_part)
    c.in_ok-senders.ensures.count in
    new_is_of 2 4 0 c.in_ok-senders.senders.items c.in_ok-senders.taker c.in_ok-first.first c.in_ok-senders.ensures both.1

pub sent_and_taken-requires-clause-second : goal.sent_and_taken-requires-clause-second
sent_and_taken-requires-clause-second g c = λ _.
    let both = last_two c.in_ok-senders.senders.items c.pop.new.self.items c.pop-2.new.self.items c.in_ok-second.second c.in_ok-first.first
    (c.pop.ensures.items ∙ ap (λ o. c.pop.new.self.items ++ option_to_list o) c.in_ok-second.ensures.ok_part)
    (c.pop-2.ensures.items ∙ ap (λ o. c.pop-2.new.self.items ++ option_to_list o) c.in_ok-first.ensures.ok_part)
    c.in_ok-senders.ensures.count in
    new_is_of 2 4 1 c.in_ok-senders.senders.items c.in_ok-senders.taker c.in_ok-second.second c.in_ok-senders.ensures both.0
