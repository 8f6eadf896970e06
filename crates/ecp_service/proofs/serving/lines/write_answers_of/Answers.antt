use Rattle.std.proofs.Common.{◌≡◌, [], Option, length, sym, ap}
use Rattle.std.specs.Option.{option_map_or}
use Rattle.std.proofs.lemmas.Bool.{ltb-false}
use Rattle.std.proofs.lemmas.Option.{slice_get_past}
use Rattle.ecp_service.specs.Served.{answers_by}
use Rattle.ecp_service.specs.declared.serving.replies.Replies.{Replies}
use Rattle.ecp_service.proofs.Sending.{writes_nothing}
use Rattle.ecp_service.proofs.serving.lines.write_answers_of.Goals as goal

pub returns-in-None : goal.returns-in-None
returns-in-None g c =
    let replies = c.args.replies.now in
    let number = c.args.number in
    let none : answers_by replies number ≡ [] =
    ap (λ (o : Option Replies). option_map_or (λ r. r.answers.items) o []) (slice_get_past replies number (ltb-false number (length replies) (sym c.in-None.ensures.lookup.0))) in
    rw none (writes_nothing g.W.Sink tt (c.args.out.now, c.args.buffer.now))
