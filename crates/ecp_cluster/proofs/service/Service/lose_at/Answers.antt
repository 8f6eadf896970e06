use Rattle.std.proofs.Common.{◌≡◌, ◌≤◌, sym, subst}
use Rattle.ecp_shape.specs.Losses.{losses}
use Rattle.ecp_book.specs.Logs.{Known, Log}
use Rattle.ecp_coord.specs.Losing.{act_of}
use Rattle.ecp_entry.specs.declared.deed.Deed.TheVariants.{Lose}
use Rattle.ecp_node.specs.Held.{wipes}
use Rattle.ecp_node.specs.Nodes.{NodeState}
use Rattle.ecp_sequencer.specs.Passes.{PassState}
use Rattle.ecp_sequencer.specs.Rounds.{Raised}
use Rattle.ecp_sequencer.proofs.RoundLaws.{raised}
use Rattle.ecp_cluster.specs.Answered.{Finishes}
use Rattle.ecp_cluster.proofs.EndLaws.{raised_finishes, raised_open}
use Rattle.ecp_cluster.proofs.WipeLaws.{may_wipe_after}
use Rattle.ecp_cluster.proofs.service.Service.lose_at.Goals as goal

pub enter_loss-found-requires : goal.enter_loss-found-requires
enter_loss-found-requires g c =
    raised_open c.args.pass.now c.raise.new.self (Lose c.args.node)
    (raised c.args.pass.now c.raise.new.self c.past-past.result.items c.raise.ensures.raised c.raise.ensures.extends c.raise.ensures.noted) c.requires

pub wipe_lost-requires : goal.wipe_lost-requires
wipe_lost-requires g c =
    let past : Log = c.past-past.result.items in
    let node : NodeState = c.past-past.new.self in
    let same : node ≡ c.args.at.now = c.past-past.ensures.node in
    let first : wipes node.items ≤ losses node.number past =
    subst (λ (n : NodeState). wipes n.items ≤ losses n.number past) (sym same)
    (subst (λ (k : Known). wipes c.args.at.now.items ≤ losses c.args.at.now.number k.items) (sym c.past-past.ensures.past) c.past-past.ensures.lost_first) in
    may_wipe_after g.N.Names.shape g.N.Names.told c.args.node c.enter_loss-found.result c.raise.new.self c.enter_loss-found.new.pass past node c.enter_loss-found.ensures c.raise.ensures.reaches first

pub returns-clause-ended : goal.returns-clause-ended
returns-clause-ended g c =
    let rises : Raised c.args.pass.now c.raise.new.self =
    raised c.args.pass.now c.raise.new.self c.past-past.result.items c.raise.ensures.raised c.raise.ensures.extends c.raise.ensures.noted in
    subst (λ (w : PassState). Finishes g.N.Names.shape g.N.Names.told c.args.pass.now (Lose c.args.node) (act_of c.enter_loss-found.result) w) (sym c.wipe_lost.ensures.pass)
    (raised_finishes g.N.Names.shape g.N.Names.told c.args.pass.now c.raise.new.self c.enter_loss-found.new.pass (Lose c.args.node) (act_of c.enter_loss-found.result) rises c.enter_loss-found.ensures)
