use Rattle.std.proofs.Common.{◌≡◌, sym, subst}
use Rattle.std.specs.Prelude.{OnOk}
use Rattle.ecp_entry.specs.declared.act.Act.{Act}
use Rattle.ecp_history.specs.table.Changes.{CanChange, CanStore}
use Rattle.ecp_history.specs.table.Steps.{after_act}
use Rattle.ecp_history.proofs.table.Table.after.Goals as goal

pub store_entry-requires-clause-nodes : goal.store_entry-requires-clause-nodes
store_entry-requires-clause-nodes c =
    let can : CanStore c.args.self.now.shape c.args.entry.now.bytes c.in-Stored.first c.in-Stored.stripes c.in-Stored.up =
    subst (CanChange c.args.self.now.shape c.args.self.now.table c.args.entry.now) c.in-Stored.is c.requires.changes in
    can.enough

pub returns-in-Stored-clause-ok : goal.returns-in-Stored-clause-ok
returns-in-Stored-clause-ok c =
    subst (λ (a : Act). OnOk c.store_entry.result (c.store_entry.new.self.table ≡ after_act c.args.self.now.shape c.args.self.now.table c.args.entry.now a)) (sym c.in-Stored.is) c.store_entry.ensures.ok

pub returns-in-Restored-clause-ok : goal.returns-in-Restored-clause-ok
returns-in-Restored-clause-ok c =
    subst (λ (a : Act). c.restore.new.self.table ≡ after_act c.args.self.now.shape c.args.self.now.table c.args.entry.now a) (sym c.in-Restored.is) c.restore.ensures.table

pub returns-in-Drop-clause-ok : goal.returns-in-Drop-clause-ok
returns-in-Drop-clause-ok c =
    subst (λ (a : Act). c.give_up.new.self.table ≡ after_act c.args.self.now.shape c.args.self.now.table c.args.entry.now a) (sym c.in-Drop.is) c.give_up.ensures.table
