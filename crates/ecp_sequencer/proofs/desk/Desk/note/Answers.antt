use Rattle.std.proofs.Common.{◌≡◌, ◌∙◌, ℕ, List, [], ◌∷◌, ◌++◌, length, ap, sym, arith, length-append}
use Rattle.ecp_book.specs.Logs.{Log}
use Rattle.ecp_sequencer.specs.Notes.{note}
use Rattle.ecp_sequencer.specs.Facts.{is_open, room_noted}
use Rattle.ecp_sequencer.specs.Sequencers.{DeskState}
use Rattle.ecp_sequencer.specs.Ties.{TieState}
use Rattle.ecp_sequencer.proofs.NoteLaws.{room-more}
use Rattle.ecp_sequencer.proofs.desk.Desk.note.Goals as goal

pub invariant_of-self : goal.invariant_of-self
invariant_of-self g c =
    let added = c.note.ensures.added in
    let x : List ℕ = note c.args.point c.args.room (g.E.Entered.item c.args.what.now) in
    let items : c.note.new.self.items ≡ c.self.inside.tie.items ++ x ∷ [] = ap (λ (t : TieState). t.items) added in
    let was : c.self.inside.tie.items ≡ c.args.self.now.notes = ap (λ (d : DeskState). d.notes) c.self.view_is in (
      record {
        speaks_to = ap (λ (t : TieState). t.speaks) added ∙ c.self.invariant.0.speaks_to;
        hears_from = ap (λ (t : TieState). t.hears) added ∙ c.self.invariant.0.hears_from;
        counted = sym (room-more c.self.inside.tie.items c.args.point c.args.room (g.E.Entered.item c.args.what.now)) ∙ sym (ap (λ (ns : Log). room_noted ns) items);
        most = c.requires.most;
        places = omega (arith, c.requires.places, ap (λ (d : DeskState). length d.notes) c.self.view_is, ap (λ (ns : Log). length ns) items, length-append c.self.inside.tie.items (x ∷ []));
      },
      c.requires.opened ∙ ap is_open (ap (λ (ns : Log). ns ++ x ∷ []) (sym was) ∙ sym items),
    )
