use Rattle.ecp_book.proofs.Keeping.{begins_with}
use Rattle.ecp_book.proofs.blank.Blank.new.Goals as goal

pub of_words-requires : goal.of_words-requires
of_words-requires c = rw c.from.ensures (begins_with c.args.logs 256 c.requires.most)
