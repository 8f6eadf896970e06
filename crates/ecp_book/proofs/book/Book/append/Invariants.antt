use Rattle.ecp_book.proofs.book.Book.append.Given as goal

-- the item of the entry
abbrev pub ghosts-add : goal.ghosts-add
ghosts-add g a = record { item = g.E.Entered.item a.entry.now }
