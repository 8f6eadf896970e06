use Rattle.std.proofs.Common.{[], false}
use Rattle.ecp_sequencer.proofs.tests.calls.a_pass_begins_notes_and_is_raised.Given as goal

-- the book that was just made, and the callers of the tests
abbrev pub ghosts-both : goal.ghosts-both
ghosts-both g a = record { book = a.blank; shape = record { n = 2; k = 1; nodes = 2; block = 1 }; callers = 2; spare_hands = 1; told = false; stores = []; puts = []; stripes = [] }
