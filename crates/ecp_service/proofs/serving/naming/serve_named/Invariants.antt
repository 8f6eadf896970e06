use Rattle.std.proofs.Common.{[]}
use Rattle.ecp_service.specs.Over.{starts_of}
use Rattle.ecp_service.proofs.serving.naming.serve_named.Given as goal

-- the book that was just made, the sizes, and the stores
abbrev pub ghosts-serve_over : goal.ghosts-serve_over
ghosts-serve_over g a = record {
  book = a.blank;
  shape = a.sizes.shape;
  callers = a.sizes.callers;
  spare_hands = a.sizes.hands;
  told = g.S.Store.tells;
  stores = starts_of g.S.Store.faults g.S.Store.faultless a.stores.items;
  puts = [];
  stripes = [];
}
