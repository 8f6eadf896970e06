use Rattle.std.proofs.Common.{◌≡◌, ◌∙◌, ℕ, zero, suc, ◌+◌, ◌<◌, List, ◌∷◌, [], length, drop, Some, refl, ap, arith, length-drop}
use Rattle.std.specs.Prelude.{slice_get}
use Rattle.ecp_book.specs.Logs.{Known, empty_log, logs_of}
use Rattle.ecp_sequencer.specs.Hands.{spoken_log}
use Rattle.ecp_sequencer.proofs.tests.opened.Goals as goal

-- what stands in the rest of a list stands so much further in the whole
get_dropped : (xs : List Known) (n m : ℕ) → slice_get (drop n xs) m ≡ slice_get xs (n + m)
get_dropped xs zero m = let e : m ≡ 0 + m = omega arith in ap (slice_get xs) e
get_dropped [] (suc n) m = refl
get_dropped (x ∷ xs) (suc n) m = let e : suc (n + m) ≡ suc n + m = omega arith in get_dropped xs n m ∙ ap (slice_get (x ∷ xs)) e

pub returns-clause-ties : goal.returns-clause-ties
returns-clause-ties g c = λ m lt.
    let keepers : List Known = c.in_ok-book.keepers.items in
    let rest : c.in_ok-ties.ties.items ≡ drop 3 keepers = c.in_ok-ties.ensures.tail in
    let within : 3 + m < logs_of g.N.Names.book =
    omega (arith, lt, ap (λ (ks : List Known). length ks) rest, length-drop 3 keepers, c.in_ok-book.ensures.count, c.in_ok-book.keepers.ok.0) in
    let place : 3 + m ≡ spoken_log g.N.Names.shape.nodes 0 + m = omega (arith, c.requires.nodes) in
    ap (λ (ks : List Known). slice_get ks m) rest ∙ get_dropped keepers 3 m ∙ c.in_ok-book.ensures.empty (3 + m) within ∙ ap (λ (k : ℕ). Some (empty_log k)) place
