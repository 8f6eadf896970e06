use Rattle.std.proofs.Common.{◌≡◌, ℕ, ◌+◌, ◌<◌, List, [], ◌∷◌, ◌++◌, length, get_or, refl, sym, ◌∙◌, ap, subst, arith, length-append}
use Rattle.std.proofs.lemmas.Option.{slice_get-get_or, get_or_from_slice_get}
use Rattle.ecp_book.specs.Logs.{Known}
use Rattle.ecp_history.proofs.LegalLaws.{get_before}
use Rattle.ecp_coord.specs.Coords.{AreNodeLogs}
use Rattle.ecp_coord.proofs.tests.worked.in_memory.Goals as goal

one_less : (xs ys : List Known) (z : Known) → xs ≡ ys ++ z ∷ [] → length xs ≡ length ys + 1
one_less xs ys z is = ap (λ (ws : List Known). length ws) is ∙ length-append ys (z ∷ [])

fewer : (xs ys : List Known) (z : Known) → xs ≡ ys ++ z ∷ [] → AreNodeLogs (length xs) xs → AreNodeLogs (length ys) ys
fewer xs ys z is are = record {
  each = refl;
  empty = λ m k below.
      sym (get_or_from_slice_get (ys ++ z ∷ []) m (get_or ys m k) k (get_before ys (z ∷ []) m (get_or ys m k) (slice_get-get_or ys m k below)))
      ∙ ap (λ (ws : List Known). get_or ws m k) (sym is) ∙ are.empty m k (omega (arith, below, one_less xs ys z is));
}

pub overflow_cast-number : goal.overflow_cast-number
overflow_cast-number g c =
    let less : length c.loop-keeper.keepers.items ≡ length c.pop.new.self.items + 1 = one_less _ _ _ c.in-Some.ensures.items in
    omega (arith, c.len-number.ensures, c.loop-keeper.invariant.few, less, c.pop.new.self.ok.0)

pub node_of-requires-clause-start : goal.node_of-requires-clause-start
node_of-requires-clause-start g c =
    let less : length c.loop-keeper.keepers.items ≡ length c.pop.new.self.items + 1 = one_less _ _ _ c.in-Some.ensures.items in
    c.requires.stores c.len-number.result (omega (arith, c.len-number.ensures, c.loop-keeper.invariant.few, less, c.pop.new.self.ok.0))

pub loop-keeper-preserved : goal.loop-keeper-preserved
loop-keeper-preserved g c =
    let less : length c.loop-keeper.keepers.items ≡ length c.pop.new.self.items + 1 = one_less _ _ _ c.in-Some.ensures.items in
    record { few = omega (arith, c.loop-keeper.invariant.few, less); logs = fewer _ _ _ c.in-Some.ensures.items c.loop-keeper.invariant.logs; pass = c.front.ensures.kept ∙ c.loop-keeper.invariant.pass }
