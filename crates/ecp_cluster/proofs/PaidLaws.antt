-- One store more that paid.
use Rattle.std.proofs.Common.{◌≡◌, ℕ, ◌+◌, List, [], ◌∷◌, ◌++◌, get_or, sym, subst, arith, below_more, length-append}
use Rattle.std.proofs.lemmas.List.{get_or_append_left, get_or_push}
use Rattle.ecp_book.specs.Logs.{Log}
use Rattle.ecp_book.specs.Names.{StoreStart}
use Rattle.ecp_node.specs.Nodes.{start_of}
use Rattle.ecp_cluster.specs.Ended.{AllPaid, HasPaid}

module _ {S : Type 0} (failed : S → ℕ) (starts : List StoreStart) (history : Log) where
  pub one_paid : (n : ℕ) (stores : List S) (x : S) → AllPaid failed starts history n stores → HasPaid history (start_of starts n) n (failed x)
      → AllPaid failed starts history (n + 1) (stores ++ x ∷ [])
  one_paid n stores x all one =
      let at_last : (s : S) → get_or (stores ++ x ∷ []) n s ≡ x = λ s. get_or_push stores x s n all.each in
      record {
        each = omega (arith, length-append stores (x ∷ []), all.each);
        paid = λ m s below. below_more (λ (k : ℕ). HasPaid history (start_of starts k) k (failed (get_or (stores ++ x ∷ []) k s))) n
            (λ k lt. subst (λ (y : S). HasPaid history (start_of starts k) k (failed y)) (sym (get_or_append_left stores (x ∷ []) s k (omega (arith, lt, all.each)))) (all.paid k s lt))
            (subst (λ (y : S). HasPaid history (start_of starts n) n (failed y)) (sym (at_last s)) one) m below;
      }
