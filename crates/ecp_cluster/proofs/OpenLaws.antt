-- Rows that grow, and lists that are taken from their end.
use Rattle.std.proofs.Common.{◌≡◌, ℕ, ◌+◌, ◌<◌, ◌≤◌, Bool, List, length, map, false, take, get_or, set, refl, sym, ◌∙◌, ap, arith, below_more, get_or-take, get_or-set_same, get_or-set_other, length-set, length-take}
use Rattle.std.specs.Prelude.{All}
use Rattle.std.proofs.lemmas.List.{get_or-map, get_or_default}
use Rattle.ecp_book.specs.Logs.{Known}
use Rattle.ecp_book.specs.Names.{StoreStart}
use Rattle.ecp_coord.specs.Coords.{AreNodeLogs}
use Rattle.ecp_cluster.specs.Opening.{AreStarts, starting}

module _ {A : Type 0} (size : A → ℕ) where
  -- those before this place have one more than they had, and the others are as they were
  pub record DealtTo (old now : List A) (at : ℕ) : Type 0 where
    pub each : length now ≡ length old
    pub done : (k : ℕ) (a : A) → k < at → size (get_or now k a) ≡ size (get_or old k a) + 1
    pub rest : (k : ℕ) (a : A) → at ≤ k → get_or now k a ≡ get_or old k a

  pub none_dealt : (old : List A) → DealtTo old old 0
  none_dealt old = record { each = refl; done = λ k a lt. absurd (omega arith); rest = λ k a le. refl }

  pub one_dealt : (old now : List A) (at : ℕ) (x y : A) → at < length now → x ≡ get_or now at x → size y ≡ size x + 1 → DealtTo old now at → DealtTo old (set now at y) (at + 1)
  one_dealt old now at x y within here more to = record {
    each = length-set now at y ∙ to.each;
    done = λ k a lt. below_more (λ (i : ℕ). size (get_or (set now at y) i a) ≡ size (get_or old i a) + 1) at
        (λ i before. ap size (get_or-set_other now at i y a (λ same. omega arith)) ∙ to.done i a before)
        (ap size (get_or-set_same now at y a within) ∙ more ∙ ap (λ (b : A). size b + 1) (here ∙ get_or_default now at x a within ∙ to.rest at a (omega arith))) k lt;
    rest = λ k a le. get_or-set_other now at k y a (λ same. omega arith) ∙ to.rest k a (omega arith);
  }

  pub all_dealt : (old now : List A) (at n : ℕ) → DealtTo old now at → length old ≤ at → All (λ (a : A). size a ≡ n) old → All (λ (a : A). size a ≡ n + 1) now
  all_dealt old now at n to le all = λ k a lt.
      to.done k a (omega (arith, lt, le, to.each)) ∙ ap (λ (m : ℕ). m + 1) (all k a (omega (arith, lt, to.each)))

-- the last keeper and the last store, and those before them
pub keepers_before : (n : ℕ) (old new : List Known) → AreNodeLogs (n + 1) old → new ≡ take n old → AreNodeLogs n new
keepers_before n old new all is = record {
  each = omega (arith, ap (λ (ks : List Known). length ks) is, length-take n old, all.each);
  empty = λ m k below. ap (λ (ks : List Known). get_or ks m k) is ∙ get_or-take n old m k below ∙ all.empty m k (omega (arith, below));
}

module _ {S : Type 0} (faults : S → ℕ) (faultless : S → Bool) (starts : List StoreStart) where
  pub stores_before : (n : ℕ) (old new : List S) → AreStarts faults faultless starts (n + 1) old → new ≡ take n old → AreStarts faults faultless starts n new
  stores_before n old new all is = record {
    each = omega (arith, ap (λ (ss : List S). length ss) is, length-take n old, all.each);
    stated = λ m s below. all.stated m s (omega (arith, below))
        ∙ ap (λ (x : S). starting (faults x) (faultless x)) (sym (ap (λ (ss : List S). get_or ss m s) is ∙ get_or-take n old m s below));
  }

  -- stores are as a name states them that was picked by them
  pub starts_are : (n : ℕ) (stores : List S) → length stores ≡ n → AreStarts faults faultless (map (λ (s : S). starting (faults s) (faultless s)) stores) n stores
  starts_are n stores size = record {
    each = size;
    stated = λ m s below. get_or-map (λ (x : S). starting (faults x) (faultless x)) stores m s (starting 0 false) (omega (arith, below, size));
  }
