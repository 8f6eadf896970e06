-- What the map of a store in memory says of the store.
use Rattle.std.proofs.Common.{◌≡◌, ◌≢◌, ℕ, true, false, cond, List, Option, ap, ◌∙◌, arith}
use Rattle.std.proofs.lemmas.Grind.{common_steps}
use Rattle.ecp_store.specs.declared.key.Key.{Key}
use Rattle.ecp_store.specs.MemStores.{same_key, block_at}
use Rattle.ecp_store.specs.Stores.{Puts}

same_itself : (key : Key) → same_key key key ≡ true
same_itself key = grind (arith, common_steps)

one_key : (a b : Key) → same_key a b ≡ true → b ≡ a
one_key a b same = grind (arith, common_steps)

apart : (a b : Key) → b ≢ a → same_key a b ≡ false
apart a b other = grind (arith, common_steps, one_key)

-- the map of an opened store has changed at one key
pub puts : (key : Key) (bytes : Option (List ℕ)) {put : Option (List ℕ)} {old : List (Key × List ℕ)} (seen new : List (Key × List ℕ))
    → old ≡ seen → put ≡ bytes → ((q : Key) → block_at new q ≡ cond (same_key key q) put (block_at old q)) → Puts key bytes (block_at seen) (block_at new)
puts key bytes {put} {old} seen new opened given changed =
    let here : block_at new key ≡ bytes = changed key ∙ ap (λ b. cond b put (block_at old key)) (same_itself key) ∙ given in
    let others : (other : Key) → other ≢ key → block_at new other ≡ block_at seen other =
    λ other ne. changed other ∙ ap (λ b. cond b put (block_at old other)) (apart key other ne) ∙ ap (λ es. block_at es other) opened in
    record { here = here; others = others }
