-- One sender counts for the whole link.
use Rattle.std.proofs.Common.{◌≡◌, ℕ, zero, suc, ◌+◌, ◌-◌, ◌≤◌, List, [], ◌∷◌, refl, sym, subst, arith}
use Rattle.std.specs.Prelude.{Some, slice_get}
use Rattle.ecp_link.specs.Links.{Count, held_in, pushed_in}

pub held_of_one : (link : List Count) (p n : ℕ) (c : Count) → slice_get link p ≡ Some c → c.taken + n ≤ c.pushed → n ≤ held_in link
held_of_one [] p n c e le = absurd (cc)
held_of_one (d ∷ link) zero n c e le = let whole : held_in (d ∷ link) ≡ d.pushed - d.taken + held_in link = refl in let same : d ≡ c = cc in let enough : n ≤ c.pushed - c.taken = omega arith in
    let here : n ≤ d.pushed - d.taken = subst (λ (k : Count). n ≤ k.pushed - k.taken) (sym same) enough in omega arith
held_of_one (d ∷ link) (suc p) n c e le = let whole : held_in (d ∷ link) ≡ d.pushed - d.taken + held_in link = refl in let rest = held_of_one link p n c e le in omega arith

pub pushed_of_one : (link : List Count) (p n : ℕ) (c : Count) → slice_get link p ≡ Some c → n ≤ c.pushed → n ≤ pushed_in link
pushed_of_one [] p n c e le = absurd (cc)
pushed_of_one (d ∷ link) zero n c e le = let whole : pushed_in (d ∷ link) ≡ d.pushed + pushed_in link = refl in let same : d ≡ c = cc in
    let here : n ≤ d.pushed = subst (λ (k : Count). n ≤ k.pushed) (sym same) le in omega arith
pushed_of_one (d ∷ link) (suc p) n c e le = let whole : pushed_in (d ∷ link) ≡ d.pushed + pushed_in link = refl in let rest = pushed_of_one link p n c e le in omega arith
