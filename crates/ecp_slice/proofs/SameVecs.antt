-- A Vec whose items were lent and come back as they were is the same.
use Rattle.std.proofs.Common.{◌≡◌, List, length, sym, ap, subst, ◌∙◌}
use Rattle.std.specs.Vec.{with_items}
use Rattle.std.specs.declared.vec.Vec.{Vec}
use Rattle.std.proofs.lemmas.List.{with_items_is}
use native.Mathlib.Nat.{ℕ_set}

module _ {X Z : Type 0} (v : Vec X Z) where
  abbrev holding : (xs : List X) → v.len ≡ length xs → Vec X Z
  holding xs fits = record { ptr = v.ptr; len = v.len; cap = v.cap; alloc = v.alloc; items = xs; ok = (fits, v.ok.1); small = v.small }

  same_holding : (xs ys : List X) (p : v.len ≡ length xs) (q : v.len ≡ length ys) → xs ≡ ys → holding xs p ≡ holding ys q
  same_holding xs ys p q e =
      let At : List X → Type 0 = λ (zs : List X). (r : v.len ≡ length zs) → holding xs p ≡ holding zs r in
      let here : At xs = λ r. ap (holding xs) (ℕ_set v.len (length xs) p r) in
      subst At e here q

  pub same_vec : (ws : List X) → ws ≡ v.items → with_items v ws ≡ v
  same_vec ws e =
      same_holding (with_items v ws).items v.items (with_items v ws).ok.0 v.ok.0 (with_items_is v ws (ap length e ∙ sym v.ok.0) ∙ e)
