-- The tables are the products with the 16 halves, as the planes give them.
use Rattle.std.proofs.Common.{◌≡◌, ℕ, ◌*◌, ◌%◌, ◌<◌, eqb, get_or, map, refl, ap, ◌∙◌}
use Rattle.std.proofs.lemmas.Bool.{eqb-true}
use Rattle.std.proofs.lemmas.List.{get_or-map}
use Rattle.ecp_field.specs.Field.{byte_product}
use Rattle.ecp_field.proofs.Computed.{every_below}
use Rattle.ecp_kernel.specs.declared.nibbles.TheConstants.{LOW, HIGH}
use Rattle.ecp_kernel.proofs.nibbles.Nibbles.new.Goals as goal

low_at : (i : ℕ) → i < 64 → get_or LOW i 0 ≡ i % 16
low_at i h = eqb-true (get_or LOW i 0) (i % 16) (every_below (λ j. eqb (get_or LOW j 0) (j % 16)) 64 i refl h)

high_at : (i : ℕ) → i < 64 → get_or HIGH i 0 ≡ i % 16 * 16
high_at i h = eqb-true (get_or HIGH i 0) (i % 16 * 16) (every_below (λ j. eqb (get_or HIGH j 0) (j % 16 * 16)) 64 i refl h)

pub invariant_of-result : goal.invariant_of-result
invariant_of-result c =
    let factor = c.args.constant in
    let product = λ (x : ℕ). byte_product factor x in
    record {
      low_exact = λ i h. ap (λ xs. get_or xs i 0) c.products-low.ensures
          ∙ ap (λ n. get_or (map (byte_product n) LOW) i 0) c.new-planes.ensures ∙ get_or-map product LOW i 0 0 h ∙ ap product (low_at i h);
      high_exact = λ i h. ap (λ xs. get_or xs i 0) c.products-high.ensures
          ∙ ap (λ n. get_or (map (byte_product n) HIGH) i 0) c.new-planes.ensures ∙ get_or-map product HIGH i 0 0 h ∙ ap product (high_at i h);
    }
