-- To which node a message goes next.
use Rattle.std.proofs.Common.{◌≡◌, ℕ, ◌<◌, inl, inr, Bool, true, false, cond, length, sym, ◌∙◌, ap, subst, arith}
use Rattle.std.specs.Prelude.{nat_lt, slice_index}
use Rattle.std.proofs.lemmas.Bool.{cases_lt}
use Rattle.std.proofs.lemmas.Bool.Decides.{nat_tests}
use Rattle.ecp_shape.specs.declared.shape.Shape.{Shape}
use Rattle.ecp_plan.proofs.OrderLaws.{helper_within}
use Rattle.ecp_slice.specs.Messages.{Message, helpers, next_hop, next_of}
use Rattle.ecp_slice.specs.Sound.{IsSound}
use Rattle.ecp_slice.specs.declared.next.Next.TheVariants.{Node, Home}

-- the node is one of the service's
pub to_node : (shape : Shape) (told : Bool) (m : Message) (node : ℕ) → IsSound shape told m → next_of m ≡ Node node → node < shape.nodes
to_node shape told m node sound is =
    let next : ℕ = slice_index m.nodes (next_hop m) in
    elim (cases_lt m.at (helpers m)) [
      | inl more ↦
          let yes : nat_lt m.at (helpers m) ≡ true = grind (arith, nat_tests) in
          let here : Node next ≡ Node node = sym (ap (λ (b : Bool). cond b (Node next) (Home m.home)) yes) ∙ is in
          let same : next ≡ node = cc here in
          let hop : next_hop m < helpers m = helper_within m.lanes (helpers m) m.slice m.at sound.planned.lanes_are more in
          let within : next_hop m < length m.nodes = omega (arith, hop, sound.planned.helpers.known.one_each) in
          subst (λ (n : ℕ). n < shape.nodes) same (sound.planned.helpers.known.on_nodes (next_hop m) 0 within)
      | inr none ↦
          let no : nat_lt m.at (helpers m) ≡ false = grind (arith, nat_tests) in
          let home : Home m.home ≡ Node node = sym (ap (λ (b : Bool). cond b (Node next) (Home m.home)) no) ∙ is in
          absurd (cc home)
    ]
