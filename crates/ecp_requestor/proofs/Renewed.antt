-- An assembly that takes up the next attempt.
use Rattle.std.proofs.Common.{◌≡◌, ℕ, zero, suc, Bool, false, List, length, get_or, replicate, ◌∙◌, ap, subst}
use Rattle.std.specs.Prelude.{IsTrue}
use Rattle.std.proofs.lemmas.List.{length-replicate}
use Rattle.ecp_shape.specs.declared.shape.Shape.{Shape}
use Rattle.ecp_book.specs.Logs.{Log}
use Rattle.ecp_history.specs.Fronts.{told_table}
use Rattle.ecp_history.specs.table.Tables.{HasStripe}
use Rattle.ecp_plan.specs.Plans.{IsSound}
use Rattle.ecp_plan.specs.declared.plan.Plan.{Plan}
use Rattle.ecp_slice.specs.Messages.{Message}
use Rattle.ecp_requestor.specs.declared.accepted.Accepted.{Accepted}
use Rattle.ecp_requestor.specs.declared.accepted.Accepted.TheVariants.{Taken, Stale, Foreign, Repeat}
use Rattle.ecp_requestor.specs.Accepting.{after}
use Rattle.ecp_requestor.specs.Assemblies.{AssemblyState, IsAssembly}
use Rattle.ecp_requestor.specs.Renewing.{IsOfBlock, IsFor, renewed}

none_there : (n j : ℕ) → IsTrue (get_or (replicate n false) j false) → ⊥
none_there zero j there = absurd (cc there)
none_there (suc n) zero there = absurd (cc there)
none_there (suc n) (suc j) there = none_there n j there

module _ {N : Type 0} where
  -- a message that is given to it leaves it of the plan's block and attempt
  pub is_of_block_after : (plan : Plan N) (answer : Accepted) (a : AssemblyState) (m : Message) → IsOfBlock plan a → IsOfBlock plan (after answer a m)
  is_of_block_after plan Taken a m is = record { repair = is.repair; stripe = is.stripe; row = is.row; block = is.block; size = is.size }
  is_of_block_after plan (Stale n) a m is = is
  is_of_block_after plan (Foreign n) a m is = is
  is_of_block_after plan (Repeat n) a m is = is

  pub is_for_after : (plan : Plan N) (answer : Accepted) (a : AssemblyState) (m : Message) → IsFor plan a → IsFor plan (after answer a m)
  is_for_after plan Taken a m is = record { block = is_of_block_after plan Taken a m is.block; attempt = is.attempt; front = is.front }
  is_for_after plan (Stale n) a m is = is
  is_for_after plan (Foreign n) a m is = is
  is_for_after plan (Repeat n) a m is = is

  pub renewed_is : (shape : Shape) (told : Bool) (plan : Plan N) (a : AssemblyState) → IsAssembly shape told a → IsSound shape told plan → IsOfBlock plan a → IsAssembly shape told (renewed a plan)
  renewed_is shape told plan a is sound of = record {
    in_range = is.in_range;
    of_row = is.of_row;
    legal = sound.sound.helpers.legal;
    of_stripe = subst (HasStripe (told_table shape plan.front.items)) of.stripe sound.sound.helpers.known.there;
    len_is = is.len_is;
    some = is.some;
    within = is.within;
    places = length-replicate (length a.there) false ∙ is.places;
    roomy = is.roomy;
    whole = λ j there. absurd (none_there (length a.there) j there);
    right = λ j there telling. absurd (none_there (length a.there) j there);
  }

  -- an assembly of which the fields are so is that of the attempt
  pub seen_renewed : (plan : Plan N) (a : AssemblyState) (front : Log) (there : List Bool) → front ≡ plan.front.items → there ≡ replicate (length a.there) false
      → record a { attempt = plan.attempt; front = front; there = there } ≡ renewed a plan
  seen_renewed plan a front there f t =
      ap (λ (xs : Log). record a { attempt = plan.attempt; front = xs; there = there }) f
      ∙ ap (λ (xs : List Bool). record a { attempt = plan.attempt; front = plan.front.items; there = xs }) t
