-- The helpers that a message visited, as one more is added.
use Rattle.std.proofs.Common.{◌≡◌, ℕ, ◌+◌, ◌<◌, ◌⊎◌, inl, inr, List, [], refl, sym, ◌∙◌, ap, arith}
use Rattle.std.specs.Prelude.{count_ones}
use Rattle.std.specs.Int.{bit_at}
use lib.Count.{ones}
use Rattle.std.proofs.lemmas.Bool.{cases_eq}
use Rattle.std.proofs.lemmas.Nat.Bits.{bit_at-zero}
use Rattle.ecp_plan.proofs.OrderLaws.{never_twice, each_visited}
use Rattle.ecp_slice.specs.Messages.{Message, helpers, visited, next_hop, HasNext, IsFull, after_add}
use Rattle.ecp_slice.specs.Sound.{IsVisited, AreAdded}
use Rattle.ecp_slice.proofs.Bits.{SetsBit, set_bit, unset, one_more}

no_ones : count_ones 0 ≡ 0
unfolding ones
no_ones = refl

-- how many lanes there may be
abbrev pub HasLanes : Message → Type 0
HasLanes m = (m.lanes ≡ 1) ⊎ (m.lanes ≡ helpers m)

-- the next helper was not visited
not_yet : (m : Message) → HasLanes m → HasNext m → IsVisited m (next_hop m) → ⊥
not_yet m lanes more (t, before, e) =
    let same : t ≡ m.at = never_twice m.lanes (helpers m) m.slice t m.at lanes (omega arith) more e in
    omega (arith, same, before)

-- its bit is set by adding it
pub sets_next : (m : Message) → HasLanes m → HasNext m → AreAdded m → SetsBit m.summed (after_add m (next_hop m) []).summed (next_hop m)
sets_next m lanes more added = set_bit m.summed (next_hop m) (unset m.summed (next_hop m) (λ set. not_yet m lanes more ((added.bits (next_hop m)).0 set)))

pub added_more : (m : Message) (bytes : List ℕ) → HasLanes m → HasNext m → AreAdded m → AreAdded (after_add m (next_hop m) bytes)
added_more m bytes lanes more added =
    let hop : ℕ = next_hop m in
    let sets : SetsBit m.summed (after_add m hop bytes).summed hop = sets_next m lanes more added in
    record {
      within = omega arith;
      counted = one_more m.summed (after_add m hop bytes).summed hop sets ∙ ap (λ (n : ℕ). n + 1) added.counted;
      bits = λ i. (
        λ set. elim (cases_eq i hop) [
          | inl here ↦ (m.at, (let last : m.at < m.at + 1 = omega arith in last), sym here)
          | inr other ↦ let was = (added.bits i).0 (sym (sets.others i other) ∙ set) in (was.0, (let before : was.0 < m.at + 1 = omega (arith, was.1) in before), was.2)
        ],
        λ v. elim (cases_eq i hop) [
          | inl here ↦ ap (bit_at (after_add m hop bytes).summed) here ∙ sets.is
          | inr other ↦ elim (cases_eq v.0 m.at) [
            | inl last ↦ absurd (other (sym v.2 ∙ ap (visited m) last))
            | inr early ↦ sets.others i other ∙ (added.bits i).1 (v.0, omega (arith, v.1, early), v.2)
          ]
        ],
      );
    }

-- where every helper was added, each has its bit set
pub all_set : (m : Message) → HasLanes m → IsFull m → AreAdded m → (i : ℕ) → i < helpers m → bit_at m.summed i ≡ 1
all_set m lanes full added i within =
    let when = each_visited m.lanes (helpers m) m.slice i lanes within in
    (added.bits i).1 (when.0, (let before : when.0 < m.at = omega (arith, when.1, full) in before), when.2)

-- where no helper was added, no bit is set
pub none_added : (m : Message) → m.at ≡ 0 → m.summed ≡ 0 → AreAdded m
none_added m none clear = record {
  within = omega (arith, none);
  counted = ap count_ones clear ∙ no_ones ∙ sym none;
  bits = λ i. (
    λ set. absurd (omega (arith, set, ap (λ (n : ℕ). bit_at n i) clear, bit_at-zero i)),
    λ v. absurd (omega (arith, v.1, none)),
  );
}
