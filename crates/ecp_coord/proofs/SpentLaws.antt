-- How many stripe numbers the calls that ended may use up, as the history grows.
use Rattle.std.proofs.Common.{◌≡◌, ℕ, zero, suc, ◌+◌, ◌*◌, ◌<◌, ◌≤◌, Bool, true, false, cond, List, [], ◌∷◌, ◌++◌, length, map, take, drop, get_or, slice_get, Option, Some, None, refl, sym, ◌∙◌, ap, subst, arith}
use Rattle.std.proofs.Math.Nat.{mul-le-mul_left}
use Rattle.std.proofs.Math.Seq.{take-append_seam}
use Rattle.std.specs.Prelude.{count_by, filter, nat_lt, position, is_some, sum_by}
use Rattle.std.specs.List.{list_any, position_or_len}
use Rattle.std.specs.List.Sorted.{IsStrictlyIncreasing}
use Rattle.std.specs.Option.{option_map_or}
use Rattle.std.proofs.lemmas.Bool.{false≢true, eq-eqb}
use Rattle.std.proofs.lemmas.Bool.Decides.{nat_tests}
use Rattle.std.proofs.lemmas.List.{length_push, length-append, get_or_append_left, get_or_push, take-append-le, map-append, at_drop_more}
use Rattle.std.proofs.lemmas.List.Elements.{filter-append}
use Rattle.std.proofs.lemmas.List.Folds.{list_any_at}
use Rattle.std.proofs.lemmas.List.Quantifiers.{position-Some}
use Rattle.std.proofs.lemmas.List.Sums.{position_or_len_is, sum_by-cons, sum_by-append, sum_by-le-sum_by}
use Rattle.std.proofs.lemmas.Option.{slice_get-get_or, get_or_from_slice_get, slice_get_within}
use Rattle.ecp_shape.specs.declared.shape.Shape.{Shape}
use Rattle.ecp_entry.specs.declared.entry.Entry.{Entry}
use Rattle.ecp_entry.specs.Entries.{loss_of}
use Rattle.ecp_history.specs.Files.{Storing, numbers_of}
use Rattle.ecp_history.specs.Follows.{follows}
use Rattle.ecp_history.specs.Spans.{ends, is_end, losses_in, losses_until}
use Rattle.ecp_history.proofs.LegalLaws.{get_before, get_last}
use Rattle.ecp_coord.specs.Numbers.{calls_ended, numbers_by, storing_of, stripes_asked}

-- whether an entry is a loss
abbrev pub is_lost : Entry → Bool
is_lost x = is_some (loss_of x)

-- ---- where a test passes first

module _ {X : Type 0} (p : X → Bool) where
  pub position_at : (xs : List X) (at : ℕ) (d : X) → at < length xs → p (get_or xs at d) ≡ true → ((k : ℕ) → k < at → p (get_or xs k d) ≡ false) → position p xs ≡ Some at
  position_at xs at d lt passes fails =
      let is : position_or_len p xs ≡ at = position_or_len_is p xs at d (omega arith) fails (λ _. passes) in
      let within : nat_lt at (length xs) ≡ true = grind (arith, nat_tests) in
      ap (λ (n : ℕ). cond (nat_lt n (length xs)) (Some n) None) is ∙ ap (λ (b : Bool). cond b (Some at) None) within

  -- it stays so in a longer list
  pub position_kept : (xs ys : List X) (at : ℕ) (d : X) → position p xs ≡ Some at → position p (xs ++ ys) ≡ Some at
  position_kept xs ys at d is =
      let first = position-Some p xs at d is in
      position_at (xs ++ ys) at d (omega (arith, first.0, length-append xs ys)) (ap p (get_or_append_left xs ys d at first.0) ∙ first.1)
      (λ k lt. ap p (get_or_append_left xs ys d k (omega (arith, lt, first.0))) ∙ first.2 k lt)

  -- the last of a list is the first to pass, where none before it does
  pub position_last : (xs : List X) (y : X) → list_any p xs ≡ false → p y ≡ true → position p (xs ++ y ∷ []) ≡ Some (length xs)
  position_last xs y none passes =
      position_at (xs ++ y ∷ []) (length xs) y (omega (arith, length_push xs y)) (ap p (get_or_push xs y y (length xs) refl) ∙ passes)
      (λ k lt. ap p (get_or_append_left xs (y ∷ []) y k lt) ∙ fails (p (get_or xs k y)) k refl lt)
    where
      fails : (b : Bool) (k : ℕ) → p (get_or xs k y) ≡ b → k < length xs → b ≡ false
      fails false k is lt = refl
      fails true k is lt = absurd (false≢true (sym none ∙ list_any_at p xs k y lt is))

-- ---- the losses during a call

-- the losses before an entry that follows this history, from the entry on that it must follow
abbrev pub losses_before : List Entry → Entry → ℕ
losses_before history e = count_by is_lost (drop (follows history e) history)

until_is : (history : List Entry) (at : ℕ) (x : Entry) → slice_get history at ≡ Some x → losses_until history at ≡ losses_before (take at history) x
until_is history at x there = ap (λ (o : Option Entry). option_map_or (λ e. losses_before (take at history) e) o 0) there

-- they are the same in a longer history
until_kept : (history more : List Entry) (at : ℕ) (x : Entry) → slice_get history at ≡ Some x → losses_until (history ++ more) at ≡ losses_until history at
until_kept history more at x there =
    let lt : at < length history = slice_get_within history at x there in
    until_is (history ++ more) at x (get_before history more at x there)
    ∙ ap (λ (xs : List Entry). losses_before xs x) (take-append-le at history more (omega (arith, lt)))
    ∙ sym (until_is history at x there)

pub losses_less : (history : List Entry) (e : Entry) (caller call : ℕ) → losses_in history caller call ≤ losses_in (history ++ e ∷ []) caller call
losses_less history e caller call = either (position (ends caller call) history) refl where
  either : (o : Option ℕ) → position (ends caller call) history ≡ o → losses_in history caller call ≤ losses_in (history ++ e ∷ []) caller call
  either None is =
      let none : losses_in history caller call ≡ 0 = ap (λ (o : Option ℕ). option_map_or (losses_until history) o 0) is in
      omega (arith, none)
  either (Some at) is =
      let here : losses_in history caller call ≡ losses_until history at = ap (λ (o : Option ℕ). option_map_or (losses_until history) o 0) is in
      let there : losses_in (history ++ e ∷ []) caller call ≡ losses_until (history ++ e ∷ []) at =
      ap (λ (o : Option ℕ). option_map_or (losses_until (history ++ e ∷ [])) o 0) (position_kept (ends caller call) history (e ∷ []) at e is) in
      let lt : at < length history = (position-Some (ends caller call) history at e is).0 in
      let same = until_kept history (e ∷ []) at (get_or history at e) (slice_get-get_or history at e lt) in
      omega (arith, here, there, same)

-- an entry that ends its call, which had no end before it
pub losses_at_end : (history : List Entry) (e : Entry) → list_any (ends e.line.caller e.line.call) history ≡ false → ends e.line.caller e.line.call e ≡ true
    → losses_in (history ++ e ∷ []) e.line.caller e.line.call ≡ losses_before history e
losses_at_end history e none is =
    ap (λ (o : Option ℕ). option_map_or (losses_until (history ++ e ∷ [])) o 0) (position_last (ends e.line.caller e.line.call) history e none is)
    ∙ until_is (history ++ e ∷ []) (length history) e (get_last history e)
    ∙ ap (λ (xs : List Entry). losses_before xs e) (take-append_seam history (e ∷ []))

-- ---- the numbers of the calls that ended

numbers_less : (history : List Entry) (e : Entry) (call : Storing) → numbers_of history call ≤ numbers_of (history ++ e ∷ []) call
numbers_less history e call =
    let less = losses_less history e call.caller call.call in
    let more : losses_in history call.caller call.call + 1 ≤ losses_in (history ++ e ∷ []) call.caller call.call + 1 = omega (arith, less) in
    mul-le-mul_left call.stripes more

ended_more : (shape : Shape) (history : List Entry) (e : Entry) → calls_ended shape (history ++ e ∷ []) ≡ calls_ended shape history ++ map (storing_of shape) (cond (is_end e.line.part) (e ∷ []) [])
ended_more shape history e =
    ap (λ (xs : List Entry). map (storing_of shape) xs) (filter-append (λ (x : Entry). is_end x.line.part) history (e ∷ []))
    ∙ map-append (storing_of shape) (filter (λ (x : Entry). is_end x.line.part) history) (cond (is_end e.line.part) (e ∷ []) [])

-- the numbers of an entry, in a history that has it
abbrev numbers_at : Shape → List Entry → Entry → Bool → ℕ
numbers_at shape history e ended = sum_by (numbers_of history) (map (storing_of shape) (cond ended (e ∷ []) []))

spent_more : (shape : Shape) (history : List Entry) (e : Entry) → numbers_by shape history + numbers_at shape (history ++ e ∷ []) e (is_end e.line.part) ≤ numbers_by shape (history ++ e ∷ [])
spent_more shape history e =
    let after : List Entry = history ++ e ∷ [] in
    let split : numbers_by shape after ≡ sum_by (numbers_of after) (calls_ended shape history) + numbers_at shape after e (is_end e.line.part) =
    ap (λ (cs : List Storing). sum_by (numbers_of after) cs) (ended_more shape history e)
    ∙ sum_by-append (numbers_of after) (calls_ended shape history) (map (storing_of shape) (cond (is_end e.line.part) (e ∷ []) [])) in
    let less = sum_by-le-sum_by (numbers_of history) (numbers_of after) (calls_ended shape history) (numbers_less history e) in
    omega (arith, split, less)

-- no fewer with one entry more
pub spent_kept : (shape : Shape) (history : List Entry) (e : Entry) → numbers_by shape history ≤ numbers_by shape (history ++ e ∷ [])
spent_kept shape history e = let more = spent_more shape history e in omega (arith, more)

-- and with one that ends its call, those that the call may use up
pub spent_ended : (shape : Shape) (history : List Entry) (e : Entry) → is_end e.line.part ≡ true → list_any (ends e.line.caller e.line.call) history ≡ false
    → numbers_by shape history + stripes_asked shape e.deed * (losses_before history e + 1) ≤ numbers_by shape (history ++ e ∷ [])
spent_ended shape history e is none =
    let after : List Entry = history ++ e ∷ [] in
    let its : ends e.line.caller e.line.call e ≡ true = ends_itself e is in
    let at : numbers_at shape after e (is_end e.line.part) ≡ 0 + stripes_asked shape e.deed * (losses_in after e.line.caller e.line.call + 1) =
    ap (λ (b : Bool). numbers_at shape after e b) is in
    let losses : stripes_asked shape e.deed * (losses_in after e.line.caller e.line.call + 1) ≡ stripes_asked shape e.deed * (losses_before history e + 1) =
    ap (λ (n : ℕ). stripes_asked shape e.deed * (n + 1)) (losses_at_end history e none its) in
    let more = spent_more shape history e in
    omega (arith, at, losses, more)
  where
    ends_itself : (x : Entry) → is_end x.line.part ≡ true → ends x.line.caller x.line.call x ≡ true
    ends_itself x end = rw (eq-eqb x.line.caller x.line.caller refl, eq-eqb x.line.call x.line.call refl, end) refl

-- ---- positions of losses

count_less : {X : Type 0} (f : X → Bool) (n : ℕ) (xs : List X) → count_by f (drop n xs) ≤ count_by f xs
count_less f zero xs = omega arith
count_less f (suc n) [] = omega arith
count_less f (suc n) (x ∷ xs) =
    let rest = count_less f n xs in
    let less : count_by f (drop n xs) ≤ count_by f (x ∷ xs) = omega (arith, rest, sum_by-cons (λ y. cond (f y) 1 0) x xs) in
    less

count_later : {X : Type 0} (f : X → Bool) (n m : ℕ) (xs : List X) → n ≤ m → count_by f (drop m xs) ≤ count_by f (drop n xs)
count_later f zero m xs le = count_less f m xs
count_later f (suc n) zero xs le = absurd (omega (arith, le))
count_later f (suc n) (suc m) [] le = omega arith
count_later f (suc n) (suc m) (x ∷ xs) le = count_later f n m xs (omega (arith, le))

-- an element at this place passes
pub record PassesThere {X : Type 0} (f : X → Bool) (xs : List X) (at : ℕ) : Type 0 where
  pub item : X
  pub there : slice_get xs at ≡ Some item
  pub passes : f item ≡ true

count_there : {X : Type 0} (f : X → Bool) (xs : List X) (at : ℕ) → PassesThere f xs at → count_by f (drop at xs) ≡ 1 + count_by f (drop (at + 1) xs)
count_there {X} f xs at is =
    at_drop_more (λ (ys : List X). count_by f ys) xs at is.item (slice_get_within xs at is.item is.there)
    ∙ sum_by-cons (λ y. cond (f y) 1 0) (get_or xs at is.item) (drop (at + 1) xs)
    ∙ ap (λ (b : Bool). cond b 1 0 + count_by f (drop (at + 1) xs)) (ap f (get_or_from_slice_get xs at is.item is.item is.there) ∙ is.passes)

rising_on : (v : ℕ) (at : List ℕ) → IsStrictlyIncreasing (v ∷ at) → IsStrictlyIncreasing at
rising_on v at rising k lt =
    let next : suc k + 1 ≡ suc (k + 1) = omega arith in
    subst (λ (n : ℕ). get_or at k 0 < get_or (v ∷ at) n 0) next (rising (suc k) (omega (arith, lt)))

-- as many as there are rising places of such, from a place on
pub at_least : {X : Type 0} (f : X → Bool) (xs : List X) (from : ℕ) (at : List ℕ) → IsStrictlyIncreasing at → (0 < length at → from ≤ get_or at 0 0)
    → ((k : ℕ) → k < length at → PassesThere f xs (get_or at k 0)) → length at ≤ count_by f (drop from xs)
at_least f xs from [] rising start each = omega arith
at_least f xs from (v ∷ at) rising start each =
    let rest = at_least f xs (v + 1) at (rising_on v at rising) (λ some. let up = rising 0 (omega (arith, some)) in omega (arith, up)) (λ k lt. each (suc k) (omega (arith, lt))) in
    let here = count_there f xs v (each 0 (omega arith)) in
    let later = count_later f from v xs (start (omega arith)) in
    omega (arith, rest, here, later)
