-- The callers of the sessions of a script, before the first phase and after the last one.
use Rattle.std.proofs.Common.{◌≡◌, ◌≢◌, ℕ, zero, suc, ◌-◌, ◌+◌, ◌<◌, ◌≤◌, Bool, false, cond, List, [], ◌∷◌, ◌++◌, length, map, set, take, drop, get_or, Option, Some, Result, Ok, Err, inl, inr, refl, sym, ◌∙◌, ap, subst, arith, append_assoc, length-set, length-append, get_or-set_same, get_or-set_other, take-append-drop}
use Rattle.std.proofs.Math.Seq.{drop-append_seam, get_or-append_seam, take-append_seam}
use Rattle.std.specs.Prelude.{◌==◌, find, slice_get, All, Contains, IfOk, OnOk, option_map, vec_capacity}
use Rattle.std.specs.Option.{option_map_or}
use Rattle.std.proofs.lemmas.Bool.{cases_eq, eq-eqb, ne_eqb}
use Rattle.std.proofs.lemmas.List.{get_or-map, get_or_append_left, get_or_push, length-map, take-append-le, take_more}
use Rattle.std.proofs.lemmas.Option.{get_or_from_slice_get, slice_get-get_or, slice_get-map}
use Rattle.ecp_cluster.specs.declared.answer.Answer.{Answer}
use Rattle.ecp_command.specs.Input.Accepted.{session_view}
use Rattle.ecp_command.specs.Input.Calls.{SessionCalls}
use Rattle.ecp_command.specs.declared.input.planned.Planned.{Planned}
use Rattle.ecp_command.specs.declared.input.session.Session.{Session}
use Rattle.ecp_sequencer.specs.Passes.{IsWhole, PassState, first_pass, first_passes}
use Rattle.ecp_sequencer.proofs.StepLaws.{first_whole}
use Rattle.ecp_service.specs.Callers.{AreAt, AreSeated, IsAt, IsReady, IsSeated, replies_of}
use Rattle.ecp_service.specs.Servable.{AreRising, AreServable, EachServable}
use Rattle.ecp_service.specs.Served.{EachServed, Served, answers_by, calls_by}
use Rattle.ecp_service.specs.declared.serving.caller.Caller.{Caller}
use Rattle.ecp_service.specs.declared.serving.replies.Replies.{Replies}
use Rattle.ecp_service.proofs.FirstPasses.{first_at, length_first}
use Rattle.ecp_service.proofs.PhaseLaws.{all_answered}
use Rattle.ecp_shape.specs.declared.limits.TheConstants.{MAX_SESSIONS}
use Rattle.ecp_shape.specs.declared.shape.Shape.{Shape}

-- ---- the calls of a session among those of several

calls_mine : (s : SessionCalls) (sessions : List SessionCalls) (c : ℕ) → s.number ≡ c → calls_by (s ∷ sessions) c ≡ s.calls
calls_mine s sessions c is =
    ap (λ (b : Bool). option_map_or (λ (x : SessionCalls). x.calls) (cond b (Some s) (find (λ x. x.number == c) sessions)) []) (eq-eqb s.number c is)

calls_other : (s : SessionCalls) (sessions : List SessionCalls) (c : ℕ) → s.number ≢ c → calls_by (s ∷ sessions) c ≡ calls_by sessions c
calls_other s sessions c differs =
    ap (λ (b : Bool). option_map_or (λ (x : SessionCalls). x.calls) (cond b (Some s) (find (λ x. x.number == c) sessions)) []) (ne_eqb s.number c differs)

-- what holds of no call and of the calls of each session holds of those of each caller
by_sessions : (P : List Planned → Type 0) (sessions : List SessionCalls) (c : ℕ) → P [] → ((i : ℕ) (s : SessionCalls) → slice_get sessions i ≡ Some s → P s.calls) → P (calls_by sessions c)
by_sessions P [] c none each = none
by_sessions P (s ∷ sessions) c none each = elim (cases_eq s.number c) [
  | inl is ↦ subst P (sym (calls_mine s sessions c is)) (each 0 s refl)
  | inr differs ↦ subst P (sym (calls_other s sessions c differs)) (by_sessions P sessions c none (λ i t there. each (suc i) t there))
]

-- ---- before the first phase

-- a session more gets its calls
pub seat_one : {N : Type 0} (spares callers : ℕ) (s : SessionCalls) (sessions : List SessionCalls) (cs : List (Caller N)) (y : Caller N) (d : Caller N) → AreSeated spares callers sessions cs
    → s.number < callers → IsSeated (get_or cs s.number d).pass s.calls y → AreSeated spares callers (s ∷ sessions) (set cs s.number y)
seat_one spares callers s sessions cs y d seated below one = record {
  each = length-set cs s.number y ∙ seated.each;
  seated = λ c e within. elim (cases_eq c s.number) [
    | inl is ↦
        let own : IsSeated (first_pass spares c) s.calls y =
        subst (λ (p : PassState). IsSeated p s.calls y) ((seated.seated s.number d below).pass ∙ ap (first_pass spares) (sym is)) one in
        let mine : IsSeated (first_pass spares c) (calls_by (s ∷ sessions) c) y = subst (λ (ps : List Planned). IsSeated (first_pass spares c) ps y) (sym (calls_mine s sessions c (sym is))) own in
        subst (IsSeated (first_pass spares c) (calls_by (s ∷ sessions) c))
        (sym (ap (λ (k : ℕ). get_or (set cs s.number y) k e) is ∙ get_or-set_same cs s.number y e (omega (arith, below, seated.each)))) mine
    | inr differs ↦
        let was : IsSeated (first_pass spares c) (calls_by sessions c) (get_or cs c e) = seated.seated c e within in
        let other : IsSeated (first_pass spares c) (calls_by (s ∷ sessions) c) (get_or cs c e) =
        subst (λ (ps : List Planned). IsSeated (first_pass spares c) ps (get_or cs c e)) (sym (calls_other s sessions c (λ same. differs (sym same)))) was in
        subst (IsSeated (first_pass spares c) (calls_by (s ∷ sessions) c)) (sym (get_or-set_other cs s.number c y e differs)) other
  ];
}

-- the callers of sessions that are served are ready
pub all_ready : {N : Type 0} (spares callers phases : ℕ) (sessions : List SessionCalls) (cs : List (Caller N)) → AreSeated spares callers sessions cs → AreServable phases sessions → All IsReady cs
all_ready spares callers phases sessions cs seated servable = λ c d within.
    let one : IsSeated (first_pass spares c) (calls_by sessions c) (get_or cs c d) = seated.seated c d (omega (arith, within, seated.each)) in
    record {
      can = record {
        whole = subst (λ (p : PassState). IsWhole p) (sym one.pass) (first_whole spares c);
        room = subst (λ (ps : List Planned). length ps ≤ vec_capacity (get_or cs c d).answers) (sym one.calls) one.room;
        servable = subst EachServable (sym one.calls) (by_sessions EachServable sessions c tt (λ i s there. (servable.each i s there).calls));
      };
      none = one.none;
      rising = subst (AreRising 0) (sym one.calls) (by_sessions (AreRising 0) sessions c tt (λ i s there. (servable.each i s there).rising));
    }

-- ---- one caller after another

-- the first of some elements, and one more
pub front_more : {X : Type 0} (xs ys : List X) (x : X) → ys ≡ take (length ys) xs → length ys < length xs → x ≡ get_or xs (length ys) x → ys ++ x ∷ [] ≡ take (length (ys ++ x ∷ [])) xs
front_more {X} xs ys x front within is =
    ap (λ (y : X). ys ++ y ∷ []) is
    ∙ ap (λ (zs : List X). zs ++ get_or xs (length ys) x ∷ []) front
    ∙ sym (take_more xs (length ys) x within)
    ∙ ap (λ (n : ℕ). take n xs) (sym (length-append ys (x ∷ [])))

-- so a caller for each pass
pub next_first : (spares callers : ℕ) (passes : List PassState) (n : ℕ) (p : PassState) → passes ≡ first_passes spares callers → n < length passes → p ≡ get_or passes n p → p ≡ first_pass spares n
next_first spares callers passes n p are within is =
    is ∙ ap (λ (ps : List PassState). get_or ps n p) are
    ∙ first_at spares callers n p (omega (arith, within, ap (λ (ps : List PassState). length ps) are, length_first spares callers))

pub seated_more : {N : Type 0} (spares : ℕ) (cs : List (Caller N)) (n : ℕ) (y : Caller N) → length cs ≡ n → ((c : ℕ) (d : Caller N) → c < n → IsSeated (first_pass spares c) [] (get_or cs c d))
    → IsSeated (first_pass spares n) [] y → (c : ℕ) (d : Caller N) → c < n + 1 → IsSeated (first_pass spares c) [] (get_or (cs ++ y ∷ []) c d)
seated_more {N} spares cs n y long each one c d below = elim (cases_eq c n) [
  | inl is ↦
      let at : get_or (cs ++ y ∷ []) c d ≡ y = get_or_push cs y d c (omega (arith, long, is)) in
      subst (IsSeated (first_pass spares c) []) (sym at) (subst (λ (k : ℕ). IsSeated (first_pass spares k) [] y) (sym is) one)
  | inr differs ↦
      let before : c < n = omega (arith, below, differs) in
      subst (IsSeated (first_pass spares c) []) (sym (get_or_append_left cs (y ∷ []) d c (omega (arith, before, long)))) (each c d before)
]

-- one more element that holds
pub all_more : {X : Type 0} (P : X → Type 0) (xs : List X) (x : X) → All P xs → P x → All P (xs ++ x ∷ [])
all_more P xs x all one = λ i d within. elim (cases_eq i (length xs)) [
  | inl is ↦ subst P (sym (get_or_push xs x d i (sym is))) one
  | inr differs ↦
      let before : i < length xs = omega (arith, within, length-append xs (x ∷ []), differs) in
      subst P (sym (get_or_append_left xs (x ∷ []) d i before)) (all i d before)
]

-- what stands from the place before one on
pub drop_last : {X : Type 0} (xs rest : List X) (x : X) (n : ℕ) → rest ++ x ∷ [] ≡ take (length (rest ++ x ∷ [])) xs → length (rest ++ x ∷ []) ≤ length xs
    → drop (length rest) xs ≡ x ∷ drop (length (rest ++ x ∷ [])) xs
drop_last {X} xs rest x n front within =
    let long : length (rest ++ x ∷ []) ≡ length rest + 1 = length-append rest (x ∷ []) in
    let whole : xs ≡ (rest ++ x ∷ []) ++ drop (length (rest ++ x ∷ [])) xs =
    sym (take-append-drop (length (rest ++ x ∷ [])) xs) ∙ ap (λ (ys : List X). ys ++ drop (length (rest ++ x ∷ [])) xs) (sym front) in
    ap (drop (length rest)) (whole ∙ append_assoc rest (x ∷ []) (drop (length (rest ++ x ∷ [])) xs))
    ∙ drop-append_seam rest (x ∷ drop (length (rest ++ x ∷ [])) xs)

pub rest_front : {X : Type 0} (xs rest : List X) (x : X) → rest ++ x ∷ [] ≡ take (length (rest ++ x ∷ [])) xs → rest ≡ take (length rest) xs
rest_front {X} xs rest x front =
    let tail : List X = drop (length (rest ++ x ∷ [])) xs in
    let whole : xs ≡ (rest ++ x ∷ []) ++ tail = sym (take-append-drop (length (rest ++ x ∷ [])) xs) ∙ ap (λ (ys : List X). ys ++ tail) (sym front) in
    sym (ap (take (length rest)) whole ∙ take-append-le (length rest) (rest ++ x ∷ []) tail (omega (arith, length-append rest (x ∷ []))) ∙ take-append_seam rest (x ∷ []))

-- and what stands at its place
pub at_last : {X : Type 0} (xs rest : List X) (x d : X) → rest ++ x ∷ [] ≡ take (length (rest ++ x ∷ [])) xs → get_or xs (length rest) d ≡ x
at_last {X} xs rest x d front =
    let tail : List X = drop (length (rest ++ x ∷ [])) xs in
    let whole : xs ≡ (rest ++ x ∷ []) ++ tail = sym (take-append-drop (length (rest ++ x ∷ [])) xs) ∙ ap (λ (ys : List X). ys ++ tail) (sym front) in
    ap (λ (ys : List X). get_or ys (length rest) d) (whole ∙ append_assoc rest (x ∷ []) tail) ∙ get_or-append_seam rest x tail d

-- ---- after the last phase

module _ {N : Type 0} (shape : Shape) (told : Bool) (spares callers phases : ℕ) (sessions : List SessionCalls) (old new : List (Caller N)) (seated : AreSeated spares callers sessions old)
    (servable : AreServable phases sessions) (at : AreAt shape told phases old new) (well : All (λ c. c.failed ≡ false) new) where
  none_left : (c : ℕ) → All (λ p. p.phase < phases) (calls_by sessions c)
  none_left c = by_sessions (λ ps. All (λ p. p.phase < phases) ps) sessions c (λ i p within. absurd (omega (arith, within))) (λ i s there. (servable.each i s there).within)

  answers_are : (c : ℕ) (d : Caller N) → c < length new → answers_by (map replies_of new) c ≡ (get_or new c d).answers.items
  answers_are c d within =
      ap (λ (o : Option Replies). option_map_or (λ r. r.answers.items) o []) (slice_get-map replies_of new c ∙ ap (option_map replies_of) (slice_get-get_or new c d within))

  pub each_served : ((s : SessionCalls) → Contains sessions s → s.number < callers) → (d : Caller N)
      → EachServed shape told spares callers sessions (answers_by (map replies_of new)) (map (λ c. c.pass) new)
  each_served room d = record {
    fences = at.fences;
    rising = at.rising;
    each = length-map new (λ (c : Caller N). c.pass) ∙ at.each ∙ seated.each;
    room = room;
    served = λ c p below.
        let in_old : c < length old = omega (arith, below, seated.each) in
        let in_new : c < length new = omega (arith, in_old, at.each) in
        let one : IsAt shape told at.fences phases (get_or old c d) (get_or new c d) = at.at c d in_old in
        let was : IsSeated (first_pass spares c) (calls_by sessions c) (get_or old c d) = seated.seated c d below in
        let by : Served shape told at.fences (get_or old c d).pass (get_or old c d).calls.items (get_or new c d).answers.items (get_or new c d).pass = one.served (well c d in_new) in
        let from_first : Served shape told at.fences (first_pass spares c) (get_or old c d).calls.items (get_or new c d).answers.items (get_or new c d).pass =
        subst (λ (x : PassState). Served shape told at.fences x (get_or old c d).calls.items (get_or new c d).answers.items (get_or new c d).pass) was.pass by in
        let its_calls : Served shape told at.fences (first_pass spares c) (calls_by sessions c) (get_or new c d).answers.items (get_or new c d).pass =
        subst (λ (ps : List Planned). Served shape told at.fences (first_pass spares c) ps (get_or new c d).answers.items (get_or new c d).pass) was.calls from_first in
        let its_answers : Served shape told at.fences (first_pass spares c) (calls_by sessions c) (answers_by (map replies_of new) c) (get_or new c d).pass =
        subst (λ (xs : List Answer). Served shape told at.fences (first_pass spares c) (calls_by sessions c) xs (get_or new c d).pass) (sym (answers_are c d in_new)) its_calls in
        subst (Served shape told at.fences (first_pass spares c) (calls_by sessions c) (answers_by (map replies_of new) c))
        (sym (get_or-map (λ (x : Caller N). x.pass) new c d p in_new)) its_answers;
    whole = λ c below.
        let in_old : c < length old = omega (arith, below, seated.each) in
        let in_new : c < length new = omega (arith, in_old, at.each) in
        let was : IsSeated (first_pass spares c) (calls_by sessions c) (get_or old c d) = seated.seated c d below in
        ap (λ (xs : List Answer). length xs) (answers_are c d in_new)
        ∙ all_answered shape told at.fences phases (get_or old c d) (get_or new c d) (at.at c d in_old) (well c d in_new)
        (subst (λ (ps : List Planned). All (λ p. p.phase < phases) ps) (sym was.calls) (none_left c))
        ∙ ap (λ (ps : List Planned). length ps) was.calls;
  }

-- so where there is no caller too
pub all_served : {N : Type 0} (shape : Shape) (told : Bool) (spares callers phases : ℕ) (sessions : List SessionCalls) (old new : List (Caller N)) → AreSeated spares callers sessions old
    → AreServable phases sessions → AreAt shape told phases old new → All (λ c. c.failed ≡ false) new → ((s : SessionCalls) → Contains sessions s → s.number < callers)
    → EachServed shape told spares callers sessions (answers_by (map replies_of new)) (map (λ c. c.pass) new)
all_served shape told spares callers phases sessions old [] seated servable at well room = record {
  fences = at.fences;
  rising = at.rising;
  each = at.each ∙ seated.each;
  room = room;
  served = λ c p below. absurd (omega (arith, below, at.each, seated.each));
  whole = λ c below. absurd (omega (arith, below, at.each, seated.each));
}
all_served shape told spares callers phases sessions old (x ∷ new) seated servable at well room =
    each_served shape told spares callers phases sessions old (x ∷ new) seated servable at well room x

-- ---- the numbers of sessions

-- each session has a caller
pub room_of : (callers : ℕ) (ss : List Session) → All (λ s. s.number < callers) ss → (s : SessionCalls) → Contains (map session_view ss) s → s.number < callers
room_of callers ss all s there = room_at callers ss all there.0 s there.1 there.2 where
  room_at : (n : ℕ) (xs : List Session) → All (λ x. x.number < n) xs → (i : ℕ) (y : SessionCalls) → i < length (map session_view xs) → get_or (map session_view xs) i y ≡ y → y.number < n
  room_at n [] every i y within is = absurd (omega (arith, within))
  room_at n (x ∷ xs) every zero y within is = subst (λ (z : SessionCalls). z.number < n) is (every 0 x (omega arith))
  room_at n (x ∷ xs) every (suc i) y within is = room_at n xs (λ k d inside. every (suc k) d (omega (arith, inside))) i y (omega (arith, within)) is

module _ (phases : ℕ) (ss : List Session) (servable : AreServable phases (map session_view ss)) where
  seen_at : (i : ℕ) (s : Session) → slice_get ss i ≡ Some s → slice_get (map session_view ss) i ≡ Some (session_view s)
  seen_at i s here = slice_get-map session_view ss i ∙ ap (option_map session_view) here

  pub last_below : (i : ℕ) (s : Session) → slice_get ss i ≡ Some s → s.number < MAX_SESSIONS
  last_below i s here = (servable.each i (session_view s) (seen_at i s here)).session

  -- the last one has the greatest number
  pub none_greater : (s : Session) → slice_get ss (length ss - 1) ≡ Some s → All (λ x. x.number < s.number + 1) ss
  none_greater s here = λ k d within. elim (cases_eq k (length ss - 1)) [
    | inl is ↦
        let same : get_or ss k d ≡ s = ap (λ (i : ℕ). get_or ss i d) is ∙ get_or_from_slice_get ss (length ss - 1) s d here in
        subst (λ (x : Session). x.number < s.number + 1) (sym same) (omega arith)
    | inr differs ↦
        let there : slice_get ss k ≡ Some (get_or ss k d) = slice_get-get_or ss k d within in
        let less : (get_or ss k d).number < s.number =
        servable.apart k (length ss - 1) (session_view (get_or ss k d)) (session_view s) (omega (arith, within, differs)) (seen_at k (get_or ss k d) there) (seen_at (length ss - 1) s here) in
        omega (arith, less)
  ]

-- ---- what holds of a result

pub if_ok : {X E : Type 0} (A : Type 0) (B C D : X → Type 0) (r : Result X E) → (A → (x : X) → B x → C x → D x) → OnOk r A → IfOk r B → IfOk r C → IfOk r D
if_ok A B C D (Ok x) joins a b c = joins a x b c
if_ok A B C D (Err e) joins a b c = tt

pub if_ok_by : {X E : Type 0} (B D : X → Type 0) (r : Result X E) → ((x : X) → B x → D x) → IfOk r B → IfOk r D
if_ok_by B D (Ok x) gives b = gives x b
if_ok_by B D (Err e) gives b = tt

-- ---- stores that come back

-- those that were used stand before the others
pub take_joined : {X : Type 0} (all new rest joined : List X) (n : ℕ) → joined ≡ all ++ (new ++ rest) → all ≡ [] → length new ≡ n → take n joined ≡ new
take_joined {X} all new rest joined n are none long =
    ap (take n) (are ∙ ap (λ (xs : List X). xs ++ (new ++ rest)) none) ∙ ap (λ (k : ℕ). take k (new ++ rest)) (sym long) ∙ take-append_seam new rest
