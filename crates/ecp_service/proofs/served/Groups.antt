-- All entries of calls that were answered, one call after another.
use Rattle.std.proofs.Common.{◌≡◌, ◌≢◌, ℕ, zero, suc, ◌+◌, ◌<◌, ◌≤◌, ◌==◌, Bool, true, false, List, [], ◌∷◌, ◌++◌, Some, refl, sym, ◌∙◌, ap, arith, add-zero, append-nil}
use Rattle.std.specs.Prelude.{filter, slice_get}
use Rattle.std.specs.List.{AllByRecursion}
use Rattle.std.proofs.lemmas.Bool.{eq-eqb, ne_eqb}
use Rattle.std.proofs.lemmas.List.Elements.{filter-append}
use Rattle.std.proofs.lemmas.Option.{none-some, same_Some}
use Rattle.ecp_cluster.specs.declared.answer.Answer.{Answer}
use Rattle.ecp_command.specs.declared.input.planned.Planned.{Planned}
use Rattle.ecp_entry.specs.declared.entry.Entry.{Entry}
use Rattle.ecp_history.specs.Spans.{is_end}
use Rattle.ecp_service.proofs.served.Lists.{all_append, all_weaker, filter_all, filter_last, filter_none}
use Rattle.ecp_service.proofs.served.Parts.{CallEntries, all_entries, ended, ends_of, entries_of}
use Rattle.ecp_service.proofs.served.Passes.{AreReplies, IsIn, next_is}

-- ---- by their calls

-- whether an entry is of the call with this number
abbrev pub is_in_call : ℕ → Entry → Bool
is_in_call n e = e.line.call == n

none_in : (c m n : ℕ) (p : Planned) (es : List Entry) → m ≢ n → AllByRecursion (IsIn c m p) es → filter (is_in_call n) es ≡ []
none_in c m n p es apart own =
    filter_none (is_in_call n) es
    (all_weaker (IsIn c m p) (λ (e : Entry). is_in_call n e ≡ false) es (λ e is. ap (λ (k : ℕ). k == n) is.call ∙ ne_eqb m n apart) own)

all_in : (c n : ℕ) (p : Planned) (es : List Entry) → AllByRecursion (IsIn c n p) es → filter (is_in_call n) es ≡ es
all_in c n p es own =
    filter_all (is_in_call n) es (all_weaker (IsIn c n p) (λ (e : Entry). is_in_call n e ≡ true) es (λ e is. eq-eqb e.line.call n is.call) own)

-- later calls have none of an earlier one
none_later : (c m n : ℕ) (calls : List Planned) (answers : List Answer) (groups : List CallEntries) → AreReplies c m calls answers groups → n < m → filter (is_in_call n) (all_entries groups) ≡ []
none_later c m n [] [] [] are less = refl
none_later c m n (p ∷ calls) (a ∷ answers) (g ∷ groups) are less =
    filter-append (is_in_call n) (entries_of g) (all_entries groups)
    ∙ ap (λ (es : List Entry). es ++ filter (is_in_call n) (all_entries groups)) (none_in c m n p (entries_of g) (λ is. omega (arith, is, less)) are.0.own)
    ∙ none_later c (m + 1) n calls answers groups are.1 (omega (arith, less))
none_later c m n [] [] (g ∷ groups) are less = absurd are
none_later c m n [] (a ∷ answers) _ are less = absurd are
none_later c m n (p ∷ calls) [] _ are less = absurd are
none_later c m n (p ∷ calls) (a ∷ answers) [] are less = absurd are

-- those with the number of a call are its
pub just_of_call : (c n : ℕ) (calls : List Planned) (answers : List Answer) (groups : List CallEntries) (k : ℕ) (g : CallEntries) → AreReplies c n calls answers groups → slice_get groups k ≡ Some g
    → filter (is_in_call (n + k)) (all_entries groups) ≡ entries_of g
just_of_call c n [] [] [] k g are here = absurd (none-some g here)
just_of_call c n (p ∷ calls) (a ∷ answers) (x ∷ groups) zero g are here =
    ap (λ (m : ℕ). filter (is_in_call m) (entries_of x ++ all_entries groups)) (add-zero n)
    ∙ filter-append (is_in_call n) (entries_of x) (all_entries groups)
    ∙ ap (λ (es : List Entry). es ++ filter (is_in_call n) (all_entries groups)) (all_in c n p (entries_of x) are.0.own)
    ∙ ap (λ (es : List Entry). entries_of x ++ es) (none_later c (n + 1) n calls answers groups are.1 (omega arith))
    ∙ append-nil (entries_of x)
    ∙ ap entries_of (same_Some x g here)
just_of_call c n (p ∷ calls) (a ∷ answers) (x ∷ groups) (suc k) g are here =
    filter-append (is_in_call (n + suc k)) (entries_of x) (all_entries groups)
    ∙ ap (λ (es : List Entry). es ++ filter (is_in_call (n + suc k)) (all_entries groups)) (none_in c n (n + suc k) p (entries_of x) (λ is. omega (arith, is)) are.0.own)
    ∙ ap (λ (m : ℕ). filter (is_in_call m) (all_entries groups)) (sym (next_is n k))
    ∙ just_of_call c (n + 1) calls answers groups k g are.1 here
just_of_call c n [] [] (x ∷ groups) k g are here = absurd are
just_of_call c n [] (a ∷ answers) _ k g are here = absurd are
just_of_call c n (p ∷ calls) [] _ k g are here = absurd are
just_of_call c n (p ∷ calls) (a ∷ answers) [] k g are here = absurd are

-- ---- their order

-- the calls of these entries do not fall
abbrev pub Rising : List Entry → Type 0
Rising [] = Unit {0}
Rising (e ∷ es) = AllByRecursion (λ x. e.line.call ≤ x.line.call) es × Rising es

rising_append : (c n : ℕ) (p : Planned) (xs ys : List Entry) → AllByRecursion (IsIn c n p) xs → AllByRecursion (λ e. n ≤ e.line.call) ys → Rising ys → Rising (xs ++ ys)
rising_append c n p [] ys own above rise = rise
rising_append c n p (x ∷ xs) ys own above rise =
    let mine : x.line.call ≡ n = own.0.call in
    let first : AllByRecursion (λ e. x.line.call ≤ e.line.call) xs =
    all_weaker (IsIn c n p) (λ (e : Entry). x.line.call ≤ e.line.call) xs (λ e is. let its : e.line.call ≡ n = is.call in omega (arith, mine, its)) own.1 in
    let second : AllByRecursion (λ e. x.line.call ≤ e.line.call) ys =
    all_weaker (λ (e : Entry). n ≤ e.line.call) (λ (e : Entry). x.line.call ≤ e.line.call) ys (λ e le. omega (arith, mine, le)) above in
    (all_append (λ (e : Entry). x.line.call ≤ e.line.call) xs ys first second, rising_append c n p xs ys own.1 above rise)

from_number : (c n least : ℕ) (calls : List Planned) (answers : List Answer) (groups : List CallEntries) → AreReplies c n calls answers groups → least ≤ n
    → AllByRecursion (λ e. least ≤ e.line.call) (all_entries groups)
from_number c n least [] [] [] are le = tt
from_number c n least (p ∷ calls) (a ∷ answers) (g ∷ groups) are le =
    let first : AllByRecursion (λ e. least ≤ e.line.call) (entries_of g) =
    all_weaker (IsIn c n p) (λ (e : Entry). least ≤ e.line.call) (entries_of g) (λ e is. let its : e.line.call ≡ n = is.call in omega (arith, its, le)) are.0.own in
    all_append (λ (e : Entry). least ≤ e.line.call) (entries_of g) (all_entries groups) first (from_number c (n + 1) least calls answers groups are.1 (omega (arith, le)))
from_number c n least [] [] (g ∷ groups) are le = absurd are
from_number c n least [] (a ∷ answers) _ are le = absurd are
from_number c n least (p ∷ calls) [] _ are le = absurd are
from_number c n least (p ∷ calls) (a ∷ answers) [] are le = absurd are

pub rising : (c n : ℕ) (calls : List Planned) (answers : List Answer) (groups : List CallEntries) → AreReplies c n calls answers groups → Rising (all_entries groups)
rising c n [] [] [] are = tt
rising c n (p ∷ calls) (a ∷ answers) (g ∷ groups) are =
    rising_append c n p (entries_of g) (all_entries groups) are.0.own (from_number c (n + 1) n calls answers groups are.1 (omega arith)) (rising c (n + 1) calls answers groups are.1)
rising c n [] [] (g ∷ groups) are = absurd are
rising c n [] (a ∷ answers) _ are = absurd are
rising c n (p ∷ calls) [] _ are = absurd are
rising c n (p ∷ calls) (a ∷ answers) [] are = absurd are

-- ---- their ends

-- one of each call ends it
pub just_ends : (c n : ℕ) (calls : List Planned) (answers : List Answer) (groups : List CallEntries) → AreReplies c n calls answers groups → filter ended (all_entries groups) ≡ ends_of groups
just_ends c n [] [] [] are = refl
just_ends c n (p ∷ calls) (a ∷ answers) (g ∷ groups) are =
    filter-append ended (entries_of g) (all_entries groups)
    ∙ ap (λ (es : List Entry). es ++ filter ended (all_entries groups)) (filter_last ended g.parts g.last are.0.unended (ap is_end are.0.last))
    ∙ ap (λ (es : List Entry). g.last ∷ es) (just_ends c (n + 1) calls answers groups are.1)
just_ends c n [] [] (g ∷ groups) are = absurd are
just_ends c n [] (a ∷ answers) _ are = absurd are
just_ends c n (p ∷ calls) [] _ are = absurd are
just_ends c n (p ∷ calls) (a ∷ answers) [] are = absurd are
