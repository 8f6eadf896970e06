-- Where an entry stands with which a front ends.
use Rattle.std.proofs.Common.{◌≡◌, ℕ, zero, suc, ◌+◌, List, [], ◌∷◌, ◌++◌, length, Some, refl, sym, ◌∙◌, ap, arith}
use Rattle.std.specs.Prelude.{slice_get}
use mathlib.Core.List.{IsPrefix}
use Rattle.std.proofs.lemmas.List.{length-append}
use Rattle.std.proofs.lemmas.Option.{none-some}
use Rattle.ecp_book.specs.Logs.{Log}
use Rattle.ecp_entry.specs.Items.{item}
use Rattle.ecp_entry.specs.Told.{history_of}
use Rattle.ecp_entry.specs.declared.entry.Entry.{Entry}
use Rattle.ecp_entry.proofs.ToldLaws.{history_of-append, history_of-item}
use Rattle.ecp_sequencer.specs.Steps.{EndsWith}

-- what stands in the first of two lists stands in both together
kept_first : {X : Type 0} (xs ys : List X) (i : ℕ) (x : X) → slice_get xs i ≡ Some x → slice_get (xs ++ ys) i ≡ Some x
kept_first [] ys i x here = absurd (none-some x here)
kept_first (y ∷ xs) ys zero x here = here
kept_first (y ∷ xs) ys (suc i) x here = kept_first xs ys i x here

-- and the last of a list
pub at_end : {X : Type 0} (xs : List X) (x : X) → slice_get (xs ++ x ∷ []) (length xs) ≡ Some x
at_end [] x = refl
at_end (y ∷ xs) x = at_end xs x

-- a history has as many entries as its log has items
length_of : (log : Log) → length (history_of log) ≡ length log
length_of [] = refl
length_of (x ∷ log) = ap suc (length_of log)

-- a log that begins another tells a beginning of its history
same_in : (xs ys : Log) (i : ℕ) (e : Entry) → IsPrefix xs ys → slice_get (history_of xs) i ≡ Some e → slice_get (history_of ys) i ≡ Some e
same_in xs ys i e longer here =
    ap (λ (zs : Log). slice_get (history_of zs) i) (sym longer.1)
    ∙ ap (λ (es : List Entry). slice_get es i) (history_of-append xs longer.0)
    ∙ kept_first (history_of xs) (history_of longer.0) i e here

-- the entry with which a front ends stands in it as the last one
pub record StandsLast (front history : Log) (e : Entry) : Type 0 where
  pub place : ℕ
  pub here : slice_get (history_of history) place ≡ Some e
  pub last : place + 1 ≡ length front

pub stands_last : (hand : ℕ) (front history : Log) (e : Entry) → EndsWith front (item hand e) → IsPrefix front history → StandsLast front history e
stands_last hand front history e ends begins =
    let before : Log = ends.0 in
    record {
      place = length (history_of before);
      here = same_in front history (length (history_of before)) e begins
          (ap (λ (xs : Log). slice_get (history_of xs) (length (history_of before))) ends.1
          ∙ ap (λ (es : List Entry). slice_get es (length (history_of before))) (history_of-append before (item hand e ∷ []) ∙ ap (λ (es : List Entry). history_of before ++ es) (history_of-item hand e))
          ∙ at_end (history_of before) e);
      last = omega (arith, length_of before, ap (λ (xs : Log). length xs) ends.1, length-append before (item hand e ∷ []));
    }
