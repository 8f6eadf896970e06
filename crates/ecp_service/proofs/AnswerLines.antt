-- The reply lines to calls, one behind the other.
use Rattle.std.proofs.Common.{◌≡◌, ℕ, ◌+◌, ◌<◌, List, ◌++◌, length, drop, get_or, refl, ap}
use Rattle.std.specs.Prelude.{flat_map}
use Rattle.std.proofs.lemmas.Option.{slice_get-get_or, slice_get_read}
use Rattle.ecp_cluster.specs.declared.answer.Answer.{Answer}
use Rattle.ecp_service.specs.Served.{answer_line, numbered_replies}
use Rattle.ecp_service.specs.declared.serving.replies.Replies.{Replies}
use Rattle.ecp_service.proofs.JournalLines.{drop_get}

-- the lines from a place on are the one there and those behind it
pub answers_step : (answers : List Answer) (at : ℕ) (a : Answer) → at < length answers → a ≡ get_or answers at a
    → flat_map answer_line (drop at answers) ≡ answer_line a ++ flat_map answer_line (drop (at + 1) answers)
answers_step answers at a within is =
    ap (λ (xs : List Answer). flat_map answer_line xs) (drop_get answers at a (slice_get_read answers (length answers) at a refl within is))

-- so of the sessions with these numbers
pub numbers_step : (replies : List Replies) (numbers : List ℕ) (at : ℕ) → at < length numbers
    → flat_map (numbered_replies replies) (drop at numbers) ≡ numbered_replies replies (get_or numbers at 0) ++ flat_map (numbered_replies replies) (drop (at + 1) numbers)
numbers_step replies numbers at within =
    ap (λ (xs : List ℕ). flat_map (numbered_replies replies) xs) (drop_get numbers at (get_or numbers at 0) (slice_get-get_or numbers at 0 within))
