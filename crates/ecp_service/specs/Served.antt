-- How the sessions of an input were served over nodes, and what is written of it.
use Rattle.std.specs.Prelude.{◌≡◌, ℕ, ◌+◌, ◌<◌, ◌≤◌, ◌==◌, Bool, true, false, if◌then◌else◌, List, [], ◌∷◌, ◌++◌, length, find, flat_map, slice_get, slice_index_or, codes, Contains, ⊤}
use Rattle.std.specs.Option.{option_map_or}
use mathlib.Core.List.{IsPrefix}
use Rattle.ecp_cluster.specs.declared.answer.Answer.{Answer}
use Rattle.ecp_cluster.specs.Puts.{bytes_stored}
use Rattle.ecp_cluster.specs.Summed.{digest_of}
use Rattle.ecp_cluster.specs.Whole.{AreParts, cause_in, count_in, digest_by, file_in, len_in, parts_by}
use Rattle.ecp_command.specs.Input.Calls.{SessionCalls}
use Rattle.ecp_command.specs.declared.input.call.Call.{Call}
use Rattle.ecp_command.specs.declared.input.call.Call.TheVariants.{Put, Read, Sum, Cat}
use Rattle.ecp_command.specs.declared.input.planned.Planned.{Planned}
use Rattle.ecp_entry.specs.ReplyText.{reply_line}
use Rattle.ecp_entry.specs.declared.act.Act.{Act}
use Rattle.ecp_entry.specs.declared.act.Act.TheVariants.{Broken, Data, Whole}
use Rattle.ecp_entry.specs.declared.entry.Entry.{Entry}
use Rattle.ecp_entry.specs.declared.line.Line.{Line}
use Rattle.ecp_entry.specs.declared.reply.Reply.{Reply}
use Rattle.ecp_entry.specs.declared.reply.Reply.TheVariants as reply
use Rattle.ecp_sequencer.specs.Passes.{PassState, first_pass}
use Rattle.ecp_sequencer.specs.Steps.{Called}
use Rattle.ecp_service.specs.Asked.{deed_of}
use Rattle.ecp_service.specs.RunLines.{count_line, lines_from, session_line}
use Rattle.ecp_service.specs.declared.serving.replies.Replies.{Replies}
use Rattle.ecp_shape.specs.declared.shape.Shape.{Shape}

-- The answer says of a file that was read whole, or was not, what these parts do
pub record TellsFile (a : Answer) (parts : List Entry) : Type 0 where
  pub numbered : AreParts 0 parts
  pub counted : length parts ≡ parts_by (count_in parts) a.act
  pub len : a.len ≡ len_in parts
  pub cause : a.cause ≡ cause_in a.act parts
  pub digest : a.digest ≡ digest_by a.act (file_in parts)
  pub none : (a.bytes ≡ []) × (a.by_digest ≡ false)

-- these are the parts, before its end, of a call that was answered so: those of a file that is read whole; any other call has none
abbrev pub HasParts : Call → Answer → List Entry → Type 0
HasParts (Cat name) a parts = TellsFile a parts
HasParts _ a parts = parts ≡ []

-- These are the bytes of the entry that ended a call that was answered so: those of a file that is stored are the call's, and those of a
-- block are the answer's, or are what it has the digest of. Of a file that is read whole the parts have the bytes
abbrev pub Gives : Call → Answer → List ℕ → Type 0
Gives (Put name bytes) a entered = entered ≡ bytes_stored a.act bytes
Gives (Read name index) a entered = (entered ≡ a.bytes) × (a.by_digest ≡ false)
Gives (Sum name index) a entered = (a.by_digest ≡ true) × (a.digest ≡ digest_of a.act entered)
Gives (Cat name) a entered = ⊤
Gives _ a entered = entered ≡ a.bytes

-- the next call of a pass was answered so, by its parts and by the entry that ended it: the pass went from v to w
pub record AnsweredCall (shape : Shape) (told : Bool) (v : PassState) (call : Call) (a : Answer) (w : PassState) : Type 0 where
  pub parts : List Entry
  pub last : Entry
  pub called : Called shape told v (deed_of call) parts last w
  pub act : last.line.act ≡ a.act
  pub parted : HasParts call a parts
  pub gives : Gives call a last.bytes

-- a pass is as it was, but that its front may have grown
pub record Grown (v w : PassState) : Type 0 where
  pub same : w ≡ record v { front = w.front }
  pub longer : IsPrefix v.front w.front

-- A call was answered so, after the front of the pass v had grown. The history was as long as fences says when the call's phase began and
-- when it had ended: the call began no earlier, and ended no later
pub record ServedOne (shape : Shape) (told : Bool) (fences : ℕ → ℕ) (v : PassState) (p : Planned) (a : Answer) (w : PassState) : Type 0 where
  pub from : PassState
  pub grown : Grown v from
  pub begun : fences p.phase ≤ length from.front
  pub answered : AnsweredCall shape told from p.call a w
  pub ended : length w.front ≤ fences (p.phase + 1)

-- the first of the calls, as many as there are answers, were answered so, one after another: a pass went from v to w
abbrev pub Served : Shape → Bool → (ℕ → ℕ) → PassState → List Planned → List Answer → PassState → Type 0
Served shape told fences v calls [] w = Grown v w
Served shape told fences v [] (a ∷ answers) w = ⊥
Served shape told fences v (p ∷ calls) (a ∷ answers) w = (u : PassState) × ServedOne shape told fences v p a u × Served shape told fences u calls answers w

-- the calls of a session, of these sessions
abbrev pub calls_by : List SessionCalls → ℕ → List Planned
calls_by sessions number = option_map_or (λ s. s.calls) (find (λ s. s.number == number) sessions) []

-- All calls of each session were answered so by its caller, which a pass of its own tells. How long the history was when each phase began,
-- the callers mean alike
pub record EachServed (shape : Shape) (told : Bool) (spares callers : ℕ) (sessions : List SessionCalls) (answers : ℕ → List Answer) (passes : List PassState) : Type 0 where
  pub fences : ℕ → ℕ
  pub rising : (i j : ℕ) → i ≤ j → fences i ≤ fences j
  pub each : length passes ≡ callers
  pub room : (s : SessionCalls) → Contains sessions s → s.number < callers
  pub served : (c : ℕ) (p : PassState) → c < callers → Served shape told fences (first_pass spares c) (calls_by sessions c) (answers c) (slice_index_or passes c p)
  pub whole : (c : ℕ) → c < callers → length (answers c) ≡ length (calls_by sessions c)

-- the reply to a call that was ended by an act: a block or its digest, a file of this length, the first part of it without data and how
-- that ended, or the act's own words
abbrev pub reply_by : Act → Bool → ℕ → Act → Reply
reply_by Data by_digest len cause = if by_digest then reply.Sum else reply.Data
reply_by Whole by_digest len cause = reply.File len
reply_by (Broken index) by_digest len cause = reply.Broken index cause
reply_by act by_digest len cause = reply.Ended act

-- the reply to a call that was answered so
abbrev pub reply_for : Answer → Reply
reply_for a = reply_by a.act a.by_digest a.len a.cause

-- its line
abbrev pub answer_line : Answer → List ℕ
answer_line a = reply_line (reply_for a) a.bytes a.digest

-- a line for the session, and one for each of its answers
abbrev pub session_replies : (ℕ → List Answer) → SessionCalls → List ℕ
session_replies answers s = session_line s.number ++ flat_map answer_line (answers s.number)

-- the replies by session, and the journal
abbrev pub served_text : List SessionCalls → (ℕ → List Answer) → List Line → List ℕ
served_text sessions answers lines =
    flat_map (session_replies answers) sessions ++ (count_line lines ++ (lines_from 0 lines ++ codes "end\n"))

-- the answers of a caller, by its number
abbrev pub answers_by : List Replies → ℕ → List Answer
answers_by replies number = option_map_or (λ r. r.answers.items) (slice_get replies number) []

-- a line for a session, and one for each answer of its caller
abbrev pub numbered_replies : List Replies → ℕ → List ℕ
numbered_replies replies number = session_line number ++ flat_map answer_line (answers_by replies number)

-- the replies of the sessions with these numbers, and the journal
abbrev pub run_lines : List ℕ → List Replies → List Line → List ℕ
run_lines numbers replies lines =
    flat_map (numbered_replies replies) numbers ++ (count_line lines ++ (lines_from 0 lines ++ codes "end\n"))
