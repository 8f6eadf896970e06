-- What a closed run teaches of each caller.
use Rattle.std.proofs.Common.{◌≡◌, ℕ, ◌<◌, true, List, ◌++◌, map, ◌∙◌, ap, arith}
use Rattle.std.specs.Prelude.{slice_index_or}
use Rattle.std.proofs.lemmas.List.Elements.{Contains-get_or}
use Rattle.ecp_cluster.specs.declared.answer.Answer.{Answer}
use Rattle.ecp_command.specs.Input.Accepted.{Content}
use Rattle.ecp_coord.specs.Numbers.{AllEnded}
use Rattle.ecp_entry.specs.Items.{item}
use Rattle.ecp_entry.specs.Told.{history_of}
use Rattle.ecp_entry.specs.declared.line.Line.{Line}
use Rattle.ecp_sequencer.specs.Closed.{Closed, IsSettled}
use Rattle.ecp_sequencer.specs.Facts.{HandFacts, entries_noted}
use Rattle.ecp_sequencer.specs.Hands.{own_hand}
use Rattle.ecp_sequencer.specs.Passes.{PassState, first_pass}
use Rattle.ecp_sequencer.specs.Sequencers.{SequencerState}
use Rattle.ecp_sequencer.proofs.NoteLaws.{facts_of-none}
use Rattle.ecp_service.specs.Asked.{calls_in}
use Rattle.ecp_service.specs.Served.{EachServed}
use Rattle.ecp_shape.specs.declared.limits.TheConstants.{MAX_SESSIONS}
use Rattle.ecp_shape.specs.declared.shape.Shape.{Shape}
use Rattle.ecp_service.proofs.served.Callers.{just_noted}
use Rattle.ecp_service.proofs.served.Entries.{HasCaller, HasFenced}
use Rattle.ecp_service.proofs.served.Inputs.{IsInput}
use Rattle.ecp_service.proofs.served.Parts.{all_entries}
use Rattle.ecp_service.proofs.served.Passes.{Went, went}
use Rattle.ecp_service.proofs.served.Stripes.{has_ended}

-- what a pass did whose calls were answered, by the history of the run
pub its_way : (shape : Shape) (callers spares : ℕ) (content : Content) (answers : ℕ → List Answer) (lines : List Line) (passes : List PassState) (s : SequencerState)
    → (each : EachServed shape true spares callers content.sessions answers passes) → Closed shape true callers spares s lines passes → (c : ℕ) → c < callers
    → Went each.fences s.history (first_pass spares c) (calls_in content c) (answers c) (slice_index_or passes c (first_pass spares c))
its_way shape callers spares content answers lines passes s each closed c below =
    let v : PassState = first_pass spares c in
    let w : PassState = slice_index_or passes c v in
    let settled : IsSettled s w = closed.settled c v (omega (arith, below, each.each)) in
    went shape true each.fences s.history v w (calls_in content c) (answers c) settled.begins (each.whole c below) (each.served c v below)

-- the entries of one caller
pub one_caller : (shape : Shape) (callers spares : ℕ) (content : Content) (answers : ℕ → List Answer) (lines : List Line) (passes : List PassState) (s : SequencerState)
    → (each : EachServed shape true spares callers content.sessions answers passes) → Closed shape true callers spares s lines passes → (c : ℕ) → c < callers → c < MAX_SESSIONS
    → HasFenced content answers each.fences (history_of s.history) c
one_caller shape callers spares content answers lines passes s each closed c below session =
    let v : PassState = first_pass spares c in
    let w : PassState = slice_index_or passes c v in
    let gone : Went each.fences s.history v (calls_in content c) (answers c) w = its_way shape callers spares content answers lines passes s each closed c below in
    let settled : IsSettled s w = closed.settled c v (omega (arith, below, each.each)) in
    let noted : entries_noted w.notes ≡ map (item (own_hand spares c)) (all_entries gone.groups) =
    gone.noted ∙ ap (λ (f : HandFacts). f.entries ++ map (item (own_hand spares c)) (all_entries gone.groups)) facts_of-none in
    record {
      has = record {
        groups = gone.groups;
        replies = gone.replies;
        just = just_noted callers spares c s w (all_entries gone.groups) below session closed.kept.made settled gone.hand gone.spare noted;
      };
      fenced = gone.fenced;
    }

-- each call that a pass counted has its end
pub each_ended : (shape : Shape) (callers spares : ℕ) (content : Content) (answers : ℕ → List Answer) (lines : List Line) (passes : List PassState) (s : SequencerState) → IsInput content
    → ((c : ℕ) → c < callers → c < MAX_SESSIONS → HasCaller content answers (history_of s.history) c)
    → EachServed shape true spares callers content.sessions answers passes → Closed shape true callers spares s lines passes → AllEnded callers spares (history_of s.history) passes
each_ended shape callers spares content answers lines passes s input by each closed c below =
    let v : PassState = first_pass spares c in
    let w : PassState = slice_index_or passes c v in (
      w,
      Contains-get_or passes c v (omega (arith, below, each.each)),
      has_ended each.fences s.history spares c content answers (history_of s.history) w input (its_way shape callers spares content answers lines passes s each closed c below) (by c below),
    )
