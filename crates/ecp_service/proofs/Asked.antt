-- What is promised for the commands that are wanted holds for those that words ask for.
use Rattle.std.proofs.Common.{ℕ, List, inl, inr, refl, subst}
use Rattle.ecp_command.specs.Words.{IsSpelled}
use Rattle.ecp_command.specs.declared.words.commands.Command.{Command}
use Rattle.ecp_command.specs.declared.words.commands.Command.TheVariants.{Run, RunDir, Mend, Check, Soak}
use Rattle.ecp_service.specs.Answers.{Asks, IsAnswer, Only, Wanted, NothingWanted, WantsScript}
use Rattle.ecp_service.specs.Ends.{Ends, Answers, IsCutShort, IsStopped, IsTold, IsTakenFrom}
use Rattle.ecp_service.specs.Paid.{Storage}
use Rattle.ecp_service.specs.Stops.{IsReason}
use Rattle.ecp_service.specs.declared.stop.Stop.{Stop}
use Rattle.ecp_service.specs.declared.stop.Stop.TheVariants.{Usage, Refused, ReadFault, NoMemory, TooLong}
use Rattle.ecp_store.specs.declared.sink.Sink as sink
use Rattle.ecp_store.specs.declared.source.Source as source

-- what is asked for is spelled
pub spelled_asked : (words : List (List ℕ)) (asked : Command) → Asks words asked → IsSpelled words asked
spelled_asked words (Mend k n t) asks = asks
spelled_asked words Run asks = asks
spelled_asked words (RunDir path) asks = absurd asks
spelled_asked words Check asks = asks
spelled_asked words (Soak seed) asks = absurd asks

-- words that ask for a row ask for no script
pub no_script : (words : List (List ℕ)) (k n t : ℕ) → WantsScript (Asks words) → IsSpelled words (Mend k n t) → ⊥
no_script words k n t (inl is_run) is_mend = let e = is_mend.1 in absurd (cc)
no_script words k n t (inr is_check) is_mend = let e = is_mend.1 in absurd (cc)

-- what wants a script is spelled
pub script_spelled : (words : List (List ℕ)) → WantsScript (Asks words) → (c : Command) × IsSpelled words c
script_spelled words (inl is_run) = (Run, is_run)
script_spelled words (inr is_check) = (Check, is_check)

-- a row alone is no script
no_row_script : (k n t : ℕ) → WantsScript (Only (Mend k n t)) → ⊥
no_row_script k n t (inl same) = cc same
no_row_script k n t (inr same) = cc same

-- where no less is asked for than is wanted, a script is asked for that is wanted
more_script : (wanted asked : Wanted) → ((c : Command) → wanted c → asked c) → WantsScript wanted → WantsScript asked
more_script wanted asked more (inl runs) = inl (more Run runs)
more_script wanted asked more (inr checks) = inr (more Check checks)

module _ {R W E : Type 0} (s : source.Ghosts R) (w : sink.Ghosts W) (e : sink.Ghosts E) (wanted asked : Wanted) where
  -- what is told, where no more is asked for than is wanted
  pub told_asked : (old new : R) (status : ℕ) → (NothingWanted asked → NothingWanted wanted) → (WantsScript asked → WantsScript wanted)
      → IsTold s wanted old new status → IsTold s asked old new status
  told_asked old new status nothing script told = record {
    usage = λ none. told.usage (nothing none);
    too_long = told.too_long;
    refused = λ asks. told.refused (script asks);
  }

  pub taken_asked : (old new : R) → (NothingWanted asked → NothingWanted wanted) → IsTakenFrom s wanted old new → IsTakenFrom s asked old new
  taken_asked old new nothing taken = record { few = taken.few; untouched = λ none. taken.untouched (nothing none) }

  reason_asked : (old new : R) (stop : Stop) → (NothingWanted wanted → NothingWanted asked) → (WantsScript wanted → WantsScript asked)
      → IsReason s wanted old new stop → IsReason s asked old new stop
  reason_asked old new Usage nothing script is = nothing is
  reason_asked old new (Refused r) nothing script is = (script is.0, is.1)
  reason_asked old new ReadFault nothing script is = is
  reason_asked old new NoMemory nothing script is = is
  reason_asked old new TooLong nothing script is = is

  answers_asked : (d : Storage) (old new : R) (text : List ℕ) → ((c : Command) → wanted c → asked c) → Answers s wanted d old new text → Answers s asked d old new text
  answers_asked d old new text more a = record { bytes = a.bytes; read = a.read; command = a.command; asked = more a.command a.asked; answer = a.answer }

  -- what is cut short, where no less is asked for than is wanted
  pub cut_asked : (d : Storage) (old new : Ends R W E) → ((c : Command) → wanted c → asked c) → (NothingWanted wanted → NothingWanted asked)
      → IsCutShort s w e wanted d old new → IsCutShort s w e asked d old new
  cut_asked d old new more nothing (inl cut) =
      inl (record { text = cut.text; answer = answers_asked d old.input new.input cut.text more cut.answer; got = cut.got; quiet = cut.quiet })
  cut_asked d old new more nothing (inr cut) =
      inr (record { stop = cut.stop; reason = reason_asked old.input new.input cut.stop nothing (more_script wanted asked more) cut.reason; said = cut.said; nothing = cut.nothing })

  -- and what is stopped
  pub stopped_asked : (old new : Ends R W E) (status : ℕ) → ((c : Command) → wanted c → asked c) → (NothingWanted wanted → NothingWanted asked)
      → IsStopped s e wanted old new status → IsStopped s e asked old new status
  stopped_asked old new status more nothing stopped = record {
    stop = stopped.stop;
    coded = stopped.coded;
    reason = reason_asked old.input new.input stopped.stop nothing (more_script wanted asked more) stopped.reason;
    said = stopped.said;
    nothing = stopped.nothing;
  }

-- what is cut short of the count of calls, whatever stores there are
pub check_cut : {R W E : Type 0} (s : source.Ghosts R) (w : sink.Ghosts W) (e : sink.Ghosts E) (asked : Wanted) (d other : Storage) (old new : Ends R W E)
    → asked Check → IsCutShort s w e (Only Check) d old new → IsCutShort s w e asked other old new
check_cut s w e asked d other old new is (inl cut) =
    inl (record {
      text = cut.text;
      answer = record {
        bytes = cut.answer.bytes;
        read = cut.answer.read;
        command = Check;
        asked = is;
        answer = subst (λ (c : Command). IsAnswer d c cut.answer.bytes cut.text) cut.answer.asked cut.answer.answer;
      };
      got = cut.got;
      quiet = cut.quiet;
    })
check_cut s w e asked d other old new is (inr cut) =
    inr (record {
      stop = cut.stop;
      reason = reason_asked s w e (Only Check) asked old.input new.input cut.stop (λ none. absurd (none Check refl)) (λ script. inr is) cut.reason;
      said = cut.said;
      nothing = cut.nothing;
    })

-- what is cut short of a row, whatever stores there are
pub mend_cut : {R W E : Type 0} (s : source.Ghosts R) (w : sink.Ghosts W) (e : sink.Ghosts E) (asked : Wanted) (k n t : ℕ) (d other : Storage) (old new : Ends R W E)
    → asked (Mend k n t) → IsCutShort s w e (Only (Mend k n t)) d old new → IsCutShort s w e asked other old new
mend_cut s w e asked k n t d other old new is (inl cut) =
    inl (record {
      text = cut.text;
      answer = record {
        bytes = cut.answer.bytes;
        read = cut.answer.read;
        command = Mend k n t;
        asked = is;
        answer = subst (λ (c : Command). IsAnswer d c cut.answer.bytes cut.text) cut.answer.asked cut.answer.answer;
      };
      got = cut.got;
      quiet = cut.quiet;
    })
mend_cut s w e asked k n t d other old new is (inr cut) =
    inr (record {
      stop = cut.stop;
      reason = reason_asked s w e (Only (Mend k n t)) asked old.input new.input cut.stop (λ none. absurd (none (Mend k n t) refl)) (λ script. absurd (no_row_script k n t script)) cut.reason;
      said = cut.said;
      nothing = cut.nothing;
    })
