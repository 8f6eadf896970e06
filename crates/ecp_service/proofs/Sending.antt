-- Texts that are written to a sink one after another.
use Rattle.std.proofs.Common.{◌≡◌, ℕ, ◌≤◌, List, [], ◌++◌, length, take, drop, refl, ap, sym, ◌∙◌, subst, append_assoc, append-nil, take-append-drop, IsTrue, Result, Ok, Err, OnOk, arith}
use Rattle.std.specs.Prelude.{IsErr}
use mathlib.Core.List.{IsPrefix}
use Rattle.std.proofs.Math.Seq.{take-append_seam}
use Rattle.std.proofs.lemmas.List.{append_cancel_left}
use Rattle.ecp_store.specs.Faults.{HasCause, Counts}
use Rattle.ecp_store.specs.declared.failed.Failed.{Failed}
use Rattle.ecp_store.specs.declared.sink.Sink.{Ghosts}
use Rattle.ecp_service.specs.Sinks.{Delivers, Appends, written, Writes}

-- a list begins itself with more behind it
begins : (xs ys : List ℕ) → IsPrefix xs (xs ++ ys)
begins xs ys = (ys, refl)

begins_itself : (xs : List ℕ) → IsPrefix xs xs
begins_itself xs = ([], append-nil xs)

begins_on : (xs ys zs : List ℕ) → IsPrefix xs ys → IsPrefix ys zs → IsPrefix xs zs
begins_on xs ys zs p q = (p.0 ++ q.0, sym (append_assoc xs p.0 q.0) ∙ ap (λ (w : List ℕ). w ++ q.0) p.1 ∙ q.1)

-- what was sent of a text, as a number of its bytes
sent_cut : (before after text : List ℕ) → IsPrefix before after → IsPrefix after (before ++ text) → (count : ℕ) × (after ≡ before ++ take count text)
sent_cut before after text grown within =
    let got : List ℕ = grown.0 in
    let rest : List ℕ = within.0 in
    let whole : before ++ (got ++ rest) ≡ before ++ text =
    sym (append_assoc before got rest) ∙ ap (λ (xs : List ℕ). xs ++ rest) grown.1 ∙ within.1 in
    let front : take (length got) text ≡ got =
    ap (take (length got)) (sym (append_cancel_left before (got ++ rest) text whole)) ∙ take-append_seam got rest in
    (length got, sym grown.1 ∙ ap (λ (xs : List ℕ). before ++ xs) (sym front))

-- faults of one call after another that was `Ok`
counts_then : (r : Result (Unit {0}) Failed) (a b c : ℕ) → a ≤ b → b ≡ a → Counts r b c → Counts r a c
counts_then r a b c le same more = rw (← same) more

counts_err : (e : Failed) (r : Result (Unit {0}) Failed) (a b : ℕ) → IsErr r → Counts {T = Unit {0}} {E = Failed} (Err e) a b → Counts r a b
counts_err e (Ok u) a b is counts = absurd (cc is)
counts_err e (Err e') a b is counts = record { never_falls = counts.never_falls; kept = tt; cause = counts.cause }

no_all : (r : Result (Unit {0}) Failed) (A : Type 0) → IsErr r → OnOk r A
no_all (Ok u) A is = absurd (cc is)
no_all (Err e) A is = tt

counts_ok : (u : Unit {0}) (u' : Unit {0}) (a b : ℕ) → Counts {T = Unit {0}} {E = Failed} (Ok u) a b → Counts {T = Unit {0}} {E = Failed} (Ok u') a b
counts_ok u u' a b counts = record { never_falls = counts.never_falls; kept = counts.kept; cause = tt }

module _ {W : Type 0} (g : Ghosts W) where
  -- the first of two texts could not be written whole
  pub writes_first : (e : Failed) (r : Result (Unit {0}) Failed) (old new : W × List ℕ) (one two : List ℕ) → IsErr r
      → Writes {W = W} {T = Unit {0}} {E = Failed} g (Err e) old new one → Writes g r old new (one ++ two)
  writes_first e r old new one two is w = record {
    all = λ told. no_all r (written g new ≡ written g old ++ (one ++ two)) is;
    grows = w.grows;
    within = λ told. subst (λ (xs : List ℕ). IsPrefix (g.appended new.0) xs) (append_assoc (written g old) one two)
        (begins_on (g.appended new.0) (written g old ++ one) ((written g old ++ one) ++ two) (w.within told) (begins (written g old ++ one) two));
    counts = counts_err e r (g.faults old.0) (g.faults new.0) is w.counts;
  }

  took_then : (old mid new : W × List ℕ) (one two : List ℕ) → written g mid ≡ written g old ++ one → written g new ≡ written g mid ++ two
      → written g new ≡ written g old ++ (one ++ two)
  took_then old mid new one two first second = second ∙ ap (λ (xs : List ℕ). xs ++ two) first ∙ append_assoc (written g old) one two

  all_then : (r : Result (Unit {0}) Failed) (old mid new : W × List ℕ) (one two : List ℕ) → written g mid ≡ written g old ++ one
      → OnOk r (written g new ≡ written g mid ++ two) → OnOk r (written g new ≡ written g old ++ (one ++ two))
  all_then (Ok u) old mid new one two first second = took_then old mid new one two first second
  all_then (Err e) old mid new one two first second = tt

  -- a text behind one that was written
  pub writes_then : (u : Unit {0}) (r : Result (Unit {0}) Failed) (old mid new : W × List ℕ) (one two : List ℕ)
      → Writes {W = W} {T = Unit {0}} {E = Failed} g (Ok u) old mid one → Writes g r mid new two → Writes g r old new (one ++ two)
  writes_then u r old mid new one two first second = record {
    all = λ told. all_then r old mid new one two (first.all told) (second.all told);
    grows = λ told. begins_on (g.appended old.0) (g.appended mid.0) (g.appended new.0) (first.grows told) (second.grows told);
    within = λ told. subst (λ (xs : List ℕ). IsPrefix (g.appended new.0) xs) (ap (λ (xs : List ℕ). xs ++ two) (first.all told) ∙ append_assoc (written g old) one two) (second.within told);
    counts = counts_then r (g.faults old.0) (g.faults mid.0) (g.faults new.0) first.counts.never_falls first.counts.kept second.counts;
  }

  -- nothing was written
  pub writes_nothing : (u : Unit {0}) (old : W × List ℕ) → Writes {W = W} {T = Unit {0}} {E = Failed} g (Ok u) old old []
  writes_nothing u old = record {
    all = λ told. sym (append-nil (written g old));
    grows = λ told. begins_itself (g.appended old.0);
    within = λ told. subst (λ (xs : List ℕ). IsPrefix (g.appended old.0) xs) (sym (append-nil (written g old))) (begins (g.appended old.0) old.1);
    counts = record { never_falls = omega arith; kept = refl; cause = tt };
  }

  -- what is written so far, and the rest, are the whole text
  pub record IsUnderway (old new : W × List ℕ) (rest whole : List ℕ) : Type 0 where
    pub told : IsTrue g.tells → written g new ++ rest ≡ written g old ++ whole
    pub grows : IsTrue g.tells → IsPrefix (g.appended old.0) (g.appended new.0)
    pub sound : g.faults new.0 ≡ g.faults old.0

  pub underway_start : (old : W × List ℕ) (whole : List ℕ) → IsUnderway old old whole whole
  underway_start old whole = record { told = λ told. refl; grows = λ told. begins_itself (g.appended old.0); sound = refl }

  -- one text more was written of the rest
  pub underway_step : (u : Unit {0}) (old mid new : W × List ℕ) (one rest whole : List ℕ) → IsUnderway old mid (one ++ rest) whole
      → Writes {W = W} {T = Unit {0}} {E = Failed} g (Ok u) mid new one → IsUnderway old new rest whole
  underway_step u old mid new one rest whole was w = record {
    told = λ told. ap (λ (xs : List ℕ). xs ++ rest) (w.all told) ∙ append_assoc (written g mid) one rest ∙ was.told told;
    grows = λ told. begins_on (g.appended old.0) (g.appended mid.0) (g.appended new.0) (was.grows told) (w.grows told);
    sound = w.counts.kept ∙ was.sound;
  }

  -- one text more of the rest could not be written whole
  pub underway_fail : (e : Failed) (r : Result (Unit {0}) Failed) (old mid new : W × List ℕ) (one rest whole : List ℕ) → IsErr r → IsUnderway old mid (one ++ rest) whole
      → Writes {W = W} {T = Unit {0}} {E = Failed} g (Err e) mid new one → Writes g r old new whole
  underway_fail e r old mid new one rest whole is was w = record {
    all = λ told. no_all r (written g new ≡ written g old ++ whole) is;
    grows = λ told. begins_on (g.appended old.0) (g.appended mid.0) (g.appended new.0) (was.grows told) (w.grows told);
    within = λ told. subst (λ (xs : List ℕ). IsPrefix (g.appended new.0) xs) (append_assoc (written g mid) one rest ∙ was.told told)
        (begins_on (g.appended new.0) (written g mid ++ one) ((written g mid ++ one) ++ rest) (w.within told) (begins (written g mid ++ one) rest));
    counts = counts_err e r (g.faults old.0) (g.faults new.0) is (rw was.sound at w.counts);
  }

  -- nothing is left of the text
  pub underway_end : (u : Unit {0}) (old new : W × List ℕ) (whole : List ℕ) → IsUnderway old new [] whole → Writes {W = W} {T = Unit {0}} {E = Failed} g (Ok u) old new whole
  underway_end u old new whole was =
      let all : IsTrue g.tells → written g new ≡ written g old ++ whole = λ told. sym (append-nil (written g new)) ∙ was.told told in
      record {
        all = all;
        grows = was.grows;
        within = λ told. subst (λ (xs : List ℕ). IsPrefix (g.appended new.0) xs) (all told) (begins (g.appended new.0) new.1);
        counts = record { never_falls = omega (arith, was.sound); kept = was.sound; cause = tt };
      }

  -- what is pending was appended, or a beginning of it
  pub sent_ok : (u : Unit {0}) (u' : Unit {0}) (old new : W) (pending : List ℕ) → Appends {W = W} {T = Unit {0}} {E = Failed} g (Ok u) old new pending
      → Writes {W = W} {T = Unit {0}} {E = Failed} g (Ok u') (old, pending) (new, []) []
  sent_ok u u' old new pending a = record {
    all = λ told. append-nil (g.appended new) ∙ a.all told ∙ sym (append-nil (g.appended old ++ pending));
    grows = λ told. (pending, sym (a.all told));
    within = λ told. ([], append-nil (g.appended new) ∙ a.all told ∙ sym (append-nil (g.appended old ++ pending)));
    counts = counts_ok u u' (g.faults old) (g.faults new) a.counts;
  }

  pub sent_err : (e : Failed) (r : Result (Unit {0}) Failed) (old new : W) (pending kept : List ℕ) → IsErr r → Appends {W = W} {T = Unit {0}} {E = Failed} g (Err e) old new pending
      → Writes g r (old, pending) (new, kept) []
  sent_err e r old new pending kept is a = record {
    all = λ told. no_all r (g.appended new ++ kept ≡ (g.appended old ++ pending) ++ []) is;
    grows = λ told. (take (a.some told).0 pending, sym (a.some told).1);
    within = λ told.
        let count = (a.some told).0 in (
          drop count pending,
          ap (λ (xs : List ℕ). xs ++ drop count pending) (a.some told).1 ∙ append_assoc (g.appended old) (take count pending) (drop count pending)
              ∙ ap (λ (xs : List ℕ). g.appended old ++ xs) (take-append-drop count pending) ∙ sym (append-nil (g.appended old ++ pending)),
        );
    counts = counts_err e r (g.faults old) (g.faults new) is a.counts;
  }

  -- a text was added to what is pending
  pub added : (u : Unit {0}) (old : W) (pending text : List ℕ) → Writes {W = W} {T = Unit {0}} {E = Failed} g (Ok u) (old, pending) (old, pending ++ text) text
  added u old pending text = record {
    all = λ told. sym (append_assoc (g.appended old) pending text);
    grows = λ told. begins_itself (g.appended old);
    within = λ told. subst (λ (xs : List ℕ). IsPrefix (g.appended old) xs) (sym (append_assoc (g.appended old) pending text)) (begins (g.appended old) (pending ++ text));
    counts = record { never_falls = omega arith; kept = refl; cause = tt };
  }

  -- a failure while a text is written behind nothing that is pending
  pub writes_part : (e : Failed) (r : Result (Unit {0}) Failed) (old : W) (new : W × List ℕ) (text : List ℕ) → IsErr r
      → Writes {W = W} {T = Unit {0}} {E = Failed} g (Err e) (old, []) new text → Delivers g r old new.0 text
  writes_part e (Ok u) old new text is w = absurd (cc is)
  writes_part e (Err e') old new text is w = record {
    got = λ told. sent_cut (g.appended old) (g.appended new.0) text (w.grows told)
        (subst (λ (xs : List ℕ). IsPrefix (g.appended new.0) (xs ++ text)) (append-nil (g.appended old)) (w.within told));
    failed = w.counts.cause;
  }

  -- all that was written is delivered
  pub delivered : (u : Unit {0}) (r : Result (Unit {0}) Failed) (old : W) (mid : W × List ℕ) (new : W) (text : List ℕ)
      → Writes {W = W} {T = Unit {0}} {E = Failed} g (Ok u) (old, []) mid text → Delivers g r mid.0 new mid.1 → Delivers g r old new text
  delivered u (Ok v) old mid new text w d =
      let all : IsTrue g.tells → g.appended mid.0 ++ mid.1 ≡ g.appended old ++ text = λ told. w.all told ∙ ap (λ (xs : List ℕ). xs ++ text) (append-nil (g.appended old)) in
      record {
        got = λ told. d.got told ∙ all told;
        flushed = d.flushed;
        sound = d.sound ∙ w.counts.kept;
      }
  delivered u (Err e) old mid new text w d =
      let all : IsTrue g.tells → g.appended mid.0 ++ mid.1 ≡ g.appended old ++ text = λ told. w.all told ∙ ap (λ (xs : List ℕ). xs ++ text) (append-nil (g.appended old)) in
      record {
        got = λ told.
            let count = (d.got told).0 in
            sent_cut (g.appended old) (g.appended new) text
            (begins_on (g.appended old) (g.appended mid.0) (g.appended new) (w.grows told) (take count mid.1, sym (d.got told).1)) (
              drop count mid.1,
              ap (λ (xs : List ℕ). xs ++ drop count mid.1) (d.got told).1 ∙ append_assoc (g.appended mid.0) (take count mid.1) (drop count mid.1)
                  ∙ ap (λ (xs : List ℕ). g.appended mid.0 ++ xs) (take-append-drop count mid.1) ∙ all told,
            );
        failed = rw (← w.counts.kept) d.failed;
      }

  -- a failure while what is pending is sent
  pub pending_part : (e : Failed) (r : Result (Unit {0}) Failed) (old : W) (pending : List ℕ) (new : W × List ℕ) → IsErr r
      → Writes {W = W} {T = Unit {0}} {E = Failed} g (Err e) (old, pending) new [] → Delivers g r old new.0 pending
  pending_part e (Ok u) old pending new is w = absurd (cc is)
  pending_part e (Err e') old pending new is w = record {
    got = λ told. sent_cut (g.appended old) (g.appended new.0) pending (w.grows told)
        (subst (λ (xs : List ℕ). IsPrefix (g.appended new.0) xs) (append-nil (g.appended old ++ pending)) (w.within told));
    failed = w.counts.cause;
  }

  -- what is pending was sent, and then the sink was flushed
  pub flushed_pending : (u : Unit {0}) (r : Result (Unit {0}) Failed) (old : W) (pending : List ℕ) (mid : W × List ℕ) (new : W) → mid.1 ≡ []
      → Writes {W = W} {T = Unit {0}} {E = Failed} g (Ok u) (old, pending) mid []
      → (IsTrue g.tells → OnOk r (g.flushed new ≡ length (g.appended new))) → (IsTrue g.tells → g.appended new ≡ g.appended mid.0)
      → OnOk r (g.faults new ≡ g.faults mid.0) → HasCause r (g.faults mid.0) (g.faults new) → Delivers g r old new pending
  flushed_pending u (Ok v) old pending mid new empty w flushed same kept cause = record {
    got = λ told. same told ∙ sym (append-nil (g.appended mid.0)) ∙ ap (λ (xs : List ℕ). g.appended mid.0 ++ xs) (sym empty) ∙ w.all told ∙ append-nil (g.appended old ++ pending);
    flushed = flushed;
    sound = kept ∙ w.counts.kept;
  }
  flushed_pending u (Err e) old pending mid new empty w flushed same kept cause = record {
    got = λ told. sent_cut (g.appended old) (g.appended new) pending
        (subst (λ (xs : List ℕ). IsPrefix (g.appended old) xs) (sym (same told)) (w.grows told))
        (subst (λ (xs : List ℕ). IsPrefix xs (g.appended old ++ pending)) (sym (same told))
        (subst (λ (xs : List ℕ). IsPrefix (g.appended mid.0) xs) (append-nil (g.appended old ++ pending)) (w.within told)));
    failed = rw w.counts.kept at cause;
  }
