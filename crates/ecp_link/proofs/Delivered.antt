-- Each kind of step keeps the rule of the queue.
use Rattle.std.proofs.Common.{◌≡◌, ◌≢◌, ⊎_elim, ℕ, ◌+◌, ◌<◌, ◌≤◌, true, true≢false, List, [], ◌∷◌, ◌++◌, length, set, refl, sym, ap, ◌∙◌, subst, arith, append_assoc, length-append, length-set, lt_of_not-le}
use Rattle.std.specs.Prelude.{Some, None, slice_get, replicate}
use Rattle.std.proofs.lemmas.List.{append-nil, length-replicate, replicate-append-replicate}
use mathlib.Core.Option.{some}
use mathlib.Core.Logic.{dite}
use native.Mathlib.Decide.{ℕ_discrete}
use lib.ListN.{get_elem?}
use Rattle.atomic_table.specs.Seated.{TableId}
use Rattle.crossbeam_queue.specs.Fifo.{Pushes, Pops, Forks, Merges, Learns, Held}
use Rattle.crossbeam_queue.proofs.Lists.{at_set}
use Rattle.ecp_link.specs.declared.known.Known.{Known}
use Rattle.ecp_link.specs.declared.by_queue.view.Parcel.{Parcel}
use Rattle.ecp_link.specs.declared.by_queue.view.View.{View}
use Rattle.ecp_link.specs.Links.{IsInOrder, IsBeginning, unknown, with_taken, with_ended}
use Rattle.ecp_link.specs.Queued.{Sending, Taking, Takes, IsNext, AreAllTaken, of, known_of}
use Rattle.ecp_link.specs.Delivering.{sender_of, taker_of, spent, known_after, known_ended, Fits, IsDelivering, HoldsOwn, HoldsRest}
use Rattle.ecp_link.proofs.Views.{changed, changed_here, changed_else, Each, each_set, each_more}
use Rattle.ecp_link.proofs.Order.{parcel, of-append, of_own, of_other, known_past, known_more, each_known, never_nil, of_none, get_snoc, get_last}

module _ {T : Type 0} where
  -- the sender p, which another seat is, has pushed more
  still_pushed : (sent : ℕ → List T) (seats : ℕ → ℕ) (taker : ℕ) (known : List (Known T)) (pass p : ℕ) (more : List T) → seats p ≡ pass
      → (j : ℕ) (u : View T) → j ≢ pass → Fits sent seats taker known j u → Fits (changed sent p more) seats taker known j u
  still_pushed sent seats taker known pass p more is j u apart h =
      let elsewhere : (q : ℕ) → seats q ≡ j → changed sent p more q ≡ sent q =
      λ q own. changed_else sent p more q (λ (e : q ≡ p). apart (sym own ∙ ap seats e ∙ is)) in
      record {
        own = λ t. let o = h.own t in (o.0, o.1 ∙ sym (elsewhere u.from o.0));
        reader = h.reader;
        unmade = λ t q le. let o = h.unmade t q le in (o.0, elsewhere q o.0 ∙ o.1);
        ended = λ t q all e. let o = h.ended t q all e in (o.0, elsewhere q o.0 ∙ o.1);
      }

  -- a sender's own view
  fits_sender : (sent : ℕ → List T) (seats : ℕ → ℕ) (taker : ℕ) (known : List (Known T)) (j p : ℕ) (xs : List T) → seats p ≡ j → xs ≡ sent p → Fits sent seats taker known j (sender_of p xs)
  fits_sender sent seats taker known j p xs own is = record {
    own = λ t. (own, is);
    reader = λ t. absurd (true≢false (sym t));
    unmade = λ t. absurd (true≢false (sym t));
    ended = λ t. absurd (true≢false (sym t));
  }

  pub begins : IsDelivering [] (taker_of {T = T} [] ∷ [])
  begins = record {
    sent = λ p. [];
    seats = λ p. 0;
    taker = 0;
    known = [];
    order = λ p. refl;
    fits = each_more (Fits (λ p. []) (λ p. 0) 0 []) [] (taker_of []) record {
      own = λ t. absurd (true≢false (sym t));
      reader = λ t. (refl, refl);
      unmade = λ t p le. (refl, refl);
      ended = λ t p all e. absurd (cc);
    } (λ j u e. absurd (cc));
  }

  pub sends : (n pass p : ℕ) (xs : List T) (x : T) → Pushes IsDelivering n pass (sender_of p xs) (parcel p x) (λ w. w ≡ sender_of p (xs ++ x ∷ []))
  sends n pass p xs x items views room kept at =
      let mine = (kept.fits pass (sender_of p xs) at).own refl in
      let more : List T = xs ++ x ∷ [] in (
        sender_of p more,
        record {
          sent = changed kept.sent p more;
          seats = kept.seats;
          taker = kept.taker;
          known = kept.known;
          order = λ q. dite (ℕ_discrete q p)
              (λ (e : q ≡ p). subst (λ (k : ℕ). IsInOrder (known_of kept.known k).taken (of k (items ++ parcel p x ∷ [])) (changed kept.sent p more k)) (sym e)
              (ap (λ ys. (known_of kept.known p).taken ++ ys) (of-append p items (parcel p x ∷ []) ∙ ap (λ ys. of p items ++ ys) (of_own p x []))
              ∙ (sym (append_assoc (known_of kept.known p).taken (of p items) (x ∷ []))
              ∙ (ap (λ ys. ys ++ x ∷ []) (kept.order p ∙ sym mine.1) ∙ sym (changed_here kept.sent p more)))))
              (λ (ne : q ≢ p). ap (λ ys. (known_of kept.known q).taken ++ ys) (of-append q items (parcel p x ∷ []) ∙ ap (λ ys. of q items ++ ys) (of_other p q x [] (λ (e : p ≡ q). ne (sym e))) ∙ append-nil (of q items))
              ∙ (kept.order q ∙ sym (changed_else kept.sent p more q ne)));
          fits = each_set (Fits (changed kept.sent p more) kept.seats kept.taker kept.known) views pass (sender_of p more)
              (fits_sender (changed kept.sent p more) kept.seats kept.taker kept.known pass p more mine.0 (sym (changed_here kept.sent p more)))
              (λ j u apart e. still_pushed kept.sent kept.seats kept.taker kept.known pass p more mine.0 j u apart (kept.fits j u e));
        },
        refl,
      )

  pub takes : (pass : ℕ) (known : List (Known T)) → Pops IsDelivering pass (taker_of known) (λ x w. (x.from < length known) × (w ≡ taker_of (known_after known x)))
  takes pass known x items views kept at =
      let mine = kept.fits pass (taker_of known) at in
      let reads = mine.reader refl in
      let p : ℕ = x.from in
      let k : Known T = known_of known p in
      let order : (q : ℕ) → IsInOrder (known_of known q).taken (of q (x ∷ items)) (kept.sent q) =
      λ q. subst (λ (ks : List (Known T)). IsInOrder (known_of ks q).taken (of q (x ∷ items)) (kept.sent q)) (sym reads.1) (kept.order q) in
      let there : k.taken ++ x.item ∷ of p items ≡ kept.sent p = ap (λ ys. k.taken ++ ys) (sym (of_own p x.item items)) ∙ order p in
      let within : p < length known = lt_of_not-le (λ (le : length known ≤ p). never_nil k.taken x.item (of p items) (there ∙ (mine.unmade refl p le).1)) in
      let after : List (Known T) = known_after known x in (
        taker_of after,
        record {
          sent = kept.sent;
          seats = kept.seats;
          taker = kept.taker;
          known = after;
          order = each_known (λ q f. IsInOrder f.taken (of q items) (kept.sent q)) known p (with_taken k x.item) within
              (append_assoc k.taken (x.item ∷ []) (of p items) ∙ there)
              (λ q ne. ap (λ ys. (known_of known q).taken ++ ys) (sym (of_other p q x.item items (λ (e : p ≡ q). ne (sym e)))) ∙ order q);
          fits = each_set (Fits kept.sent kept.seats kept.taker after) views pass (taker_of after)
              record {
                own = λ t. absurd (true≢false (sym t));
                reader = λ t. (reads.0, refl);
                unmade = λ t q le. mine.unmade refl q (omega (arith, length-set known p (with_taken k x.item)));
                ended = λ t. each_known (λ q f. (all : List T) → f.ended ≡ Some all → (kept.seats q ≡ pass) × (kept.sent q ≡ all)) known p (with_taken k x.item) within
                    (mine.ended refl p) (λ q ne. mine.ended refl q);
              }
              (λ j u apart e. let h = kept.fits j u e in record {
                own = h.own;
                reader = λ t. absurd (apart (sym (h.reader t).0 ∙ reads.0));
                unmade = h.unmade;
                ended = h.ended;
              });
        },
        (within, refl),
      )

  pub makes : (pass : ℕ) (known : List (Known T)) → Forks IsDelivering pass (taker_of known) (taker_of (known ++ unknown ∷ [])) (sender_of (length known) [])
  makes pass known items views kept at =
      let mine = kept.fits pass (taker_of known) at in
      let reads = mine.reader refl in
      let more : List (Known T) = known ++ unknown ∷ [] in
      let longer : length more ≡ length known + 1 = length-append known (unknown ∷ []) in
      let p : ℕ = length known in
      let made = mine.unmade refl p (omega arith) in
      let vs : List (View T) = set views pass (taker_of more) in
      let seats : ℕ → ℕ = changed kept.seats p (length vs) in record {
        sent = kept.sent;
        seats = seats;
        taker = kept.taker;
        known = more;
        order = λ q. subst (λ (k : Known T). IsInOrder k.taken (of q items) (kept.sent q)) (sym (known_more known q))
            (subst (λ (ks : List (Known T)). IsInOrder (known_of ks q).taken (of q items) (kept.sent q)) (sym reads.1) (kept.order q));
        fits = each_more (Fits kept.sent seats kept.taker more) vs (sender_of p [])
            (fits_sender kept.sent seats kept.taker more (length vs) p [] (changed_here kept.seats p (length vs)) (sym made.1))
            (each_set (Fits kept.sent seats kept.taker more) views pass (taker_of more)
            record {
              own = λ t. absurd (true≢false (sym t));
              reader = λ t. (reads.0, refl);
              unmade = λ t q le.
                  let o = mine.unmade refl q (omega (arith, longer)) in
                  (changed_else kept.seats p (length vs) q (λ (e : q ≡ p). absurd (omega (arith, longer))) ∙ o.0, o.1);
              ended = λ t q all e.
                  let was : (known_of known q).ended ≡ Some all = ap (λ k. k.ended) (sym (known_more known q)) ∙ e in
                  let o = mine.ended refl q all was in
                  let apart : q ≢ p = λ (is : q ≡ p). absurd (let nothing : None ≡ Some all = ap (λ k. k.ended) (sym (known_past known q (omega arith))) ∙ was in cc) in
                  (changed_else kept.seats p (length vs) q apart ∙ o.0, o.1);
            }
            (λ j u apart e.
            let h = kept.fits j u e in
            let reads_not : u.takes ≡ true → ⊥ = λ t. apart (sym (h.reader t).0 ∙ reads.0) in record {
              own = λ t.
                  let o = h.own t in
                  (changed_else kept.seats p (length vs) u.from (λ (is : u.from ≡ p). apart (sym o.0 ∙ (ap kept.seats is ∙ made.0))) ∙ o.0, o.1);
              reader = λ t. absurd (reads_not t);
              unmade = λ t. absurd (reads_not t);
              ended = λ t. absurd (reads_not t);
            }));
      }

  pub ends : (pass : ℕ) (known : List (Known T)) (other p : ℕ) (xs : List T) → Merges IsDelivering pass (taker_of known) other (sender_of p xs) (taker_of (known_ended known p xs)) spent
  ends pass known other p xs items views kept at two at' =
      let mine = kept.fits pass (taker_of known) at in
      let reads = mine.reader refl in
      let k : Known T = with_ended (known_of known p) xs in
      let after : List (Known T) = known_ended known p xs in
      let vs : List (View T) = set views pass (taker_of after) in
      let was : get_elem? views other ≡ some (sender_of p xs) = ⊎_elim (λ x. absurd (two x.0)) (λ x. x.1) (at_set views pass other (taker_of after) (sender_of p xs) at') in
      let theirs = (kept.fits other (sender_of p xs) was).own refl in
      let within : p < length known = lt_of_not-le (λ (le : length known ≤ p). two (sym theirs.0 ∙ (mine.unmade refl p le).0)) in
      let order : (q : ℕ) → IsInOrder (known_of known q).taken (of q items) (kept.sent q) =
      λ q. subst (λ (ks : List (Known T)). IsInOrder (known_of ks q).taken (of q items) (kept.sent q)) (sym reads.1) (kept.order q) in
      let seats : ℕ → ℕ = changed kept.seats p pass in
      let now : Each (λ j u. j ≢ other → Fits kept.sent seats kept.taker after j u) vs = each_set (λ j u. j ≢ other → Fits kept.sent seats kept.taker after j u) views pass (taker_of after)
      (λ _. record {
        own = λ t. absurd (true≢false (sym t));
        reader = λ t. (reads.0, refl);
        unmade = λ t q le.
            let o = mine.unmade refl q (omega (arith, length-set known p k)) in
            (changed_else kept.seats p pass q (λ (e : q ≡ p). absurd (omega (arith, length-set known p k))) ∙ o.0, o.1);
        ended = λ t. each_known (λ q f. (all : List T) → f.ended ≡ Some all → (seats q ≡ pass) × (kept.sent q ≡ all)) known p k within
            (λ all e. let same : xs ≡ all = cc in (changed_here kept.seats p pass, sym theirs.1 ∙ same))
            (λ q ne all e. let o = mine.ended refl q all e in (changed_else kept.seats p pass q ne ∙ o.0, o.1));
      })
      (λ j u apart e ne.
      let h = kept.fits j u e in
      let reads_not : u.takes ≡ true → ⊥ = λ t. apart (sym (h.reader t).0 ∙ reads.0) in record {
        own = λ t.
            let o = h.own t in
            (changed_else kept.seats p pass u.from (λ (is : u.from ≡ p). ne (sym o.0 ∙ (ap kept.seats is ∙ theirs.0))) ∙ o.0, o.1);
        reader = λ t. absurd (reads_not t);
        unmade = λ t. absurd (reads_not t);
        ended = λ t. absurd (reads_not t);
      }) in record {
        sent = kept.sent;
        seats = seats;
        taker = kept.taker;
        known = after;
        order = each_known (λ q f. IsInOrder f.taken (of q items) (kept.sent q)) known p k within (order p) (λ q ne. order q);
        fits = each_set (Fits kept.sent seats kept.taker after) vs other spent record {
          own = λ t. absurd (true≢false (sym t));
          reader = λ t. absurd (true≢false (sym t));
          unmade = λ t. absurd (true≢false (sym t));
          ended = λ t. absurd (true≢false (sym t));
        } (λ j u ne e. now j u e ne);
      }

  holds_own : (pass p : ℕ) (xs : List T) → Learns IsDelivering pass (sender_of p xs) (HoldsOwn (sender_of p xs))
  holds_own pass p xs items views kept at = ((known_of kept.known p).taken, kept.order p ∙ sym ((kept.fits pass (sender_of p xs) at).own refl).1)

  holds_rest : (pass : ℕ) (known : List (Known T)) → Learns IsDelivering pass (taker_of known) (HoldsRest (taker_of known))
  holds_rest pass known items views kept at p all e =
      let mine = kept.fits pass (taker_of known) at in
      subst (λ (ks : List (Known T)). IsInOrder (known_of ks p).taken (of p items) (kept.sent p)) (sym (mine.reader refl).1) (kept.order p) ∙ (mine.ended refl p all e).1

  -- the same of views that are so
  pub sends_as : (n pass p : ℕ) (v : View T) (xs : List T) (x : T) → v ≡ sender_of p xs
      → Pushes IsDelivering n pass v (parcel p x) (λ w. w ≡ sender_of v.from (v.pushed ++ x ∷ [])) × Learns IsDelivering pass v (HoldsOwn v)
  sends_as n pass p v xs x known =
      subst (λ (u : View T). Pushes IsDelivering n pass u (parcel p x) (λ w. w ≡ sender_of u.from (u.pushed ++ x ∷ [])) × Learns IsDelivering pass u (HoldsOwn u)) (sym known)
      (sends n pass p xs x, holds_own pass p xs)

  pub takes_as : (pass : ℕ) (v : View T) (known : List (Known T)) → v ≡ taker_of known
      → Pops IsDelivering pass v (λ x w. (x.from < length v.known) × (w ≡ taker_of (known_after v.known x))) × Learns IsDelivering pass v (HoldsRest v)
  takes_as pass v known is =
      subst (λ (u : View T). Pops IsDelivering pass u (λ x w. (x.from < length u.known) × (w ≡ taker_of (known_after u.known x))) × Learns IsDelivering pass u (HoldsRest u)) (sym is)
      (takes pass known, holds_rest pass known)

  pub makes_as : (pass : ℕ) (v : View T) (known : List (Known T)) → v ≡ taker_of known → Forks IsDelivering pass v (taker_of (v.known ++ unknown ∷ [])) (sender_of (length v.known) [])
  makes_as pass v known is = subst (λ (u : View T). Forks IsDelivering pass u (taker_of (u.known ++ unknown ∷ [])) (sender_of (length u.known) [])) (sym is) (makes pass known)

  pub ends_as : (pass : ℕ) (v : View T) (known : List (Known T)) (other p : ℕ) (u : View T) (xs : List T) → v ≡ taker_of known → u ≡ sender_of p xs
      → Merges IsDelivering pass v other u (taker_of (known_ended v.known u.from u.pushed)) spent
  ends_as pass v known other p u xs is theirs =
      subst (λ (y : View T × View T). Merges IsDelivering pass y.0 other y.1 (taker_of (known_ended y.0.known y.1.from y.1.pushed)) spent) (λ i. (sym is i, sym theirs i)) (ends pass known other p xs)

  -- what the answers tell
  pub takes_told : (link now : TableId) (capacity : ℕ) (v w : View T) (x : Parcel T) (t : Taking T) → record { link = link; capacity = capacity; known = v.known } ≡ t → now ≡ link
      → (x.from < length v.known) × (w ≡ taker_of (known_after v.known x)) → Takes t record { link = now; capacity = capacity; known = w.known } x.item
  takes_told link now capacity v w x t is same told =
      subst (λ (u : Taking T). Takes u record { link = now; capacity = capacity; known = w.known } x.item) is
      record { from = x.from; known = told.0; taken = λ i. record { link = same i; capacity = capacity; known = (told.1 i).known } }

  pub nothing_told : (link now : TableId) (capacity : ℕ) (v w : View T) (t : Taking T) → record { link = link; capacity = capacity; known = v.known } ≡ t → now ≡ link
      → (w ≡ v) × Held 0 (HoldsRest v) → (record { link = now; capacity = capacity; known = w.known } ≡ t) × AreAllTaken t
  nothing_told link now capacity v w t is same told = (
    (λ i. record { link = same i; capacity = capacity; known = (told.0 i).known }) ∙ is,
    subst (λ (u : Taking T). AreAllTaken u) is (λ p all e.
        sym (append-nil (known_of v.known p).taken) ∙ (ap (λ ys. (known_of v.known p).taken ++ ys) (sym (of_none p told.1.0 told.1.1)) ∙ told.1.2 p all e)),
  )

  pub begins_told : (v w : View T) (p : ℕ) → w ≡ v → (items : List (Parcel T)) × HoldsRest v items → IsBeginning (known_of w.known p)
  begins_told v w p same told = subst (λ (u : View T). IsBeginning (known_of u.known p)) (sym same) (λ all e. (of p told.0, told.1 p all e))

  -- a link with one sender more
  pub one_more : (n capacity : ℕ) (old new : Taking T) (s : Sending T) (ends : List (Sending T)) → length ends ≡ n
      → old ≡ record { link = old.link; capacity = capacity; known = replicate n unknown }
      → ((p : ℕ) → p < n → slice_get ends p ≡ Some record { link = old.link; number = p; capacity = capacity; pushed = [] }) → IsNext old new s
      → (new ≡ record { link = new.link; capacity = capacity; known = replicate (n + 1) unknown })
      × ((p : ℕ) → p < n + 1 → slice_get (ends ++ s ∷ []) p ≡ Some record { link = new.link; number = p; capacity = capacity; pushed = [] })
  one_more n capacity old new s ends count is each next =
      let link : new.link ≡ old.link = ap (λ t. t.link) next.known in
      let known : new.known ≡ replicate (n + 1) unknown =
      ap (λ t. t.known) next.known ∙ (ap (λ t. t.known ++ unknown ∷ []) is ∙ replicate-append-replicate n 1 unknown) in
      let room : new.capacity ≡ capacity = ap (λ t. t.capacity) next.known ∙ ap (λ t. t.capacity) is in
      let longest : length old.known ≡ n = ap (λ t. length t.known) is ∙ length-replicate n unknown in (
        (λ i. record { link = new.link; capacity = room i; known = known i }),
        (λ p lt. dite (ℕ_discrete p n)
            (λ (e : p ≡ n). ap (λ k. slice_get (ends ++ s ∷ []) k) (e ∙ sym count) ∙ (get_last ends s
            ∙ (ap (λ y. Some y) next.sender
            ∙ (λ i. Some record { link = sym link i; number = (longest ∙ sym e) i; capacity = (sym (ap (λ t. t.capacity) next.known) ∙ room) i; pushed = [] }))))
            (λ (ne : p ≢ n). get_snoc ends s p (omega (arith, count)) ∙ (each p (omega arith)
            ∙ (λ i. Some record { link = sym link i; number = p; capacity = capacity; pushed = [] })))),
      )
