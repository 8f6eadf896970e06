-- Each kind of event keeps what holds of a node.
use Rattle.std.proofs.Common.{◌≡◌, ◌≢◌, ◌⊎◌, ⊎_elim, ℕ, ◌+◌, ◌-◌, ◌^◌, ◌<◌, ◌≤◌, Bool, cond, eqb, IsTrue, List, [], ◌∷◌, ◌++◌, length, Option, Some, None, Result, Ok, Err, refl, ap, sym, ◌∙◌, subst, arith}
use Rattle.std.specs.Option.{IsSome, IfSome}
use Rattle.std.specs.Result.{IsOk, OnOk, OnErr}
use Rattle.ecp_book.specs.Logs.{Log, history_log}
use Rattle.ecp_book.specs.Names.{StoreStart}
use Rattle.ecp_shape.specs.Losses.{losses}
use Rattle.ecp_store.specs.Faults as store
use Rattle.ecp_store.specs.Faults.{Rose}
use Rattle.ecp_store.specs.Stores.{Held, Puts, Stays}
use Rattle.ecp_store.specs.declared.key.Key.{Key}
use Rattle.ecp_store.specs.declared.store.Store.{Ghosts}
use Rattle.ecp_node.specs.declared.fault.Fault.{Fault}
use Rattle.ecp_node.specs.declared.place.Place.{Place}
use Rattle.ecp_node.specs.Counted.{NodeItems}
use Rattle.ecp_node.specs.Items.{Kept, kept_item, removed_item, wiped_item, faulted_item, spent_item}
use Rattle.ecp_node.specs.Held.{wipes, faults, spends}
use Rattle.ecp_node.specs.Nodes.{start_of}
use Rattle.ecp_node.specs.Shelves.{place_of, key_of, IsIndex, Stores, IsNode, ServesNothing}
use Rattle.ecp_node.proofs.Laws.{count_more}
use Rattle.ecp_node.proofs.Growth.{index_kept, index_removed, index_wiped, index_faulted, index_spent, store_kept, store_removed, store_wiped, store_faulted, store_spent}

-- the log with one more item
abbrev more : NodeItems → List ℕ → NodeItems
more n item = record n { items = n.items ++ item ∷ [] }

-- how the counts of a log grow by an item
record Counts (log : Log) (item : List ℕ) (wiped faulted spent : ℕ) : Type 0 where
  wipes_are : wipes (log ++ item ∷ []) ≡ wipes log + wiped
  faults_are : faults (log ++ item ∷ []) ≡ faults log + faulted
  spends_are : spends (log ++ item ∷ []) ≡ spends log + spent

counts_kept : (log : Log) (kept : Kept) → Counts log (kept_item kept) 0 0 0
counts_kept log kept = record { wipes_are = count_more _ log (kept_item kept); faults_are = count_more _ log (kept_item kept); spends_are = count_more _ log (kept_item kept) }

counts_removed : (log : Log) (serial : ℕ) → Counts log (removed_item serial) 0 0 0
counts_removed log serial = record { wipes_are = count_more _ log (removed_item serial); faults_are = count_more _ log (removed_item serial); spends_are = count_more _ log (removed_item serial) }

counts_wiped : (log : Log) (inc : ℕ) → Counts log (wiped_item inc) 1 0 0
counts_wiped log inc = record { wipes_are = count_more _ log (wiped_item inc); faults_are = count_more _ log (wiped_item inc); spends_are = count_more _ log (wiped_item inc) }

counts_faulted : (log : Log) → Counts log faulted_item 0 1 0
counts_faulted log = record { wipes_are = count_more _ log faulted_item; faults_are = count_more _ log faulted_item; spends_are = count_more _ log faulted_item }

counts_spent : (log : Log) → Counts log spent_item 0 0 1
counts_spent log = record { wipes_are = count_more _ log spent_item; faults_are = count_more _ log spent_item; spends_are = count_more _ log spent_item }

module _ {S : Type 0} (g : Ghosts S) where
  -- how a call of the store moves its count
  pub record Moves (old new : S) : Type 0 where
    pub never_falls : g.faults old ≤ g.faults new
    pub same : g.faultless new ≡ g.faultless old
    pub unfailing : IsTrue (g.faultless old) → g.faults new ≡ g.faults old

  module _ (told : Bool) (stores : List StoreStart) where
    -- what holds of a node with these parts
    abbrev pub Inv : ℕ → NodeItems → Log → Option Fault → S → (ℕ → Option Place) → Type 0
    Inv past_log n past fault store index =
        IsNode g told (start_of stores n.node) past_log store index
        (record { number = n.node; items = n.items; past = past; fault = fault; store_faults = g.faults store; served = g.served store })

    faultless_still : (b : Bool) (old new : S) → Moves old new → (IsTrue b → IsTrue (g.faultless old)) → IsTrue b → IsTrue (g.faultless new)
    faultless_still b old new moves was sure = moves.same ∙ was sure

    -- the log grew by an item and the store moved
    grown : (past_log later : ℕ) (n : NodeItems) (item : List ℕ) (past after : Log) (fault next : Option Fault) (store moved : S) (index changed : ℕ → Option Place) (w f s : ℕ)
        → Inv past_log n past fault store index → later ≡ history_log → Counts n.items item w f s → Moves store moved
        → IsIndex changed (n.items ++ item ∷ []) → (IsTrue g.tells → Stores (g.held moved) (n.items ++ item ∷ []))
        → spends n.items + s ≤ faults n.items + f → IfSome next (λ _. spends n.items + s < faults n.items + f)
        → (g.faults moved < 2 ^ 64 - 1 → g.faults store + f ≤ g.faults moved) → wipes n.items + w ≤ losses n.node after
        → Inv later (more n item) after next moved changed
    grown past_log later n item past after fault next store moved index changed w f s was history counts moves indexed stored paid spendable rises lost =
        let start = start_of stores n.node in
        let faulted = counts.faults_are in
        let spent = counts.spends_are in
        let held_back : IfSome next (λ _. spends (n.items ++ item ∷ []) < faults (n.items ++ item ∷ [])) =
        subst (λ (x : ℕ × ℕ). IfSome next (λ _. x.0 < x.1)) (λ i. (sym spent i, sym faulted i)) spendable in
        record {
          of_history = history;
          indexed = indexed;
          stored = stored;
          tells = was.tells;
          faultless = faultless_still start.faultless store moved moves was.faultless;
          sound = record {
            paid = omega (arith, faulted, spent);
            spendable = held_back;
            covered = λ below. let old = was.sound.covered (omega (arith, moves.never_falls)) in omega (arith, faulted, rises below);
            unfailing = λ sure. let old = was.sound.unfailing sure in let stays = moves.unfailing (was.faultless sure) in (stays ∙ old.0, omega arith);
            lost_first = omega (arith, counts.wipes_are);
          };
        }

    -- nothing happened
    pub still : (store : S) → Moves store store
    still store = record { never_falls = omega arith; same = refl; unfailing = λ sure. refl }

    -- a failure was spent
    pub spent_inv : (past_log : ℕ) (n m : NodeItems) (past : Log) (fault : Option Fault) (store : S) (index : ℕ → Option Place)
        → Inv past_log n past fault store index → m ≡ more n spent_item → spends n.items < faults n.items → Inv past_log m past None store index
    spent_inv past_log n m past fault store index was entered unspent =
        subst (λ (x : NodeItems). Inv past_log x past None store index) (sym entered)
        (grown past_log past_log n spent_item past past fault None store store index index 0 0 1 was was.of_history (counts_spent n.items) (still store)
        (index_spent index n.items was.indexed) (λ tells. store_spent (g.held store) n.items (was.stored tells))
        (omega arith) tt (λ below. omega arith) (omega (arith, was.sound.lost_first)))

    -- the store failed, and the log has it
    pub faulted_inv : (past_log : ℕ) (n m : NodeItems) (past : Log) (fault : Option Fault) (next : Fault) (store moved : S) (index changed : ℕ → Option Place)
        → Inv past_log n past fault store index → m ≡ more n faulted_item → Moves store moved → Rose (g.faults store) (g.faults moved)
        → ((q : ℕ) → changed q ≡ index q) → (IsTrue g.tells → Stays (g.held store) (g.held moved)) → Inv past_log m past (Some next) moved changed
    faulted_inv past_log n m past fault next store moved index changed was entered moves rose same stays =
        subst (λ (x : NodeItems). Inv past_log x past (Some next) moved changed) (sym entered)
        (grown past_log past_log n faulted_item past past fault (Some next) store moved index changed 0 1 0 was was.of_history (counts_faulted n.items) moves
        (index_faulted index changed n.items was.indexed same) (λ tells. store_faulted (g.held store) (g.held moved) n.items (was.stored tells) (stays tells))
        (omega (arith, was.sound.paid)) (omega (arith, was.sound.paid)) (λ below. omega (arith, rose below)) (omega (arith, was.sound.lost_first)))

    -- a block was kept
    pub kept_inv : (past_log : ℕ) (n m : NodeItems) (past : Log) (fault : Option Fault) (kept : Kept) (store moved : S) (index changed : ℕ → Option Place)
        → Inv past_log n past fault store index → m ≡ more n (kept_item kept) → kept.serial ≡ length n.items → Moves store moved
        → ((q : ℕ) → changed q ≡ cond (eqb kept.serial q) (Some (place_of kept)) (index q))
        → (IsTrue g.tells → Puts (key_of kept) (Some kept.bytes) (g.held store) (g.held moved)) → Inv past_log m past None moved changed
    kept_inv past_log n m past fault kept store moved index changed was entered new moves put puts =
        subst (λ (x : NodeItems). Inv past_log x past None moved changed) (sym entered)
        (grown past_log past_log n (kept_item kept) past past fault None store moved index changed 0 0 0 was was.of_history (counts_kept n.items kept) moves
        (index_kept index changed n.items kept was.indexed new put) (λ tells. store_kept (g.held store) (g.held moved) n.items kept (was.stored tells) new (puts tells))
        (omega (arith, was.sound.paid)) tt (λ below. omega (arith, moves.never_falls)) (omega (arith, was.sound.lost_first)))

    -- a block was given up
    pub removed_inv : (past_log : ℕ) (n m : NodeItems) (past : Log) (fault : Option Fault) (serial : ℕ) (store moved : S) (index changed : ℕ → Option Place)
        → Inv past_log n past fault store index → m ≡ more n (removed_item serial) → Moves store moved
        → ((q : ℕ) → changed q ≡ cond (eqb serial q) None (index q))
        → (IsTrue g.tells → (key : Key) → key.serial ≢ serial → g.held moved key ≡ g.held store key) → Inv past_log m past fault moved changed
    removed_inv past_log n m past fault serial store moved index changed was entered moves put same =
        subst (λ (x : NodeItems). Inv past_log x past fault moved changed) (sym entered)
        (grown past_log past_log n (removed_item serial) past past fault fault store moved index changed 0 0 0 was was.of_history (counts_removed n.items serial) moves
        (index_removed index changed n.items serial was.indexed put) (λ tells. store_removed (g.held store) (g.held moved) n.items serial (was.stored tells) (same tells))
        (omega (arith, was.sound.paid)) (some_plus fault _ _ was.sound.spendable) (λ below. omega (arith, moves.never_falls)) (omega (arith, was.sound.lost_first)))
      where
        some_plus : (o : Option Fault) (a b : ℕ) → IfSome o (λ _. a < b) → IfSome o (λ _. a + 0 < b + 0)
        some_plus None a b h = tt
        some_plus (Some f) a b h = omega arith

    -- all blocks were given up
    pub wiped_inv : (past_log later : ℕ) (n m : NodeItems) (past after : Log) (fault : Option Fault) (inc : ℕ) (store moved : S) (index changed : ℕ → Option Place)
        → Inv past_log n past fault store index → later ≡ history_log → m ≡ more n (wiped_item inc) → Moves store moved
        → ((q : ℕ) → changed q ≡ None) → wipes n.items < losses n.node after → Inv later m after None moved changed
    wiped_inv past_log later n m past after fault inc store moved index changed was history entered moves none lost =
        subst (λ (x : NodeItems). Inv later x after None moved changed) (sym entered)
        (grown past_log later n (wiped_item inc) past after fault None store moved index changed 1 0 0 was history (counts_wiped n.items inc) moves
        (index_wiped changed n.items inc none) (λ tells. store_wiped (g.held moved) n.items inc)
        (omega (arith, was.sound.paid)) tt (λ below. omega (arith, moves.never_falls)) (omega arith))

    -- the log did not grow, the store has what it had, and the failure that could be spent is gone or as it was
    pub moved_inv : (past_log : ℕ) (n m : NodeItems) (past : Log) (fault next : Option Fault) (store moved : S) (index changed : ℕ → Option Place)
        → Inv past_log n past fault store index → m ≡ n → Moves store moved → ((q : ℕ) → changed q ≡ index q) → (next ≡ None) ⊎ (next ≡ fault)
        → (IsTrue g.tells → Stores (g.held store) n.items → Stores (g.held moved) n.items) → Inv past_log m past next moved changed
    moved_inv past_log n m past fault next store moved index changed was same_log moves same which stays =
        let start = start_of stores n.node in
        let spendable : IfSome next (λ _. spends n.items < faults n.items) =
        ⊎_elim
        (λ (e : next ≡ None). subst (λ (o : Option Fault). IfSome o (λ _. spends n.items < faults n.items)) (sym e) tt)
        (λ (e : next ≡ fault). subst (λ (o : Option Fault). IfSome o (λ _. spends n.items < faults n.items)) (sym e) was.sound.spendable)
        which in
        subst (λ (x : NodeItems). Inv past_log x past next moved changed) (sym same_log)
        (record {
          of_history = was.of_history;
          indexed = λ q. same q ∙ was.indexed q;
          stored = λ tells. stays tells (was.stored tells);
          tells = was.tells;
          faultless = faultless_still start.faultless store moved moves was.faultless;
          sound = record {
            paid = was.sound.paid;
            spendable = spendable;
            covered = λ below. let old = was.sound.covered (omega (arith, moves.never_falls)) in omega (arith, moves.never_falls);
            unfailing = λ sure. let old = was.sound.unfailing sure in let stays = moves.unfailing (was.faultless sure) in (stays ∙ old.0, omega arith);
            lost_first = was.sound.lost_first;
          };
        })

-- a failure that can be spent was not spent
pub can_spend : (o : Option Fault) (a b : ℕ) → IsSome o → IfSome o (λ _. a < b) → a < b
can_spend None a b there h = absurd (cc)
can_spend (Some f) a b there h = h

-- ---- what the answers of a store say

module _ {S : Type 0} (g : Ghosts S) where
  -- a call that fails of a store that is not faultless
  pub failed_moves : (old new : S) → g.faults old ≤ g.faults new → g.faultless new ≡ g.faultless old → (IsTrue (g.faultless old) → ⊥) → Moves g old new
  failed_moves old new rises same never = record { never_falls = rises; same = same; unfailing = λ sure. absurd (never sure) }

  pub kept_moves : (old new : S) → g.faults new ≡ g.faults old → g.faultless new ≡ g.faultless old → Moves g old new
  kept_moves old new stays same = record { never_falls = omega (arith, stays); same = same; unfailing = λ sure. stays }

  pub counted_moves : {T E : Type 0} (r : Result T E) (old new : S) → store.Counts r (g.faults old) (g.faults new) → g.faultless new ≡ g.faultless old
      → (IsTrue (g.faultless old) → IsOk r) → Moves g old new
  counted_moves (Ok x) old new counts same sure = kept_moves old new counts.kept same
  counted_moves (Err e) old new counts same sure = failed_moves old new counts.never_falls same (λ b. absurd (cc (sure b)))

  pub removing_moves : (old new : S) → ServesNothing g old new → Moves g old new
  removing_moves old new n = record { never_falls = n.never_falls; same = n.same; unfailing = n.unfailing }

-- a removal leaves the keys of other serials
pub leaves_others : {E : Type 0} (r : Result (Unit {0}) E) (key : Key) (before after : Held) → OnOk r (Puts key None before after) → OnErr r (Stays before after)
    → (other : Key) → other.serial ≢ key.serial → after other ≡ before other
leaves_others (Ok x) key before after puts stays other ne = puts.others other (λ e. ne (ap (λ (k : Key). k.serial) e))
leaves_others (Err e) key before after puts stays other ne = stays other
