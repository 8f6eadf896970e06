-- What stays as a legal history grows: a live row whose node is not lost and that is not given up, and the block that a name leads to.
use Rattle.std.proofs.Common.{◌≡◌, ℕ, zero, suc, ◌+◌, ◌<◌, ◌≤◌, ◌==◌, ◌⊎◌, Bool, true, false, cond, ◌||◌, not, List, [], ◌∷◌, ◌++◌, length, map, find, slice_get, Option, Some, None, is_some, refl, sym, ◌∙◌, ap, subst, arith, inl, inr, append-nil, append_assoc}
use Rattle.std.specs.Prelude.{bytes_eq, nat_lt, option_and_then, option_map}
use Rattle.std.specs.List.{list_any}
use Rattle.std.specs.Option.{option_map_or}
use Rattle.std.proofs.lemmas.Bool.{and_parts, false≢true, cases_lt, eqb-true, eq-eqb}
use Rattle.std.proofs.lemmas.Option.{slice_get-map}
use Rattle.ecp_shape.specs.declared.shape.Shape.{Shape}
use Rattle.ecp_code.specs.Stripes.{stripes}
use Rattle.ecp_entry.specs.declared.act.Act.{Act}
use Rattle.ecp_entry.specs.declared.act.Act.TheVariants.{Stored, Lost, Joined, Restored, Drop}
use Rattle.ecp_entry.specs.declared.deed.Deed.{Deed}
use Rattle.ecp_entry.specs.declared.deed.Deed.TheVariants as deed
use Rattle.ecp_entry.specs.declared.entry.Entry.{Entry}
use Rattle.ecp_entry.specs.declared.part.Part.{Part}
use Rattle.ecp_entry.specs.declared.part.Part.TheVariants as part
use Rattle.ecp_entry.specs.Entries.{deed_node, dropped_stripe, is_loss, is_number, lost_node}
use Rattle.ecp_history.specs.declared.table.block_name.BlockName.{BlockName}
use Rattle.ecp_history.specs.declared.table.file.File.{File}
use Rattle.ecp_history.specs.declared.table.standing.Standing.{Standing}
use Rattle.ecp_history.specs.Acts.{HoldsIn}
use Rattle.ecp_history.specs.Legal.{IsLegal, MayFollow}
use Rattle.ecp_history.specs.Named.{block_at, deed_block}
use Rattle.ecp_history.specs.table.Placement.{nodes_in}
use Rattle.ecp_history.specs.table.Steps.{after_act, change_row, joined, live_onto, lost, stripes_among, table_at, table_of, without_node}
use Rattle.ecp_history.specs.table.Tables.{PlainTable, Stripe, block_count, file_block, file_of, is_live_on, is_lost, rows_of, stands_live, stripe_of}
use Rattle.ecp_history.proofs.LegalLaws.{beginning, last_follows, onwards}
use Rattle.ecp_history.proofs.StripeLaws.{stored_by}
use Rattle.ecp_catalog.proofs.OutlineLaws.{changed, find-with_rows, one_more}
use Rattle.ecp_catalog.proofs.StoredLaws.{find-put_other}
use Rattle.ecp_coord.specs.Coords.{is_drop}
use Rattle.ecp_coord.proofs.AnyLaws.{or_none}

-- ---- a row that is live on a node

-- among the rows of a stripe that is looked for
abbrev live_in : ℕ → ℕ → Option Stripe → Bool
live_in r m o = option_map_or (stands_live m) (slice_get (option_map_or (λ (x : Stripe). x.rows) o []) r) false

-- its stripe is there
live_there : (r m : ℕ) (o : Option Stripe) → live_in r m o ≡ true → is_some (option_map (λ (x : Stripe). x.blocks) o) ≡ true
live_there r m None live = absurd (false≢true live)
live_there r m (Some x) live = refl

-- a row of another node stays as it is, where a node is lost
row_without : (m other : ℕ) (x : Standing) → other == m ≡ false → stands_live m x ≡ true → stands_live m (without_node other x) ≡ true
row_without m other x apart live = either (x.node == other) refl where
  either : (b : Bool) → x.node == other ≡ b → stands_live m (cond b (record { node = x.node; live = false }) x) ≡ true
  either false is = live
  either true is =
      let here : x.node ≡ m = eqb-true x.node m (and_parts x.live (x.node == m) live).1 in
      let there : x.node ≡ other = eqb-true x.node other is in
      absurd (false≢true (sym apart ∙ eq-eqb other m (sym there ∙ here)))

rows_without : (m other r : ℕ) (o : Option Standing) → other == m ≡ false → option_map_or (stands_live m) o false ≡ true → option_map_or (stands_live m) (option_map (without_node other) o) false ≡ true
rows_without m other r None apart live = live
rows_without m other r (Some x) apart live = row_without m other x apart live

live_lost : (m other r : ℕ) (o : Option Stripe) → other == m ≡ false → live_in r m o ≡ true → live_in r m (option_map (changed (λ x. map (without_node other) x.rows)) o) ≡ true
live_lost m other r None apart live = live
live_lost m other r (Some x) apart live =
    ap (λ (o : Option Standing). option_map_or (stands_live m) o false) (slice_get-map (without_node other) x.rows r) ∙ rows_without m other r (slice_get x.rows r) apart live

-- another row is changed
other_row : (change : Standing → Standing) (k r : ℕ) (xs : List Standing) → (r ≡ k → ⊥) → slice_get (change_row change k xs) r ≡ slice_get xs r
other_row change k r [] apart = refl
other_row change zero zero (x ∷ xs) apart = absurd (apart refl)
other_row change zero (suc r) (x ∷ xs) apart = refl
other_row change (suc k) zero (x ∷ xs) apart = refl
other_row change (suc k) (suc r) (x ∷ xs) apart = other_row change k r xs (λ same. apart (ap (λ (n : ℕ). suc n) same))

live_block : (s r i k m : ℕ) (change : Standing → Standing) (o : Option Stripe) → ((x : Stripe) → o ≡ Some x → x.number ≡ s) → ((s ≡ i) × (r ≡ k) → ⊥) → live_in r m o ≡ true
    → live_in r m (option_map (changed (λ x. cond (x.number == i) (change_row change k x.rows) x.rows)) o) ≡ true
live_block s r i k m change None numbered apart live = live
live_block s r i k m change (Some x) numbered apart live = one (x.number == i) refl where
  one : (b : Bool) → x.number == i ≡ b → option_map_or (stands_live m) (slice_get (cond b (change_row change k x.rows) x.rows) r) false ≡ true
  one false is = live
  one true is =
      let here : s ≡ i = sym (numbered x refl) ∙ eqb-true x.number i is in
      ap (λ (o : Option Standing). option_map_or (stands_live m) o false) (other_row change k r x.rows (λ same. apart (here, same))) ∙ live

found_number : (s : ℕ) (xs : List Stripe) (x : Stripe) → find (λ (y : Stripe). y.number == s) xs ≡ Some x → x.number ≡ s
found_number s [] x is = absurd (cc)
found_number s (y ∷ ys) x is = one (y.number == s) refl is (found_number s ys x) where
  one : (b : Bool) → y.number == s ≡ b → cond b (Some y) (find (λ (z : Stripe). z.number == s) ys) ≡ Some x → (find (λ (z : Stripe). z.number == s) ys ≡ Some x → x.number ≡ s) → x.number ≡ s
  one true passes is more =
      let same : y ≡ x = cc in
      subst (λ (z : Stripe). z.number ≡ s) same (eqb-true y.number s passes)
  one false fails is more = more is

-- a row that is live on a node is not lost
not_lost : (m : ℕ) (o : Option Standing) → option_map_or (stands_live m) o false ≡ true → option_map_or (λ (x : Standing). not x.live) o false ≡ true → ⊥
not_lost m None live lost = false≢true lost
not_lost m (Some x) live lost = false≢true (sym (ap not (and_parts x.live (x.node == m) live).0) ∙ lost)

-- a loss of no node, or of another
lost_other : (m s r : ℕ) (t : PlainTable) (node : Option ℕ) → is_number node m ≡ false → is_live_on t s r m ≡ true → is_live_on (option_map_or (lost t) node t) s r m ≡ true
lost_other m s r t None apart live = live
lost_other m s r t (Some other) apart live =
    ap (λ (o : Option Stripe). live_in r m o) (find-with_rows (λ x. map (without_node other) x.rows) s t.stripes) ∙ live_lost m other r (stripe_of t s) apart live

joined_any : (m s r inc : ℕ) (t : PlainTable) (node : Option ℕ) → is_live_on t s r m ≡ true → is_live_on (option_map_or (λ k. joined t k inc) node t) s r m ≡ true
joined_any m s r inc t None live = live
joined_any m s r inc t (Some k) live = live

-- one entry more, that is no loss of the node and gives nothing up
live_after : (shape : Shape) (told : Bool) (h : List Entry) (p : PlainTable) (e : Entry) (s r m : ℕ) (act : Act) → IsLegal shape told h → HoldsIn shape told h (table_of shape h) p e act
    → is_number (lost_node act e.deed) m ≡ false → is_some (dropped_stripe act) ≡ false → is_live_on (table_of shape h) s r m ≡ true
    → is_live_on (after_act shape (table_of shape h) e act) s r m ≡ true
live_after shape told h p e s r m (Stored first count up) legal holds apart kept live =
    let t : PlainTable = table_of shape h in
    let ds : List (List (List ℕ)) = stripes shape.k shape.block e.bytes in
    let outside : (s < first) ⊎ (first + length ds ≤ s) = elim (cases_lt s first) [
      | inl below ↦ inl below
      | inr from ↦ elim (cases_lt s (first + count)) [
        | inl within ↦
            absurd (false≢true (sym (holds.fresh s from within) ∙ stored_by shape told h s legal (live_there r m (stripe_of t s) live)))
        | inr above ↦ inr (omega (arith, above, holds.counted))
      ]
    ] in
    ap (λ (o : Option Stripe). live_in r m o) (find-put_other (nodes_in up) shape.n first ds t.stripes s outside) ∙ live
live_after shape told h p e s r m (Lost count) legal holds apart kept live = lost_other m s r (table_of shape h) (deed_node e.deed) apart live
live_after shape told h p e s r m (Joined inc) legal holds apart kept live = joined_any m s r inc (table_of shape h) (deed_node e.deed) live
live_after shape told h p e s r m (Restored i k node inc) legal holds apart kept live =
    let t : PlainTable = table_of shape h in
    ap (λ (o : Option Stripe). live_in r m o) (find-with_rows (λ x. cond (x.number == i) (change_row (live_onto node) k x.rows) x.rows) s t.stripes)
    ∙ live_block s r i k m (live_onto node) (stripe_of t s) (λ x. found_number s t.stripes x)
    (λ same. not_lost m (slice_get (rows_of t s) r) live
    (subst (λ (a : ℕ). is_lost t a r ≡ true) (sym same.0) (subst (λ (b : ℕ). is_lost t i b ≡ true) (sym same.1) holds.lost))) live
live_after shape told h p e s r m (Drop i k) legal holds apart kept live = absurd (false≢true (sym kept))
live_after shape told h p e s r m _ legal holds apart kept live = live

-- an entry that may make the row not be live any more
abbrev pub takes : ℕ → Entry → Bool
takes m e = is_loss m e || is_drop e

pub stays_live : (shape : Shape) (told : Bool) (s r m : ℕ) (before more : List Entry) → IsLegal shape told (before ++ more) → list_any (takes m) more ≡ false
    → is_live_on (table_of shape before) s r m ≡ true → is_live_on (table_of shape (before ++ more)) s r m ≡ true
stays_live shape told s r m before [] legal none live = subst (λ (es : List Entry). is_live_on (table_of shape es) s r m ≡ true) (sym (append-nil before)) live
stays_live shape told s r m before (e ∷ more) legal none live =
    let split : (before ++ e ∷ []) ++ more ≡ before ++ e ∷ more = append_assoc before (e ∷ []) more in
    let whole : IsLegal shape told ((before ++ e ∷ []) ++ more) = subst (IsLegal shape told) (sym split) legal in
    let one : IsLegal shape told (before ++ e ∷ []) = beginning shape told (before ++ e ∷ []) more whole in
    let follows : MayFollow shape told before e = last_follows shape told before e one in
    let parts = or_none (takes m e) (list_any (takes m) more) none in
    let off = or_none (is_loss m e) (is_drop e) parts.0 in
    let next : is_live_on (table_of shape (before ++ e ∷ [])) s r m ≡ true =
    ap (λ (t : PlainTable). is_live_on t s r m) (one_more shape before e)
    ∙ live_after shape told before (table_at shape before e.line.point) e s r m e.line.act (beginning shape told before (e ∷ []) one) follows.holds off.0 off.1 live in
    subst (λ (es : List Entry). is_live_on (table_of shape es) s r m ≡ true) split (stays_live shape told s r m (before ++ e ∷ []) more whole parts.1 next)

-- ---- the block that a name leads to

-- names that are equal
same_names : (a b : List ℕ) → bytes_eq a b ≡ true → a ≡ b
same_names [] [] is = refl
same_names [] (y ∷ ys) is = absurd (false≢true is)
same_names (x ∷ xs) [] is = absurd (false≢true is)
same_names (x ∷ xs) (y ∷ ys) is =
    let both = and_parts (x == y) (bytes_eq xs ys) is in
    ap (λ (n : ℕ). n ∷ xs) (eqb-true x y both.0) ∙ ap (λ (ns : List ℕ). y ∷ ns) (same_names xs ys both.1)

file_lost : (name : List ℕ) (f : File) (t : PlainTable) (node : Option ℕ) → file_of t name ≡ Some f → file_of (option_map_or (lost t) node t) name ≡ Some f
file_lost name f t None is = is
file_lost name f t (Some m) is = is

file_joined : (name : List ℕ) (f : File) (t : PlainTable) (inc : ℕ) (node : Option ℕ) → file_of t name ≡ Some f → file_of (option_map_or (λ k. joined t k inc) node t) name ≡ Some f
file_joined name f t inc None is = is
file_joined name f t inc (Some m) is = is

file_after : (shape : Shape) (told : Bool) (h : List Entry) (p : PlainTable) (e : Entry) (name : List ℕ) (f : File) (act : Act) → HoldsIn shape told h (table_of shape h) p e act
    → file_of (table_of shape h) name ≡ Some f → file_of (after_act shape (table_of shape h) e act) name ≡ Some f
file_after shape told h p e name f (Stored first count up) holds is = one (bytes_eq e.name name) refl where
  one : (b : Bool) → bytes_eq e.name name ≡ b
      → cond b (Some (record { name = e.name; len = length e.bytes; first = first; stripes = length (stripes_among (nodes_in up) shape.n first (stripes shape.k shape.block e.bytes)) })) (file_of (table_of shape h) name) ≡ Some f
  one false off = is
  one true same =
      let none : file_of (table_of shape h) name ≡ None = ap (file_of (table_of shape h)) (sym (same_names e.name name same)) ∙ holds.free in
      absurd (false≢true (ap (λ (o : Option File). is_some o) (sym none ∙ is)))
file_after shape told h p e name f (Lost count) holds is = file_lost name f (table_of shape h) (deed_node e.deed) is
file_after shape told h p e name f (Joined inc) holds is = file_joined name f (table_of shape h) inc (deed_node e.deed) is
file_after shape told h p e name f _ holds is = is

file_stays : (shape : Shape) (told : Bool) (name : List ℕ) (f : File) (before more : List Entry) → IsLegal shape told (before ++ more) → file_of (table_of shape before) name ≡ Some f
    → file_of (table_of shape (before ++ more)) name ≡ Some f
file_stays shape told name f before more legal is =
    onwards shape told (λ h. file_of (table_of shape h) name ≡ Some f)
    (λ h e was next has. ap (λ (t : PlainTable). file_of t name) (one_more shape h e) ∙ file_after shape told h (table_at shape h e.line.point) e name f e.line.act next.holds has) before more legal is

pub block_at_stays : (shape : Shape) (told : Bool) (name : List ℕ) (index : ℕ) (b : BlockName) (before more : List Entry) → IsLegal shape told (before ++ more)
    → block_at shape (table_of shape before) name index ≡ Some b → block_at shape (table_of shape (before ++ more)) name index ≡ Some b
block_at_stays shape told name index b before more legal is = one (file_of (table_of shape before) name) refl is where
  one : (o : Option File) → file_of (table_of shape before) name ≡ o → option_and_then (λ f. cond (nat_lt index (block_count shape f)) (Some (file_block shape f index)) None) o ≡ Some b
      → block_at shape (table_of shape (before ++ more)) name index ≡ Some b
  one None found h = absurd (false≢true (ap (λ (o : Option BlockName). is_some o) h))
  one (Some f) found h =
      ap (λ (o : Option File). option_and_then (λ g. cond (nat_lt index (block_count shape g)) (Some (file_block shape g index)) None) o) (file_stays shape told name f before more legal found) ∙ h

pub block_stays : (shape : Shape) (told : Bool) (asked : Deed) (at : Part) (b : BlockName) (before more : List Entry) → IsLegal shape told (before ++ more)
    → deed_block shape (table_of shape before) at (Some asked) ≡ Some b → deed_block shape (table_of shape (before ++ more)) at (Some asked) ≡ Some b
block_stays shape told (deed.Put name len) at b before more legal is = is
block_stays shape told (deed.Read name index) at b before more legal is = block_at_stays shape told name index b before more legal is
block_stays shape told (deed.Sum name index) at b before more legal is = block_at_stays shape told name index b before more legal is
block_stays shape told (deed.Cat name) (part.Part zero) b before more legal is = is
block_stays shape told (deed.Cat name) (part.Part (suc j)) b before more legal is = block_at_stays shape told name j b before more legal is
block_stays shape told (deed.Cat name) part.End b before more legal is = is
block_stays shape told (deed.Lose node) at b before more legal is = is
block_stays shape told (deed.Join node) at b before more legal is = is
block_stays shape told (deed.Rebuild from to) at b before more legal is = is
block_stays shape told (deed.Stat name) at b before more legal is = is
