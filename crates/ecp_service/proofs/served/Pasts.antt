-- The lines of a legal history give the history back, where its entries name the calls of the input.
use Rattle.std.proofs.Common.{◌≡◌, ℕ, zero, suc, ◌≤◌, length, true, List, [], ◌∷◌, ◌++◌, map, take, Option, Some, None, IsSomeAnd, refl, sym, ◌∙◌, ap, inl, inr, arith, append-nil, append_assoc}
use Rattle.std.specs.Prelude.{slice_get, option_map}
use Rattle.std.specs.Option.{option_map_or}
use Rattle.std.proofs.lemmas.Bool.{false≢true, cases_lt}
use Rattle.std.proofs.lemmas.Option.{none-some}
use Rattle.ecp_command.specs.Input.Accepted.{Content}
use Rattle.ecp_command.specs.declared.input.planned.Planned.{Planned}
use Rattle.ecp_entry.specs.declared.act.Act.{Act}
use Rattle.ecp_entry.specs.declared.act.Act.TheVariants.{Stored, Data}
use Rattle.ecp_entry.specs.declared.deed.Deed.{Deed}
use Rattle.ecp_entry.specs.declared.entry.Entry.{Entry}
use Rattle.ecp_entry.specs.declared.line.Line.{Line}
use Rattle.ecp_entry.specs.Entries.{deed_name}
use Rattle.ecp_shape.specs.declared.shape.Shape.{Shape}
use Rattle.ecp_shape.specs.declared.limits.TheConstants.{MAX_SESSIONS}
use Rattle.ecp_history.specs.declared.table.block_name.BlockName.{BlockName}
use Rattle.ecp_history.specs.Acts.{HoldsIn, Reads}
use Rattle.ecp_history.specs.Calls.{FitsBytes, FitsCaller, put_len}
use Rattle.ecp_history.specs.Files.{is_stored}
use Rattle.ecp_history.specs.Legal.{IsLegal, MayFollow}
use Rattle.ecp_history.specs.Named.{deed_block, named_block}
use Rattle.ecp_history.specs.table.Steps.{table_of, table_at}
use Rattle.ecp_history.specs.table.Tables.{PlainTable, block}
use Rattle.ecp_service.specs.Asked.{deed_of, put_bytes, call_at}
use Rattle.ecp_service.specs.Past.{deed_for, bytes_for, entry_for, past_behind, past}
use Rattle.ecp_service.specs.Serves.{IsOfCall, NamesCalls}

-- the bytes that the call of an entry puts
abbrev put_for : Content → Entry → List ℕ
put_for content e = option_map_or (λ p. put_bytes p.call) (call_at content e.line.caller e.line.call) []

-- an entry has the deed of its call, and the bytes of its put where it stores a file
record IsNamed (content : Content) (e : Entry) : Type 0 where
  deed : deed_for content e.line ≡ e.deed
  put : is_stored e.line.act ≡ true → put_for content e ≡ e.bytes

-- what is said of the block that is found
block_said : (shape : Shape) (p : PlainTable) (e : Entry) (o : Option BlockName) → IsSomeAnd o (Reads shape true p e) → option_map_or (λ b. block p b.stripe b.row) o [] ≡ e.bytes
block_said shape p e None reads = absurd reads
block_said shape p e (Some b) reads = sym (reads.bytes refl)

bytes_back : (shape : Shape) (content : Content) (before : List Entry) (e : Entry) (act : Act) → deed_for content e.line ≡ e.deed → (is_stored act ≡ true → put_for content e ≡ e.bytes)
    → FitsBytes e.deed e.bytes act → HoldsIn shape true before (table_of shape before) (table_at shape before e.line.point) e act
    → bytes_for shape content before e.line act ≡ e.bytes
bytes_back shape content before e (Stored first stripes up) deed put fits holds = put refl
bytes_back shape content before e Data deed put fits holds =
    let p : PlainTable = table_at shape before e.line.point in
    ap (λ (d : Option Deed). option_map_or (λ b. block p b.stripe b.row) (deed_block shape p e.line.part d) []) deed
    ∙ block_said shape p e (named_block shape p e) holds
bytes_back shape content before e _ deed put fits holds = sym fits

-- an entry of its parts
abbrev of_parts : Line → Option Deed → List ℕ → List ℕ → Entry
of_parts line d name bytes = record { line = line; deed = d; name = name; bytes = bytes }

-- the line of an entry gives the entry back
given_back : (shape : Shape) (content : Content) (before : List Entry) (e : Entry) → MayFollow shape true before e → IsNamed content e → entry_for shape content before e.line ≡ e
given_back shape content before e may named =
    ap (λ (d : Option Deed). of_parts e.line d (deed_name d) (bytes_for shape content before e.line e.line.act)) named.deed
    ∙ ap (λ (name : List ℕ). of_parts e.line e.deed name (bytes_for shape content before e.line e.line.act)) (sym may.agrees.name)
    ∙ ap (λ (bytes : List ℕ). of_parts e.line e.deed e.name bytes) (bytes_back shape content before e e.line.act named.deed named.put may.agrees.bytes may.holds)

-- what is said of the call of an entry
of_session : (content : Content) (e : Entry) → IsSomeAnd (call_at content e.line.caller e.line.call) (IsOfCall e) → IsNamed content e
of_session content e is = either (call_at content e.line.caller e.line.call) refl is where
  either : (o : Option Planned) → call_at content e.line.caller e.line.call ≡ o → IsSomeAnd o (IsOfCall e) → IsNamed content e
  either None at is = absurd is
  either (Some p) at is = record {
    deed = ap (λ (o : Option Planned). option_map (λ q. deed_of q.call) o) at ∙ sym is.deed;
    put = λ stored. ap (λ (o : Option Planned). option_map_or (λ q. put_bytes q.call) o []) at ∙ sym (is.bytes stored);
  }

-- an entry of no session has no deed
no_deed : (d : Option Deed) (caller : ℕ) → FitsCaller caller d → MAX_SESSIONS ≤ caller → None ≡ d
no_deed None caller fits node = refl
no_deed (Some d) caller fits node = absurd (omega (arith, fits, node))

stores_nothing : (act : Act) (d : Option Deed) (bytes : List ℕ) → FitsBytes d bytes act → None ≡ d → is_stored act ≡ true → [] ≡ bytes
stores_nothing (Stored first stripes up) d bytes fits none stored = absurd (no_put d (length bytes) none fits) where
  no_put : (d : Option Deed) (len : ℕ) → None ≡ d → put_len d ≡ Some len → ⊥
  no_put None len none put = none-some len put
  no_put (Some x) len none put = none-some x none
stores_nothing Data d bytes fits none stored = absurd (false≢true stored)
stores_nothing _ d bytes fits none stored = sym fits

of_node : (shape : Shape) (content : Content) (before : List Entry) (e : Entry) → MayFollow shape true before e → MAX_SESSIONS ≤ e.line.caller
    → call_at content e.line.caller e.line.call ≡ None → IsNamed content e
of_node shape content before e may node none =
    let deed : None ≡ e.deed = no_deed e.deed e.line.caller may.agrees.caller node in
    record {
      deed = ap (λ (o : Option Planned). option_map (λ q. deed_of q.call) o) none ∙ deed;
      put = λ stored. ap (λ (o : Option Planned). option_map_or (λ q. put_bytes q.call) o []) none ∙ stores_nothing e.line.act e.deed e.bytes may.agrees.bytes deed stored;
    }

-- ---- the whole history

past_onwards : (shape : Shape) (content : Content) (before rest : List Entry) → ((i : ℕ) (e : Entry) → slice_get rest i ≡ Some e → entry_for shape content (before ++ take i rest) e.line ≡ e)
    → past_behind shape content before (map (λ e. e.line) rest) ≡ before ++ rest
past_onwards shape content before [] each = sym (append-nil before)
past_onwards shape content before (e ∷ rest) each =
    let first : entry_for shape content before e.line ≡ e = ap (λ (h : List Entry). entry_for shape content h e.line) (sym (append-nil before)) ∙ each zero e refl in
    ap (λ (x : Entry). past_behind shape content (before ++ x ∷ []) (map (λ y. y.line) rest)) first
    ∙ past_onwards shape content (before ++ e ∷ []) rest
    (λ i x here. ap (λ (h : List Entry). entry_for shape content h x.line) (append_assoc before (e ∷ []) (take i rest)) ∙ each (suc i) x here)
    ∙ append_assoc before (e ∷ []) rest

-- the lines of a legal history that names the calls of the input, whose calls are those of sessions, give the history back
pub past_of : (shape : Shape) (content : Content) (history : List Entry) → IsLegal shape true history
    → NamesCalls content history
    → ((caller call : ℕ) → MAX_SESSIONS ≤ caller → call_at content caller call ≡ None)
    → past shape content (map (λ e. e.line) history) ≡ history
past_of shape content history legal calls nodes = past_onwards shape content [] history each where
  each : (i : ℕ) (e : Entry) → slice_get history i ≡ Some e → entry_for shape content (take i history) e.line ≡ e
  each i e here = elim (cases_lt e.line.caller MAX_SESSIONS) [
    | inl session ↦ given_back shape content (take i history) e (legal i e here) (of_session content e (calls i e here session))
    | inr node ↦ given_back shape content (take i history) e (legal i e here) (of_node shape content (take i history) e (legal i e here) node (nodes e.line.caller e.line.call node))
  ]
