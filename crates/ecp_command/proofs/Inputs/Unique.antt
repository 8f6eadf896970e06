-- An input has one reading: one content, or one first refusal.
use Rattle.std.proofs.Common.{◌≡◌, ◌≢◌, ℕ, ◌+◌, ◌*◌, ◌<◌, ◌≤◌, ◌⊎◌, cond, List, [], ◌∷◌, ◌++◌, length, take, drop, Some, Result, Ok, Err, refl, inl, inr, sym, ap, subst, ◌∙◌, append_assoc, arith}
use Rattle.std.specs.Prelude.{sum_by, count_by}
use Rattle.std.specs.List.{AllByRecursion}
use Rattle.std.proofs.lemmas.List.{take-append-drop, take-take, length-append}
use Rattle.std.proofs.lemmas.List.Sums.{sum_by-append}
use Rattle.toml.specs.Parse.{parse_document}
use Rattle.ecp_shape.specs.declared.limits.TheConstants.{MAX_PUT_BYTES, MAX_PUT_STRIPES, MAX_STORED, MAX_READ, MAX_ENTRIES}
use Rattle.ecp_command.specs.declared.input.form.Form.{Form}
use Rattle.ecp_command.specs.declared.input.head.Head.{Head}
use Rattle.ecp_command.specs.declared.input.refusal.Refusal.{Refusal}
use Rattle.ecp_command.specs.declared.input.refusal.Refusal.TheVariants.{NotToml, NoRule, Key, UnknownKey, Line, NoMemory}
use Rattle.ecp_command.specs.Input.Accepted.{Content, HasHead, HasForms, IsAccepted, RefusesForm, RefusesCost, RefusesLine, RefusesHead, HasNoDocument, MayRefuse}
use Rattle.ecp_command.specs.Input.Calls.{SessionCalls, sessions_of, phases_of}
use Rattle.ecp_command.specs.Input.Forms.{Spells, SpellEach}
use Rattle.ecp_command.specs.Input.Limits.{KeepLimits, put_len, put_stripes, is_read, cost, costs}
use Rattle.ecp_command.specs.Input.Lines.{rule, text_of, numbered, Parts, ArePartsOf, HasNoRule}
use Rattle.ecp_command.specs.Input.Settings.{IsDocument, head_of}
use Rattle.ecp_command.proofs.Inputs.OneForm.{one_form}

-- ---- the parts of an input

same_split : {X : Type 0} (b : X) (f g r s : List X) → AllByRecursion (λ x. x ≢ b) f → AllByRecursion (λ x. x ≢ b) g → f ++ b ∷ r ≡ g ++ b ∷ s → (f ≡ g) × (r ≡ s)
same_split b [] [] r s cf cg e = (refl, cc)
same_split b [] (y ∷ g) r s cf cg e = absurd (cg.0 cc)
same_split b (x ∷ f) [] r s cf cg e = absurd (cf.0 cc)
same_split b (x ∷ f) (y ∷ g) r s cf cg e =
    let same : x ≡ y = cc in
    let rest : f ++ b ∷ r ≡ g ++ b ∷ s = cc in
    let both = same_split b f g r s cf.1 cg.1 rest in
    (rw (same, both.0) refl, both.1)

absent : {X : Type 0} (b : X) (f r : List X) → AllByRecursion (λ x. x ≢ b) (f ++ b ∷ r) → ⊥
absent b [] r h = h.0 refl
absent b (x ∷ f) r h = absent b f r h.1

abbrev parts_of : List ℕ → List (ℕ × List ℕ) → Parts
parts_of head script = record { head = head; script = script }

same_parts : (input : List ℕ) (p q : Parts) → ArePartsOf input p → ArePartsOf input q → p ≡ q
same_parts input p q h k =
    let same = same_split rule h.before k.before h.after k.after h.first k.first (sym h.whole ∙ k.whole) in
    let heads : p.head ≡ q.head = h.head ∙ ap text_of same.0 ∙ sym k.head in
    let scripts : p.script ≡ q.script = h.script ∙ ap (λ (b : List (List ℕ)). numbered (length b + 2) h.after) same.0 ∙ ap (numbered (length k.before + 2)) same.1 ∙ sym k.script in
    ap (λ (x : List ℕ). parts_of x p.script) heads ∙ ap (parts_of q.head) scripts

no_rule : (input : List ℕ) (p : Parts) → HasNoRule input → ArePartsOf input p → ⊥
no_rule input p none h = absent rule h.before h.after (subst (λ (ls : List (List ℕ)). AllByRecursion (λ line. line ≢ rule) ls) h.whole none)

-- ---- the head of an input

same_head : (input : List ℕ) (s t : List (ℕ × List ℕ)) (a b : Result Head Refusal) → HasHead input s a → HasHead input t b → (s ≡ t) × (a ≡ b)
same_head input s t a b h k =
    let e = same_parts input h.parts k.parts h.split k.split in
    let tops : Some h.top ≡ Some k.top = sym h.document.toml ∙ ap (λ (p : Parts). parse_document p.head) e ∙ k.document.toml in
    let top : h.top ≡ k.top = cc in
    (sym h.script_is ∙ ap (λ (p : Parts). p.script) e ∙ k.script_is, sym h.head_is ∙ ap head_of top ∙ k.head_is)

no_document : (input : List ℕ) (s : List (ℕ × List ℕ)) (a : Result Head Refusal) → HasNoDocument input → HasHead input s a → ⊥
no_document input s a n h = n.none h.top (subst (λ (p : Parts). IsDocument p.head h.top) (same_parts input h.parts n.parts h.split n.split) h.document)

-- ---- the forms of a script

same_forms : (ls : List (ℕ × List ℕ)) (fs gs : List Form) → SpellEach ls fs → SpellEach ls gs → fs ≡ gs
same_forms [] [] [] h k = refl
same_forms [] [] (g ∷ gs) h k = absurd k
same_forms [] (f ∷ fs) gs h k = absurd h
same_forms (l ∷ ls) [] gs h k = absurd h
same_forms (l ∷ ls) (f ∷ fs) [] h k = absurd k
same_forms (l ∷ ls) (f ∷ fs) (g ∷ gs) h k = rw (one_form l.1 f g h.0 k.0, same_forms ls fs gs h.1 k.1) refl

split_forms : (a : List (ℕ × List ℕ)) (l : ℕ × List ℕ) (b : List (ℕ × List ℕ)) (fs forms : List Form) → SpellEach a fs → SpellEach (a ++ l ∷ b) forms → (f : Form) × (rest : List Form) × Spells l.1 f × (forms ≡ fs ++ f ∷ rest)
split_forms [] l b [] [] h k = absurd k
split_forms [] l b [] (g ∷ forms) h k = (g, forms, k.0, refl)
split_forms [] l b (f ∷ fs) forms h k = absurd h
split_forms (x ∷ a) l b [] forms h k = absurd h
split_forms (x ∷ a) l b (f ∷ fs) [] h k = absurd k
split_forms (x ∷ a) l b (f ∷ fs) (g ∷ forms) h k =
    let more = split_forms a l b fs forms h.1 k.1 in
    (more.0, more.1, more.2, ap (λ (y : Form). y ∷ forms) (one_form x.1 g f k.0 h.0) ∙ ap (λ (ys : List Form). f ∷ ys) more.3)

-- ---- fewer lines keep the limits too

All-front : {X : Type 0} (P : X → Type 0) (a b : List X) → AllByRecursion P (a ++ b) → AllByRecursion P a
All-front P [] b h = tt
All-front P (x ∷ a) b h = (h.0, All-front P a b h.1)

sum_front : (f : Form → ℕ) (a b : List Form) → sum_by f a ≤ sum_by f (a ++ b)
sum_front f a b = omega (arith, sum_by-append f a b)

below_product : (x y n m limit : ℕ) → x ≤ y → y * n * m ≤ limit → x * n * m ≤ limit
below_product x y n m limit le h = grind arith

below_times : (x y m limit : ℕ) → x ≤ y → y * m ≤ limit → x * m ≤ limit
below_times x y m limit le h = grind arith

keep_front : (head : Head) (a b : List Form) → KeepLimits head (a ++ b) → KeepLimits head a
keep_front head a b h = record {
  lines = omega (arith, h.lines, length-append a b);
  each_bytes = All-front (λ f. put_len f ≤ MAX_PUT_BYTES) a b h.each_bytes;
  each_stripes = All-front (λ f. put_stripes head f ≤ MAX_PUT_STRIPES) a b h.each_stripes;
  bytes = omega (arith, h.bytes, sum_front put_len a b);
  stripes = omega (arith, h.stripes, sum_front (put_stripes head) a b);
  stored = below_product (sum_by (put_stripes head) a) (sum_by (put_stripes head) (a ++ b)) head.n head.block MAX_STORED (sum_front (put_stripes head) a b) h.stored;
  reads = below_times (count_by is_read a) (count_by is_read (a ++ b)) head.block MAX_READ (sum_front (λ f. cond (is_read f) 1 0) a b) h.reads;
}

-- a script with forms has no refused line
no_form : (head : Head) (script : List (ℕ × List ℕ)) (number : ℕ) (forms : List Form) → HasForms head script forms → RefusesForm head script number → ⊥
no_form head script number forms h r =
    let p = split_forms r.before (number, r.line) r.after r.forms forms r.has_forms.spelled (subst (λ (ls : List (ℕ × List ℕ)). SpellEach ls forms) r.whole h.spelled) in
    let e : forms ≡ (r.forms ++ p.0 ∷ []) ++ p.1 = p.3 ∙ sym (append_assoc r.forms (p.0 ∷ []) p.1) in
    r.refused p.0 p.2 (keep_front head (r.forms ++ p.0 ∷ []) p.1 (subst (λ (fs : List Form). KeepLimits head fs) e h.within))

-- ---- sums of costs

sum_take : (price : Form → ℕ) (fs : List Form) (k : ℕ) → sum_by price (take k fs) ≤ sum_by price fs
sum_take price fs k = subst (λ (gs : List Form). sum_by price (take k fs) ≤ sum_by price gs) (take-append-drop k fs) (sum_front price (take k fs) (drop k fs))

sum_take_more : (price : Form → ℕ) (fs : List Form) (i j : ℕ) → i ≤ j → sum_by price (take i fs) ≤ sum_by price (take j fs)
sum_take_more price fs i j le = subst (λ (gs : List Form). sum_by price gs ≤ sum_by price (take j fs)) (take-take i j fs le) (sum_take price (take j fs) i)

-- a script within the costs has no line over them
no_cost : (head : Head) (script : List (ℕ × List ℕ)) (number : ℕ) (forms : List Form) → HasForms head script forms → costs head forms forms ≤ MAX_ENTRIES → RefusesCost head script number → ⊥
no_cost head script number forms h cheap r =
    let e : r.forms ≡ forms = same_forms script r.forms forms r.has_forms.spelled h.spelled in
    let total : costs head r.forms r.forms ≤ MAX_ENTRIES = subst (λ (fs : List Form). costs head fs fs ≤ MAX_ENTRIES) (sym e) cheap in
    let part = sum_take (cost head r.forms) r.forms (length r.before + 1) in
    omega (arith, total, part, r.dear)

-- ---- the first line that is refused

order : {X : Type 0} (a : List X) (x : X) (b c : List X) (y : X) (d : List X) → a ++ x ∷ b ≡ c ++ y ∷ d → (((a ≡ c) × (x ≡ y)) ⊎ ((mid : List X) × (c ≡ a ++ x ∷ mid))) ⊎ ((mid : List X) × (a ≡ c ++ y ∷ mid))
order [] x b [] y d e = inl (inl (refl, cc))
order [] x b (z ∷ c) y d e = let same : x ≡ z = cc in inl (inr (c, rw same refl))
order (w ∷ a) x b [] y d e = let same : w ≡ y = cc in inr (a, rw same refl)
order (w ∷ a) x b (z ∷ c) y d e =
    let same : w ≡ z = cc in
    let rest : a ++ x ∷ b ≡ c ++ y ∷ d = cc in
    elim (order a x b c y d rest) [
      | inl p ↦ elim p [ inl q ↦ inl (inl (rw (same, q.0) refl, q.1)) | inr q ↦ inl (inr (q.0, rw (same, q.1) refl)) ]
      | inr p ↦ inr (p.0, rw (same, p.1) refl)
    ]

-- a line refused among fewer
fewer : (head : Head) (a : List (ℕ × List ℕ)) (line : List ℕ) (mid : List (ℕ × List ℕ)) (number : ℕ) (script : List (ℕ × List ℕ)) (r : RefusesForm head script number) → a ≡ r.before ++ (number, r.line) ∷ mid → RefusesForm head a number
fewer head a line mid number script r e = record { before = r.before; line = r.line; after = mid; whole = e; forms = r.forms; has_forms = r.has_forms; refused = r.refused }

same_form_line : (head : Head) (script : List (ℕ × List ℕ)) (n m : ℕ) → RefusesForm head script n → RefusesForm head script m → n ≡ m
same_form_line head script n m r s =
    elim (order r.before (n, r.line) r.after s.before (m, s.line) s.after (sym r.whole ∙ s.whole)) [
      | inl p ↦ elim p [
        | inl q ↦ ap (λ (l : ℕ × List ℕ). l.0) q.1
        | inr q ↦ absurd (no_form head s.before n s.forms s.has_forms (fewer head s.before r.line q.0 n script r q.1))
      ]
      | inr p ↦ absurd (no_form head r.before m r.forms r.has_forms (fewer head r.before s.line p.0 m script s p.1))
    ]

longer : {X : Type 0} (a c : List X) (x : X) (mid : List X) → c ≡ a ++ x ∷ mid → length a + 1 ≤ length c
longer a c x mid e = omega (arith, ap length e, length-append a (x ∷ mid))

over_twice : (price : Form → ℕ) (fs : List Form) (i j : ℕ) → i + 1 ≤ j → MAX_ENTRIES < sum_by price (take (i + 1) fs) → sum_by price (take j fs) ≤ MAX_ENTRIES → ⊥
over_twice price fs i j le dear cheap = let more = sum_take_more price fs (i + 1) j le in omega (arith, more, dear, cheap)

same_cost_line : (head : Head) (script : List (ℕ × List ℕ)) (n m : ℕ) → RefusesCost head script n → RefusesCost head script m → n ≡ m
same_cost_line head script n m r s =
    let e : r.forms ≡ s.forms = same_forms script r.forms s.forms r.has_forms.spelled s.has_forms.spelled in
    elim (order r.before (n, r.line) r.after s.before (m, s.line) s.after (sym r.whole ∙ s.whole)) [
      | inl p ↦ elim p [
        | inl q ↦ ap (λ (l : ℕ × List ℕ). l.0) q.1
        | inr q ↦ absurd (over_twice (cost head r.forms) r.forms (length r.before) (length s.before) (longer r.before s.before (n, r.line) q.0 q.1) r.dear (subst (λ (fs : List Form). costs head fs (take (length s.before) fs) ≤ MAX_ENTRIES) (sym e) s.cheap))
      ]
      | inr p ↦ absurd (over_twice (cost head s.forms) s.forms (length s.before) (length r.before) (longer s.before r.before (m, s.line) p.0 p.1) s.dear (subst (λ (fs : List Form). costs head fs (take (length r.before) fs) ≤ MAX_ENTRIES) e r.cheap))
    ]

same_line : (head : Head) (script : List (ℕ × List ℕ)) (n m : ℕ) → RefusesForm head script n ⊎ RefusesCost head script n → RefusesForm head script m ⊎ RefusesCost head script m → n ≡ m
same_line head script n m (inl r) (inl s) = same_form_line head script n m r s
same_line head script n m (inl r) (inr s) = absurd (no_form head script n s.forms s.has_forms r)
same_line head script n m (inr r) (inl s) = absurd (no_form head script m r.forms r.has_forms s)
same_line head script n m (inr r) (inr s) = same_cost_line head script n m r s

-- ---- the laws

abbrev ok_head : Head → Result Head Refusal
ok_head h = Ok h

abbrev refused_head : Refusal → Result Head Refusal
refused_head e = Err e

head_is : (a b : Head) → ok_head a ≡ ok_head b → a ≡ b
head_is a b e = cc

refusal_is : (a b : Refusal) → refused_head a ≡ refused_head b → a ≡ b
refusal_is a b e = cc

abbrev content_of : Head → List SessionCalls → ℕ → Content
content_of head sessions phases = record { head = head; sessions = sessions; phases = phases }

pub same_content : (input : List ℕ) (a b : Content) → IsAccepted input a → IsAccepted input b → a ≡ b
same_content input a b h k =
    let same = same_head input h.script k.script (Ok a.head) (Ok b.head) h.head k.head in
    let head : a.head ≡ b.head = head_is a.head b.head same.1 in
    let forms : h.forms ≡ k.forms = same_forms k.script h.forms k.forms (subst (λ (ls : List (ℕ × List ℕ)). SpellEach ls h.forms) same.0 h.has_forms.spelled) k.has_forms.spelled in
    let sessions : a.sessions ≡ b.sessions = h.sessions ∙ ap sessions_of forms ∙ sym k.sessions in
    let phases : a.phases ≡ b.phases = h.phases ∙ ap phases_of forms ∙ sym k.phases in
    ap (λ (x : Head). content_of x a.sessions a.phases) head ∙ ap (λ (x : List SessionCalls). content_of b.head x a.phases) sessions ∙ ap (content_of b.head b.sessions) phases

not_line : (input : List ℕ) (c : Content) (n : ℕ) → IsAccepted input c → RefusesLine input n → ⊥
not_line input c n h r =
    let same = same_head input h.script r.script (Ok c.head) (Ok r.settings) h.head r.head in
    let head : c.head ≡ r.settings = head_is c.head r.settings same.1 in
    let forms : HasForms r.settings r.script h.forms = subst (λ (x : Head). HasForms x r.script h.forms) head (subst (λ (ls : List (ℕ × List ℕ)). HasForms c.head ls h.forms) same.0 h.has_forms) in
    elim r.refused [
      | inl f ↦ no_form r.settings r.script n h.forms forms f
      | inr f ↦ no_cost r.settings r.script n h.forms forms (subst (λ (x : Head). costs x h.forms h.forms ≤ MAX_ENTRIES) head h.cheap) f
    ]

not_head : (input : List ℕ) (s t : List (ℕ × List ℕ)) (h : Head) (e : Refusal) → HasHead input s (Ok h) → HasHead input t (Err e) → ⊥
not_head input s t h e a b =
    let same : ok_head h ≡ refused_head e = (same_head input s t (Ok h) (Err e) a b).1 in absurd cc

pub not_refused : (input : List ℕ) (c : Content) (r : Refusal) → r ≢ NoMemory → IsAccepted input c → MayRefuse input r → ⊥
not_refused input c NotToml free h r = no_document input h.script (Ok c.head) r h.head
not_refused input c NoRule free h r = no_rule input h.head.parts r h.head.split
not_refused input c (Key s) free h r = not_head input h.script r.script c.head (Key s) h.head r.head
not_refused input c UnknownKey free h r = not_head input h.script r.script c.head UnknownKey h.head r.head
not_refused input c (Line n) free h r = not_line input c n h r
not_refused input c NoMemory free h r = free refl

same_heads : (input : List ℕ) (a b : Refusal) → RefusesHead input a → RefusesHead input b → a ≡ b
same_heads input a b h k = refusal_is a b (same_head input h.script k.script (Err a) (Err b) h.head k.head).1

same_lines : (input : List ℕ) (n m : ℕ) → RefusesLine input n → RefusesLine input m → n ≡ m
same_lines input n m r s =
    let same = same_head input r.script s.script (Ok r.settings) (Ok s.settings) r.head s.head in
    let head : r.settings ≡ s.settings = head_is r.settings s.settings same.1 in
    same_line s.settings s.script n m (subst (λ (x : Head). RefusesForm x s.script n ⊎ RefusesCost x s.script n) head (subst (λ (ls : List (ℕ × List ℕ)). RefusesForm r.settings ls n ⊎ RefusesCost r.settings ls n) same.0 r.refused)) s.refused

pub same_refusal : (input : List ℕ) (a b : Refusal) → a ≢ NoMemory → b ≢ NoMemory → MayRefuse input a → MayRefuse input b → a ≡ b
same_refusal input NoMemory b fa fb h k = absurd (fa refl)
same_refusal input NoRule NoMemory fa fb h k = absurd (fb refl)
same_refusal input NoRule NoRule fa fb h k = refl
same_refusal input NoRule NotToml fa fb h k = absurd (no_rule input k.parts h k.split)
same_refusal input NoRule (Key s) fa fb h k = absurd (no_rule input k.head.parts h k.head.split)
same_refusal input NoRule UnknownKey fa fb h k = absurd (no_rule input k.head.parts h k.head.split)
same_refusal input NoRule (Line n) fa fb h k = absurd (no_rule input k.head.parts h k.head.split)
same_refusal input NotToml NoMemory fa fb h k = absurd (fb refl)
same_refusal input NotToml NoRule fa fb h k = absurd (no_rule input h.parts k h.split)
same_refusal input NotToml NotToml fa fb h k = refl
same_refusal input NotToml (Key s) fa fb h k = absurd (no_document input k.script (Err (Key s)) h k.head)
same_refusal input NotToml UnknownKey fa fb h k = absurd (no_document input k.script (Err UnknownKey) h k.head)
same_refusal input NotToml (Line n) fa fb h k = absurd (no_document input k.script (Ok k.settings) h k.head)
same_refusal input (Key s) NoMemory fa fb h k = absurd (fb refl)
same_refusal input (Key s) NoRule fa fb h k = absurd (no_rule input h.head.parts k h.head.split)
same_refusal input (Key s) NotToml fa fb h k = absurd (no_document input h.script (Err (Key s)) k h.head)
same_refusal input (Key s) (Key t) fa fb h k = same_heads input (Key s) (Key t) h k
same_refusal input (Key s) UnknownKey fa fb h k = same_heads input (Key s) UnknownKey h k
same_refusal input (Key s) (Line n) fa fb h k = absurd (not_head input k.script h.script k.settings (Key s) k.head h.head)
same_refusal input UnknownKey NoMemory fa fb h k = absurd (fb refl)
same_refusal input UnknownKey NoRule fa fb h k = absurd (no_rule input h.head.parts k h.head.split)
same_refusal input UnknownKey NotToml fa fb h k = absurd (no_document input h.script (Err UnknownKey) k h.head)
same_refusal input UnknownKey (Key t) fa fb h k = same_heads input UnknownKey (Key t) h k
same_refusal input UnknownKey UnknownKey fa fb h k = refl
same_refusal input UnknownKey (Line n) fa fb h k = absurd (not_head input k.script h.script k.settings UnknownKey k.head h.head)
same_refusal input (Line n) NoMemory fa fb h k = absurd (fb refl)
same_refusal input (Line n) NoRule fa fb h k = absurd (no_rule input h.head.parts k h.head.split)
same_refusal input (Line n) NotToml fa fb h k = absurd (no_document input h.script (Ok h.settings) k h.head)
same_refusal input (Line n) (Key t) fa fb h k = absurd (not_head input h.script k.script h.settings (Key t) h.head k.head)
same_refusal input (Line n) UnknownKey fa fb h k = absurd (not_head input h.script k.script h.settings UnknownKey h.head k.head)
same_refusal input (Line n) (Line m) fa fb h k = ap (λ (x : ℕ). Line x) (same_lines input n m h k)
