-- Reading a script line by line.
use Rattle.std.proofs.Common.{◌≡◌, ℕ, ◌+◌, ◌<◌, ◌≤◌, true, false, cond, not, List, [], ◌∷◌, ◌++◌, length, refl, sym, ap, subst, ◌∙◌, append_assoc, arith}
use Rattle.std.proofs.lemmas.List.{append-nil, map-append}
use Rattle.std.specs.List.{AllByRecursion}
use Rattle.ecp_shape.specs.declared.limits.TheConstants.{MAX_PUT_BYTES}
use Rattle.ecp_command.specs.declared.input.form.Form.{Form}
use Rattle.ecp_command.specs.declared.input.head.Head.{Head}
use Rattle.ecp_command.specs.declared.input.numbered.Numbered.{Numbered}
use Rattle.ecp_command.specs.declared.input.refusal.Refusal.{Refusal}
use Rattle.ecp_command.specs.declared.input.refusal.Refusal.TheVariants.{NotToml, NoRule, Key, UnknownKey, Line, NoMemory}
use Rattle.ecp_command.specs.declared.input.script.Script.{Script}
use Rattle.ecp_command.specs.Input.Accepted.{RefusesForm}
use Rattle.ecp_command.specs.Input.Cuts.{IsClear, IsCut}
use Rattle.ecp_command.specs.Input.Forms.{Spells, SpellEach}
use Rattle.ecp_command.specs.Input.Limits.{KeepLimits, put_len}
use Rattle.ecp_command.specs.Input.Lines.{lines, numbered, is_skipped}
use Rattle.ecp_command.specs.Input.Script.{forms_of, numbers_of, HasRead, MayRefuseForm}
use Rattle.ecp_command.specs.Input.Totals.{AreTotals}
use Rattle.ecp_command.proofs.Inputs.Dividing.{lines_cut, lines_last}
use Rattle.ecp_command.proofs.Inputs.OneForm.{one_form}

-- ---- the first line

pub first_line : (text line rest : List ℕ) → IsCut 10 text line rest → lines text ≡ line ∷ lines rest
first_line text line rest c = ap lines c.whole ∙ lines_cut line rest c.clear

pub only_line : (text : List ℕ) → 0 < length text → IsClear 10 text → lines text ≡ text ∷ lines []
unfolding lines
only_line [] some clear = absurd (omega arith)
only_line (b ∷ bs) some clear = lines_last b bs clear

-- ---- one more line

pub one_numbered : (n : ℕ) (line : List ℕ) → is_skipped line ≡ false → numbered n (line ∷ []) ≡ (n, line) ∷ []
one_numbered n line h = rw h refl

pub numbered-front : (n : ℕ) (line : List ℕ) (ls : List (List ℕ)) → numbered n (line ∷ ls) ≡ numbered n (line ∷ []) ++ numbered (n + 1) ls
numbered-front n line ls = elim (is_skipped line) as (λ b. cond (not b) ((n, line) ∷ numbered (n + 1) ls) (numbered (n + 1) ls) ≡ cond (not b) ((n, line) ∷ []) [] ++ numbered (n + 1) ls) [ true ↦ refl | false ↦ refl ]

SpellEach-push : (ls : List (ℕ × List ℕ)) (fs : List Form) (l : ℕ × List ℕ) (f : Form) → SpellEach ls fs → Spells l.1 f → SpellEach (ls ++ l ∷ []) (fs ++ f ∷ [])
SpellEach-push [] [] l f h s = (s, tt)
SpellEach-push [] (g ∷ fs) l f h s = absurd h
SpellEach-push (k ∷ ls) [] l f h s = absurd h
SpellEach-push (k ∷ ls) (g ∷ fs) l f h s = (h.0, SpellEach-push ls fs l f h.1 s)

pub reads : (head : Head) (before : List (ℕ × List ℕ)) (old new : Script) (number : ℕ) (line : List ℕ) (f : Form) → HasRead head before old → is_skipped line ≡ false → Spells line f
    → new.forms.items ≡ old.forms.items ++ (record { line = number; form = f }) ∷ [] → AreTotals head (forms_of old.forms.items ++ f ∷ []) new.totals → HasRead head (before ++ numbered number (line ∷ [])) new
reads head before old new number line f h skip s items totals =
    let one : Numbered = record { line = number; form = f } in
    let forms : forms_of new.forms.items ≡ forms_of old.forms.items ++ f ∷ [] = ap forms_of items ∙ map-append (λ (n : Numbered). n.form) old.forms.items (one ∷ []) in
    let numbers : numbers_of new.forms.items ≡ numbers_of old.forms.items ++ number ∷ [] = ap numbers_of items ∙ map-append (λ (n : Numbered). n.line) old.forms.items (one ∷ []) in
    let lines_are : before ++ numbered number (line ∷ []) ≡ before ++ (number, line) ∷ [] = ap (λ (ls : List (ℕ × List ℕ)). before ++ ls) (one_numbered number line skip) in
    subst (λ (ls : List (ℕ × List ℕ)). HasRead head ls new) (sym lines_are) (record {
      read = record {
        spelled = subst (λ (fs : List Form). SpellEach (before ++ (number, line) ∷ []) fs) (sym forms) (SpellEach-push before (forms_of old.forms.items) (number, line) f h.read.spelled s);
        numbers = numbers ∙ ap (λ (ns : List ℕ). ns ++ number ∷ []) h.read.numbers ∙ sym (map-append (λ (l : ℕ × List ℕ). l.0) before ((number, line) ∷ []));
      };
      totals = subst (λ (fs : List Form). AreTotals head fs new.totals) (sym forms) totals;
    })

-- a line whose form passes a limit is refused
pub refuses : (head : Head) (before : List (ℕ × List ℕ)) (script : Script) (number : ℕ) (line : List ℕ) (f : Form) → HasRead head before script → is_skipped line ≡ false → Spells line f
    → (KeepLimits head (forms_of script.forms.items ++ f ∷ []) → ⊥) → RefusesForm head (before ++ numbered number (line ∷ [])) number
refuses head before script number line f h skip s over = record {
  before = before;
  line = line;
  after = [];
  whole = ap (λ (ls : List (ℕ × List ℕ)). before ++ ls) (one_numbered number line skip);
  forms = forms_of script.forms.items;
  has_forms = record { spelled = h.read.spelled; within = h.totals.keep };
  refused = λ g spells keep. over (subst (λ (x : Form). KeepLimits head (forms_of script.forms.items ++ x ∷ [])) (one_form line g f spells s) keep);
}

last_of : (P : Form → Type 0) (fs : List Form) (f : Form) → AllByRecursion P (fs ++ f ∷ []) → P f
last_of P [] f h = h.0
last_of P (g ∷ fs) f h = last_of P fs f h.1

-- a line is refused that has no form, or only one that puts too much
pub refuses_any : (head : Head) (before : List (ℕ × List ℕ)) (script : Script) (number : ℕ) (line : List ℕ) → HasRead head before script → is_skipped line ≡ false
    → ((f : Form) → Spells line f → put_len f ≤ MAX_PUT_BYTES → ⊥) → RefusesForm head (before ++ numbered number (line ∷ [])) number
refuses_any head before script number line h skip none = record {
  before = before;
  line = line;
  after = [];
  whole = ap (λ (ls : List (ℕ × List ℕ)). before ++ ls) (one_numbered number line skip);
  forms = forms_of script.forms.items;
  has_forms = record { spelled = h.read.spelled; within = h.totals.keep };
  refused = λ f spells keep. none f spells (last_of (λ (g : Form). put_len g ≤ MAX_PUT_BYTES) (forms_of script.forms.items) f keep.each_bytes);
}

-- ---- the lines that were read

pub record IsAt (head : Head) (text rest : List ℕ) (first number : ℕ) (script : Script) : Type 0 where
  pub before : List (ℕ × List ℕ)
  pub whole : numbered first (lines text) ≡ before ++ numbered number (lines rest)
  pub read : HasRead head before script
  pub room : number + length rest ≤ first + length text

pub starts : (head : Head) (text : List ℕ) (first : ℕ) (script : Script) → script.forms.items ≡ [] → AreTotals head [] script.totals → IsAt head text text first first script
starts head text first script none totals = record {
  before = [];
  whole = refl;
  read = record {
    read = record { spelled = rw none tt; numbers = rw none refl };
    totals = subst (λ (ns : List Numbered). AreTotals head (forms_of ns) script.totals) (sym none) totals;
  };
  room = omega arith;
}

next_lines : (first number : ℕ) (text rest line after : List ℕ) (before : List (ℕ × List ℕ)) → numbered first (lines text) ≡ before ++ numbered number (lines rest) → lines rest ≡ line ∷ lines after
    → numbered first (lines text) ≡ (before ++ numbered number (line ∷ [])) ++ numbered (number + 1) (lines after)
next_lines first number text rest line after before whole e =
    whole ∙ ap (λ (ls : List (List ℕ)). before ++ numbered number ls) e ∙ ap (λ (ls : List (ℕ × List ℕ)). before ++ ls) (numbered-front number line (lines after)) ∙ sym (append_assoc before (numbered number (line ∷ [])) (numbered (number + 1) (lines after)))

pub goes_on : (head : Head) (text rest line after : List ℕ) (first number : ℕ) (old new : Script) (at : IsAt head text rest first number old) → lines rest ≡ line ∷ lines after → length after < length rest
    → HasRead head (at.before ++ numbered number (line ∷ [])) new → IsAt head text after first (number + 1) new
goes_on head text rest line after first number old new at e shorter h = record {
  before = at.before ++ numbered number (line ∷ []);
  whole = next_lines first number text rest line after at.before at.whole e;
  read = h;
  room = omega (arith, at.room);
}

-- a refusal among the first lines is one of all lines
refuses_more : (head : Head) (ls more : List (ℕ × List ℕ)) (e : Refusal) → MayRefuseForm head ls e → MayRefuseForm head (ls ++ more) e
refuses_more head ls more NoMemory h = tt
refuses_more head ls more (Line number) h = record {
  before = h.before;
  line = h.line;
  after = h.after ++ more;
  whole = ap (λ (xs : List (ℕ × List ℕ)). xs ++ more) h.whole ∙ append_assoc h.before ((number, h.line) ∷ h.after) more;
  forms = h.forms;
  has_forms = h.has_forms;
  refused = h.refused;
}
refuses_more head ls more NotToml h = absurd h
refuses_more head ls more NoRule h = absurd h
refuses_more head ls more (Key s) h = absurd h
refuses_more head ls more UnknownKey h = absurd h

pub ends : (head : Head) (text rest line after : List ℕ) (first number : ℕ) (script : Script) (e : Refusal) (at : IsAt head text rest first number script) → lines rest ≡ line ∷ lines after
    → MayRefuseForm head (at.before ++ numbered number (line ∷ [])) e → MayRefuseForm head (numbered first (lines text)) e
ends head text rest line after first number script e at l h =
    subst (λ (ls : List (ℕ × List ℕ)). MayRefuseForm head ls e) (sym (next_lines first number text rest line after at.before at.whole l)) (refuses_more head (at.before ++ numbered number (line ∷ [])) (numbered (number + 1) (lines after)) e h)

pub is_done : (head : Head) (text rest : List ℕ) (first number : ℕ) (script : Script) → IsAt head text rest first number script → rest ≡ [] → HasRead head (numbered first (lines text)) script
unfolding lines
is_done head text rest first number script at none =
    let whole : numbered first (lines text) ≡ at.before = at.whole ∙ ap (λ (t : List ℕ). at.before ++ numbered number (lines t)) none ∙ append-nil at.before in
    subst (λ (ls : List (ℕ × List ℕ)). HasRead head ls script) (sym whole) at.read
