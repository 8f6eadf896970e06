-- Adding up what lines cost, and taking a list apart at a place.
use Rattle.std.proofs.Common.{◌≡◌, ℕ, zero, suc, ◌+◌, ◌<◌, ◌≤◌, List, [], ◌∷◌, ◌++◌, length, get_or, take, drop, map, refl, sym, ap, subst, ◌∙◌, arith}
use Rattle.std.specs.Prelude.{sum_by}
use Rattle.std.proofs.lemmas.List.{take_more, map-append, take-map, length-map}
use Rattle.std.proofs.lemmas.List.Sums.{sum_by_push}
use Rattle.ecp_shape.specs.declared.limits.TheConstants.{MAX_ENTRIES}
use Rattle.ecp_command.specs.declared.input.form.Form.{Form}
use Rattle.ecp_command.specs.declared.input.head.Head.{Head}
use Rattle.ecp_command.specs.declared.input.numbered.Numbered.{Numbered}
use Rattle.ecp_command.specs.Input.Accepted.{RefusesCost}
use Rattle.ecp_command.specs.Input.Costs.{IsOver}
use Rattle.ecp_command.specs.Input.Limits.{cost, costs, KeepLimits}
use Rattle.ecp_command.specs.Input.Script.{forms_of, numbers_of, AreRead}

-- the costs with one more line
pub spent_more : (price : Form → ℕ) (forms : List Numbered) (i spent : ℕ) (n : Numbered) → i < length forms → n ≡ get_or forms i n → spent ≡ sum_by price (forms_of (take i forms)) → spent + price n.form ≡ sum_by price (take (i + 1) (forms_of forms))
spent_more price forms i spent n lt is sum =
    let more : take (i + 1) forms ≡ take i forms ++ n ∷ [] = take_more forms i n lt ∙ ap (λ (x : Numbered). take i forms ++ x ∷ []) (sym is) in
    let split : forms_of (take (i + 1) forms) ≡ forms_of (take i forms) ++ n.form ∷ [] = ap forms_of more ∙ map-append (λ (x : Numbered). x.form) (take i forms) (n ∷ []) in
    ap (λ (s : ℕ). s + price n.form) sum ∙ sym (sum_by_push price (forms_of (take i forms)) n.form) ∙ ap (sum_by price) (sym split) ∙ ap (sum_by price) (sym (take-map (λ (x : Numbered). x.form) (i + 1) forms))

number_at : (forms : List Numbered) (i : ℕ) (n : Numbered) → i < length forms → n ≡ get_or forms i n → n.line ≡ get_or (numbers_of forms) i 0
number_at [] i n lt is = absurd (omega arith)
number_at (x ∷ forms) zero n lt is = ap (λ (y : Numbered). y.line) is
number_at (x ∷ forms) (suc i) n lt is = number_at forms i n (omega arith) is

pub is_over : (head : Head) (forms : List Numbered) (i spent : ℕ) (n : Numbered) → i < length forms → n ≡ get_or forms i n → spent ≡ costs head (forms_of forms) (forms_of (take i forms)) → spent ≤ MAX_ENTRIES
    → MAX_ENTRIES < spent + cost head (forms_of forms) n.form → IsOver head forms n.line
is_over head forms i spent n lt is sum small over =
    let price : Form → ℕ = λ f. cost head (forms_of forms) f in
    record {
      place = i;
      within = lt;
      number_is = number_at forms i n lt is;
      cheap = subst (λ (s : ℕ). s ≤ MAX_ENTRIES) (sum ∙ ap (sum_by price) (sym (take-map (λ (x : Numbered). x.form) i forms))) small;
      dear = subst (λ (s : ℕ). MAX_ENTRIES < s) (spent_more price forms i spent n lt is sum) over;
    }

-- ---- the line of a script at a place

line_at : (ls : List (ℕ × List ℕ)) (i : ℕ) → i < length ls → (l : ℕ × List ℕ) × (l.0 ≡ get_or (map (λ x. x.0) ls) i 0) × (ls ≡ take i ls ++ l ∷ drop (suc i) ls)
line_at [] i lt = absurd (omega arith)
line_at (l ∷ ls) zero lt = (l, refl, refl)
line_at (l ∷ ls) (suc i) lt =
    let r = line_at ls i (omega arith) in
    (r.0, r.1, ap (λ (xs : List (ℕ × List ℕ)). l ∷ xs) r.2)

length-take-lt : (ls : List (ℕ × List ℕ)) (i : ℕ) → i < length ls → length (take i ls) ≡ i
length-take-lt [] i lt = absurd (omega arith)
length-take-lt (l ∷ ls) zero lt = refl
length-take-lt (l ∷ ls) (suc i) lt = ap suc (length-take-lt ls i (omega arith))

pub costs_refuse : (head : Head) (script : List (ℕ × List ℕ)) (forms : List Numbered) (number : ℕ) → AreRead script forms → KeepLimits head (forms_of forms) → IsOver head forms number → RefusesCost head script number
costs_refuse head script forms number read keep over =
    let len : length forms ≡ length script = sym (length-map forms (λ (n : Numbered). n.line)) ∙ ap length read.numbers ∙ length-map script (λ (l : ℕ × List ℕ). l.0) in
    let lt : over.place < length script = omega (arith, over.within) in
    let at = line_at script over.place lt in
    let number_is : at.0.0 ≡ number = at.1 ∙ ap (λ (ns : List ℕ). get_or ns over.place 0) (sym read.numbers) ∙ sym over.number_is in
    let front : length (take over.place script) ≡ over.place = length-take-lt script over.place lt in
    record {
      before = take over.place script;
      line = at.0.1;
      after = drop (suc over.place) script;
      whole = at.2 ∙ ap (λ (n : ℕ). take over.place script ++ (n, at.0.1) ∷ drop (suc over.place) script) number_is;
      forms = forms_of forms;
      has_forms = record { spelled = read.spelled; within = keep };
      cheap = subst (λ (i : ℕ). costs head (forms_of forms) (take i (forms_of forms)) ≤ MAX_ENTRIES) (sym front) over.cheap;
      dear = subst (λ (i : ℕ). MAX_ENTRIES < costs head (forms_of forms) (take (i + 1) (forms_of forms))) (sym front) over.dear;
    }
