-- The largest file of each name that lines put, one line after another.
use Rattle.std.proofs.Common.{◌≡◌, ℕ, zero, suc, ◌+◌, ◌-◌, ◌/◌, ◌<◌, ◌≤◌, arith, Bool, true, false, cond, List, [], ◌∷◌, ◌++◌, length, get_or, take, Option, Some, refl, sym, ap, subst, ◌∙◌}
use Rattle.std.specs.Prelude.{bytes_eq, max, unwrap_or}
use Rattle.std.specs.Borrow.{Bor}
use Rattle.std.specs.Int.{div_ceil}
use Rattle.std.specs.List.{AllByRecursion}
use Rattle.std.specs.HashMap.{HashMap, UpdatesBy, get_by}
use Rattle.std.proofs.Math.Nat.{div-le_self}
use Rattle.std.proofs.lemmas.List.{map-append, take_more}
use Rattle.std.proofs.lemmas.List.Sums.{fold-append}
use Rattle.std.proofs.lemmas.Slice.Eq.{bytes_eq-Decides}
use Rattle.std.proofs.lemmas.Map.Text.{hash_map_updates_str}
use Rattle.ecp_command.specs.declared.input.call.Call.TheVariants.{Put}
use Rattle.ecp_command.specs.declared.input.form.Form.{Form}
use Rattle.ecp_command.specs.declared.input.form.Form.TheVariants.{Call}
use Rattle.ecp_command.specs.declared.input.head.Head.{Head}
use Rattle.ecp_command.specs.declared.input.numbered.Numbered.{Numbered}
use Rattle.ecp_command.specs.Input.Costs.{AreMost}
use Rattle.ecp_command.specs.Input.Limits.{blocks_put, most_blocks}
use Rattle.ecp_command.specs.Input.Script.{forms_of}

-- a file has at most one block more than bytes
pub few_blocks : (n b : ℕ) → div_ceil n b ≤ n + 1
few_blocks n b = omega (arith, div-le_self n b)

-- what holds of each line holds of the one at a place
pub line_holds : (P : Form → Type 0) (forms : List Numbered) (i : ℕ) (n : Numbered) → AllByRecursion P (forms_of forms) → i < length forms → n ≡ get_or forms i n → P n.form
line_holds P [] i n all lt is = absurd (omega (arith, lt))
line_holds P (x ∷ forms) zero n all lt is = subst (λ (y : Numbered). P y.form) (sym is) all.0
line_holds P (x ∷ forms) (suc i) n all lt is = line_holds P forms i n all.1 (omega (arith, lt)) is

-- the lines up to one more
lines_more : (forms : List Numbered) (i : ℕ) (n : Numbered) → i < length forms → n ≡ get_or forms i n → forms_of (take (i + 1) forms) ≡ forms_of (take i forms) ++ n.form ∷ []
lines_more forms i n lt is =
    ap forms_of (take_more forms i n lt ∙ ap (λ (x : Numbered). take i forms ++ x ∷ []) (sym is)) ∙ map-append (λ (x : Numbered). x.form) (take i forms) (n ∷ [])

-- the most with one more
most_more : (head : Head) (forms : List Numbered) (i : ℕ) (n : Numbered) (name : List ℕ) → i < length forms → n ≡ get_or forms i n
    → most_blocks head (forms_of (take (i + 1) forms)) name ≡ max (most_blocks head (forms_of (take i forms)) name) (blocks_put head name n.form)
most_more head forms i n name lt is =
    ap (λ (fs : List Form). most_blocks head fs name) (lines_more forms i n lt is)
    ∙ fold-append (λ (most : ℕ) (f : Form). max most (blocks_put head name f)) 0 (forms_of (take i forms)) (n.form ∷ [])

max_none : (n : ℕ) → max n 0 ≡ n
max_none n = grind arith

-- a line that puts nothing changes none
pub most_same : {S : Type 0} (head : Head) (forms : List Numbered) (i : ℕ) (n : Numbered) (m : HashMap (Bor (List ℕ)) ℕ S) → i < length forms → n ≡ get_or forms i n
    → ((name : List ℕ) → blocks_put head name n.form ≡ 0) → AreMost head (forms_of (take i forms)) m → AreMost head (forms_of (take (i + 1) forms)) m
most_same head forms i n m lt is none are = λ name.
    are name ∙ sym (max_none (most_blocks head (forms_of (take i forms)) name)) ∙ ap (λ (b : ℕ). max (most_blocks head (forms_of (take i forms)) name) b) (sym (none name))
    ∙ sym (most_more head forms i n name lt is)

-- one that puts a file raises that of its name
pub most_raised : {S : Type 0} (head : Head) (forms : List Numbered) (i : ℕ) (n : Numbered) (key bytes : List ℕ) (most : ℕ) (m w : HashMap (Bor (List ℕ)) ℕ S) → i < length forms → n ≡ get_or forms i n
    → n.form ≡ Call (Put key bytes) → AreMost head (forms_of (take i forms)) m
    → most ≡ max (unwrap_or (get_by (λ k. bytes_eq key k.now) m) 0) ((length bytes + head.block - 1) / head.block)
    → UpdatesBy (λ x y. bytes_eq x.now y.now) (λ k. bytes_eq key k.now) m w (Some most) → AreMost head (forms_of (take (i + 1) forms)) w
most_raised head forms i n key bytes most m w lt is puts are raised updates = λ name.
    let found : get_by (λ k. bytes_eq name k.now) w ≡ cond (bytes_eq key name) (Some most) (get_by (λ k. bytes_eq name k.now) m) = hash_map_updates_str key m w (Some most) updates name in
    ap (λ (o : Option ℕ). unwrap_or o 0) found
    ∙ one name (bytes_eq key name) refl
    ∙ ap (λ (b : ℕ). max (most_blocks head (forms_of (take i forms)) name) b) (sym (ap (blocks_put head name) puts))
    ∙ sym (most_more head forms i n name lt is)
  where
    one : (name : List ℕ) (b : Bool) → bytes_eq key name ≡ b
        → unwrap_or (cond b (Some most) (get_by (λ k. bytes_eq name k.now) m)) 0 ≡ max (most_blocks head (forms_of (take i forms)) name) (cond b ((length bytes + head.block - 1) / head.block) 0)
    one name true same =
        let here : key ≡ name = (bytes_eq-Decides key name).0 same in
        raised ∙ ap (λ (q : List ℕ). max (unwrap_or (get_by (λ k. bytes_eq q k.now) m) 0) ((length bytes + head.block - 1) / head.block)) here
        ∙ ap (λ (b : ℕ). max b ((length bytes + head.block - 1) / head.block)) (are name)
    one name false other = are name ∙ sym (max_none (most_blocks head (forms_of (take i forms)) name))
