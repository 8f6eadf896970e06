-- A line spells one form at most.
use Rattle.std.proofs.Common.{◌≡◌, ℕ, List, ◌++◌, decimal, sym, ap, subst, ◌∙◌, append_assoc, arith}
use Rattle.std.specs.Prelude.{codes}
use Rattle.ecp_command.specs.declared.input.call.Call.TheVariants.{Put, Read, Sum, Cat, Lose, Join, Rebuild, Stat}
use Rattle.ecp_command.specs.declared.input.form.Form.{Form}
use Rattle.ecp_command.specs.declared.input.form.Form.TheVariants as form
use Rattle.ecp_command.specs.Input.Forms.{GiveBytes, Spells}
use Rattle.ecp_command.proofs.Decimals.{same_number}
use Rattle.ecp_command.proofs.Inputs.Recipes.{one_bytes}
use Rattle.ecp_command.proofs.Inputs.Spelled.{same_cut, clear_name, session_is, barrier_is, put_is, read_is, sum_is, cat_is, lose_is, join_is, stat_is}

at : (line other : List ℕ) (g : Form) → line ≡ other → Spells line g → Spells other g
at line other g e h = subst (λ (l : List ℕ). Spells l g) e h

pub one_form : (line : List ℕ) (f g : Form) → Spells line f → Spells line g → f ≡ g
one_form line (form.Session n) g h k =
    let p = session_is (decimal n) g (at line (codes "session " ++ decimal n) g h.1 k) in
    let e : n ≡ p.0 = same_number n p.0 (omega arith) (omega arith) p.2 in
    rw e (sym p.3)
one_form line form.Barrier g h k = sym (barrier_is g (at line (codes "barrier") g h k))
one_form line (form.Call (Put name bytes)) g h k =
    let tail : List ℕ = name ++ (codes " " ++ h.1) in
    let whole : line ≡ codes "put " ++ tail = h.3 ∙ append_assoc (codes "put " ++ name) (codes " ") h.1 ∙ append_assoc (codes "put ") name (codes " " ++ h.1) in
    let p = put_is tail g (at line (codes "put " ++ tail) g whole k) in
    let same = same_cut 32 name p.name h.1 p.words (clear_name name h.0) (clear_name p.name p.is_name) p.whole in
    let bytes_are : bytes ≡ p.bytes = one_bytes p.words bytes p.bytes (subst (λ (w : List ℕ). GiveBytes w bytes) same.1 h.2) p.give in
    ap (λ (x : List ℕ). form.Call (Put x bytes)) same.0 ∙ ap (λ (x : List ℕ). form.Call (Put p.name x)) bytes_are ∙ sym p.form_is
one_form line (form.Call (Read name index)) g h k =
    let tail : List ℕ = name ++ (codes " " ++ decimal index) in
    let whole : line ≡ codes "read " ++ tail = h.2 ∙ append_assoc (codes "read " ++ name) (codes " ") (decimal index) ∙ append_assoc (codes "read ") name (codes " " ++ decimal index) in
    let p = read_is tail g (at line (codes "read " ++ tail) g whole k) in
    let same = same_cut 32 name p.name (decimal index) (decimal p.index) (clear_name name h.0) (clear_name p.name p.is_name) p.whole in
    let e : index ≡ p.index = same_number index p.index h.1 p.fits same.1 in
    ap (λ (x : List ℕ). form.Call (Read x index)) same.0 ∙ ap (λ (i : ℕ). form.Call (Read p.name i)) e ∙ sym p.form_is
one_form line (form.Call (Sum name index)) g h k =
    let tail : List ℕ = name ++ (codes " " ++ decimal index) in
    let whole : line ≡ codes "sum " ++ tail = h.2 ∙ append_assoc (codes "sum " ++ name) (codes " ") (decimal index) ∙ append_assoc (codes "sum ") name (codes " " ++ decimal index) in
    let p = sum_is tail g (at line (codes "sum " ++ tail) g whole k) in
    let same = same_cut 32 name p.name (decimal index) (decimal p.index) (clear_name name h.0) (clear_name p.name p.is_name) p.whole in
    let e : index ≡ p.index = same_number index p.index h.1 p.fits same.1 in
    ap (λ (x : List ℕ). form.Call (Sum x index)) same.0 ∙ ap (λ (i : ℕ). form.Call (Sum p.name i)) e ∙ sym p.form_is
one_form line (form.Call (Cat name)) g h k =
    let p = cat_is name g (at line (codes "cat " ++ name) g h.1 k) in
    ap (λ (x : List ℕ). form.Call (Cat x)) p.2 ∙ sym p.3
one_form line (form.Call (Stat name)) g h k =
    let p = stat_is name g (at line (codes "stat " ++ name) g h.1 k) in
    ap (λ (x : List ℕ). form.Call (Stat x)) p.2 ∙ sym p.3
one_form line (form.Call (Lose node)) g h k =
    let p = lose_is (decimal node) g (at line (codes "lose " ++ decimal node) g h.1 k) in
    let e : node ≡ p.0 = same_number node p.0 h.0 p.1 p.2 in
    ap (λ (n : ℕ). form.Call (Lose n)) e ∙ sym p.3
one_form line (form.Call (Join node)) g h k =
    let p = join_is (decimal node) g (at line (codes "join " ++ decimal node) g h.1 k) in
    let e : node ≡ p.0 = same_number node p.0 h.0 p.1 p.2 in
    ap (λ (n : ℕ). form.Call (Join n)) e ∙ sym p.3
one_form line (form.Call (Rebuild from to)) g h k = absurd h
