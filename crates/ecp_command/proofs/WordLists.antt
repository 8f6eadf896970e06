-- The texts of one word and of four, and what they spell.
use Rattle.std.proofs.Common.{◌≡◌, ℕ, Bool, true, nat_eq, ◌<◌, ◌≤◌, ◌^◌, List, [], ◌∷◌, length, get_or, String, string_bytes, decimal, refl, sym, ap, ◌∙◌, arith}
use Rattle.std.specs.declared.alloc.Global.{Global}
use Rattle.std.specs.Prelude.{codes}
use Rattle.std.specs.Cmp.Lexicographic.{same_text}
use lib.Pointwise.{pointwise}
use Rattle.ecp_command.specs.declared.words.commands.Command.{Command}
use Rattle.ecp_command.specs.declared.words.commands.Command.TheVariants.{Run, RunDir, Mend, Check, Soak}
use Rattle.ecp_command.specs.Words.{IsSpelled, IsRow, texts}
use Rattle.ecp_command.proofs.Decimals.{same_number}

pub one_text : (ws : List (String Global)) (a : String Global) → 1 ≤ length ws → length ws < 2 → a ≡ get_or ws 0 a → texts ws ≡ string_bytes a ∷ []
one_text [] a low high e = absurd (omega arith)
one_text (w ∷ []) a low high e = rw e refl
one_text (w ∷ v ∷ ws) a low high e = absurd (omega arith)

pub four_texts : (ws : List (String Global)) (a b c d : String Global) → 4 ≤ length ws → length ws < 5 → a ≡ get_or ws 0 a → b ≡ get_or ws 1 b → c ≡ get_or ws 2 c → d ≡ get_or ws 3 d
    → texts ws ≡ string_bytes a ∷ string_bytes b ∷ string_bytes c ∷ string_bytes d ∷ []
four_texts [] a b c d low high ea eb ec ed = absurd (omega arith)
four_texts (w ∷ []) a b c d low high ea eb ec ed = absurd (omega arith)
four_texts (w ∷ v ∷ []) a b c d low high ea eb ec ed = absurd (omega arith)
four_texts (w ∷ v ∷ u ∷ []) a b c d low high ea eb ec ed = absurd (omega arith)
four_texts (w ∷ v ∷ u ∷ t ∷ []) a b c d low high ea eb ec ed = rw (ea, eb, ec, ed) refl
four_texts (w ∷ v ∷ u ∷ t ∷ s ∷ ws) a b c d low high ea eb ec ed = absurd (omega arith)

-- what a test of a word's text has told
pub text_is : (s : String Global) (shown word : List ℕ) (r : Bool) → shown ≡ string_bytes s → r ≡ true → r ≡ pointwise nat_eq shown word → string_bytes s ≡ word
text_is s shown word r e t h = sym e ∙ same_text shown word (sym t ∙ h)

pub is_word : (ws : List (String Global)) (a : String Global) (word : List ℕ) → 1 ≤ length ws → length ws < 2 → a ≡ get_or ws 0 a → string_bytes a ≡ word → texts ws ≡ word ∷ []
is_word ws a word low high e h = one_text ws a low high e ∙ ap (λ (w : List ℕ). w ∷ []) h

pub is_mend : (ws : List (String Global)) (a b c d : String Global) (k n row : ℕ) → 4 ≤ length ws → length ws < 5 → a ≡ get_or ws 0 a → b ≡ get_or ws 1 b → c ≡ get_or ws 2 c → d ≡ get_or ws 3 d
    → string_bytes a ≡ codes "mend" → string_bytes b ≡ decimal k → string_bytes c ≡ decimal n → string_bytes d ≡ decimal row
    → texts ws ≡ codes "mend" ∷ decimal k ∷ decimal n ∷ decimal row ∷ []
is_mend ws a b c d k n row low high ea eb ec ed ha hk hn hr = four_texts ws a b c d low high ea eb ec ed ∙ rw (ha, hk, hn, hr) refl

-- four texts that spell no row spell nothing
pub no_row : (words : List (List ℕ)) (k n row : ℕ) → k < 2 ^ 32 → n < 2 ^ 32 → row < 2 ^ 32 → words ≡ codes "mend" ∷ decimal k ∷ decimal n ∷ decimal row ∷ [] → (IsRow k n row → ⊥)
    → (c : Command) → IsSpelled words c → ⊥
no_row words k n row lk ln lr e other Run h = absurd cc
no_row words k n row lk ln lr e other (RunDir path) h = h
no_row words k n row lk ln lr e other (Mend k' n' row') h =
    let rows = h.0 in
    let dk : decimal k ≡ decimal k' = cc in
    let dn : decimal n ≡ decimal n' = cc in
    let dr : decimal row ≡ decimal row' = cc in
    let ek : k ≡ k' = same_number k k' lk (omega arith) dk in
    let en : n ≡ n' = same_number n n' ln (omega arith) dn in
    let er : row ≡ row' = same_number row row' lr (omega arith) dr in
    other (rw (ek, en, er) rows)
no_row words k n row lk ln lr e other Check h = absurd cc
no_row words k n row lk ln lr e other (Soak seed) h = h
