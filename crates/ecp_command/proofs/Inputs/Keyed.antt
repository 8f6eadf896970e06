-- What the keys of a head can be refused for.
use Rattle.std.proofs.Common.{◌≡◌, ℕ, ◌+◌, ◌-◌, min, Bool, true, false, cond, List, Option, Some, None, Result, Ok, Err, sym, subst}
use Rattle.std.specs.Prelude.{ok_or, IfErr}
use Rattle.toml.specs.Data.{Members}
use Rattle.ecp_shape.specs.declared.limits.TheConstants.{MAX_ROWS, MAX_NODES, MAX_BLOCK, MAX_WINDOW, MAX_WORKERS}
use Rattle.ecp_command.specs.declared.input.defaults.TheConstants.{DEFAULT_SLICE, DEFAULT_WINDOW, DEFAULT_WORKERS}
use Rattle.ecp_command.specs.declared.input.head.Head.{Head}
use Rattle.ecp_command.specs.declared.input.refusal.Refusal.{Refusal}
use Rattle.ecp_command.specs.declared.input.refusal.Refusal.TheVariants.{NotToml, NoRule, Key, UnknownKey, Line, NoMemory}
use Rattle.ecp_command.specs.declared.input.setting.Setting.{Setting}
use Rattle.ecp_command.specs.declared.input.setting.Setting.TheVariants.{K, N, Nodes, Block, Slice, Window, Workers, Path}
use Rattle.ecp_command.specs.Input.Settings.{◌>>=◌, number_of, cyclic_of, head_of, has_settings_only, IsDocument, MayRefuseHead}

-- a refusal of a key
abbrev pub IsKeyed : {A : Type 0} → Result A Refusal → Type 0
IsKeyed (Ok x) = Unit {0}
IsKeyed (Err (Key s)) = Unit {0}
IsKeyed (Err UnknownKey) = Unit {0}
IsKeyed (Err NotToml) = ⊥
IsKeyed (Err NoRule) = ⊥
IsKeyed (Err (Line n)) = ⊥
IsKeyed (Err NoMemory) = ⊥

bind_keyed : {A B : Type 0} (r : Result A Refusal) (f : A → Result B Refusal) → IsKeyed r → ((x : A) → IsKeyed (f x)) → IsKeyed (r >>= f)
bind_keyed (Ok x) f h k = k x
bind_keyed (Err (Key s)) f h k = tt
bind_keyed (Err UnknownKey) f h k = tt
bind_keyed (Err NotToml) f h k = absurd h
bind_keyed (Err NoRule) f h k = absurd h
bind_keyed (Err (Line n)) f h k = absurd h
bind_keyed (Err NoMemory) f h k = absurd h

ok_or_keyed : {A : Type 0} (o : Option A) (s : Setting) → IsKeyed (ok_or o (Key s))
ok_or_keyed (Some x) s = tt
ok_or_keyed None s = tt

number_keyed : (s : Setting) (low high : ℕ) (default : Option ℕ) (top : Members) → IsKeyed (number_of s low high default top)
unfolding number_of
number_keyed s low high default top = ok_or_keyed _ s

cyclic_keyed : (top : Members) → IsKeyed (cyclic_of top)
unfolding cyclic_of
cyclic_keyed top = ok_or_keyed _ Path

last_keyed : (b : Bool) (h : Head) → IsKeyed (cond b (Ok h) (Err UnknownKey))
last_keyed true h = tt
last_keyed false h = tt

pub head_keyed : (top : Members) → IsKeyed (head_of top)
unfolding head_of
head_keyed top =
    bind_keyed (number_of K 1 (MAX_ROWS - 1) None top) _ (number_keyed K 1 (MAX_ROWS - 1) None top) (λ k.
    bind_keyed (number_of N (k + 1) MAX_ROWS None top) _ (number_keyed N (k + 1) MAX_ROWS None top) (λ n.
    bind_keyed (number_of Nodes n MAX_NODES None top) _ (number_keyed Nodes n MAX_NODES None top) (λ nodes.
    bind_keyed (number_of Block 1 MAX_BLOCK None top) _ (number_keyed Block 1 MAX_BLOCK None top) (λ block.
    bind_keyed (number_of Slice 1 block (Some (min block DEFAULT_SLICE)) top) _ (number_keyed Slice 1 block (Some (min block DEFAULT_SLICE)) top) (λ slice.
    bind_keyed (number_of Window 1 MAX_WINDOW (Some DEFAULT_WINDOW) top) _ (number_keyed Window 1 MAX_WINDOW (Some DEFAULT_WINDOW) top) (λ window.
    bind_keyed (number_of Workers 0 MAX_WORKERS (Some DEFAULT_WORKERS) top) _ (number_keyed Workers 0 MAX_WORKERS (Some DEFAULT_WORKERS) top) (λ workers.
    bind_keyed (cyclic_of top) _ (cyclic_keyed top) (λ cyclic. last_keyed (has_settings_only top) _))))))))

refused_by : (text : List ℕ) (top : Members) (r : Refusal) → IsDocument text top → head_of top ≡ Err r → IsKeyed {A = Head} (Err r) → MayRefuseHead text r
refused_by text top (Key s) d e k = (top, d, e)
refused_by text top UnknownKey d e k = (top, d, e)
refused_by text top NotToml d e k = absurd k
refused_by text top NoRule d e k = absurd k
refused_by text top (Line n) d e k = absurd k
refused_by text top NoMemory d e k = absurd k

pub keys_refuse : (text : List ℕ) (top : Members) (r : Result Head Refusal) → IsDocument text top → r ≡ head_of top → IfErr r (MayRefuseHead text)
keys_refuse text top (Ok h) d e = tt
keys_refuse text top (Err r) d e = refused_by text top r d (sym e) (subst (λ (x : Result Head Refusal). IsKeyed x) (sym e) (head_keyed top))
