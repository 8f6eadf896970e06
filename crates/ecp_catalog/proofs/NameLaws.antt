-- Names that are entered, and what they lead to.
use Rattle.std.proofs.Common.{◌≡◌, ℕ, Bool, true, false, cond, ◌||◌, List, [], ◌∷◌, Option, Some, None, Result, Ok, Err, OnErr, IsOk, refl, sym, ◌∙◌, ap, subst, is_some}
use Rattle.std.proofs.lemmas.Bool.{false≢true}
use Rattle.std.specs.Prelude.{bytes_eq}
use Rattle.std.specs.BTreeMap.{is_at}
use Rattle.std.specs.Map.{lookup, keys_of}
use Rattle.std.proofs.lemmas.Slice.Eq.{bytes_eq-Decides}
use Rattle.ecp_history.specs.table.Kept.{name_cmp}
use Rattle.ecp_history.proofs.tables.KeptLaws.{name_same}
use Rattle.ecp_catalog.specs.Catalogs.{is_entered}
use Rattle.ecp_catalog.specs.Kept.{joined}

-- a name is entered where the map has it
pub entered-is : (es : List (List ℕ × Option ℕ)) (q : List ℕ) → is_entered (keys_of es) q ≡ is_some (lookup (is_at (name_cmp q)) es)
entered-is [] q = refl
entered-is (e ∷ es) q =
    one (bytes_eq q e.0) (entered-is es q) ∙ sym (ap (λ (b : Bool). is_some (cond b (Some e.1) (lookup (is_at (name_cmp q)) es))) (name_same q e.0))
  where
    one : (b : Bool) → is_entered (keys_of es) q ≡ is_some (lookup (is_at (name_cmp q)) es) → (b || is_entered (keys_of es) q) ≡ is_some (cond b (Some e.1) (lookup (is_at (name_cmp q)) es))
    one true more = refl
    one false more = more

-- one name more, that has no file
pub led-more : (name : List ℕ) (old new : List ℕ → Option (Option ℕ)) → ((q : List ℕ) → new q ≡ cond (bytes_eq name q) (Some None) (old q)) → old name ≡ None
    → (q : List ℕ) → joined (new q) ≡ joined (old q)
led-more name old new updates none q = one (bytes_eq name q) refl (updates q) where
  one : (b : Bool) → bytes_eq name q ≡ b → new q ≡ cond b (Some None) (old q) → joined (new q) ≡ joined (old q)
  one false other is = ap joined is
  one true same is = ap joined is ∙ sym (ap joined (ap old (sym ((bytes_eq-Decides name q).0 same)) ∙ none))

pub led-set : (name : List ℕ) (at : ℕ) (old new : List ℕ → Option (Option ℕ)) → ((q : List ℕ) → new q ≡ cond (bytes_eq name q) (Some (Some at)) (old q))
    → (q : List ℕ) → joined (new q) ≡ cond (bytes_eq name q) (Some at) (joined (old q))
led-set name at old new updates q = ap joined (updates q) ∙ one (bytes_eq name q) where
  one : (b : Bool) → joined (cond b (Some (Some at)) (old q)) ≡ cond b (Some at) (joined (old q))
  one true = refl
  one false = refl

pub some-more : (b : Bool) (v : Option ℕ) (o : Option (Option ℕ)) → is_some (cond b (Some v) o) ≡ (b || is_some o)
some-more true v o = refl
some-more false v o = refl

pub none_there : (o : Option (Option ℕ)) → is_some o ≡ false → o ≡ None
none_there None is = refl
none_there (Some v) is = cc

-- an insert of a name that is there is not refused
pub not_absent : {V E : Type 0} (r : Result V E) (o : Option (Option ℕ)) → is_some o ≡ true → OnErr r (o ≡ None) → IsOk r
not_absent (Ok v) o there absent = refl
not_absent (Err e) o there absent = absurd (false≢true (sym (ap (λ (p : Option (Option ℕ)). is_some p) absent) ∙ there))

-- to enter what is entered changes nothing
pub already : (es : List (List ℕ × Option ℕ)) (name q : List ℕ) → is_some (lookup (is_at (name_cmp name)) es) ≡ true → is_entered (keys_of es) q ≡ (bytes_eq name q || is_entered (keys_of es) q)
already es name q there = one (bytes_eq name q) refl where
  one : (b : Bool) → bytes_eq name q ≡ b → is_entered (keys_of es) q ≡ (b || is_entered (keys_of es) q)
  one false other = refl
  one true same = subst (λ (p : List ℕ). is_entered (keys_of es) p ≡ true) ((bytes_eq-Decides name q).0 same) (entered-is es name ∙ there)
