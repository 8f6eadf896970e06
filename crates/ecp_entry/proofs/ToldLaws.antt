-- What items tell, as a log grows.
use Rattle.std.proofs.Common.{◌≡◌, ℕ, ◌+◌, ◌==◌, Option, Some, None, Bool, true, false, cond, List, [], ◌∷◌, ◌++◌, length, take, refl, sym, ◌∙◌, ap, append-nil}
use Rattle.std.specs.Prelude.{count_by, flat_map}
use Rattle.std.proofs.lemmas.List.{map-append, length-map, append_cancel_left}
use Rattle.std.proofs.lemmas.List.Elements.{filter-append}
use Rattle.std.proofs.lemmas.List.Sums.{sum_by-cons}
use Rattle.std.proofs.Math.Seq.{take-append_seam}
use Rattle.ecp_entry.specs.declared.entry.Entry.{Entry}
use Rattle.ecp_shape.specs.Losses.{loss_mark, losses, is_loss as item_is_loss}
use Rattle.ecp_entry.specs.Entries.{loss_of, is_loss, is_number}
use Rattle.ecp_entry.specs.Items.{item, sized, fields}
use Rattle.ecp_entry.specs.Told.{Made, items_of, entries_of, Tells, made_from, made_of, history_of, items_by, by_hand}
use Rattle.ecp_entry.proofs.ItemLaws.{made_from-item}

-- what entries' items tell is the entries
made_of-items : (made : List Made) → made_of (items_of made) ≡ made
made_of-items [] = refl
made_of-items (m ∷ made) =
    ap (λ (x : Made). x ∷ made_of (items_of made)) (made_from-item m.hand m.entry) ∙ ap (λ (xs : List Made). m ∷ xs) (made_of-items made)

pub read_back : (items : List (List ℕ)) (made : List Made) → Tells items made → made_of items ≡ made
read_back items made tells = ap made_of tells ∙ made_of-items made

pub tells_one : (items : List (List ℕ)) (g h : List Made) → Tells items g → Tells items h → g ≡ h
tells_one items g h a b = sym (read_back items g a) ∙ read_back items h b

-- what one list after another tells
pub made_of-append : (xs ys : List (List ℕ)) → made_of (xs ++ ys) ≡ made_of xs ++ made_of ys
made_of-append xs ys = map-append made_from xs ys

pub history_of-append : (xs ys : List (List ℕ)) → history_of (xs ++ ys) ≡ history_of xs ++ history_of ys
history_of-append xs ys = ap entries_of (made_of-append xs ys) ∙ map-append (λ (m : Made). m.entry) (made_of xs) (made_of ys)

pub history_of-item : (hand : ℕ) (e : Entry) → history_of (item hand e ∷ []) ≡ e ∷ []
history_of-item hand e = ap (λ (m : Made). m.entry ∷ []) (made_from-item hand e)

-- each item that is told tells its entry, also where more follow
pub tells_front : (front more : List (List ℕ)) → Tells (front ++ more) (made_of (front ++ more)) → Tells front (made_of front)
tells_front front more tells =
    let is : front ++ more ≡ items_of (made_of front) ++ items_of (made_of more) =
    tells ∙ ap items_of (made_of-append front more) ∙ map-append (λ (m : Made). item m.hand m.entry) (made_of front) (made_of more) in
    let size : length front ≡ length (items_of (made_of front)) =
    sym (length-map (made_of front) (λ (m : Made). item m.hand m.entry) ∙ length-map front made_from) in
    sym (take-append_seam front more) ∙ ap (take (length front)) is
    ∙ ap (λ (n : ℕ). take n (items_of (made_of front) ++ items_of (made_of more))) size
    ∙ take-append_seam (items_of (made_of front)) (items_of (made_of more))

pub tells_rest : (front more : List (List ℕ)) → Tells (front ++ more) (made_of (front ++ more)) → Tells more (made_of more)
tells_rest front more tells =
    append_cancel_left front more (items_of (made_of more))
    (tells ∙ ap items_of (made_of-append front more) ∙ map-append (λ (m : Made). item m.hand m.entry) (made_of front) (made_of more)
    ∙ ap (λ (xs : List (List ℕ)). xs ++ items_of (made_of more)) (sym (tells_front front more tells)))

pub tells_beginning : (front more : List (List ℕ)) (made : List Made) → Tells (front ++ more) made
    → Tells front (made_of front) × Tells more (made_of more) × (made ≡ made_of front ++ made_of more)
tells_beginning front more made tells =
    let is : made_of (front ++ more) ≡ made = read_back (front ++ more) made tells in
    let whole : Tells (front ++ more) (made_of (front ++ more)) = tells ∙ ap items_of (sym is) in
    (tells_front front more whole, tells_rest front more whole, sym is ∙ made_of-append front more)

pub tells_more : (items : List (List ℕ)) (made : List Made) (m : Made) → Tells items made → Tells (items ++ item m.hand m.entry ∷ []) (made ++ m ∷ [])
tells_more items made m tells =
    ap (λ (xs : List (List ℕ)). xs ++ item m.hand m.entry ∷ []) tells ∙ sym (map-append (λ (x : Made). item x.hand x.entry) made (m ∷ []))

pub history_of-more : (items : List (List ℕ)) (hand : ℕ) (e : Entry) → history_of (items ++ item hand e ∷ []) ≡ history_of items ++ e ∷ []
history_of-more items hand e =
    history_of-append items (item hand e ∷ []) ∙ ap (λ (xs : List Entry). history_of items ++ xs) (history_of-item hand e)

-- ---- one hand

pub items_by-append : (hand : ℕ) (xs ys : List (List ℕ)) → items_by hand (xs ++ ys) ≡ items_by hand xs ++ items_by hand ys
items_by-append hand xs ys = filter-append (λ (x : List ℕ). (made_from x).hand == hand) xs ys

pub by_hand-append : (hand : ℕ) (xs ys : List (List ℕ)) → by_hand hand (xs ++ ys) ≡ by_hand hand xs ++ by_hand hand ys
by_hand-append hand xs ys = ap history_of (items_by-append hand xs ys) ∙ history_of-append (items_by hand xs) (items_by hand ys)

pub items_by-item : (hand h : ℕ) (e : Entry) → items_by hand (item h e ∷ []) ≡ cond (h == hand) (item h e ∷ []) []
items_by-item hand h e = ap (λ (m : Made). cond (m.hand == hand) (item h e ∷ []) []) (made_from-item h e)

pub by_hand-more : (hand h : ℕ) (e : Entry) (items : List (List ℕ))
    → by_hand hand (items ++ item h e ∷ []) ≡ cond (h == hand) (by_hand hand items ++ e ∷ []) (by_hand hand items)
by_hand-more hand h e items =
    by_hand-append hand items (item h e ∷ []) ∙ ap (λ (xs : List (List ℕ)). by_hand hand items ++ history_of xs) (items_by-item hand h e) ∙ either (h == hand) where
      either : (b : Bool) → by_hand hand items ++ history_of (cond b (item h e ∷ []) []) ≡ cond b (by_hand hand items ++ e ∷ []) (by_hand hand items)
      either true = ap (λ (xs : List Entry). by_hand hand items ++ xs) (history_of-item h e)
      either false = append-nil (by_hand hand items)

-- ---- losses

is_loss-item : (node hand : ℕ) (e : Entry) → item_is_loss node (item hand e) ≡ is_loss node e
is_loss-item node hand e = either (loss_of e) where
  either : (o : Option ℕ) → item_is_loss node (loss_mark o ++ flat_map sized (fields hand e)) ≡ is_number o node
  either (Some m) = refl
  either None = tail (flat_map sized (fields hand e)) where
    tail : (xs : List ℕ) → item_is_loss node (0 ∷ xs) ≡ false
    tail [] = refl
    tail (x ∷ xs) = refl

pub losses-items : (node : ℕ) (made : List Made) → losses node (items_of made) ≡ count_by (is_loss node) (entries_of made)
losses-items node [] = refl
losses-items node (m ∷ made) =
    sum_by-cons (λ x. cond (item_is_loss node x) 1 0) (item m.hand m.entry) (items_of made)
    ∙ ap (λ (b : Bool). cond b 1 0 + losses node (items_of made)) (is_loss-item node m.hand m.entry)
    ∙ ap (λ (n : ℕ). cond (is_loss node m.entry) 1 0 + n) (losses-items node made)
    ∙ sym (sum_by-cons (λ x. cond (is_loss node x) 1 0) m.entry (entries_of made))
