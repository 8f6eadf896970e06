-- Bytes written over others from an offset on.
use Rattle.std.proofs.Common.{◌≡◌, ℕ, ◌+◌, ◌-◌, ◌≤◌, List, ◌++◌, length, take, drop, sym, ◌∙◌, ap, arith, append_assoc, length-append, length-drop}
use Rattle.std.proofs.Math.Seq.{drop-append_seam, take-append_seam, drop-append-add}
use Rattle.std.proofs.lemmas.List.{length-take, drop-take, take-take, take-append-le, drop-append-le, drop-drop}
use Rattle.ecp_store.specs.Stores.{part}
use Rattle.ecp_requestor.specs.Accepting.{written}

pub length-written : (bytes new : List ℕ) (off : ℕ) → off + length new ≤ length bytes → length (written bytes off new) ≡ length bytes
length-written bytes new off within =
    omega (arith, length-append (take off bytes ++ new) (drop (off + length new) bytes), length-append (take off bytes) new, length-take off bytes, length-drop (off + length new) bytes)

-- a write to the part that begins there and is as long
pub written_is : (bytes new room copy : List ℕ) (off start len : ℕ) → room ≡ bytes → copy ≡ new → start ≡ off → len ≡ length new
    → take start room ++ (copy ++ drop (start + len - start) (drop start room)) ≡ written bytes off new
written_is bytes new room copy off start len r c o l =
    let length_is : start + len - start ≡ len = omega arith in
    ap (λ (n : ℕ). take start room ++ (copy ++ drop n (drop start room))) length_is
    ∙ ap (λ (xs : List ℕ). take start room ++ (copy ++ xs)) (drop-drop len start room)
    ∙ sym (append_assoc (take start room) copy (drop (start + len) room))
    ∙ ap (λ (xs : List ℕ). take start xs ++ copy ++ drop (start + len) xs) r
    ∙ ap (λ (xs : List ℕ). take start bytes ++ xs ++ drop (start + len) bytes) c
    ∙ ap (λ (n : ℕ). take n bytes ++ new ++ drop (n + len) bytes) o
    ∙ ap (λ (n : ℕ). take off bytes ++ new ++ drop (off + n) bytes) l

-- what was written is read back
pub read_back : (bytes new : List ℕ) (off : ℕ) → off + length new ≤ length bytes → part (written bytes off new) off (length new) ≡ new
read_back bytes new off within =
    let rest : List ℕ = drop (off + length new) bytes in
    let front : length (take off bytes) ≡ off = omega (arith, length-take off bytes) in
    ap (λ (xs : List ℕ). take (length new) (drop off xs)) (append_assoc (take off bytes) new rest)
    ∙ ap (λ (n : ℕ). take (length new) (drop n (take off bytes ++ (new ++ rest)))) (sym front)
    ∙ ap (take (length new)) (drop-append_seam (take off bytes) (new ++ rest))
    ∙ take-append_seam new rest

-- what stands before and behind stays
pub part_before : (bytes new : List ℕ) (off a len : ℕ) → off + length new ≤ length bytes → a + len ≤ off → part (written bytes off new) a len ≡ part bytes a len
part_before bytes new off a len within before =
    let rest : List ℕ = drop (off + length new) bytes in
    let front : length (take off bytes) ≡ off = omega (arith, length-take off bytes) in
    let gap : a + (off - a) ≡ off = omega arith in
    let room : length (drop a (take off bytes)) ≡ off - a = omega (arith, length-drop a (take off bytes), front) in
    ap (λ (xs : List ℕ). take len (drop a xs)) (append_assoc (take off bytes) new rest)
    ∙ ap (take len) (drop-append-le a (take off bytes) (new ++ rest) (omega (arith, front)))
    ∙ take-append-le len (drop a (take off bytes)) (new ++ rest) (omega (arith, room))
    ∙ ap (λ (n : ℕ). take len (drop a (take n bytes))) (sym gap)
    ∙ ap (take len) (drop-take a (off - a) bytes)
    ∙ take-take len (off - a) (drop a bytes) (omega arith)

pub part_behind : (bytes new : List ℕ) (off a len : ℕ) → off + length new ≤ length bytes → off + length new ≤ a → part (written bytes off new) a len ≡ part bytes a len
part_behind bytes new off a len within behind =
    let rest : List ℕ = drop (off + length new) bytes in
    let end : ℕ = off + length new in
    let front : length (take off bytes ++ new) ≡ off + length new = omega (arith, length-append (take off bytes) new, length-take off bytes) in
    let gap : off + length new + (a - (off + length new)) ≡ a = omega arith in
    ap (λ (n : ℕ). take len (drop n (take off bytes ++ new ++ rest))) (sym gap ∙ ap (λ (n : ℕ). n + (a - (off + length new))) (sym front))
    ∙ ap (take len) (drop-append-add (take off bytes ++ new) rest (a - (off + length new)))
    ∙ ap (take len) (drop-drop (a - (off + length new)) (off + length new) bytes)
    ∙ ap (λ (n : ℕ). take len (drop n bytes)) gap
