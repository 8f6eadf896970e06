-- What the pushes of a run that writes a list of bytes piece by piece have appended.
use Rattle.std.proofs.Common.{◌≡◌, ℕ, ◌+◌, ◌-◌, List, ◌++◌, length, take, drop, append_assoc}
use Rattle.std.proofs.Math.Seq.{take-add}
use Rattle.std.proofs.lemmas.List.{take_rest}

-- The first `at` bytes were appended, and then m more of the rest, `&bytes[at..]`: they are the first `at + m`.
pub pushed-front : (first bytes now new : List ℕ) (at m : ℕ) → now ≡ first ++ take at bytes → new ≡ now ++ take m (take (length bytes - at) (drop at bytes)) → new ≡ first ++ take (at + m) bytes
pushed-front first bytes now new at m so_far more =
    cc (take_rest bytes at, take-add at m bytes, append_assoc first (take at bytes) (take m (drop at bytes)))
