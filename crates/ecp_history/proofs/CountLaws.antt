-- The entries of nodes, and the faults they spend, as a history grows.
use Rattle.std.proofs.Common.{◌≡◌, ℕ, ◌+◌, ◌≤◌, cond, List, [], ◌∷◌, ◌++◌, length, take, sym, subst, arith, inl, inr}
use Rattle.std.proofs.lemmas.Option.{slice_get_within}
use Rattle.std.proofs.lemmas.List.{take-append-le}
use Rattle.std.proofs.lemmas.List.Sums.{sum_by-append}
use Rattle.std.proofs.Math.Seq.{take-append_seam}
use Rattle.ecp_shape.specs.declared.limits.TheConstants.{MAX_SESSIONS}
use Rattle.ecp_shape.specs.declared.shape.Shape.{Shape}
use Rattle.ecp_entry.specs.declared.entry.Entry.{Entry}
use Rattle.ecp_history.specs.Counted.{IsCounted, DropsCounted, spends_fault, faults_spent}
use Rattle.ecp_history.proofs.LegalLaws.{get_before, get_split}

pub counted_beginning : (shape : Shape) (history more : List Entry) → DropsCounted shape (history ++ more) → DropsCounted shape history
counted_beginning shape history more counted i e h node =
    let within : i ≤ length history = omega (arith, slice_get_within history i e h) in
    subst (λ (before : List Entry). IsCounted shape before e) (take-append-le i history more within) (counted i e (get_before history more i e h) node)

pub counted_more : (shape : Shape) (history : List Entry) (e : Entry) → DropsCounted shape history → (MAX_SESSIONS ≤ e.line.caller → IsCounted shape history e)
    → DropsCounted shape (history ++ e ∷ [])
counted_more shape history e counted next i x h =
    elim (get_split history e i x h) [
      | inl before ↦ λ node.
          let within : i ≤ length history = omega (arith, slice_get_within history i x before) in
          subst (λ (b : List Entry). IsCounted shape b x) (sym (take-append-le i history (e ∷ []) within)) (counted i x before node)
      | inr last ↦
          subst (λ (y : Entry). MAX_SESSIONS ≤ y.line.caller → IsCounted shape (take i (history ++ e ∷ [])) y) last.1
          (subst (λ (n : ℕ). MAX_SESSIONS ≤ e.line.caller → IsCounted shape (take n (history ++ e ∷ [])) e) (sym last.0)
          (subst (λ (b : List Entry). MAX_SESSIONS ≤ e.line.caller → IsCounted shape b e) (sym (take-append_seam history (e ∷ []))) next))
    ]

pub faults_spent-more : (node : ℕ) (history : List Entry) (e : Entry) → faults_spent node (history ++ e ∷ []) ≡ faults_spent node history + cond (spends_fault node e) 1 0
faults_spent-more node history e =
    let both : faults_spent node (history ++ e ∷ []) ≡ faults_spent node history + faults_spent node (e ∷ []) =
    sum_by-append (λ (x : Entry). cond (spends_fault node x) 1 0) history (e ∷ []) in
    omega (arith, both)
