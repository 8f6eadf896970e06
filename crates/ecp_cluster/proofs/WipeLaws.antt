-- Losses in longer and longer fronts.
use Rattle.std.proofs.Common.{◌≡◌, ℕ, ◌+◌, ◌≤◌, Bool, true, cond, List, [], ◌∷◌, ◌++◌, length, ◌∙◌, ap, subst, arith}
use Rattle.std.proofs.lemmas.List.Sums.{sum_by-append}
use Rattle.std.proofs.lemmas.Bool.Decides.{nat_tests}
use mathlib.Core.List.{IsPrefix}
use Rattle.ecp_shape.specs.declared.shape.Shape.{Shape}
use Rattle.ecp_shape.specs.Losses.{losses, is_loss}
use Rattle.ecp_book.specs.Logs.{Log}
use Rattle.ecp_entry.specs.declared.act.Act.TheVariants as act
use Rattle.ecp_entry.specs.declared.deed.Deed.TheVariants as deed
use Rattle.ecp_entry.specs.Items.{item}
use Rattle.ecp_sequencer.specs.Passes.{PassState}
use Rattle.ecp_coord.specs.declared.node_act.NodeAct.{NodeAct}
use Rattle.ecp_coord.specs.declared.node_act.NodeAct.TheVariants as found
use Rattle.ecp_coord.specs.Calls.{ended}
use Rattle.ecp_coord.specs.Losing.{act_of}
use Rattle.ecp_node.specs.Held.{wipes}
use Rattle.ecp_node.specs.Nodes.{NodeState}
use Rattle.ecp_cluster.specs.Answered.{Finishes}
use Rattle.ecp_cluster.specs.Wiping.{MayWipe, MayWipeAfter}

-- a longer list has no fewer losses
losses_longer : (m : ℕ) (xs ys : Log) → IsPrefix xs ys → losses m xs ≤ losses m ys
losses_longer m xs ys p =
    omega (arith, sum_by-append (λ (x : List ℕ). cond (is_loss m x) 1 0) xs p.0, ap (λ (zs : Log). losses m zs) p.1)

-- the item of a loss is a loss
loss_counts : (m hand position count : ℕ) (v : PassState) → is_loss m (item hand (ended v (deed.Lose m) position (act.Lost count))) ≡ true
loss_counts m hand position count v = grind (arith, nat_tests)

-- a list with one loss more
one_loss : (m : ℕ) (xs : Log) (x : List ℕ) → is_loss m x ≡ true → losses m (xs ++ x ∷ []) ≡ losses m xs + 1
one_loss m xs x is =
    let last : ◌≡◌ {A = ℕ} (cond (is_loss m x) 1 0) 1 = ap (λ (b : Bool). cond b 1 0) is in
    omega (arith, sum_by-append (λ (y : List ℕ). cond (is_loss m y) 1 0) xs (x ∷ []), last)

-- after the loss a node that the pass knew the past of may be wiped
may_wipe : (shape : Shape) (told : Bool) (m count : ℕ) (r w : PassState) (past : Log) (node : NodeState) → Finishes shape told r (deed.Lose m) (act.Lost count) w
    → IsPrefix past r.front → wipes node.items ≤ losses node.number past → MayWipe m w.front node
may_wipe shape told m count r w past node fin knows first numbered =
    let s : Log = fin.before.history in
    let x : List ℕ = item fin.raised.hand (ended fin.raised (deed.Lose m) (length s) (act.Lost count)) in
    let front : w.front ≡ s ++ x ∷ [] = fin.ends.event.front ∙ fin.ends.event.history in
    let more : losses m w.front ≡ losses m s + 1 = ap (λ (ys : Log). losses m ys) front ∙ one_loss m s x (loss_counts m fin.raised.hand (length s) count fin.raised) in
    let known : losses m past ≤ losses m s =
    omega (arith, losses_longer m past r.front knows, losses_longer m r.front fin.raised.front fin.rises.longer, losses_longer m fin.raised.front s fin.ends.begins) in
    omega (arith, more, known, subst (λ (k : ℕ). wipes node.items ≤ losses k past) numbered first)

-- whatever was found
pub may_wipe_after : (shape : Shape) (told : Bool) (m : ℕ) (found : NodeAct) (r w : PassState) (past : Log) (node : NodeState) → Finishes shape told r (deed.Lose m) (act_of found) w
    → IsPrefix past r.front → wipes node.items ≤ losses node.number past → MayWipeAfter found m w.front node
may_wipe_after shape told m (found.Lost count) r w past node fin knows first = may_wipe shape told m count r w past node fin knows first
may_wipe_after shape told m (found.Joined inc) r w past node fin knows first = tt
may_wipe_after shape told m found.NoSuchNode r w past node fin knows first = tt
may_wipe_after shape told m found.NodeDown r w past node fin knows first = tt
may_wipe_after shape told m found.NodeUp r w past node fin knows first = tt
