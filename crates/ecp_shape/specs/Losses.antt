-- Losses of nodes among the items of the history's log. An item is a list of whole numbers: that of a loss of node m
-- begins with 1 and m, and that of any other entry with 0.
use Rattle.std.specs.Prelude.{ℕ, ◌==◌, Bool, false, ◌&&◌, List, [], ◌∷◌, count_by, Option, Some, None}

-- how the item of an entry begins: with 1 and the node for the loss of a node, else with 0
abbrev pub loss_mark : Option ℕ → List ℕ
loss_mark (Some node) = 1 ∷ node ∷ []
loss_mark None = 0 ∷ []

-- whether an item is that of a loss of this node
abbrev pub is_loss : ℕ → List ℕ → Bool
is_loss node (mark ∷ lost ∷ rest) = (mark == 1) && (lost == node)
is_loss node _ = false

-- how many of these items are losses of this node
abbrev pub losses : ℕ → List (List ℕ) → ℕ
losses node items = count_by (is_loss node) items
