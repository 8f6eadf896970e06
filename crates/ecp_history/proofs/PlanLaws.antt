-- A sound plan stays sound as its front grows, and a block stays the same.
use Rattle.std.proofs.Common.{◌≡◌, ℕ, Bool, true, false, List, ◌++◌, map, sym, ◌∙◌, ap, subst}
use Rattle.ecp_code.specs.Rows.{row}
use Rattle.ecp_shape.specs.declared.shape.Shape.{Shape}
use Rattle.ecp_entry.specs.declared.entry.Entry.{Entry}
use Rattle.ecp_entry.specs.Told.{history_of}
use Rattle.ecp_entry.proofs.ToldLaws.{history_of-append}
use Rattle.ecp_history.specs.Fronts.{told_table, AreOfBlock, IsBlockIn}
use Rattle.ecp_history.specs.table.Tables.{PlainTable, HasStripe, data_of}
use Rattle.ecp_history.specs.table.Steps.{table_of}
use Rattle.ecp_history.specs.Legal.{IsLegal, TellsLegal}
use Rattle.ecp_history.specs.Plans.{Plan, Route, AreRows, IsRoute, IsRouteIn, IsSoundPlan}
use Rattle.ecp_history.proofs.StripeLaws.{stripe_stays}

-- rows of the same data are the same
rows_stay : (shape : Shape) (told : Bool) (t u : PlainTable) (route : Route) → data_of u route.stripe ≡ data_of t route.stripe
    → AreRows shape told t route → AreRows shape told u route
rows_stay shape true t u route same is = is ∙ ap (λ (d : List (List ℕ)). map (row d) route.rows) (sym same)
rows_stay shape false t u route same is = is

route_stays : (shape : Shape) (told : Bool) (front more : List (List ℕ)) (route : Route)
    → IsRouteIn shape told front route → TellsLegal shape told (front ++ more) → IsRouteIn shape told (front ++ more) route
route_stays shape told front more route is later =
    let whole : history_of (front ++ more) ≡ history_of front ++ history_of more = history_of-append front more in
    let legal : IsLegal shape told (history_of front ++ history_of more) = subst (IsLegal shape told) whole later.legal in
    let stays = stripe_stays shape told (history_of front) (history_of more) route.stripe legal is.known.there in
    let Later : List Entry → Type 0 = λ (h : List Entry). IsRoute shape told (table_of shape h) route in
    record {
      legal = later;
      known = subst Later (sym whole) (record {
        there = stays.0;
        in_stripe = is.known.in_stripe;
        one_each = is.known.one_each;
        on_nodes = is.known.on_nodes;
        named = rows_stay shape told (told_table shape front) (table_of shape (history_of front ++ history_of more)) route stays.1 is.known.named;
      });
    }

pub plan_stays : (shape : Shape) (told : Bool) (front more : List (List ℕ)) (plan : Plan)
    → IsSoundPlan shape told front plan → TellsLegal shape told (front ++ more) → IsSoundPlan shape told (front ++ more) plan
plan_stays shape told front more plan sound later = record {
  in_range = sound.in_range;
  of_row = sound.of_row;
  helpers = route_stays shape told front more plan.route sound.helpers later;
  makes = sound.makes;
  len_is = sound.len_is;
  some = sound.some;
  within = sound.within;
  lanes_are = sound.lanes_are;
}

-- a block has the same bytes in every later table
of_block_stays : (shape : Shape) (told : Bool) (t u : PlainTable) (s r : ℕ) (bytes : List ℕ) → data_of u s ≡ data_of t s
    → AreOfBlock shape told t s r bytes → AreOfBlock shape told u s r bytes
of_block_stays shape true t u s r bytes same is = is ∙ ap (λ (d : List (List ℕ)). row d r) (sym same)
of_block_stays shape false t u s r bytes same is = is

pub block_stays : (shape : Shape) (told : Bool) (front more : List (List ℕ)) (s r : ℕ) (bytes : List ℕ)
    → IsBlockIn shape told front s r bytes → TellsLegal shape told (front ++ more) → IsBlockIn shape told (front ++ more) s r bytes
block_stays shape told front more s r bytes is later =
    let whole : history_of (front ++ more) ≡ history_of front ++ history_of more = history_of-append front more in
    let legal : IsLegal shape told (history_of front ++ history_of more) = subst (IsLegal shape told) whole later.legal in
    let stays = stripe_stays shape told (history_of front) (history_of more) s legal is.there in
    record {
      there = subst (λ (h : List Entry). HasStripe (table_of shape h) s) (sym whole) stays.0;
      named = subst (λ (h : List Entry). AreOfBlock shape told (table_of shape h) s r bytes) (sym whole)
          (of_block_stays shape told (told_table shape front) (table_of shape (history_of front ++ history_of more)) s r bytes stays.1 is.named);
    }
