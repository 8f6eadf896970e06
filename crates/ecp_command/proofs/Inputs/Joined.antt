-- An input from its parts.
use Rattle.std.proofs.Common.{ℕ, List, Ok, refl, inr}
use Rattle.ecp_command.specs.declared.input.head.Head.{Head}
use Rattle.ecp_command.specs.declared.input.refusal.Refusal.{Refusal}
use Rattle.ecp_command.specs.declared.input.refusal.Refusal.TheVariants.{NotToml, NoRule, Key, UnknownKey, Line, NoMemory}
use Rattle.ecp_command.specs.declared.input.script.Script.{Script}
use Rattle.ecp_command.specs.Input.Accepted.{HasHead, RefusesLine, MayRefuse}
use Rattle.ecp_command.specs.Input.Costs.{IsOver}
use Rattle.ecp_command.specs.Input.Lines.{Parts, ArePartsOf}
use Rattle.ecp_command.specs.Input.Script.{HasRead}
use Rattle.ecp_command.specs.Input.Settings.{MayRefuseHead, GivesHead}
use Rattle.ecp_command.proofs.Inputs.Spending.{costs_refuse}

pub has_head : (input : List ℕ) (parts : Parts) (head : Head) → ArePartsOf input parts → GivesHead parts.head head → HasHead input parts.script (Ok head)
has_head input parts head split gives = record { parts = parts; split = split; script_is = refl; top = gives.0; document = gives.1; head_is = gives.2 }

-- what refuses the head refuses the input
pub head_refuses : (input : List ℕ) (parts : Parts) (e : Refusal) → ArePartsOf input parts → MayRefuseHead parts.head e → MayRefuse input e
head_refuses input parts NotToml split h = record { parts = parts; split = split; none = h }
head_refuses input parts NoRule split h = absurd h
head_refuses input parts (Key s) split h = record { script = parts.script; head = record { parts = parts; split = split; script_is = refl; top = h.0; document = h.1; head_is = h.2 } }
head_refuses input parts UnknownKey split h = record { script = parts.script; head = record { parts = parts; split = split; script_is = refl; top = h.0; document = h.1; head_is = h.2 } }
head_refuses input parts (Line n) split h = absurd h
head_refuses input parts NoMemory split h = tt

-- and so does the second
pub cost_refuses : (input : List ℕ) (parts : Parts) (head : Head) (script : Script) (n : ℕ) → ArePartsOf input parts → GivesHead parts.head head → HasRead head parts.script script → IsOver head script.forms.items n → RefusesLine input n
cost_refuses input parts head script n split gives read over = record {
  script = parts.script;
  settings = head;
  head = has_head input parts head split gives;
  refused = inr (costs_refuse head parts.script script.forms.items n read.read read.totals.keep over);
}
