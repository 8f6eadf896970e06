-- What an assembly keeps in its fields.
use Rattle.std.specs.Prelude.{◌≡◌, Bool, count_by}
use Rattle.ecp_shape.specs.declared.shape.Shape.{Shape}
use Rattle.ecp_book.specs.Logs.{history_log}
use Rattle.ecp_requestor.specs.declared.assembly.Assembly.TheInside.{Inside}
use Rattle.ecp_requestor.specs.Assemblies.{AssemblyState, IsAssembly}

-- what the fields say
abbrev pub assembly_seen : {N : Type 0} → Inside N → AssemblyState
assembly_seen fields = record {
  repair = fields.repair;
  attempt = fields.attempt;
  stripe = fields.stripe;
  row = fields.row;
  block = fields.block;
  size = fields.size;
  front = fields.front.items;
  there = fields.there.items;
  bytes = fields.room.items;
}

-- the front is of the history, the slices that are there are counted, and the assembly keeps what each does
pub record IsKept {N : Type 0} (shape : Shape) (told : Bool) (fields : Inside N) : Type 0 where
  pub of_history : fields.front.log ≡ history_log
  pub counted : fields.count ≡ count_by (λ there. there) fields.there.items
  pub sound : IsAssembly shape told (assembly_seen fields)
