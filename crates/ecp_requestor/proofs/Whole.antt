-- A complete assembly is the block.
use Rattle.std.proofs.Common.{Bool, true, false, refl, sym, ◌∙◌, arith}
use Rattle.ecp_shape.specs.declared.shape.Shape.{Shape}
use Rattle.ecp_entry.specs.Told.{history_of}
use Rattle.ecp_history.specs.Fronts.{told_table, AreOfBlock}
use Rattle.ecp_history.specs.table.Tables.{block}
use Rattle.ecp_slice.proofs.StripeData.{length_block}
use Rattle.ecp_requestor.specs.Assemblies.{AssemblyState, IsComplete, IsAssembly}
use Rattle.ecp_requestor.specs.Blocks.{IsAssembled, assembled}
use Rattle.ecp_requestor.proofs.Slices.{same_block}

are_block : (shape : Shape) (told : Bool) (a : AssemblyState) → IsAssembly shape told a → IsComplete a → AreOfBlock shape told (told_table shape a.front) a.stripe a.row a.bytes
are_block shape false a is all = is.roomy ∙ is.len_is
are_block shape true a is all =
    same_block a.block a.size a.bytes (block (told_table shape a.front) a.stripe a.row) (omega (arith, is.some, is.within)) is.some
    (λ j low. is.right j (all j false (omega (arith, low, is.places))) refl)
    is.roomy (length_block shape (history_of a.front) a.stripe a.row is.of_stripe ∙ sym is.len_is)

pub whole_block : (shape : Shape) (told : Bool) (a : AssemblyState) → IsAssembly shape told a → IsComplete a → IsAssembled shape told (assembled a)
whole_block shape told a is all = record {
  of_row = is.of_row;
  legal = is.legal;
  len = is.roomy ∙ is.len_is;
  block = record { there = is.of_stripe; named = are_block shape told a is all };
}
