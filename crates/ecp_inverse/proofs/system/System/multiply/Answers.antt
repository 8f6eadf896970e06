-- The operation is done to both sides of the equations.
use Rattle.ecp_inverse.proofs.RowLaws.{AreByteCells-scaled, SameSolutions-scaled}
use Rattle.ecp_inverse.proofs.system.System.multiply.Goals as goal

pub invariant_of-self : goal.invariant_of-self
invariant_of-self c =
    let s = c.args.self.now in
    record {
      in_size = s.in_size;
      left_bytes = AreByteCells-scaled s.left c.scale.new.rows c.args.row c.args.c c.ranges.c.fits s.left_bytes c.scale.ensures;
      right_bytes = AreByteCells-scaled s.right c.scale-2.new.rows c.args.row c.args.c c.ranges.c.fits s.right_bytes c.scale-2.ensures;
    }

pub returns-clause-solutions : goal.returns-clause-solutions
returns-clause-solutions c =
    let s = c.args.self.now in
    SameSolutions-scaled s.size s.left s.right c.scale.new.rows c.scale-2.new.rows c.args.row c.args.c
    s.in_size c.ranges.c.fits c.requires.nonzero s.left_bytes s.right_bytes c.scale.ensures c.scale-2.ensures
