-- The operation is done to both sides of the equations.
use Rattle.ecp_inverse.proofs.RowLaws.{AreByteCells-added, SameSolutions-added}
use Rattle.ecp_inverse.proofs.system.System.add.Goals as goal

pub invariant_of-self : goal.invariant_of-self
invariant_of-self c =
    let s = c.args.self.now in
    record {
      in_size = s.in_size;
      left_bytes = AreByteCells-added s.left c.add_multiple.new.rows c.args.target c.args.c c.args.source c.ranges.c.fits s.left_bytes c.add_multiple.ensures;
      right_bytes = AreByteCells-added s.right c.add_multiple-2.new.rows c.args.target c.args.c c.args.source c.ranges.c.fits s.right_bytes c.add_multiple-2.ensures;
    }

pub returns-clause-solutions : goal.returns-clause-solutions
returns-clause-solutions c =
    let s = c.args.self.now in
    SameSolutions-added s.size s.left s.right c.add_multiple.new.rows c.add_multiple-2.new.rows c.args.target c.args.c c.args.source
    s.in_size c.ranges.c.fits c.requires.within.1 c.requires.apart s.left_bytes s.right_bytes c.add_multiple.ensures c.add_multiple-2.ensures
