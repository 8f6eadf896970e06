-- A comparison with a splat, and a choice between two splats.
use Rattle.ecp_kernel.proofs.Lanes.{plane_of}
use Rattle.ecp_kernel.proofs.planes.plane.Goals as goal

pub returns : goal.returns
returns c = plane_of c.args.bytes c.args.bit c.args.value c.fits-bytes.0
