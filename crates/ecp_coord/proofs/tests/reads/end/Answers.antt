use Rattle.std.proofs.Common.{◌≡◌, refl, sym, subst, ap, ◌∙◌}
use Rattle.ecp_shape.specs.declared.shape.Shape.{Shape}
use Rattle.ecp_coord.proofs.tests.reads.end.Goals as goal

pub finish-requires-clause-bytes : goal.finish-requires-clause-bytes
finish-requires-clause-bytes g c = record {
  there = c.requires.planned.sound.sound.helpers.known.there;
  named = rw c.requires.names.1 (sym (ap (λ (s : Shape). s.block) c.requires.names.0));
}
