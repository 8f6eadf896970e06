use Rattle.std.proofs.Common.{ℕ, ◌∙◌, ap, refl, take}
use Rattle.std.proofs.lemmas.List.{take_min}
use Rattle.ecp_cluster.proofs.CatLaws.{takes_more}
use Rattle.ecp_cluster.proofs.file_sum.FileSum.add.Goals as goal

pub returns : goal.returns
returns c = λ len bytes is.
    takes_more len c.args.self.now _ bytes c.args.block.now (take c.min.result c.args.block.now) is
    (ap (λ (n : ℕ). take n c.args.block.now) c.min.ensures ∙ take_min c.args.self.now.left c.args.block.now) refl (c.update.ensures (take len bytes) is.holds)
