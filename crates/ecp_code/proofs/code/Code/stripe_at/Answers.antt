-- The stripe has the bytes from where it begins.
use Rattle.std.proofs.Common.{◌≡◌, ◌*◌, drop, Some, ap, sym, ◌∙◌}
use Rattle.std.proofs.lemmas.List.{take_rest}
use Rattle.ecp_code.specs.Code.{Shape}
use Rattle.ecp_code.specs.Stripes.{filled, blocks}
use Rattle.ecp_code.proofs.BlockLaws.{blocks-filled}
use Rattle.ecp_code.proofs.StripeLaws.{slice_get-stripes}
use Rattle.ecp_code.proofs.code.Code.stripe_at.Goals as goal

pub returns-clause-blocks : goal.returns-clause-blocks
returns-clause-blocks c =
    let len = c.args.block in
    let bytes = c.args.bytes.now in
    let start = c.args.i * (c.from.result * len) in
    let k : c.from.result ≡ c.args.self.now.k = c.from.ensures ∙ ap (λ (s : Shape). s.k) c.self.view_is in
    c.new.ensures
    ∙ ap (λ n. blocks n len c.in_ok-data.data.items) (sym c.from.ensures)
    ∙ ap (blocks c.from.result len) (c.in_ok-data.ensures ∙ ap (filled (c.from.result * len)) (take_rest bytes start))
    ∙ blocks-filled c.from.result len (drop start bytes)
    ∙ ap (λ n. blocks n len (drop (c.args.i * (n * len)) bytes)) k

pub returns-clause-listed : goal.returns-clause-listed
returns-clause-listed c =
    slice_get-stripes c.args.self.now.k c.args.block c.args.bytes.now c.args.i c.requires.stripe
    ∙ ap Some (sym (returns-clause-blocks c))
