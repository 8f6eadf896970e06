use Rattle.std.proofs.Common.{◌≡◌, ℕ, List, length, vec_len, subst, ap, ◌∙◌, Err}
use Rattle.ecp_node.specs.Nodes.{NodeState}
use Rattle.ecp_node.specs.declared.node_read.NodeRead.{NodeRead}
use Rattle.ecp_node.specs.declared.node_read.NodeRead.TheVariants.{Failed}
use Rattle.ecp_slice.specs.declared.reasons.TheConstants.{STORE_FAILED}
use Rattle.ecp_helper.specs.Helpers.{HelperState}
use Rattle.ecp_helper.specs.HelperParts.{helper_seen}
use Rattle.ecp_helper.specs.Steps.{Adds, Reads}
use Rattle.ecp_helper.proofs.Keeping.{read_fields, read_keeps, read_view, works_so, gives_up_so}
use Rattle.ecp_helper.proofs.helper.Helper.work.Goals as goal

pub invariant_of-self : goal.invariant_of-self
invariant_of-self g c =
    let same : length c.add_next.new.buffer ≡ length c.self.inside.room.buffer.items = c.add_next.auto.buffer ∙ ap (λ (xs : List ℕ). length xs) c.as_mut_slice-buffer.ensures.value in
    let whole : length c.add_next.new.buffer ≡ vec_len c.self.inside.room.buffer = c.add_next.auto.buffer ∙ c.as_mut_slice-buffer.ensures.len in
    read_keeps c.self.inside c.add_next.new.node c.add_next.new.buffer same whole g.N.Names.shape g.N.Names.told c.self.invariant

pub invariant_of-self-in-Err-Lost : goal.invariant_of-self-in-Err-Lost
invariant_of-self-in-Err-Lost g c =
    let same : length c.add_next.new.buffer ≡ length c.self.inside.room.buffer.items = c.add_next.auto.buffer ∙ ap (λ (xs : List ℕ). length xs) c.as_mut_slice-buffer.ensures.value in
    let whole : length c.add_next.new.buffer ≡ vec_len c.self.inside.room.buffer = c.add_next.auto.buffer ∙ c.as_mut_slice-buffer.ensures.len in
    read_keeps c.self.inside c.add_next.new.node c.add_next.new.buffer same whole g.N.Names.shape g.N.Names.told c.self.invariant

pub invariant_of-self-in-Err-Failed : goal.invariant_of-self-in-Err-Failed
invariant_of-self-in-Err-Failed g c =
    let same : length c.add_next.new.buffer ≡ length c.self.inside.room.buffer.items = c.add_next.auto.buffer ∙ ap (λ (xs : List ℕ). length xs) c.as_mut_slice-buffer.ensures.value in
    let whole : length c.add_next.new.buffer ≡ vec_len c.self.inside.room.buffer = c.add_next.auto.buffer ∙ c.as_mut_slice-buffer.ensures.len in
    read_keeps c.self.inside c.add_next.new.node c.add_next.new.buffer same whole g.N.Names.shape g.N.Names.told c.self.invariant

pub returns-in-Ok : goal.returns-in-Ok
returns-in-Ok g c =
    let same : length c.add_next.new.buffer ≡ length c.self.inside.room.buffer.items = c.add_next.auto.buffer ∙ ap (λ (xs : List ℕ). length xs) c.as_mut_slice-buffer.ensures.value in
    let whole : length c.add_next.new.buffer ≡ vec_len c.self.inside.room.buffer = c.add_next.auto.buffer ∙ c.as_mut_slice-buffer.ensures.len in
    let node : c.self.inside.node ≡ c.args.self.now.node = ap (λ (h : HelperState). h.node) c.self.view_is in
    works_so g.N.Names.told g.S.Store.tells c.args.self.now (helper_seen (read_fields c.self.inside c.add_next.new.node c.add_next.new.buffer same whole)) c.send.new.self
    c.args.message c.add_next.new.message c.send.result
    (read_view c.self.inside c.add_next.new.node c.add_next.new.buffer same whole c.args.self.now c.self.view_is)
    (subst (λ (n : NodeState). Adds g.N.Names.told g.S.Store.tells n c.add_next.new.node c.args.message c.add_next.new.message) node c.in-Ok.ensures.added)
    c.send.ensures

pub returns-in-Err-Failed : goal.returns-in-Err-Failed
returns-in-Err-Failed g c =
    let same : length c.add_next.new.buffer ≡ length c.self.inside.room.buffer.items = c.add_next.auto.buffer ∙ ap (λ (xs : List ℕ). length xs) c.as_mut_slice-buffer.ensures.value in
    let whole : length c.add_next.new.buffer ≡ vec_len c.self.inside.room.buffer = c.add_next.auto.buffer ∙ c.as_mut_slice-buffer.ensures.len in
    let node : c.self.inside.node ≡ c.args.self.now.node = ap (λ (h : HelperState). h.node) c.self.view_is in
    let failed : Reads (Err Failed) c.self.inside.node c.add_next.new.node c.args.message =
    subst (λ (e : NodeRead). Reads (Err e) c.self.inside.node c.add_next.new.node c.args.message) c.in-Err-Failed.field-0-is c.in-Err-Failed.ensures.refused in
    gives_up_so (Err Failed) STORE_FAILED c.args.self.now (helper_seen (read_fields c.self.inside c.add_next.new.node c.add_next.new.buffer same whole))
    c.args.message c.add_next.new.message c.set_cancel-in-Err-Failed.new.self c.set_cancel-in-Err-Failed.result
    (subst (λ (n : NodeState). Reads (Err Failed) n c.add_next.new.node c.args.message) node failed)
    c.in-Err-Failed.ensures.kept c.set_cancel-in-Err-Failed.ensures.found c.set_cancel-in-Err-Failed.ensures.set
    (read_view c.self.inside c.add_next.new.node c.add_next.new.buffer same whole c.args.self.now c.self.view_is)
