-- The elimination keeps the solutions of `m * y = z`, so that its end can be read off.
use Rattle.std.proofs.Common.{◌≡◌, ◌<◌, ◌≤◌, refl, ◌∙◌, arith}
use Rattle.ecp_inverse.specs.Cells.{AreByteCells}
use Rattle.ecp_inverse.specs.Matrix.{cell}
use Rattle.ecp_inverse.proofs.RowLaws.{SameSolutions-then}
use Rattle.ecp_inverse.proofs.Inverses.{IsRead, read_bytes, inverse_of, kernel_of, kernel_column-no_inverse}
use Rattle.ecp_inverse.proofs.inversion.invert.Goals as goal

pub loop-col-preserved : goal.loop-col-preserved
loop-col-preserved c =
    let first = c.new-system.result in
    let s = c.loop-col.system in
    let t = c.take_pivot.new.self in
    let u = c.clear_column.new.self in
    let inv = c.loop-col.invariant in
    let taken : t.size ≡ first.size = c.take_pivot.ensures.size ∙ inv.size in
    record {
      size = c.clear_column.ensures.size ∙ taken;
      solutions = SameSolutions-then first.size first.left first.right s.left s.right u.left u.right inv.solutions
          (SameSolutions-then first.size s.left s.right t.left t.right u.left u.right (rw inv.size at c.take_pivot.ensures.solutions) (rw taken at c.clear_column.ensures.solutions));
      reduced = rw taken at c.clear_column.ensures.reduced;
    }

pub returns-in-None-clause-column : goal.returns-in-None-clause-column
returns-in-None-clause-column c =
    let first = c.new-system.result in
    let s = c.loop-col.system in
    let inv = c.loop-col.invariant in
    let n = c.args.m.now.size in
    let col = c.loop-col.col in
    let sizes : first.size ≡ n = c.new-system.ensures.size in
    let now : s.size ≡ n = inv.size ∙ sizes in
    let few : n ≤ 16 = omega (arith, first.in_size) in
    let within : col < n = omega arith in
    let read : IsRead col s.left c.kernel.result = record { before = c.kernel.ensures.before; one = c.kernel.ensures.one; past = c.kernel.ensures.past } in
    kernel_of n s.left col c.kernel.result few within s.left_bytes (rw sizes at inv.reduced) read (read_bytes col s.left c.kernel.result (omega arith) s.left_bytes read)
    c.args.m.now.rows first.right s.right s.right_bytes c.new-system.ensures.right (rw (sizes, c.new-system.ensures.left) at inv.solutions) (rw now at c.in-None.ensures.none)

pub returns-in-None-clause-exactly : goal.returns-in-None-clause-exactly
returns-in-None-clause-exactly c =
    let first = c.new-system.result in
    let s = c.loop-col.system in
    let col = c.loop-col.col in
    let sizes : first.size ≡ c.args.m.now.size = c.new-system.ensures.size in
    let few : c.args.m.now.size ≤ 16 = omega (arith, first.in_size) in
    let bytes : AreByteCells (cell c.args.m.now) = rw c.new-system.ensures.left at first.left_bytes in
    let read : IsRead col s.left c.kernel.result = record { before = c.kernel.ensures.before; one = c.kernel.ensures.one; past = c.kernel.ensures.past } in
    (λ _. kernel_column-no_inverse c.args.m.now.size (cell c.args.m.now) c.kernel.result few bytes (read_bytes col s.left c.kernel.result (omega arith) s.left_bytes read) (returns-in-None-clause-column c), λ _. refl)

pub returns-clause-inverse : goal.returns-clause-inverse
returns-clause-inverse c =
    let first = c.new-system.result in
    let s = c.loop-col.system in
    let inv = c.loop-col.invariant in
    let n = c.args.m.now.size in
    let sizes : first.size ≡ n = c.new-system.ensures.size in
    let few : n ≤ 16 = omega (arith, first.in_size) in
    let all : c.loop-col.col ≡ n = omega arith in
    let bytes : AreByteCells (cell c.args.m.now) = rw c.new-system.ensures.left at first.left_bytes in
    let same = rw (sizes, c.new-system.ensures.left) at inv.solutions in
    let found = inverse_of n c.args.m.now.rows first.right s.left s.right few bytes s.right_bytes c.new-system.ensures.right same (rw (sizes, all) at inv.reduced) in
    rw c.of.ensures.rows found

pub returns-clause-exactly : goal.returns-clause-exactly
returns-clause-exactly c =
    let right : AreByteCells (cell c.of.result) = rw c.of.ensures.rows c.loop-col.system.right_bytes in
    (λ e. absurd (cc), λ none. absurd (none (cell c.of.result, (λ i j li lj. right i j (omega (arith, c.size.ensures.range.1, c.size.ensures.value))), returns-clause-inverse c)))
