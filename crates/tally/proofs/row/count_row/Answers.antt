-- `tally::row::count_row` meets its contract.
use Prim.Native.Nat.{◌+◌, ◌*◌, ◌/◌, ◌%◌, ◌≤◌}
use mathlib.Core.Path.{◌≡◌, sym}
use native.Mathlib.Omega.{arith}
use Rattle.tally.specs.Inner.{inked}
use Rattle.tally.proofs.Inked.{inked_none, inked_more}
use Rattle.tally.proofs.row.count_row.Goals as goal
use Rattle.tally.proofs.row.count_row.Goals.{After-count_block, After-count_few}

pub loop-block-init : goal.loop-block-init
loop-block-init c = sym (inked_none _ _)

-- one block more, and the rest
more : (c : After-count_block) → let l = c.loop-block in let a = c.args in
    (l.n + c.count_block.result ≡ inked a.sheet.now a.at (128 * l.block + 128)) × (l.n + c.count_block.result ≤ 128 * l.block + 128)
more c = inked_more _ _ _ _ _ _ c.loop-block.invariant c.count_block.ensures

pub overflow_add-n : goal.overflow_add-n
overflow_add-n c = omega (arith, (more c).1, c.loop-block-test.true, c.requires.1)

pub loop-block-preserved : goal.loop-block-preserved
loop-block-preserved c =
    let e : 128 * c.loop-block.block + 128 ≡ 128 * (c.loop-block.block + 1) = omega arith in
    rw e at (more c).0

rest : (c : After-count_few) → let l = c.loop-block in let a = c.args in
    (l.n + c.count_few.result ≡ inked a.sheet.now a.at a.cells) × (l.n + c.count_few.result ≤ a.cells)
rest c =
    let a = c.args in
    let e : c.loop-block.block ≡ a.cells / 128 = omega arith in
    let f : 128 * (a.cells / 128) + a.cells % 128 ≡ a.cells = omega arith in
    rw f at (inked_more _ _ _ _ _ _ (rw e at c.loop-block.invariant) c.count_few.ensures)

pub overflow_add-result : goal.overflow_add-result
overflow_add-result c = omega (arith, (rest c).1, c.requires.1)

pub returns : goal.returns
returns c = (rest c).0
