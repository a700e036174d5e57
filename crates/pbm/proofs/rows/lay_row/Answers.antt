-- `pbm::rows::lay_row` meets its contract.
use Prim.Native.Nat.{ℕ, ◌+◌, ◌*◌, ◌-◌, ◌/◌}
use mathlib.Core.Path.{◌≡◌, subst}
use native.Mathlib.Omega.{arith}
use Rattle.pbm.specs.Inner.{byte_of, row_bit}
use Rattle.pbm.proofs.Raster.{Puts, cells_are, puts_more, puts_none}
use Rattle.pbm.proofs.rows.lay_row.Goals as goal
use Rattle.pbm.proofs.rows.lay_row.Goals.{After-lay_few}

pub loop-j-init : goal.loop-j-init
loop-j-init c = (puts_none _ _ _, omega arith)

pub loop-j-preserved : goal.loop-j-preserved
loop-j-preserved c =
    let l = c.loop-j in
    let a = c.args in
    let found = c.cells_of in (
      puts_more 8 ((l.j + 1) * 8) (byte_of found.result) l.invariant.0 (omega arith) (λ i m. cells_are a.picture.now a.from l.j found.result i found.ensures.0 found.ensures.1 m) c.lay.ensures,
      omega (arith, c.loop-j-test.true),
    )

laid_whole : (c : After-lay_few) → let a = c.args in
    Puts a.sheet.now a.at (row_bit a.picture.now a.from) c.lay_few.new.sheet a.width
laid_whole c =
    let found = c.cells_of-2 in
    let l = c.loop-j in
    let a = c.args in
    let w = a.width in
    let all : l.j ≡ w / 8 = omega (arith, l.invariant.1, c.loop-j-test.false) in
    let begun : ℕ → Type 0 = λ n. Puts a.sheet.now a.at (row_bit a.picture.now a.from) l.sheet (n * 8) in
    puts_more (w - w / 8 * 8) w (byte_of found.result) (subst begun all l.invariant.0) (omega arith)
    (λ i m. cells_are a.picture.now a.from (w / 8) found.result i found.ensures.0 found.ensures.1 (omega arith)) c.lay_few.ensures

pub returns : goal.returns
returns c = (laid_whole (goal.at.returns c).After-lay_few).is
