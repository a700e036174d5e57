-- `fill::settle` meets its contract.
use Prim.Native.Nat.{◌<◌}
use mathlib.Core.Path.{◌≡◌, refl, sym}
use native.Mathlib.Omega.{arith}
use lib.ListN.{get_or, take}
use Rattle.std.proofs.lemmas.List.{get_or-take, length-take-le}
use Rattle.fill.proofs.Pieces.{total_none, total_more, total_most}
use Rattle.fill.proofs.Flooding.{settled_none, settled_more}
use Rattle.fill.proofs.settle.Goals as goal
use Rattle.fill.proofs.settle.Goals.{In-loop-piece}

pub loop-piece-init : goal.loop-piece-init
loop-piece-init c = (sym (total_none _), settled_none _ _ _ _)

-- a piece of those that are counted is one of the queue
counted : (c : In-loop-piece) → c.loop-piece.piece-index < c.args.count
counted c = omega (arith, c.loop-piece-test.true, length-take-le c.args.count c.args.work.now c.requires.count_in_bounds.0)

piece : (c : In-loop-piece) → let a = c.args in let j = c.loop-piece.piece-index in get_or (take a.count a.work.now) j 0 ≡ get_or a.work.now j 0
piece c = get_or-take _ _ _ 0 (counted c)

pub overflow_add-cells : goal.overflow_add-cells
overflow_add-cells c =
    let p = (goal.at.overflow_add-cells c).In-loop-piece in
    omega (arith, c.loop-piece.invariant.0, total_most c.args.work.now c.loop-piece.piece-index, c.requires.count_in_bounds.1, counted p)

pub loop-piece-preserved : goal.loop-piece-preserved
loop-piece-preserved c =
    let l = c.loop-piece in
    let e = piece (goal.at.loop-piece-preserved c).In-loop-piece in (
      omega (arith, l.invariant.0, total_more c.args.work.now l.piece-index, e),
      settled_more l.invariant.1 refl (omega arith) (rw e at c.ink_run.ensures),
    )

pub returns : goal.returns
returns c =
    let l = c.loop-piece in
    let e : l.piece-index ≡ c.args.count = omega (arith, c.loop-piece-test.false, length-take-le c.args.count c.args.work.now c.requires.count_in_bounds.0) in
    record { value = rw e at l.invariant.0; settled = rw e at l.invariant.1 }
