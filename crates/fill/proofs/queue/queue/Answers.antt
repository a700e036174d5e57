-- `fill::queue::queue` meets its contract.
use Prim.Native.Nat.{◌<◌}
use lib.ListN.{length}
use native.Mathlib.Omega.{arith}
use Rattle.fill.proofs.Pieces.{queued_more}
use Rattle.fill.proofs.queue.queue.Goals as goal
use Rattle.fill.proofs.queue.queue.Goals.{After-piece}

-- a place is left for each piece
fits : (c : After-piece) → let l = c.loop-at in l.end < length l.work
fits c =
    let v = c.loop-at.invariant in
    omega (arith, v.0.few, v.0.size, c.loop-at-test.true, c.requires.3)

pub loop-at-preserved : goal.loop-at-preserved
loop-at-preserved c =
    let v = c.loop-at.invariant in
    let least = c.min-past.ensures in
    let taken = c.loop-at-test.true in (
      rw c.piece.ensures
          (queued_more v.0 v.1 (omega (arith, least, taken)) (omega (arith, least, c.requires.2)) (omega (arith, least)) (fits c)),
      omega (arith, v.1, least),
      omega (arith, least),
    )
