-- `fill::take` meets its contract.
use native.Mathlib.Omega.{arith}
use Rattle.fill.proofs.Growing.{run_fits, run_taken}
use Rattle.fill.proofs.take.Goals as goal

pub queue-requires : goal.queue-requires
queue-requires c =
    let z = c.requires.ready.sheet in
    let B = c.back-from.ensures in
    let A = c.ahead-to.ensures in (
      omega (arith, z.high, c.requires.row_lt_height.0),
      omega (arith, B.order, A.order),
      omega (arith, A.within, z.wide),
      run_fits c.requires.ready c.requires.row_lt_height.0 c.requires.row_lt_height.1 c.requires.fact B A c.ink_run.ensures,
    )

pub returns : goal.returns
returns c =
    run_taken c.requires.ready c.requires.row_lt_height.0 c.requires.row_lt_height.1 c.requires.fact c.back-from.ensures c.ahead-to.ensures c.ink_run.ensures
    c.queue.ensures
