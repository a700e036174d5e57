-- `fill::flood` meets its contract.
use native.Mathlib.Omega.{arith}
use Rattle.fill.proofs.Growing.{ready_again}
use Rattle.fill.proofs.Flooding.{flooded_in, pieces_most}
use Rattle.fill.proofs.flood.Goals as goal

pub settle-cells-requires : goal.settle-cells-requires
settle-cells-requires c =
    let w = c.walk-pieces.ensures in
    let r = ready_again c.requires.ready w.grown in
    record { sheet = r.sheet; count_in_bounds = (omega (arith, r.room), pieces_most c.requires.ready w.grown); all_on_sheet = w.on }

pub returns : goal.returns
returns c =
    let r = ready_again c.requires.ready c.walk-pieces.ensures.grown in
    record { flooded_in = rw c.settle-cells.ensures.value (flooded_in c.requires.ready c.requires.row_lt_height.0 c.requires.row_lt_height.1 c.walk-pieces.ensures c.settle-cells.ensures.settled); pieces_in_bounds = omega (arith, r.room) }
