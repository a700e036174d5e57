-- `fill::fill_rows` meets its contract.
use Rattle.fill.proofs.Spanning.{rows_told}
use Rattle.fill.proofs.fill_rows.Goals as goal

pub returns-clause-fills_rows : goal.returns-clause-fills_rows
returns-clause-fills_rows c = rows_told c.in_ok-amount.ensures.fills_pieces c.rows_of-rows.ensures
