-- `line::draw::are_on` meets its contract.
use Rattle.line.proofs.OnSheet.{on_test}
use Rattle.line.proofs.draw.are_on.Goals as goal

pub returns : goal.returns
returns c =
    let a = c.args in
    on_test a.shape a.a a.b _ _ _ _ c.min.ensures c.max.ensures c.min-2.ensures c.max-2.ensures
