-- `line::range::least_n` meets its contract.
use Rattle.std.proofs.Common.{◌-◌, ◌*◌, arith}
use Rattle.line.proofs.Least.{least_none, least_some}
use Rattle.line.proofs.range.least_n.Goals as goal

pub returns-then-s-k : goal.returns-then-s-k
returns-then-s-k c = let a = c.args in least_none a.k a.l a.s c.if-s-k.true

pub returns : goal.returns
returns c =
    let a = c.args in
    least_some a.k a.l a.s (omega arith) (2 * a.k - 1) (2 * a.s - 1) (omega arith) (omega arith) c.if-s-k.false
