-- a pen as an iterator
use Rattle.line.specs.Pen.{cells_left}
use Rattle.line.proofs.Yields.{yields, progress}
use Rattle.line.proofs.pen.PenIterator.next.Goals as goal

pub returns-clause-goes : goal.returns-clause-goes
returns-clause-goes c = progress _ (λ t. tt) cells_left _ _ _ (yields c.args.self.now _ _ c.advance.ensures.cell c.advance.ensures.pen)
