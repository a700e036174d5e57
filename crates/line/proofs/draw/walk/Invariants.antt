-- `line::draw::walk` meets its contract.
use Rattle.line.proofs.Walking.{Walking}
use Rattle.line.proofs.draw.walk.Given as goal

abbrev pub invariant-loop-n : goal.invariant-loop-n
invariant-loop-n l = Walking l.shape l.ink l.course.path l.first l.past l.f l.initial.cells l.cells l.p l.at l._n
