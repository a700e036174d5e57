-- `line::draw::walk` meets its contract.
use Rattle.std.proofs.Common.{refl}
use Rattle.line.proofs.Walking.{begins, ends, turn, at_below}
use Rattle.line.proofs.draw.walk.Goals as goal

pub loop-n-init : goal.loop-n-init
loop-n-init c =
    let a = c.args in
    let k = a.sheet.now.shape in
    begins k a.ink a.course.path a.first a.past a.slope.by c.requires.first_lt_past.1 c.requires.first_lt_past.0 _ a.slope.start a.place a.sheet.now.fits c.requires.first_lt_past.2 c.requires.first_lt_past.3

pub bounds-cells-at : goal.bounds-cells-at
bounds-cells-at c =
    let k = c.loop-n in
    let a = c.args in
    at_below a.sheet.now.shape a.ink a.course.path a.first a.past a.slope.by c.requires.first_lt_past.1 c.requires.first_lt_past.0
    _ k.cells k.p k.at k._n k.invariant c.loop-n-test.true a.sheet.now.fits.disjoint

pub loop-n-preserved : goal.loop-n-preserved
loop-n-preserved c =
    let k = c.loop-n in
    let a = c.args in
    let f = a.sheet.now.fits in
    turn a.sheet.now.shape a.ink a.course.path a.first a.past a.slope.by c.requires.first_lt_past.1 c.requires.first_lt_past.0
    _ k.cells k.p k.at k._n k.invariant c.loop-n-test.true
    f.disjoint f.far f.high
    _ _ c.hop-at.result refl refl c.hop-at.ensures

pub returns : goal.returns
returns c =
    let k = c.loop-n in
    let a = c.args in
    let inked = ends a.sheet.now.shape a.ink a.course.path a.first a.past a.slope.by c.requires.first_lt_past.1 c.requires.first_lt_past.0
    _ k.cells k.p k.at k._n k.invariant c.loop-n-test.false in
    record { same = refl; shape = refl; cells = inked }
