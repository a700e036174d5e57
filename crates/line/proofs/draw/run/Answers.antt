-- `line::draw::run` meets its contract.
use Rattle.std.proofs.Common.{sym, refl, ◌∙◌}
use Rattle.line.specs.Inner.Span.{Spans}
use Rattle.line.proofs.Ranges.{spans}
use Rattle.line.proofs.Spanned.{range_box, range_none, told_cells_lem}
use Rattle.line.proofs.Walking.{counted, nothing}
use Rattle.line.proofs.draw.run.Goals as goal
use Rattle.line.proofs.draw.run.Goals.{After-past_n-past}

range : (c : After-past_n-past) → let a = c.args in Spans a.sheet.now.shape a.course.path c.first_n-first.result c.past_n-past.result
range c =
    let a = c.args in
    spans a.sheet.now.shape a.course.path _ _ c.first_n-first.ensures c.past_n-past.ensures

pub returns-then-past-first : goal.returns-then-past-first
returns-then-past-first c =
    let a = c.args in
    let n = nothing a.sheet.now.shape a.sheet.now.fits.disjoint a.course.path a.course.runs _ _ (range (goal.at.returns-then-past-first c).After-past_n-past) c.if-past-first.true a.ink a.sheet.now.cells.now in
    let box = range_none a.sheet.now.shape a.course.path _ _ c.if-past-first.true (range (goal.at.returns-then-past-first c).After-past_n-past) in
    record { sheet_after = record { same = refl; shape = refl; cells = n.1 }; result_value = told_cells_lem a.sheet.now.shape _ 0 _ n.0 (c.none.ensures ∙ sym box) }

pub part_line-rectangle-requires : goal.part_line-rectangle-requires
part_line-rectangle-requires c =
    record { first_lt_past = (c.if-past-first.false, range (goal.at.part_line-rectangle-requires c).After-past_n-past) }

pub returns : goal.returns
returns c =
    let a = c.args in
    let k = a.sheet.now.fits in
    let n = counted a.sheet.now.shape k.disjoint a.course.path a.course.runs _ _ (range (goal.at.returns c).After-past_n-past) c.if-past-first.false in
    let box = range_box a.sheet.now.shape k.wide k.high a.course.path _ _ c.if-past-first.false (range (goal.at.returns c).After-past_n-past) in
    record { sheet_after = c.part_line-rectangle.ensures.sheet_after; result_value = told_cells_lem a.sheet.now.shape _ _ _ n (c.part_line-rectangle.ensures.value ∙ sym box) }
