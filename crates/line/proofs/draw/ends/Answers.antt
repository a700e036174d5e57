-- `line::draw::ends` meets its contract.
use Rattle.std.proofs.Common.{sym, refl, ap, ◌∙◌, arith}
use Rattle.sheet.specs.Inner.{unmoved_cell, inked_at}
use Rattle.line.proofs.Rise.{rise_start, rise_end}
use Rattle.line.proofs.Whole.{ends_inked}
use Rattle.line.proofs.draw.ends.Goals as goal

pub spot_of-first-requires : goal.spot_of-first-requires
spot_of-first-requires c =
    let a = c.args.course.path in
    (omega arith, sym (rise_start a.long a.short))

pub spot_of-last-requires : goal.spot_of-last-requires
spot_of-last-requires c =
    let a = c.args.course.path in
    (omega arith, sym (rise_end a.long a.short c.args.course.runs.shorter))

pub returns : goal.returns
returns c =
    let a = c.args in
    let k = a.sheet.now.shape in
    let inked = c.ink_at-2.ensures
    ∙ ap (inked_at k a.ink (unmoved_cell c.spot_of-last.result)) c.ink_at.ensures
    ∙ ends_inked k a.ink a.course.path a.sheet.now.fits.disjoint c.requires _ _ c.spot_of-first.ensures c.spot_of-last.ensures a.sheet.now.cells.now in
    record { same = refl; shape = refl; cells = inked }
