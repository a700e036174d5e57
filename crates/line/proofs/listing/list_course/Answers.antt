-- `line::listing::list_course` meets its contract.
use Rattle.std.proofs.Common.{◌≡◌, cond, refl, ◌∙◌}
use Rattle.line.proofs.Filled.{x_over, y_over}
use Rattle.line.proofs.listing.list_course.Goals as goal
use Rattle.line.proofs.listing.list_course.Goals.{then-course, else-course}

-- the steps along x and along y
steps : (c : goal.After-ys-1) → let d = c.args.course.path in let f = c.gradient_of-f.result in
    (c.if-course.across.0 ≡ cond d.steep f 4294967296) × (c.if-course.across.1 ≡ cond d.steep 4294967296 f)
steps c =
    elim c.if-course.branch [
      | then-course w ↦ simp (w.if-course.true, w.across-is) (refl, refl)
      | else-course w ↦ simp (w.if-course.false, w.across-is) (refl, refl)
    ]

pub returns : goal.returns
returns c =
    let a = c.args in
    let p = a.course.runs in
    let f = c.gradient_of-f in (
      c.list_along.ensures ∙ x_over a.course.path p f.result f.ensures _ (steps c).0 a.first a.xs.now,
      c.list_along-2.ensures ∙ y_over a.course.path p f.result f.ensures _ (steps c).1 a.first a.ys.now,
    )
