-- `pbm::read` meets its contract.
use Prim.Native.Nat.{ℕ, ◌*◌}
use mathlib.Core.Path.{◌≡◌, ap, ◌∙◌}
use native.Mathlib.Omega.{arith}
use Rattle.sheet.proofs.Lent.{is_sheet}
use Rattle.sheet.proofs.Limits.{fits_sheet}
use Rattle.pbm.specs.Header.{rows_of}
use Rattle.pbm.specs.Picture.{raster_byte_count}
use Rattle.pbm.proofs.Answers.{is_named, laid_paints, not_named, reads_done, reads_no_sheet, reads_other, reads_short, rows_long}
use Rattle.pbm.proofs.read.Goals as goal
use Rattle.pbm.proofs.read.Goals.{After-row_bytes}

pub returns-in_err-check : goal.returns-in_err-check
returns-in_err-check c =
    let a = c.args in
    reads_no_sheet a.shape a.picture.now a.sheet.now _ _ c.in_err-check.ensures c.from_residual.ensures.1

pub find_rows-requires : goal.find_rows-requires
find_rows-requires c =
    let z = fits_sheet c.args.shape c.args.sheet.now (is_sheet _ _ c.in_ok-check.ensures) in
    (z.broad, z.wide, z.deep, z.high)

pub returns-in_default : goal.returns-in_default
returns-in_default c =
    let a = c.args in
    reads_other a.shape a.picture.now a.sheet.now (is_sheet _ _ c.in_ok-check.ensures) (not_named c.in_default.ensures)

pub row_bytes-requires : goal.row_bytes-requires
row_bytes-requires c = (fits_sheet c.args.shape c.args.sheet.now (is_sheet _ _ c.in_ok-check.ensures)).wide

same_rows : (c : After-row_bytes) → let a = c.args in
    a.shape.height * c.row_bytes.result ≡ raster_byte_count a.shape
same_rows c = ap (λ (n : ℕ). c.args.shape.height * n) c.row_bytes.ensures.0

pub returns-then-picture-at : goal.returns-then-picture-at
returns-then-picture-at c =
    let a = c.args in
    let f = c.in-Some.ensures in
    reads_short a.shape a.picture.now a.sheet.now (is_sheet _ _ c.in_ok-check.ensures) (is_named f)
    (omega (arith, (rows_long f).1, same_rows (goal.at.returns-then-picture-at c).After-row_bytes, c.if-picture-at.true))

pub lay_rows-requires : goal.lay_rows-requires
lay_rows-requires c = (
  fits_sheet _ _ (is_sheet _ _ c.in_ok-check.ensures),
  omega (arith, (rows_long c.in-Some.ensures).0, same_rows (goal.at.lay_rows-requires c).After-row_bytes, c.if-picture-at.false),
)

pub returns : goal.returns
returns c =
    let a = c.args in
    let f = c.in-Some.ensures in
    reads_done a.shape a.picture.now a.sheet.now (is_sheet _ _ c.in_ok-check.ensures) (is_named f) _
    (omega (arith, (rows_long f).1, same_rows (goal.at.returns c).After-row_bytes, c.if-picture-at.false))
    (c.lay_rows.ensures ∙ laid_paints a.shape a.picture.now (rows_of a.picture.now) c.in-Some.at (f.found (is_named f)).1 a.sheet.now)
