-- `pbm::write` meets its contract.
use Prim.Native.Nat.{ℕ, ◌+◌, ◌*◌, ◌≤◌}
use mathlib.Core.Path.{◌≡◌, ap}
use native.Mathlib.Omega.{arith}
use lib.ListN.{length}
use lib.Seq.{length-sets}
use Rattle.sheet.proofs.Lent.{is_sheet}
use Rattle.sheet.proofs.Limits.{fits_sheet}
use Rattle.pbm.specs.Picture.{header_bytes, raster_byte_count, picture_of}
use Rattle.pbm.proofs.Answers.{picture_long, writes_done, writes_no_sheet, writes_short}
use Rattle.pbm.proofs.write.Goals as goal
use Rattle.pbm.proofs.write.Goals.{After-size}

pub returns-in_err-check : goal.returns-in_err-check
returns-in_err-check c =
    let a = c.args in
    writes_no_sheet a.shape a.sheet.now a.picture.now _ _ c.in_err-check.ensures c.from_residual.ensures.1

pub row_bytes-requires : goal.row_bytes-requires
row_bytes-requires c = (fits_sheet c.args.shape c.args.sheet.now (is_sheet _ _ c.in_ok-check.ensures)).wide

pub size-requires : goal.size-requires
size-requires c = let z = fits_sheet c.args.shape c.args.sheet.now (is_sheet _ _ c.in_ok-check.ensures) in (z.wide, z.high)

all_bytes : (c : After-size) → let a = c.args in
    c.size.result + a.shape.height * c.row_bytes.result ≡ length (picture_of a.shape a.sheet.now)
all_bytes c =
    let a = c.args in
    let same : a.shape.height * c.row_bytes.result ≡ raster_byte_count a.shape = ap (λ (n : ℕ). a.shape.height * n) c.row_bytes.ensures.0 in
    omega (arith, picture_long a.shape a.sheet.now, c.size.ensures.0, same)

pub returns-then-picture-bytes : goal.returns-then-picture-bytes
returns-then-picture-bytes c =
    let a = c.args in
    writes_short a.shape a.sheet.now a.picture.now (is_sheet _ _ c.in_ok-check.ensures) (omega (arith, all_bytes (goal.at.returns-then-picture-bytes c).After-size, c.if-picture-bytes.true))

pub put_header-at-requires : goal.put_header-at-requires
put_header-at-requires c =
    let z = fits_sheet c.args.shape c.args.sheet.now (is_sheet _ _ c.in_ok-check.ensures) in
    let a = c.args in
    let room : length (header_bytes a.shape.width a.shape.height) ≤ length a.picture.now = omega (arith, c.size.ensures.0, c.if-picture-bytes.false) in
    (z.wide, z.high, room)

pub put_rows-requires : goal.put_rows-requires
put_rows-requires c =
    let a = c.args in
    let room : c.put_header-at.result + raster_byte_count a.shape ≤ length c.put_header-at.new.out = omega (arith, ap length c.put_header-at.ensures.1, length-sets a.picture.now 0 (header_bytes a.shape.width a.shape.height), c.put_header-at.ensures.0, all_bytes (goal.at.put_rows-requires c).After-size, picture_long a.shape a.sheet.now, c.if-picture-bytes.false) in
    (fits_sheet c.args.shape c.args.sheet.now (is_sheet _ _ c.in_ok-check.ensures), room)

pub returns : goal.returns
returns c =
    let a = c.args in
    writes_done a.shape a.sheet.now a.picture.now (is_sheet _ _ c.in_ok-check.ensures) _ c.put_header-at.new.out _ c.put_header-at.result (all_bytes (goal.at.returns c).After-size) c.if-picture-bytes.false
    c.put_header-at.ensures.0 c.put_header-at.ensures.1 c.put_rows.ensures
