-- `pbm::rows::put_rows` meets its contract.
use Prim.Native.Nat.{ℕ, ◌+◌, ◌*◌, ◌≤◌}
use mathlib.Core.Path.{◌≡◌, ap}
use native.Mathlib.Omega.{arith}
use lib.ListN.{length}
use Rattle.pbm.specs.Picture.{raster_byte_count}
use Rattle.pbm.proofs.Raster.{flag_small, flags_small, padded_again, padded_zeros, raster_ends, rasters_none, rasters_one}
use Rattle.pbm.proofs.rows.put_rows.Goals as goal
use Rattle.pbm.proofs.rows.put_rows.Goals.{In-loop-y}

pub loop-y-init : goal.loop-y-init
loop-y-init c = (rasters_none _ _ _ _ _ _ (padded_zeros _), omega arith)

rows_end : (c : In-loop-y) → let a = c.args in
    a.at + (c.loop-y.y * c.row_bytes-count.result + c.row_bytes-count.result) ≤ length a.out.now
rows_end c =
    let k = c.args.shape in
    let same : k.height * c.row_bytes-count.result ≡ raster_byte_count k = ap (λ (n : ℕ). k.height * n) c.row_bytes-count.ensures.0 in
    omega (arith, raster_ends k.height c.loop-y.y c.row_bytes-count.result c.loop-y-test.true, same, c.requires.1)

pub pack_row-requires : goal.pack_row-requires
pack_row-requires c =
    let l = c.loop-y in
    let z = c.requires.0 in
    let count = c.row_bytes-count.result in
    let room : c.args.at + l.y * count + count ≤ length l.out = omega (arith, rows_end (goal.at.pack_row-requires c).In-loop-y, l.invariant.0.size) in (
      omega (arith, (padded_again _ _ _ _ z.wide l.invariant.0.padded c.flag_row.ensures).size, c.row_bytes-count.ensures.1),
      flags_small _ _ _ _ z.wide l.invariant.0.padded c.flag_row.ensures (λ x. flag_small c.args.sheet.now (l.y * c.args.shape.pitch) x),
      room,
    )

pub loop-y-preserved : goal.loop-y-preserved
loop-y-preserved c =
    let l = c.loop-y in
    let z = c.requires.0 in
    (rasters_one _ _ c.row_bytes-count.result z.wide l.invariant.0 c.row_bytes-count.ensures.0 c.flag_row.ensures c.pack_row.ensures, omega (arith, c.loop-y-test.true))
