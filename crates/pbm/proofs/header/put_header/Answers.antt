-- `pbm::header::put_header` meets its contract.
use mathlib.Core.List.{[], ◌++◌, ◌∷◌}
use native.Mathlib.Omega.{arith}
use lib.ListN.{length-set, set}
use Rattle.laws.specs.Text.{decimal}
use Rattle.laws.proofs.Written.{Written, write_next}
use Rattle.pbm.proofs.Decimals.{byte_put, few_digits, header_long, header_put, magic, magic_put, written_long}
use Rattle.pbm.proofs.header.put_header.Goals as goal
use Rattle.pbm.proofs.header.put_header.Goals.{After-put_number-across, After-put_number-down}

pub bounds-out-0 : goal.bounds-out-0
bounds-out-0 c = omega (arith, c.requires.2, header_long c.args.width c.args.height)

pub bounds-out-1 : goal.bounds-out-1
bounds-out-1 c = omega (arith, length-set c.args.out.now 0 80, c.requires.2, header_long c.args.width c.args.height)

pub bounds-out-2 : goal.bounds-out-2
bounds-out-2 c =
    let out = c.args.out.now in
    omega (arith, length-set (set out 0 80) 1 52, length-set out 0 80, c.requires.2, header_long c.args.width c.args.height)

pub put_number-across-requires : goal.put_number-across-requires
put_number-across-requires c =
    (c.requires.0, omega (arith, written_long _ _ _ _ (magic_put c.args.out.now), c.requires.2, header_long c.args.width c.args.height))

width_put : (c : After-put_number-across) → let a = c.args in Written a.out.now (magic ++ decimal a.width) c.put_number-across.new.out c.put_number-across.result
width_put c =
    let a = c.args in
    write_next _ _ _ _ (magic_put a.out.now) (decimal a.width) _ _ c.put_number-across.ensures.1 c.put_number-across.ensures.0

pub bounds-out-across : goal.bounds-out-across
bounds-out-across c =
    omega (arith, written_long _ _ _ _ (width_put (goal.at.bounds-out-across c).After-put_number-across), c.put_number-across.ensures.0, c.requires.2, header_long c.args.width c.args.height)

pub overflow_add-across : goal.overflow_add-across
overflow_add-across c =
    omega (arith, c.put_number-across.ensures.0, few_digits c.args.width c.requires.0)

pub put_number-down-requires : goal.put_number-down-requires
put_number-down-requires c =
    (c.requires.1, omega (arith, written_long _ _ _ _ (byte_put _ _ _ _ 32 (width_put (goal.at.put_number-down-requires c).After-put_number-across)), c.put_number-across.ensures.0, c.requires.2, header_long c.args.width c.args.height))

width_put_2 : (c : After-put_number-down) → let a = c.args in Written a.out.now (magic ++ decimal a.width) c.put_number-across.new.out c.put_number-across.result
width_put_2 c =
    let a = c.args in
    write_next _ _ _ _ (magic_put a.out.now) (decimal a.width) _ _ c.put_number-across.ensures.1 c.put_number-across.ensures.0

height_put : (c : After-put_number-down) → let a = c.args in
    Written a.out.now (magic ++ decimal a.width ++ (32 ∷ []) ++ decimal a.height) c.put_number-down.new.out c.put_number-down.result
height_put c =
    let a = c.args in
    write_next _ _ _ _ (byte_put _ _ _ _ 32 (width_put_2 c)) (decimal a.height) _ _ c.put_number-down.ensures.1 c.put_number-down.ensures.0

pub bounds-out-down : goal.bounds-out-down
bounds-out-down c =
    omega (arith, written_long _ _ _ _ (height_put (goal.at.bounds-out-down c).After-put_number-down), c.put_number-down.ensures.0, c.put_number-across.ensures.0, c.requires.2, header_long c.args.width c.args.height)

pub overflow_add-result : goal.overflow_add-result
overflow_add-result c =
    omega (arith, c.put_number-down.ensures.0, c.put_number-across.ensures.0, few_digits c.args.width c.requires.0, few_digits c.args.height c.requires.1)

pub returns : goal.returns
returns c =
    let w = header_put _ _ _ _ _ (height_put (goal.at.returns c).After-put_number-down) in
    (w.long, w.bytes)
