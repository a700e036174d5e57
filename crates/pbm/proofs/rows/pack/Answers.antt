-- `pbm::rows::pack` meets its contract.
use Prim.Native.Nat.{ℕ, ◌+◌, ◌*◌, ◌/◌, ◌%◌}
use mathlib.Core.Path.{ap₂, ◌∙◌}
use native.Mathlib.Omega.{arith}
use Rattle.pbm.proofs.Bits.{four_small, pack_is}
use Rattle.pbm.proofs.rows.pack.Goals as goal

pub overflow_mul-spread : goal.overflow_mul-spread
overflow_mul-spread c =
    omega (arith, c.four.ensures, four_small c.args.flags.now c.args.at c.requires.1)

pub overflow_add-spread : goal.overflow_add-spread
overflow_add-spread c =
    omega (arith, c.four.ensures, four_small c.args.flags.now c.args.at c.requires.1, c.four-2.ensures, four_small c.args.flags.now (c.args.at + 4) c.requires.1)

pub overflow_mul-result : goal.overflow_mul-result
overflow_mul-result c =
    omega (arith, c.four.ensures, four_small c.args.flags.now c.args.at c.requires.1, c.four-2.ensures, four_small c.args.flags.now (c.args.at + 4) c.requires.1)

pub returns : goal.returns
returns c =
    ap₂ (λ (a b : ℕ). (a * 16 + b) * 134480385 / 16777216 % 256) c.four.ensures c.four-2.ensures ∙ pack_is c.args.flags.now c.args.at c.requires.1
