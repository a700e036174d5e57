-- `pbm::header::put_number` meets its contract.
use Prim.Native.Nat.{◌+◌, ℕ}
use mathlib.Core.Path.{◌∙◌, sym, ap}
use native.Mathlib.Omega.{arith}
use Rattle.laws.specs.Text.{decimal}
use Rattle.pbm.proofs.Bits.{part_put}
use Rattle.pbm.proofs.Decimals.{part_digits}
use Rattle.pbm.proofs.header.put_number.Goals as goal

pub returns : goal.returns
returns c =
    let a = c.args in
    let text = part_digits a.n c.digits-count.result _ _ _ _ c.requires.0 c.digits-count.ensures.value c.ones.ensures c.ones-2.ensures c.ones-3.ensures c.ones-4.ensures in
    (ap (λ (n : ℕ). a.at + n) c.digits-count.ensures.value, part_put a.out.now (decimal a.n) _ a.at c.digits-count.result (sym c.digits-count.ensures.value) (omega (arith, c.digits-count.ensures.value, c.requires.1)) (c.copy_from_slice.ensures.after ∙ text))
