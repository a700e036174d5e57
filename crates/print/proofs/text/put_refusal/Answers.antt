-- `print::text::put_refusal` meets its contract.
use Prim.Native.Nat.{◌≤◌}
use mathlib.Core.List.{[], ◌∷◌}
use native.Mathlib.Omega.{arith}
use Rattle.laws.specs.Text.{decimal}
use Rattle.print.specs.Text.{newline, refusal}
use Rattle.laws.proofs.Written.{write_first, write_next}
use Rattle.print.proofs.text.put_refusal.Goals as goal

pub returns : goal.returns
unfolding refusal
returns c =
    let a = c.args in
    let named = write_first a.out.now (114 ∷ 101 ∷ 102 ∷ 117 ∷ 115 ∷ 101 ∷ 100 ∷ 32 ∷ []) _ c.put-named.result c.put-named.ensures.out_after c.put-named.ensures.value in
    let numbered = write_next _ _ _ _ named (decimal a.number) _ c.put_decimal-numbered.result c.put_decimal-numbered.ensures.out_after c.put_decimal-numbered.ensures.value in
    let placed = write_next _ _ _ _ numbered (32 ∷ 97 ∷ 116 ∷ 32 ∷ []) _ c.put-placed.result c.put-placed.ensures.out_after c.put-placed.ensures.value in
    let ended = write_next _ _ _ _ placed (decimal a.offset) _ c.put_decimal-ended.result c.put_decimal-ended.ensures.out_after c.put_decimal-ended.ensures.value in
    let closed = write_next _ _ _ _ ended newline _ c.put.result c.put.ensures.out_after c.put.ensures.value in
    let short : c.put.result ≤ 53 =
    omega (arith, c.put-named.ensures.value, c.put_decimal-numbered.ensures.upper_bound, c.put-placed.ensures.value, c.put_decimal-ended.ensures.upper_bound, c.put.ensures.value) in
    record { value = closed.long; upper_bound = short; out_after = closed.bytes }
