-- Cells that touch: neither extent is more than 1, and not both are 0.
use Prim.Native.Nat.{◌+◌, ◌≤◌}
use native.Mathlib.Omega.{arith}
use Rattle.sheet.specs.Chain.{wide, tall, Touch}
use Rattle.sheet.specs.declared.Cell.{Cell}

pub touch_within : (c d : Cell) → Touch c d → (wide c d ≤ 1) × (tall c d ≤ 1)
touch_within c d e = omega arith

pub touching : (c d : Cell) → wide c d ≤ 1 → tall c d ≤ 1 → 1 ≤ wide c d + tall c d → Touch c d
touching c d p q r = omega arith
