-- Chains: how many cells they have at least, and where their cells stand.
use Rattle.std.proofs.Common.{◌≡◌, ℕ, zero, suc, ◌+◌, ◌-◌, ◌<◌, ◌≤◌, Bool, true, false, cond, List, ◌∷◌, length, get_or, pos, arith}
use Rattle.laws.proofs.Apart.{apart_same, apart_via}
use Rattle.sheet.specs.Chain.{wide, tall, Chain}
use Rattle.sheet.specs.Chain.Chain.{end, step}
use Rattle.sheet.specs.declared.Cell.{Cell}
use Rattle.sheet.proofs.Chains.{touch_within}
use Rattle.line.specs.Rule.{long, steep}
use Rattle.line.specs.Distance.{along_by, along}
use Rattle.line.proofs.Axis.{steps_between}

-- as many cells as either extent asks
chain_extents : {a b : Cell} {cells : List Cell} → Chain a b cells → (wide a b < length cells) × (tall a b < length cells)
chain_extents (end {a}) = omega (arith, apart_same a.x, apart_same a.y)
chain_extents (step {a} {c} {b} t h) =
    omega (arith, chain_extents h, touch_within a c t, apart_via a.x c.x b.x, apart_via a.y c.y b.y)

pub chain_least : {a b : Cell} {cells : List Cell} → Chain a b cells → long a b + 1 ≤ length cells
chain_least {a} {b} {cells} h = by (steep a b)
  where
    by : (t : Bool) → cond t (tall a b) (wide a b) + 1 ≤ length cells
    by true = omega (arith, chain_extents h)
    by false = omega (arith, chain_extents h)

-- c is no further than n from the first cell, and no further from the last than the cells that are left of m
record Between (a b c : Cell) (n m : ℕ) : Type 0 where
  from_x : wide a c ≤ n
  from_y : tall a c ≤ n
  to_x : wide c b + n < m
  to_y : tall c b + n < m

chain_between : {a b : Cell} {cells : List Cell} → Chain a b cells → (n : ℕ) (d : Cell) → n < length cells
    → Between a b (get_or cells n d) n (length cells)
chain_between (end {a}) zero d l =
    let u = apart_same a.x in
    let v = apart_same a.y in
    record { from_x = omega arith; from_y = omega arith; to_x = omega arith; to_y = omega arith }
chain_between (end {a}) (suc n) d l = absurd (omega arith)
chain_between (step {a} {c} {b} {cells} t h) zero d l =
    let u = apart_same a.x in
    let v = apart_same a.y in
    let k = chain_extents {a = a} {b = b} {cells = a ∷ cells} (step t h) in
    record { from_x = omega arith; from_y = omega arith; to_x = omega arith; to_y = omega arith }
chain_between (step {a} {c} {b} {cells} t h) (suc n) d l =
    let k = chain_between h n d (omega arith) in
    let p = get_or cells n d in
    let near = touch_within a c t in
    record {
      from_x = omega (arith, k.from_x, apart_via a.x c.x p.x);
      from_y = omega (arith, k.from_y, apart_via a.y c.y p.y);
      to_x = omega (arith, k.to_x);
      to_y = omega (arith, k.to_y);
    }

-- in a chain of L + 1 cells the nth stands n steps along, by the axis of the longer extent
between_along : (t : Bool) (a b c : Cell) (n m : ℕ) → m ≡ cond t (tall a b) (wide a b) + 1 → n < m → Between a b c n m → along_by t a b c ≡ pos n
between_along true a b c n m e l k = steps_between a.y b.y c.y n (tall a b - n) k.from_y (omega (arith, k.to_y)) (omega arith)
between_along false a b c n m e l k = steps_between a.x b.x c.x n (wide a b - n) k.from_x (omega (arith, k.to_x)) (omega arith)

pub chain_along : {a b : Cell} {cells : List Cell} → Chain a b cells → length cells ≡ long a b + 1
    → (n : ℕ) (d : Cell) → n < length cells → along a b (get_or cells n d) ≡ pos n
chain_along {a} {b} {cells} h e n d l = between_along (steep a b) a b (get_or cells n d) n (length cells) e l (chain_between h n d l)
