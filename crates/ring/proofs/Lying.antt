-- How a ring lies on a sheet: the columns that may be its, and the rows.
use Prim.Native.Nat.{ℕ, ◌+◌, ◌-◌, ◌≤◌, ◌<◌, min, max}
use mathlib.Core.Path.{◌≡◌, refl, sym}
use mathlib.Core.Logic.{inl, inr}
use mathlib.Core.Bool.{Bool, true, false, ◌&&◌, true≢false}
use native.Mathlib.Omega.{arith}
use borrow.Author.Tests.{leb-true}
use lib.Dec.{leb}
use Rattle.laws.proofs.Products.{lt_or_ge}
use Rattle.laws.proofs.Tests.{halves}
use Rattle.sheet.specs.declared.Shape.{Shape}
use Rattle.sheet.specs.declared.Spot.{Spot}
use Rattle.ring.specs.Inner.{Centred, Axis, off, Placing}

-- the least and the greatest distance of the sheet's columns
module _ (m width i : ℕ) (h : i < width) where
  near_is : max (65536 - m) (m - (65535 + width)) ≤ off m i
  near_is =
      let p : 65536 - m ≤ off m i = omega arith in
      let q : m - (65535 + width) ≤ off m i = omega arith in
      omega arith

  far_is : off m i ≤ max (m - 65536) (65535 + width - m)
  far_is =
      elim (lt_or_ge m (i + 65536)) [
        | inl l ↦ let e : off m i ≤ 65535 + width - m = omega arith in omega arith
        | inr l ↦ let e : off m i ≤ m - 65536 = omega arith in omega arith
      ]

-- each distance from the least to the greatest is that of a column
each_is : (m width c : ℕ) → max (65536 - m) (m - (65535 + width)) ≤ c → c ≤ max (m - 65536) (65535 + width - m)
    → (i : ℕ) × (i < width) × (off m i ≡ c)
each_is m width c p q =
    let s : 65536 ≤ m + c = omega arith in
    let t : m ≤ c + 65535 + width = omega arith in
    elim (lt_or_ge (65535 + width) (m + c)) [
      | inl l ↦ let u : c + 65536 ≤ m = omega arith in left_is m width c t u
      | inr l ↦ right_is m width c s l
    ]
  where
    left_is : (m width c : ℕ) → m ≤ c + 65535 + width → c + 65536 ≤ m → (i : ℕ) × (i < width) × (off m i ≡ c)
    left_is m width c t u = (m - c - 65536, omega arith, omega arith)

    right_is : (m width c : ℕ) → 65536 ≤ m + c → m + c ≤ 65535 + width → (i : ℕ) × (i < width) × (off m i ≡ c)
    right_is m width c s l = (m + c - 65536, omega arith, omega arith)

below_min : (c r m n : ℕ) → c ≤ r → r ≡ min m n → c ≤ n
below_min c r m n p e = omega arith

module _ (k : Shape) (p : Spot) (a b : ℕ) (C : Centred p) (n : 1 ≤ k.width) (pa : Axis a) (pb : Axis b) where
  farthest : ℕ
  farthest = max (p.x - 65536) (65535 + k.width - p.x)

  lying : (l r : ℕ) (w : Bool) → ((i : ℕ) → i < k.width → l ≤ off p.x i) → r ≡ min a farthest
      → ((c : ℕ) → l ≤ c → c ≤ r → (i : ℕ) × (i < k.width) × (off p.x i ≡ c))
      → (w ≡ true → (65536 + a ≤ p.x) × (p.x + a < 65536 + k.width))
      → Placing k p a b (record { x = p.x; y = p.y; a = a; b = b; least = l; past = r + 1; whole = w })
  unfolding farthest
  lying l r w near e each whole =
      record {
        at_x = refl;
        at_y = refl;
        of_a = refl;
        of_b = refl;
        lies = λ o. record {
          axis_a = pa;
          axis_b = pb;
          column = C.column;
          row = C.row;
          near = near;
          far = λ i h. elim (lt_or_ge a (off p.x i)) [
            | inl m ↦ inr m
            | inr m ↦ inl (omega (arith, far_is p.x k.width i h))
          ];
          each = λ c u v. each c u (omega arith);
          some = omega (arith, near 0 n, far_is p.x k.width 0 n);
          most = omega arith;
          whole = whole;
        };
        misses = λ o i h. omega (arith, near i h);
      }

  -- where all its columns are on the sheet, they are those from the middle to the axis
  pub placing_whole : (leb (65536 + a) p.x && leb (p.x + a) (65535 + k.width)) ≡ true
      → Placing k p a b (record { x = p.x; y = p.y; a = a; b = b; least = 0; past = a + 1; whole = true })
  unfolding farthest
  placing_whole e =
      let q = halves (leb (65536 + a) p.x) (leb (p.x + a) (65535 + k.width)) e in
      let l = leb-true (65536 + a) p.x q.0 in
      let m = leb-true (p.x + a) (65535 + k.width) q.1 in
      lying 0 a true (λ i h. omega arith) (omega arith)
      (λ c _ v. (p.x + c - 65536, omega arith, omega arith)) (λ t. (l, omega arith))

  pub placing : (l r : ℕ) → l ≡ max (65536 - p.x) (p.x - (65535 + k.width)) → r ≡ min a (max (p.x - 65536) (65535 + k.width - p.x))
      → Placing k p a b (record { x = p.x; y = p.y; a = a; b = b; least = l; past = r + 1; whole = false })
  unfolding farthest
  placing l r e f =
      lying l r false (λ i h. rw e (near_is p.x k.width i h)) f
      (λ c u v. each_is p.x k.width c (rw e at u) (below_min c r a farthest v f)) (λ t. absurd (true≢false (sym t)))
