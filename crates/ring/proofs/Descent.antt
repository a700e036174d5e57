-- Stairs from the first cell to the last: each cell but the last has a next one that touches it, and none is left out.
use Prim.Native.Nat.{ℕ, zero, suc, ◌+◌, ◌-◌, ◌≤◌, ◌<◌}
use mathlib.Core.Path.{◌≡◌, subst}
use mathlib.Core.Logic.{◌⊎◌, inl, inr}
use mathlib.Core.Bool.{Bool, ◌&&◌}
use native.Mathlib.Omega.{arith}
use lib.Dec.{T, leb, leb→le, le→leb}
use Rattle.laws.proofs.Products.{lt_or_ge}
use Rattle.laws.proofs.Tests.{and_l, and_r, and_i, holds_or_not}
use Rattle.ring.specs.Holes.{Interval}
use Rattle.ring.proofs.Intervals.{interval→, →interval}
use Rattle.ring.proofs.Stairs.{Stairs, row_is, next_row, last}

module _ {a b : ℕ} {test : ℕ → ℕ → Bool} (s : Stairs a b test) where
  -- the cells from (x, y) on: no further across, and no less far down
  pub onward : ℕ → ℕ → ℕ → ℕ → Bool
  onward x y p q = leb p x && (leb y q && test p q)

  pub record Onward (x y p q : ℕ) : Type 0 where
    pub across : p ≤ x
    pub down : y ≤ q
    pub on : T (test p q)

  pub onward→ : (x y p q : ℕ) → T (onward x y p q) → Onward x y p q
  unfolding onward
  onward→ x y p q t =
      let u = and_r (leb p x) (leb y q && test p q) t in
      record {
        across = leb→le p x (and_l (leb p x) (leb y q && test p q) t);
        down = leb→le y q (and_l (leb y q) (test p q) u);
        on = and_r (leb y q) (test p q) u;
      }

  pub →onward : (x y p q : ℕ) → Onward x y p q → T (onward x y p q)
  unfolding onward
  →onward x y p q o = and_i (leb p x) (leb y q && test p q) (le→leb p x o.across) (and_i (leb y q) (test p q) (le→leb y q o.down) o.on)

  -- the next cell after (x, y): it touches it, and all others from (x, y) on are from it on
  pub record Next (x y : ℕ) : Type 0 where
    pub z : ℕ
    pub v : ℕ
    pub on : T (test z v)
    pub across : z ≤ x
    pub by_one : x ≤ suc z
    pub down : y ≤ v
    pub down_one : v ≤ suc y
    pub moved : z + y < x + v
    pub rest : (p q : ℕ) → Onward x y p q → ((p ≡ x) × (q ≡ y)) ⊎ ((p ≤ z) × (v ≤ q))

  -- in the row, where it goes on
  next_across : (k y : ℕ) → T (test k y) → Next (suc k) y
  next_across k y t =
      record {
        z = k;
        v = y;
        on = t;
        across = omega arith;
        by_one = omega arith;
        down = omega arith;
        down_one = omega arith;
        moved = omega arith;
        rest = λ p q o.
            elim (lt_or_ge p (suc k)) [
              | inl l ↦ inr (omega arith, o.down)
              | inr l ↦
                  let e : p ≡ suc k = omega (arith, o.across) in
                  inl (e, omega (arith, o.down, s.falls k y p q t o.on (omega arith)))
            ];
      }

  -- no cell of a row, nor of one further down, is beyond the row's most
  not_beyond : (y : ℕ) (j : Interval (λ (x : ℕ). test x y)) (p q : ℕ) → T (test p q) → y ≤ q → p ≤ j.most
  not_beyond y j p q t l =
      elim (lt_or_ge y q) [
        | inl m ↦
            elim (lt_or_ge j.most p) [
              | inl n ↦ absurd (omega (arith, s.falls j.most y p q (→interval j j.most j.some (omega arith)) t n))
              | inr n ↦ n
            ]
        | inr m ↦ let e : q ≡ y = omega arith in (interval→ j p (subst (λ (k : ℕ). T (test p k)) e t)).1
      ]

  -- or at the most of the next row, where (x, y) is the least of its row
  next_down : (x y : ℕ) → suc y ≤ b → ((p : ℕ) → T (test p y) → x ≤ p) → T (test x y) → Next x y
  next_down x y l least t =
      let i = row_is s y (omega arith) in
      let j = row_is s (suc y) l in
      let m = next_row s y i j in
      let e : x ≡ i.least = omega (arith, interval→ i x t, least i.least (→interval i i.least (omega arith) i.some)) in
      record {
        z = j.most;
        v = suc y;
        on = →interval j j.most j.some (omega arith);
        across = omega (arith, m);
        by_one = omega (arith, m);
        down = omega arith;
        down_one = omega arith;
        moved = omega (arith, m);
        rest = λ p q o.
            elim (lt_or_ge y q) [
              | inl n ↦ inr (not_beyond (suc y) j p q o.on n, n)
              | inr n ↦
                  let f : q ≡ y = omega (arith, o.down) in
                  inl (omega (arith, o.across, least p (subst (λ (k : ℕ). T (test p k)) f o.on)), f)
            ];
      }

  -- every cell but the last has one
  pub next : (x y : ℕ) → T (test x y) → 0 < x + (b - y) → Next x y
  next zero y t l = next_down 0 y (omega arith) (λ p u. omega arith) t
  next (suc k) y t l =
      elim (holds_or_not (test k y)) [
        | inl u ↦ next_across k y u
        | inr f ↦ next_down (suc k) y (not_last k y t f) (least k y t f) t
      ]
    where
      least : (k y : ℕ) → T (test (suc k) y) → (T (test k y) → ⊥) → (p : ℕ) → T (test p y) → suc k ≤ p
      least k y t f p u =
          elim (lt_or_ge p (suc k)) [
            | inl l ↦
                let i = row_is s y (s.within (suc k) y t).1 in
                absurd (f (→interval i k (omega (arith, interval→ i p u)) (omega (arith, interval→ i (suc k) t))))
            | inr l ↦ l
          ]

      not_last : (k y : ℕ) → T (test (suc k) y) → (T (test k y) → ⊥) → suc y ≤ b
      not_last k y t f =
          elim (lt_or_ge y b) [
            | inl l ↦ l
            | inr l ↦
                let e : b ≡ y = omega (arith, s.within (suc k) y t) in
                absurd (omega (arith, least k y t f 0 (subst (λ (v : ℕ). T (test 0 v)) e (last s))))
          ]
