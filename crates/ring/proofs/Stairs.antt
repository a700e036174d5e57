-- Cells of a quadrant that go down like stairs: every column and every row has one, and of two the one further across is no
-- further down. Each row is then one interval, and so is each column, and a row's begins where the next one's ends.
use Prim.Native.Nat.{ℕ, suc, ◌≤◌, ◌<◌}
use mathlib.Core.Path.{◌≡◌, subst}
use mathlib.Core.Logic.{inl, inr}
use mathlib.Core.Bool.{Bool}
use native.Mathlib.Omega.{arith}
use lib.Dec.{T}
use Rattle.laws.proofs.Products.{lt_or_ge}
use Rattle.ring.specs.Holes.{Interval}
use Rattle.ring.proofs.Intervals.{filled_interval, interval→, →interval}

pub record Stairs (a b : ℕ) (test : ℕ → ℕ → Bool) : Type 0 where
  pub within : (x y : ℕ) → T (test x y) → (x ≤ a) × (y ≤ b)
  pub column : (x : ℕ) → x ≤ a → (y : ℕ) × T (test x y)
  pub row : (y : ℕ) → y ≤ b → (x : ℕ) × T (test x y)
  pub falls : (x y z v : ℕ) → T (test x y) → T (test z v) → x < z → v ≤ y

-- with the coordinates exchanged they are stairs too
pub exchanged : {a b : ℕ} {test : ℕ → ℕ → Bool} → Stairs a b test → Stairs b a (λ (y x : ℕ). test x y)
exchanged s =
    record {
      within = λ y x t. let w = s.within x y t in (w.1, w.0);
      column = s.row;
      row = s.column;
      falls = λ y x v z t u l. elim (lt_or_ge x z) [ inl m ↦ absurd (omega (arith, s.falls x y z v t u m)) | inr m ↦ m ];
    }

module _ {a b : ℕ} {test : ℕ → ℕ → Bool} (s : Stairs a b test) where
  -- no cell of a row is left out between two of it: its column has a cell, which is neither above nor below
  row_filled : (y x w z : ℕ) → T (test x y) → T (test z y) → x ≤ w → w ≤ z → T (test w y)
  row_filled y x w z t u l m =
      elim (lt_or_ge x w) [
        | inl p ↦
            elim (lt_or_ge w z) [
              | inl q ↦
                  let o = s.column w (omega (arith, s.within z y u)) in
                  let e : o.0 ≡ y = omega (arith, s.falls x y w o.0 t o.1 p, s.falls w o.0 z y o.1 u q) in
                  subst (λ (v : ℕ). T (test w v)) e o.1
              | inr q ↦ let e : z ≡ w = omega arith in subst (λ (v : ℕ). T (test v y)) e u
            ]
        | inr p ↦ let e : x ≡ w = omega arith in subst (λ (v : ℕ). T (test v y)) e t
      ]

  -- so a row is one interval
  pub row_is : (y : ℕ) → y ≤ b → Interval (λ (x : ℕ). test x y)
  row_is y l =
      let o = s.row y l in
      filled_interval (λ (x : ℕ). test x y) (row_filled y) o.0 a o.1 (λ k t. omega (arith, s.within k y t))

  -- the ends
  pub first : T (test a 0)
  first =
      let r = s.row 0 (omega arith) in
      let c = s.column a (omega arith) in
      elim (lt_or_ge r.0 a) [
        | inl l ↦
            let e : c.0 ≡ 0 = omega (arith, s.falls r.0 0 a c.0 r.1 c.1 l) in
            subst (λ (v : ℕ). T (test a v)) e c.1
        | inr l ↦
            let e : r.0 ≡ a = omega (arith, s.within r.0 0 r.1) in
            subst (λ (v : ℕ). T (test v 0)) e r.1
      ]

  -- the next row's interval ends where this one's begins, or a column before
  pub next_row : (y : ℕ) (i : Interval (λ (x : ℕ). test x y)) (j : Interval (λ (x : ℕ). test x (suc y)))
      → (j.most ≤ i.least) × (i.least ≤ suc j.most)
  next_row y i j =
      let t : T (test i.least y) = →interval i i.least (omega arith) i.some in
      let u : T (test j.most (suc y)) = →interval j j.most j.some (omega arith) in
      let p : j.most ≤ i.least = elim (lt_or_ge i.least j.most) [
        | inl l ↦ absurd (omega (arith, s.falls i.least y j.most (suc y) t u l))
        | inr l ↦ l
      ] in
      (p, elim (lt_or_ge (suc j.most) i.least) [ inl l ↦ absurd (gap t u l) | inr l ↦ l ])
    where
      -- a column between the two would have no cell
      gap : T (test i.least y) → T (test j.most (suc y)) → suc j.most < i.least → ⊥
      gap t u l =
          let o = s.column (suc j.most) (omega (arith, s.within i.least y t)) in
          let v = o.0 in
          let p : v ≤ suc y = s.falls j.most (suc y) (suc j.most) v u o.1 (omega arith) in
          let q : y ≤ v = s.falls (suc j.most) v i.least y o.1 t l in
          elim (lt_or_ge y v) [
            | inl m ↦
                let e : v ≡ suc y = omega arith in
                omega (arith, interval→ j (suc j.most) (subst (λ (n : ℕ). T (test (suc j.most) n)) e o.1))
            | inr m ↦
                let e : v ≡ y = omega arith in
                omega (arith, interval→ i (suc j.most) (subst (λ (n : ℕ). T (test (suc j.most) n)) e o.1))
          ]

pub last : {a b : ℕ} {test : ℕ → ℕ → Bool} → Stairs a b test → T (test 0 b)
last s = first (exchanged s)
