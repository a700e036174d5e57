-- An ellipse divides the sheet between the cells within it and those outside: its cells in a quadrant go down like stairs.
use Prim.Native.Nat.{ℕ, ◌+◌, ◌≤◌, ◌<◌}
use mathlib.Core.Path.{◌≡◌, refl, sym, subst, ap, ◌∙◌}
use mathlib.Core.Logic.{◌⊎◌, ◌↔◌, inl, inr}
use mathlib.Core.Bool.{Bool, true}
use native.Mathlib.Omega.{arith}
use lib.Dec.{T, eqb}
use lib.IntN.{ℤ, pos, ◌+ℤ◌}
use Rattle.laws.proofs.Apart.{apart, apart_plus, apart_via, apart_zero}
use Rattle.laws.proofs.Products.{lt_or_ge}
use Rattle.laws.proofs.Tests.{is_true, is_false, from_true}
use Rattle.sheet.specs.Chain.{wide, tall}
use Rattle.sheet.specs.Sheet.{cell}
use Rattle.sheet.specs.declared.Cell.{Cell}
use Rattle.sheet.specs.declared.Shape.{Shape}
use Rattle.ring.specs.Ring.{around, ellipse_rule, on_ellipse}
use Rattle.ring.proofs.Downward.{ellipse_stairs}
use Rattle.ring.proofs.Intervals.{interval→, →interval}
use Rattle.ring.proofs.Stairs.{Stairs, row_is, exchanged as turned}
use Rattle.fill.specs.Territory.{Side}
use Rattle.fill.specs.Crossing.{exchange, exchanged, Within, Outside}
use Rattle.fill.proofs.Sides.{Sides}

-- a number below all that pass a test, of which there are some; and one above all
record Under (test : ℕ → Bool) (n : ℕ) : Type 0 where
  some : (u : ℕ) × T (test u)
  all : (u : ℕ) → T (test u) → n < u

abbrev Over : (ℕ → Bool) → ℕ → Type 0
Over test n = (u : ℕ) → T (test u) → u < n

-- there is room for what passes between the two,
room : {test : ℕ → Bool} {n m : ℕ} → Under test n → Over test m → n + 2 ≤ m
room p q = let u = p.some in omega (arith, p.all u.0 u.1, q u.0 u.1)

-- so that no single step leads past it
no_step : (test : ℕ → Bool) (z w v : ℤ) → apart w v ≤ 1 → Under test (apart z w) → Over test (apart z v) → ⊥
no_step test z w v l p q = omega (arith, room p q, apart_via z w v)

module _ {a b : ℕ} {test : ℕ → ℕ → Bool} (s : Stairs a b test) where
  -- a place is nearer in its row than the stairs, on them, or further
  by_row : (x y : ℕ) → Under (λ (u : ℕ). test u y) x ⊎ Over (λ (u : ℕ). test u y) x ⊎ T (test x y)
  by_row x y =
      elim (lt_or_ge b y) [
        | inl g ↦ inr (inl (λ u t. absurd (omega (arith, s.within u y t))))
        | inr g ↦
            let i = row_is s y g in
            elim (lt_or_ge x i.least) [
              | inl l ↦ inl (record { some = s.row y g; all = λ u t. omega (arith, interval→ i u t) })
              | inr l ↦
                  elim (lt_or_ge i.most x) [
                    | inl h ↦ inr (inl (λ u t. omega (arith, interval→ i u t)))
                    | inr h ↦ inr (inr (→interval i x l h))
                  ]
            ]
      ]

  -- and so it is in its column
  under_turned : (x y : ℕ) → Under (λ (u : ℕ). test u y) x → Under (test x) y
  under_turned x y p =
      let u = p.some in
      let l = p.all u.0 u.1 in
      record {
        some = s.column x (omega (arith, s.within u.0 y u.1));
        all = λ v t.
            elim (lt_or_ge y v) [
              | inl h ↦ h
              | inr h ↦
                  let e : v ≡ y = omega (arith, s.falls x v u.0 y t u.1 l) in
                  absurd (omega (arith, p.all x (subst (λ (v : ℕ). T (test x v)) e t)))
            ];
      }

  over_turned : (x y : ℕ) → Over (λ (u : ℕ). test u y) x → Over (test x) y
  over_turned x y q v t =
      elim (lt_or_ge v y) [
        | inl h ↦ h
        | inr h ↦
            let r = s.row y (omega (arith, s.within x v t)) in
            let e : v ≡ y = omega (arith, s.falls r.0 y x v r.1 t (q r.0 r.1)) in
            absurd (omega (arith, q x (subst (λ (v : ℕ). T (test x v)) e t)))
      ]

-- the same of a figure that is told in the row of c by a test of how far from the column of the centre
module _ (figure : Cell → Bool) (m c : Cell) (test : ℕ → Bool) (reads : (x : ℤ) → figure (cell x c.y) ≡ test (apart m.x x)) where
  at : (u : ℕ) → T (test u) → (x : ℤ) × (apart m.x x ≡ u) × (figure (cell x c.y) ≡ true)
  at u t =
      let x = m.x +ℤ pos u in
      let e = apart_plus m.x (pos u) in
      (x, e, reads x ∙ ap test e ∙ is_true (test u) t)

  within_is : Within figure m c ↔ Under test (wide m c)
  within_is = (
    λ w. record {
      some = let u = w.some in (apart m.x u.0, from_true _ (sym (reads u.0) ∙ u.1));
      all = λ u t. let x = at u t in subst (λ (n : ℕ). wide m c < n) x.1 (w.all x.0 x.2);
    },
    λ p. record {
      some = let u = p.some in let x = at u.0 u.1 in (x.0, x.2);
      all = λ x e. p.all (apart m.x x) (from_true _ (sym (reads x) ∙ e));
    },
  )

  outside_is : Outside figure m c ↔ Over test (wide m c)
  outside_is = (
    λ w u t. let x = at u t in subst (λ (n : ℕ). n < wide m c) x.1 (w x.0 x.2),
    λ p x e. p (apart m.x x) (from_true _ (sym (reads x) ∙ e)),
  )

module _ (m : Cell) (a b : ℕ) (e : eqb a 0 ≡ eqb b 0) where
  stairs : Stairs a b (ellipse_rule a b)
  stairs = ellipse_stairs a b e

  -- the ellipse in the row of a cell, and in its column
  abbrev row : Cell → ℕ → Bool
  row c u = ellipse_rule a b u (tall m c)

  abbrev column : Cell → ℕ → Bool
  column c v = ellipse_rule a b (wide m c) v

  within_row : (c : Cell) → Within (on_ellipse m a b) m c ↔ Under (row c) (wide m c)
  unfolding around
  within_row c = within_is (on_ellipse m a b) m c (row c) (λ x. refl)

  outside_row : (c : Cell) → Outside (on_ellipse m a b) m c ↔ Over (row c) (wide m c)
  unfolding around
  outside_row c = outside_is (on_ellipse m a b) m c (row c) (λ x. refl)

  within_column : (c : Cell) → Within (exchanged (on_ellipse m a b)) (exchange m) (exchange c) ↔ Under (column c) (tall m c)
  unfolding around
  within_column c = within_is (exchanged (on_ellipse m a b)) (exchange m) (exchange c) (column c) (λ x. refl)

  outside_column : (c : Cell) → Outside (exchanged (on_ellipse m a b)) (exchange m) (exchange c) ↔ Over (column c) (tall m c)
  unfolding around
  outside_column c = outside_is (exchanged (on_ellipse m a b)) (exchange m) (exchange c) (column c) (λ x. refl)

  -- both give the same cells
  pub within_turned : (c : Cell) → Within (on_ellipse m a b) m c ↔ Within (exchanged (on_ellipse m a b)) (exchange m) (exchange c)
  within_turned c = (
    λ w. (within_column c).1 (under_turned stairs (wide m c) (tall m c) ((within_row c).0 w)),
    λ w. (within_row c).1 (under_turned (turned stairs) (tall m c) (wide m c) ((within_column c).0 w)),
  )

  pub outside_turned : (c : Cell) → Outside (on_ellipse m a b) m c ↔ Outside (exchanged (on_ellipse m a b)) (exchange m) (exchange c)
  outside_turned c = (
    λ w. (outside_column c).1 (over_turned stairs (wide m c) (tall m c) ((outside_row c).0 w)),
    λ w. (outside_row c).1 (over_turned (turned stairs) (tall m c) (wide m c) ((outside_column c).0 w)),
  )

  -- between a cell within and one outside, in one row, there is a cell of the ellipse; and so in one column
  not_beside : (c d : Cell) → Within (on_ellipse m a b) m c → Outside (on_ellipse m a b) m d → Side c d → ⊥
  not_beside c d p q n =
      elim (lt_or_ge 0 (tall c d)) [
        | inl l ↦
            let e : wide m d ≡ wide m c = ap (apart m.x) (sym (apart_zero c.x d.x (omega arith))) in
            let r = (outside_column d).0 ((outside_turned d).0 q) in
            no_step (column c) m.y c.y d.y (omega arith) ((within_column c).0 ((within_turned c).0 p))
            (subst (λ (w : ℕ). Over (ellipse_rule a b w) (tall m d)) e r)
        | inr l ↦
            let e : tall m d ≡ tall m c = ap (apart m.y) (sym (apart_zero c.y d.y (omega arith))) in
            no_step (row c) m.x c.x d.x (omega arith) ((within_row c).0 p)
            (subst (λ (t : ℕ). Over (λ (u : ℕ). ellipse_rule a b u t) (wide m d)) e ((outside_row d).0 q))
      ]

  ring_each : (c : Cell) → Within (on_ellipse m a b) m c ⊎ Outside (on_ellipse m a b) m c ⊎ (on_ellipse m a b c ≡ true)
  unfolding around
  ring_each c =
      elim (by_row stairs (wide m c) (tall m c)) [
        | inl p ↦ inl ((within_row c).1 p)
        | inr (inl q) ↦ inr (inl ((outside_row c).1 q))
        | inr (inr t) ↦ inr (inr (is_true (on_ellipse m a b c) t))
      ]

  pub ring_sides : (k : Shape) → Sides k (on_ellipse m a b) (Within (on_ellipse m a b) m) (Outside (on_ellipse m a b) m)
  ring_sides k =
      record {
        each = λ c o. ring_each c;
        not_both = λ c p q. omega (arith, room ((within_row c).0 p) ((outside_row c).0 q));
        not_one = λ c p. is_false (on_ellipse m a b c) (λ t. omega (arith, p.all c.x (is_true (on_ellipse m a b c) t)));
        not_other = λ c q. is_false (on_ellipse m a b c) (λ t. omega (arith, q c.x (is_true (on_ellipse m a b c) t)));
        not_beside = not_beside;
      }
