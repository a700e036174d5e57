-- In which rows a ring has a cell among some columns: those in which the last of them is not nearer than the ring, nor the first further.
use Prim.Native.Nat.{ℕ, zero, suc, ◌+◌, ◌-◌, ◌*◌, ◌≤◌, ◌<◌, min, max}
use mathlib.Core.Path.{◌≡◌, refl, sym, ◌∙◌}
use mathlib.Core.Logic.{◌⊎◌, inl, inr}
use mathlib.Core.Bool.{true, false}
use native.Mathlib.Omega.{arith}
use lib.Dec.{T}
use Rattle.laws.proofs.Products.{lt_or_ge}
use Rattle.ring.specs.Ring.{ellipse_rule}
use Rattle.ring.specs.Inner.{outside, Front, end_of_row, Columned, Nearer, NotNearer, Further, NotFurther, NearRow, FarRow}
use Rattle.ring.specs.declared.Ring.{Ring}
use Rattle.ring.proofs.Outside.{in_or_out, outside_up, outside_down, outside_turned, level_inside, level_outside, Column, rule→}
use Rattle.ring.proofs.Fronts.{front_some, front_on, end_at, end_most, end_least}
use Rattle.ring.proofs.Rowed.{bounds_at}

-- a cell that is nearer than the ring is before all of its row, and one that is further is after all
module _ (a b : ℕ) (p : 1 ≤ a) (q : 1 ≤ b) (c o y : ℕ) (t : T (ellipse_rule a b c y)) where
  pub nearer_none : Nearer a b o y → c ≤ o → ⊥
  nearer_none N l = by (rule→ a b p q c y t)
    where
      by : Column a b c y ⊎ Column b a y c → ⊥
      by (inl C) = in_or_out (outside_up a b (2 * c) (2 * y + 1) (2 * o) (2 * y + 1) (omega arith) (omega arith) C.above) N.1
      by (inr R) =
          let u = sym (outside_turned a b (2 * c + 1) (2 * y)) ∙ R.above in
          in_or_out (outside_up a b (2 * c + 1) (2 * y) (2 * o + 1) (2 * y) (omega arith) (omega arith) u) N.0

  pub further_none : Further a b o y → o ≤ c → ⊥
  further_none N l = by (rule→ a b p q c y t)
    where
      of_column : (n : ℕ) → y ≡ n → Column a b c y → ⊥
      of_column zero e C =
          let v : 2 * y - 1 ≡ 0 = omega arith in
          in_or_out (rw v at N.1) (level_inside a b (2 * o) (omega (arith, C.within)))
      of_column (suc j) e C =
          let v : 2 * y - 1 ≡ 2 * j + 1 = omega arith in
          in_or_out (outside_up a b (2 * o) (2 * j + 1) (2 * c) (2 * j + 1) (omega arith) (omega arith) (rw v at N.1)) (C.below j e)

      of_row : (n : ℕ) → c ≡ n → Column b a y c → ⊥
      of_row zero e R =
          let u : 2 * o - 1 ≡ 0 = omega arith in
          in_or_out (outside_turned a b 0 (2 * y) ∙ (rw u at N.0)) (level_inside b a (2 * y) (omega (arith, R.within)))
      of_row (suc i) e R =
          let u = outside_up a b (2 * o - 1) (2 * y) (2 * i + 1) (2 * y) (omega arith) (omega arith) N.0 in
          in_or_out (outside_turned a b (2 * i + 1) (2 * y) ∙ u) (R.below i e)

      by : Column a b c y ⊎ Column b a y c → ⊥
      by (inl C) = of_column y refl C
      by (inr R) = of_row c refl R

-- any other row has a cell among the columns
module _ (a b l r y : ℕ) (p : 1 ≤ a) (q : 1 ≤ b) (o : l < r) (m : r ≤ a + 1) (k : y ≤ b)
    (U : NotNearer a b (r - 1) y) (W : NotFurther a b l y) where
  abbrev F : (x : ℕ) × Front a b (2 * y + 1) l r x
  F = front_some a b (2 * y + 1) l r (omega arith)

  abbrev G : (x : ℕ) × Front a b (2 * y - 1) l r x
  G = front_some a b (2 * y - 1) l r (omega arith)

  low_before : end_of_row a b y F.0 < r
  low_before =
      elim (lt_or_ge (end_of_row a b y F.0) r) [
        | inl h ↦ h
        | inr h ↦
            let e : F.0 ≡ r = omega (arith, end_most a b y F.0, F.1.high) in
            elim (end_at a b y F.0) [
              | inl s ↦ absurd (omega (arith, s.0))
              | inr s ↦ elim U [
                | inl u ↦ absurd (in_or_out u (rw e at s.1))
                | inr u ↦ absurd (in_or_out u (F.1.before (r - 1) (omega arith) (omega arith)))
              ]
            ]
      ]

  high_after : l ≤ end_of_row a b y G.0
  high_after =
      elim (lt_or_ge (end_of_row a b y G.0) l) [
        | inl h ↦
            let e : G.0 ≡ l = omega (arith, end_least a b y G.0, G.1.low) in
            elim (end_at a b y G.0) [
              | inl s ↦
                  let d : 2 * (G.0 - 1) + 1 ≡ 2 * l - 1 = omega (arith, s.0) in
                  elim W [
                    | inl v ↦ absurd (in_or_out (rw d at s.1) v)
                    | inr v ↦ absurd (in_or_out (rw e at (G.1.at (omega arith))) v)
                  ]
              | inr s ↦ absurd (omega (arith, s.0))
            ]
        | inr h ↦ h
      ]

  pub row_seen : (c : ℕ) × (l ≤ c) × (c < r) × T (ellipse_rule a b c y)
  row_seen =
      let B = bounds_at a b y l r F.0 G.0 p q k (omega arith) m F.1 G.1 in
      elim (lt_or_ge (end_of_row a b y F.0) l) [
        | inl h ↦ (l, omega arith, o, B.from l (omega arith) o (omega arith) high_after)
        | inr h ↦ (end_of_row a b y F.0, h, low_before, B.from (end_of_row a b y F.0) h low_before (omega arith) B.order)
      ]

-- the rows are found by the front of the last column, and of the first, with the axes exchanged
module _ (g : Ring) (C : Columned g) (l r n : ℕ) (s : l ≤ r) (k : r ≤ g.b + 1) where
  abbrev a : ℕ
  a = g.a

  abbrev b : ℕ
  b = g.b

  abbrev o : ℕ
  o = g.past - 1

  pub near_all : a < g.past → n ≡ l → NearRow g l r n
  near_all h e =
      let d : o ≡ a = omega (arith, C.3) in
      record {
        low = omega arith;
        high = omega arith;
        before = λ y u v. absurd (omega arith);
        after = λ y u v. rw d (inl (outside_up a b (2 * a + 1) 0 (2 * a + 1) (2 * y) (omega arith) (omega arith)
            (level_outside a b (2 * a + 1) C.1.0 (omega arith))));
      }

  near_by : (x : ℕ) → Front b a (2 * o + 1) l r x → n ≡ max l (end_of_row b a o x) → NearRow g l r n
  near_by x F e =
      record {
        low = omega arith;
        high = omega (arith, F.high, end_most b a o x);
        before = λ y u v.
            let h : y < end_of_row b a o x = omega arith in
            let i : y < x = omega (arith, end_most b a o x) in
            (sym (outside_turned a b (2 * o + 1) (2 * y)) ∙ F.before y u i, sym (outside_turned a b (2 * o) (2 * y + 1)) ∙ upper y u h);
        after = λ y u v. elim (lt_or_ge y x) [
          | inl h ↦
              let i : x - 1 ≡ y = omega (arith, end_least b a o x) in
              elim (end_at b a o x) [
                | inl t ↦ inr (sym (outside_turned a b (2 * o) (2 * y + 1)) ∙ (rw i at t.1))
                | inr t ↦ absurd (omega (arith, t.0))
              ]
          | inr h ↦ inl (sym (outside_turned a b (2 * o + 1) (2 * y)) ∙ front_on F y h v)
        ];
      }
    where
      upper : (y : ℕ) → l ≤ y → y < end_of_row b a o x → outside b a (2 * y + 1) (2 * o) ≡ false
      upper y u h =
          elim (lt_or_ge (y + 1) x) [
            | inl i ↦
                outside_down b a (2 * y + 1) (2 * o) (2 * (y + 1)) (2 * o + 1) (omega arith) (omega arith) (F.before (y + 1) (omega arith) i)
            | inr i ↦
                let d : x - 1 ≡ y = omega (arith, end_most b a o x) in
                elim (end_at b a o x) [ inl t ↦ absurd (omega (arith, t.0)) | inr t ↦ rw d at t.1 ]
          ]

  pub near_found : (x : ℕ) → Front b a (2 * g.past - 1) l r x → n ≡ max l (end_of_row b a o x) → NearRow g l r n
  near_found x F e = let d : 2 * g.past - 1 ≡ 2 * o + 1 = omega (arith, C.2) in near_by x (rw d at F) e

  pub far_all : g.least ≡ 0 → n ≡ r → FarRow g l r n
  far_all h e =
      record {
        low = omega arith;
        high = omega arith;
        before = λ y u v. rw h (inl (sym (outside_turned a b 0 (2 * y)) ∙ level_inside b a (2 * y) (omega arith)));
        after = λ y u v. absurd (omega arith);
      }

  pub far_found : (x : ℕ) → 1 ≤ g.least → Front b a (2 * g.least - 1) l r x → n ≡ min r (end_of_row b a g.least x + 1) → FarRow g l r n
  far_found x i F e =
      record {
        low = omega (arith, F.low, end_least b a g.least x);
        high = omega arith;
        before = λ y u v. elim (lt_or_ge y x) [
          | inl h ↦ inl (sym (outside_turned a b (2 * g.least - 1) (2 * y)) ∙ F.before y u h)
          | inr h ↦ at_front y h (omega arith)
        ];
        after = λ y u v.
            let h : x ≤ y = omega (arith, end_least b a g.least x) in (
              sym (outside_turned a b (2 * g.least - 1) (2 * y)) ∙ front_on F y h v,
              sym (outside_turned a b (2 * g.least) (2 * y - 1)) ∙ lower y h v (omega arith),
            );
      }
    where
      at_front : (y : ℕ) → x ≤ y → y ≤ end_of_row b a g.least x → NotFurther a b g.least y
      at_front zero h w = inl (level_inside a b (2 * g.least - 1) (omega (arith, C.2, C.3)))
      at_front (suc j) h w =
          let d : x ≡ suc j = omega (arith, end_most b a g.least x) in
          let f : 2 * (x - 1) + 1 ≡ 2 * suc j - 1 = omega arith in
          elim (end_at b a g.least x) [
            | inl t ↦ absurd (omega (arith, t.0))
            | inr t ↦ inr (sym (outside_turned a b (2 * g.least) (2 * suc j - 1)) ∙ (rw f at t.1))
          ]

      lower : (y : ℕ) → x ≤ y → y < r → end_of_row b a g.least x < y → outside b a (2 * y - 1) (2 * g.least) ≡ true
      lower y h v w =
          elim (lt_or_ge x y) [
            | inl z ↦ outside_up b a (2 * x) (2 * g.least - 1) (2 * y - 1) (2 * g.least) (omega arith) (omega arith) (F.at (omega arith))
            | inr z ↦
                let d : x ≡ y = omega arith in
                elim (end_at b a g.least x) [
                  | inl t ↦ let f : 2 * (x - 1) + 1 ≡ 2 * y - 1 = omega (arith, t.0) in rw f at t.1
                  | inr t ↦ absurd (omega (arith, t.0))
                ]
          ]
