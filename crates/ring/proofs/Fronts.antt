-- The fronts above and below a row bound its cells.
use Prim.Native.Nat.{ℕ, zero, suc, ◌+◌, ◌-◌, ◌*◌, ◌≤◌, ◌<◌}
use mathlib.Core.Path.{◌≡◌, refl, sym, ◌∙◌}
use mathlib.Core.Logic.{◌⊎◌, inl, inr}
use mathlib.Core.Bool.{Bool, true, false, cond}
use native.Mathlib.Omega.{arith}
use lib.Dec.{T}
use Rattle.laws.proofs.Products.{lt_or_ge}
use Rattle.ring.specs.Ring.{ellipse_rule}
use Rattle.ring.specs.Inner.{outside, Front, end_of_row}
use Rattle.ring.proofs.Columns.{ellipse_within}
use Rattle.ring.proofs.Outside.{in_or_out, outside_up, outside_down, outside_turned, all_beside, level_inside, level_outside, Column, rule→, column_rule, row_rule}

module _ {a b v l r x : ℕ} (F : Front a b v l r x) where
  -- a column is before the front exactly where it is not outside
  front_past : (n : ℕ) → l ≤ n → outside a b (2 * n) v ≡ true → x ≤ n
  front_past n p e = elim (lt_or_ge n x) [ inl h ↦ absurd (in_or_out e (F.before n p h)) | inr h ↦ h ]

  pub front_on : (n : ℕ) → x ≤ n → n < r → outside a b (2 * n) v ≡ true
  front_on n p q = outside_up a b (2 * x) v (2 * n) v (omega arith) (omega arith) (F.at (omega arith))

  front_before : (n : ℕ) → n < r → outside a b (2 * n) v ≡ false → n < x
  front_before n p e = elim (lt_or_ge n x) [ inl h ↦ h | inr h ↦ absurd (in_or_out (front_on n h p) e) ]

-- a search begun, gone on beyond a column that is inside, come to one that is outside, and ended
pub front_none : (a b v l : ℕ) → Front a b v l l l
front_none a b v l = record { low = omega arith; high = omega arith; before = λ n p q. absurd (omega arith); at = λ p. absurd (omega arith) }

pub front_beyond : (a b v l m : ℕ) → l ≤ m + 1 → outside a b (2 * m) v ≡ false → Front a b v l (m + 1) (m + 1)
front_beyond a b v l m o e =
    record {
      low = o;
      high = omega arith;
      before = λ n p q. outside_down a b (2 * n) v (2 * m) v (omega arith) (omega arith) e;
      at = λ p. absurd (omega arith);
    }

pub front_here : (a b v m r : ℕ) → m ≤ r → outside a b (2 * m) v ≡ true → Front a b v m r m
front_here a b v m r o e = record { low = omega arith; high = o; before = λ n p q. absurd (omega arith); at = λ p. e }

pub front_join : {a b v l r x : ℕ} → Front a b v l x x → Front a b v x r x → Front a b v l r x
front_join F G = record { low = F.low; high = G.high; before = F.before; at = G.at }

pub front_last : {a b v l r x : ℕ} → x ≡ r → Front a b v l x x → Front a b v l r x
front_last e F = record { low = F.low; high = omega arith; before = F.before; at = λ p. absurd (omega arith) }

-- there is always one
front_on_from : (a b v m r : ℕ) (t : Bool) → outside a b (2 * m) v ≡ t → m < r
    → ((x : ℕ) × Front a b v (m + 1) r x) → (x : ℕ) × Front a b v m r x
front_on_from a b v m r true f o F = (m, front_here a b v m r (omega arith) f)
front_on_from a b v m r false f o F = (
  F.0,
  record {
    low = omega (arith, F.1.low);
    high = F.1.high;
    before = λ i p q. elim (lt_or_ge m i) [ inl h ↦ F.1.before i (omega arith) q | inr h ↦ let z : i ≡ m = omega arith in rw z f ];
    at = F.1.at;
  },
)

pub front_some : (a b v l r : ℕ) → l ≤ r → (x : ℕ) × Front a b v l r x
front_some a b v l r o = by (r - l) l (omega arith)
  where
    by : (n m : ℕ) → m + n ≡ r → (x : ℕ) × Front a b v m r x
    by zero m e = (m, front_last (omega arith) (front_none a b v m))
    by (suc n) m e = front_on_from a b v m r (outside a b (2 * m) v) refl (omega arith) (by n (m + 1) (omega arith))

-- at the middle's own height it is past all columns
pub front_level : (a b l r : ℕ) → l ≤ r → r ≤ a + 1 → Front a b 0 l r r
front_level a b l r o m =
    record { low = o; high = omega arith; before = λ n p q. level_inside a b (2 * n) (omega arith); at = λ p. absurd (omega arith) }

-- lower down it is further out, and higher up further in: it is sought from the one before
pub front_risen : {a b v w l r x z : ℕ} → w ≤ v → Front a b v l r x → Front a b w x r z → Front a b w l r z
front_risen {a} {b} {v} {w} {l} {r} {x} {z} h F G =
    record {
      low = omega (arith, F.low, G.low);
      high = G.high;
      before = λ n p q. elim (lt_or_ge n x) [
        | inl m ↦ outside_down a b (2 * n) w (2 * n) v (omega arith) h (F.before n p m)
        | inr m ↦ G.before n m q
      ];
      at = G.at;
    }

pub front_fallen : {a b v w l r x z : ℕ} → v ≤ w → Front a b v l r x → Front a b w l x z → Front a b w l r z
front_fallen {a} {b} {v} {w} {l} {r} {x} {z} h F G =
    record {
      low = G.low;
      high = omega (arith, F.high, G.high);
      before = G.before;
      at = λ p. elim (lt_or_ge z x) [
        | inl m ↦ G.at m
        | inr m ↦
            let e : z ≡ x = omega (arith, G.high) in
            outside_up a b (2 * z) v (2 * z) w (omega arith) h (rw e (F.at (omega arith)))
      ];
    }

-- the end of a row at a front: the column before it, or the front itself
module _ (a b y x : ℕ) where
  pub end_at : ((end_of_row a b y x ≡ x - 1) × (outside a b (2 * (x - 1) + 1) (2 * y) ≡ true))
      ⊎ ((end_of_row a b y x ≡ x) × (outside a b (2 * (x - 1) + 1) (2 * y) ≡ false))
  unfolding end_of_row
  end_at = by (outside a b (2 * (x - 1) + 1) (2 * y)) refl
    where
      by : (t : Bool) → outside a b (2 * (x - 1) + 1) (2 * y) ≡ t
          → ((x - cond t 1 0 ≡ x - 1) × (t ≡ true)) ⊎ ((x - cond t 1 0 ≡ x) × (t ≡ false))
      by true e = inl (refl, refl)
      by false e = inr (omega arith, refl)

  pub end_is : (r : ℕ) (t : Bool) → t ≡ outside a b (2 * (x - 1) + 1) (2 * y) → r ≡ cond t (x - 1) x → r ≡ end_of_row a b y x
  unfolding end_of_row
  end_is r true e f = rw (sym e) f
  end_is r false e f = rw (sym e) (omega arith)

  pub end_most : end_of_row a b y x ≤ x
  end_most = elim end_at [ inl e ↦ omega (arith, e.0) | inr e ↦ omega (arith, e.0) ]

  pub end_least : x - 1 ≤ end_of_row a b y x
  end_least = elim end_at [ inl e ↦ omega (arith, e.0) | inr e ↦ omega (arith, e.0) ]

-- what a row's cells are between: the first and the last, of the columns from l to before r
pub record Bounds (a b y l r low high : ℕ) : Type 0 where
  pub order : low ≤ high
  pub within : high ≤ a
  pub to : (c : ℕ) → l ≤ c → c < r → T (ellipse_rule a b c y) → (low ≤ c) × (c ≤ high)
  pub from : (c : ℕ) → l ≤ c → c < r → low ≤ c → c ≤ high → T (ellipse_rule a b c y)

-- a front is no further out than the ellipse
pub front_most : {a b v l r x : ℕ} → 1 ≤ a → 1 ≤ v → l ≤ a → Front a b v l r x → x ≤ a
front_most {a} {b} {v} {l} {r} {x} p q m F =
    elim (lt_or_ge a x) [
      | inl h ↦ absurd (in_or_out (all_beside a b (2 * a) v p q (omega arith)) (F.before a m h))
      | inr h ↦ h
    ]

-- a row above or below the middle, between the fronts on its outer and on its inner side
module _ (a b j l r x z : ℕ) (p : 1 ≤ a) (q : 1 ≤ b) (k : suc j ≤ b) (m : l ≤ a) (n : r ≤ a + 1)
    (F : Front a b (2 * suc j + 1) l r x) (G : Front a b (2 * j + 1) l r z) where
  outer_first : x ≤ z
  outer_first =
      elim (lt_or_ge z x) [
        | inl h ↦
            let o = outside_up a b (2 * z) (2 * j + 1) (2 * z) (2 * suc j + 1) (omega arith) (omega arith) (G.at (omega (arith, F.high))) in
            absurd (in_or_out o (F.before z G.low h))
        | inr h ↦ h
      ]

  ordered : end_of_row a b (suc j) x ≤ end_of_row a b (suc j) z
  ordered =
      elim (lt_or_ge x z) [
        | inl h ↦ omega (arith, end_most a b (suc j) x, end_least a b (suc j) z)
        | inr h ↦ let e : x ≡ z = omega (arith, outer_first) in rw e (omega arith)
      ]

  -- a cell nearest in its row is not before the first, nor after the last
  row_first : (c : ℕ) → l ≤ c → outside a b (2 * c + 1) (2 * suc j) ≡ true → end_of_row a b (suc j) x ≤ c
  row_first c s o =
      elim (lt_or_ge c x) [
        | inl h ↦
            let g : x ≤ c + 1 = front_past F (c + 1) (omega arith) (outside_up a b (2 * c + 1) (2 * suc j) (2 * (c + 1)) (2 * suc j + 1) (omega arith) (omega arith) o) in
            let e : x - 1 ≡ c = omega arith in
            elim (end_at a b (suc j) x) [
              | inl f ↦ omega (arith, f.0)
              | inr f ↦ absurd (in_or_out o (rw e at f.1))
            ]
        | inr h ↦ omega (arith, end_most a b (suc j) x)
      ]

  row_last : (c : ℕ) → c < r → ((i : ℕ) → c ≡ suc i → outside a b (2 * i + 1) (2 * suc j) ≡ false) → c ≤ end_of_row a b (suc j) z
  row_last zero t f = omega arith
  row_last (suc i) t f =
      elim (lt_or_ge (suc i) z) [
        | inl h ↦ omega (arith, end_least a b (suc j) z)
        | inr h ↦
            let g : suc i ≤ z = elim (lt_or_ge i z) [
              | inl w ↦ w
              | inr w ↦
                  let o = outside_up a b (2 * z) (2 * j + 1) (2 * i + 1) (2 * suc j) (omega arith) (omega arith) (G.at (omega arith)) in
                  absurd (in_or_out o (f i refl))
            ] in
            let e : z - 1 ≡ i = omega arith in
            elim (end_at a b (suc j) z) [
              | inl w ↦ absurd (in_or_out (rw e at w.1) (f i refl))
              | inr w ↦ omega (arith, w.0)
            ]
      ]

  row_to : (c : ℕ) → l ≤ c → c < r → T (ellipse_rule a b c (suc j)) → (end_of_row a b (suc j) x ≤ c) × (c ≤ end_of_row a b (suc j) z)
  row_to c s t u =
      elim (rule→ a b p q c (suc j) u) [
        | inl C ↦ (
          omega (arith, end_most a b (suc j) x, front_past F c s C.above),
          omega (arith, end_least a b (suc j) z, front_before G c t (C.below j refl)),
        )
        | inr R ↦ (
          row_first c s (sym (outside_turned a b (2 * c + 1) (2 * suc j)) ∙ R.above),
          row_last c t (λ i e. sym (outside_turned a b (2 * i + 1) (2 * suc j)) ∙ R.below i e),
        )
      ]

  -- a cell that is nearest in its row, by its sides
  nearest_in_row : (c : ℕ) → outside a b (2 * c + 1) (2 * suc j) ≡ true → ((i : ℕ) → c ≡ suc i → outside a b (2 * i + 1) (2 * suc j) ≡ false)
      → T (ellipse_rule a b c (suc j))
  nearest_in_row c o f =
      row_rule a b p q c (suc j)
      (record {
        within = k;
        above = outside_turned a b (2 * c + 1) (2 * suc j) ∙ o;
        below = λ i e. outside_turned a b (2 * i + 1) (2 * suc j) ∙ f i e;
      })

  row_from : (c : ℕ) → l ≤ c → c < r → end_of_row a b (suc j) x ≤ c → c ≤ end_of_row a b (suc j) z → T (ellipse_rule a b c (suc j))
  row_from c s t u v =
      elim (lt_or_ge c x) [
        | inl h ↦ elim (end_at a b (suc j) x) [
          | inl f ↦
              let e : x - 1 ≡ c = omega (arith, f.0) in
              nearest_in_row c (rw e at f.1)
              (λ i d. outside_down a b (2 * i + 1) (2 * suc j) (2 * c) (2 * suc j + 1) (omega arith) (omega arith) (F.before c s h))
          | inr f ↦ absurd (omega (arith, f.0))
        ]
        | inr h ↦ elim (lt_or_ge c z) [
          | inl w ↦
              column_rule a b p q c (suc j)
              (record {
                within = omega arith;
                above = front_on F c h t;
                below = λ i d. let e : i ≡ j = omega arith in rw e (G.before c s w);
              })
          | inr w ↦ nearest_in_row c
              (outside_up a b (2 * c) (2 * j + 1) (2 * c + 1) (2 * suc j) (omega arith) (omega arith) (front_on G c w t))
              (λ i d. elim (end_at a b (suc j) z) [
                | inl f ↦ absurd (omega (arith, f.0))
                | inr f ↦ let e : z - 1 ≡ i = omega (arith, f.0) in rw e at f.1
              ])
        ]
      ]

  pub row_bounds : Bounds a b (suc j) l r (end_of_row a b (suc j) x) (end_of_row a b (suc j) z)
  row_bounds =
      record {
        order = ordered;
        within = omega (arith, end_most a b (suc j) z, front_most p (omega arith) m G);
        to = row_to;
        from = row_from;
      }

-- the middle row, from the front beside it
middle_bounds : (a b l r x : ℕ) → 1 ≤ a → 1 ≤ b → l ≤ a → Front a b 1 l r x → Bounds a b 0 l r x a
middle_bounds a b l r x p q m F =
    record {
      order = front_most p (omega arith) m F;
      within = omega arith;
      to = λ c s t u. (front_past F c s (out c (rule→ a b p q c 0 u)), (ellipse_within a b c 0 u).0);
      from = λ c s t u v. column_rule a b p q c 0 (record { within = v; above = front_on F c u t; below = λ j e. absurd (omega arith) });
    }
  where
    out : (c : ℕ) → Column a b c 0 ⊎ Column b a 0 c → outside a b (2 * c) 1 ≡ true
    out c (inl C) = C.above
    out c (inr R) =
        elim (lt_or_ge c a) [
          | inl h ↦ absurd (in_or_out (sym (outside_turned a b (2 * c + 1) 0) ∙ R.above) (level_inside a b (2 * c + 1) (omega arith)))
          | inr h ↦ all_beside a b (2 * c) 1 p (omega arith) (omega arith)
        ]

-- that row as any other
module _ (a b l r x z : ℕ) (p : 1 ≤ a) (q : 1 ≤ b) (m : l ≤ a) (n : r ≤ a + 1) (F : Front a b 1 l r x) (G : Front a b 0 l r z) where
  level_front : z ≡ r
  level_front =
      elim (lt_or_ge z r) [
        | inl h ↦ absurd (in_or_out (G.at h) (level_inside a b (2 * z) (omega arith)))
        | inr h ↦ omega (arith, G.high)
      ]

  level_first : end_of_row a b 0 x ≡ x
  level_first =
      elim (end_at a b 0 x) [
        | inl e ↦ absurd (in_or_out e.1 (level_inside a b (2 * (x - 1) + 1) (omega (arith, front_most p (omega arith) m F))))
        | inr e ↦ e.0
      ]

  level_last : (end_of_row a b 0 z ≤ a) × (r ≤ end_of_row a b 0 z + 1) × (x ≤ end_of_row a b 0 z)
  level_last =
      let s = front_most p (omega arith) m F in
      elim (lt_or_ge a z) [
        | inl h ↦ elim (end_at a b 0 z) [
          | inl e ↦ (omega (arith, e.0, level_front), omega (arith, e.0, level_front), omega (arith, e.0))
          | inr e ↦ absurd (in_or_out (level_outside a b (2 * (z - 1) + 1) q (omega arith)) e.1)
        ]
        | inr h ↦ elim (end_at a b 0 z) [
          | inl e ↦ absurd (in_or_out e.1 (level_inside a b (2 * (z - 1) + 1) (omega arith)))
          | inr e ↦ (omega (arith, e.0), omega (arith, e.0, level_front), omega (arith, e.0, level_front, F.high))
        ]
      ]

  pub middle_row : Bounds a b 0 l r (end_of_row a b 0 x) (end_of_row a b 0 z)
  middle_row =
      let B = middle_bounds a b l r x p q m F in
      record {
        order = omega (arith, level_first, level_last.2);
        within = level_last.0;
        to = λ c s t u. (omega (arith, level_first, (B.to c s t u).0), omega (arith, level_last.1));
        from = λ c s t u v. B.from c s t (omega (arith, level_first)) (omega (arith, level_last.0));
      }
