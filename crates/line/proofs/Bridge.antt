-- From the moved plane to the rule: the course of two lifted ends runs over the line's cells.
use Rattle.std.proofs.Common.{◌≡◌, ℕ, ◌+◌, ◌≤◌, Bool, true, false, cond, ◌&&◌, ◌||◌, T, eqb, ltb, leb, ℤ, pos, ◌+ℤ◌, ◌-ℤ◌, nat_abs, sym, refl, ap, ◌∙◌, subst, arith, le→leb, eqb→eq, ltb→lt, lt→ltb, leb→le, ltb-false, ltb-true, eqb-true, le-leb}
use lib.Signed.{lt_z, le_z}
use Rattle.laws.specs.Equal.{eq_z}
use Rattle.laws.proofs.Ints.{parts, one_zero, le_parts, lt_parts, to_le_z, to_lt_z, to_≡ℤ, from_≡ℤ, eq_z→≡, eq_z_refl}
use Rattle.laws.proofs.Tests.{same, from_true, halves, eqb_of}
use Rattle.sheet.specs.Chain.{wide, tall}
use Rattle.sheet.specs.Sheet.{within_limits}
use Rattle.sheet.specs.Inner.{unmoved, moved_cell, unmoved_cell, Moved}
use Rattle.sheet.specs.declared.Cell.{Cell}
use Rattle.sheet.specs.declared.Spot.{Spot}
use Rattle.sheet.proofs.Limits.{LiftedCell, lifted_cell, stands_parts}
use Rattle.line.specs.Rule.{lesser, longer, shorter, long, rise, toward, from_lesser, nth}
use Rattle.line.specs.Inner.Course.{gap, stepped, spot_at, lesser_spot, path_from, path_between, Runs}
use Rattle.line.proofs.Rise.{rise_le}

-- m stands for z
abbrev Stands : ℕ → ℤ → Type 0
Stands m z = unmoved m ≡ z

-- orders of moved numbers are orders of what they stand for
module _ (m n : ℕ) (z w : ℤ) (e : Stands m z) (f : Stands n w) where
  same_lt : ltb m n ≡ lt_z z w
  same_lt =
      let p = stands_parts m z e in
      let q = stands_parts n w f in
      same (ltb m n) (lt_z z w) (λ t. to_lt_z z w (omega (arith, ltb→lt m n t))) (λ t. lt→ltb m n (omega (arith, lt_parts z w t)))

  same_le : leb m n ≡ le_z z w
  same_le =
      let p = stands_parts m z e in
      let q = stands_parts n w f in
      same (leb m n) (le_z z w) (λ t. to_le_z z w (omega (arith, leb→le m n t))) (λ t. le→leb m n (omega (arith, le_parts z w t)))

  same_eq : eqb m n ≡ eq_z z w
  same_eq =
      let p = stands_parts m z e in
      let q = stands_parts n w f in
      same (eqb m n) (eq_z z w)
      (λ t. let g : m ≡ n = eqb→eq m n t in subst (λ (v : ℤ). T (eq_z z v)) (sym e ∙ ap unmoved g ∙ f) (eq_z_refl z))
      (λ t. eqb_of m n (omega (arith, from_≡ℤ z w (eq_z→≡ z w t))))

  -- and so are distances
  same_gap : gap m n ≡ nat_abs (w -ℤ z)
  same_gap =
      let p = stands_parts m z e in
      let q = stands_parts n w f in
      simp parts (omega (arith, one_zero z, one_zero w))

  -- steps
  same_step : (k : ℕ) → k ≤ m → unmoved (stepped (leb m n) m k) ≡ toward z w k
  same_step k l = rw same_le (by (le_z z w))
    where
      by : (t : Bool) → unmoved (stepped t m k) ≡ cond t (z +ℤ pos k) (z -ℤ pos k)
      by true = let p = stands_parts m z e in to_≡ℤ _ _ (simp parts (omega arith))
      by false = let p = stands_parts m z e in to_≡ℤ _ _ (simp parts (omega arith))

-- distances go both ways
gap_comm : (m n : ℕ) → gap m n ≡ gap n m
gap_comm m n = omega arith

gap_limit : (m n : ℕ) → Moved m → Moved n → gap m n ≤ 32767
gap_limit m n p q = omega arith

pub shorter_le : (w t : ℕ) → shorter w t ≤ longer w t
shorter_le w t = by (ltb w t) refl
  where
    by : (u : Bool) → ltb w t ≡ u → cond u w t ≤ cond u t w
    by true e = omega (arith, ltb-true w t e)
    by false e = omega (arith, ltb-false w t e)

cond_le : (t : Bool) (m n k : ℕ) → m ≤ k → n ≤ k → cond t m n ≤ k
cond_le true m n k p q = p
cond_le false m n k p q = q

pub longer_le : (w t k : ℕ) → w ≤ k → t ≤ k → longer w t ≤ k
longer_le w t k p q = cond_le (ltb w t) t w k q p

-- a lesser spot has no greater y
pub lesser_y : (p q : Spot) → lesser_spot p q ≡ true → p.y ≤ q.y
lesser_y p q e = by (ltb p.y q.y) (eqb p.y q.y) refl refl e
  where
    by : (t u : Bool) → ltb p.y q.y ≡ t → eqb p.y q.y ≡ u → (t || (u && leb p.x q.x)) ≡ true → p.y ≤ q.y
    by true u f g h = omega (arith, ltb-true p.y q.y f)
    by false true f g h = omega (arith, eqb-true p.y q.y g)
    by false false f g h = absurd (from_true false h)

pub not_lesser_y : (p q : Spot) → lesser_spot p q ≡ false → q.y ≤ p.y
not_lesser_y p q e = by (ltb p.y q.y) refl e
  where
    by : (t : Bool) → ltb p.y q.y ≡ t → (t || (eqb p.y q.y && leb p.x q.x)) ≡ false → q.y ≤ p.y
    by true f h = absurd (from_true false (sym h))
    by false f h = ltb-false p.y q.y f

module _ (a b : Cell) (p q : Spot) (P : LiftedCell a p) (Q : LiftedCell b q) where
  ax : Stands p.x a.x
  ax = ap (λ (c : Cell). c.x) P.stands

  ay : Stands p.y a.y
  ay = ap (λ (c : Cell). c.y) P.stands

  bx : Stands q.x b.x
  bx = ap (λ (c : Cell). c.x) Q.stands

  by : Stands q.y b.y
  by = ap (λ (c : Cell). c.y) Q.stands

  wide_is : gap p.x q.x ≡ wide a b
  wide_is = same_gap p.x q.x a.x b.x ax bx

  tall_is : gap p.y q.y ≡ tall a b
  tall_is = same_gap p.y q.y a.y b.y ay by

  pub lesser_is : lesser_spot p q ≡ lesser a b
  unfolding lesser
  lesser_is = λ i. same_lt p.y q.y a.y b.y ay by i || (same_eq p.y q.y a.y b.y ay by i && same_le p.x q.x a.x b.x ax bx i)

  from_runs : Runs (path_from p q)
  from_runs =
      record {
        start_x = P.inside_x;
        start_y = P.inside_y;
        shorter = shorter_le (gap p.x q.x) (gap p.y q.y);
        limit = longer_le (gap p.x q.x) (gap p.y q.y) 32767 (gap_limit p.x q.x P.inside_x Q.inside_x) (gap_limit p.y q.y P.inside_y Q.inside_y);
      }

  -- the steps of the course are those of the rule
  step_x : (n : ℕ) → n ≤ 32767 → (k : ℕ) → k ≤ n → unmoved (stepped (leb p.x q.x) p.x k) ≡ toward a.x b.x k
  step_x n l k m = same_step p.x q.x a.x b.x ax bx k (omega (arith, P.inside_x.least))

  step_y : p.y ≤ q.y → (n : ℕ) → n ≤ 32767 → (k : ℕ) → k ≤ n → unmoved (p.y + k) ≡ toward a.y b.y k
  step_y h n l k m =
      let e : stepped (leb p.y q.y) p.y k ≡ p.y + k = rw (le-leb p.y q.y h) in
      ap unmoved (sym e) ∙ same_step p.y q.y a.y b.y ay by k (omega (arith, P.inside_y.least))

  from_cell : p.y ≤ q.y → (n : ℕ) → n ≤ 32767 → unmoved_cell (spot_at (path_from p q) n) ≡ from_lesser a b n
  unfolding spot_at from_lesser
  from_cell h n l =
      let w = gap p.x q.x in
      let t = gap p.y q.y in
      let r : rise (longer w t) (shorter w t) n ≤ n = rise_le (longer w t) (shorter w t) n (shorter_le w t) in
      let u = step_x n l (cond (ltb w t) (rise (longer w t) (shorter w t) n) n) (cond_le (ltb w t) (rise (longer w t) (shorter w t) n) n n r (omega arith)) in
      let v = step_y h n l (cond (ltb w t) n (rise (longer w t) (shorter w t) n)) (cond_le (ltb w t) n (rise (longer w t) (shorter w t) n) n (omega arith) r) in
      let f : (w t : ℕ) → ℕ = λ w t. cond (ltb w t) (rise (longer w t) (shorter w t) n) n in
      let g : (w t : ℕ) → ℕ = λ w t. cond (ltb w t) n (rise (longer w t) (shorter w t) n) in
      λ i. record { x = (u ∙ ap (toward a.x b.x) (λ j. f (wide_is j) (tall_is j))) i; y = (v ∙ ap (toward a.y b.y) (λ j. g (wide_is j) (tall_is j))) i }

  from_long : (path_from p q).long ≡ long a b
  from_long = λ i. longer (wide_is i) (tall_is i)

-- two ends within the limits, lifted
module _ (a b : Cell) (e : (within_limits a && within_limits b) ≡ true) where
  pub first_in : within_limits a ≡ true
  first_in = (halves (within_limits a) (within_limits b) e).0

  pub second_in : within_limits b ≡ true
  second_in = (halves (within_limits a) (within_limits b) e).1

  pub ends_lifted : (p q : Spot) → p ≡ moved_cell a → q ≡ moved_cell b → LiftedCell a p × LiftedCell b q
  ends_lifted p q f g = (lifted_cell a p first_in f, lifted_cell b q second_in g)

-- the course of two lifted ends, whichever is the lesser
module _ (a b : Cell) (p q : Spot) (P : LiftedCell a p) (Q : LiftedCell b q) where
  pub course_runs : Runs (path_between p q)
  unfolding path_between
  course_runs = either (lesser_spot p q)
    where
      either : (t : Bool) → Runs (cond t (path_from p q) (path_from q p))
      either true = from_runs a b p q P Q
      either false = from_runs b a q p Q P

  pub course_cell_lem : (n : ℕ) → n ≤ 32767 → unmoved_cell (spot_at (path_between p q) n) ≡ nth a b n
  unfolding path_between nth
  course_cell_lem n l = rw (← lesser_is a b p q P Q) (either (lesser_spot p q) refl)
    where
      either : (t : Bool) → lesser_spot p q ≡ t → unmoved_cell (spot_at (cond t (path_from p q) (path_from q p)) n) ≡ cond t (from_lesser a b n) (from_lesser b a n)
      either true e = from_cell a b p q P Q (lesser_y p q e) n l
      either false e = from_cell b a q p Q P (not_lesser_y p q e) n l

  pub course_long : (path_between p q).long ≡ long a b
  unfolding path_between
  course_long = either (lesser_spot p q) ∙ from_long a b p q P Q
    where
      either : (t : Bool) → (cond t (path_from p q) (path_from q p)).long ≡ (path_from p q).long
      either true = refl
      either false = λ i. longer (gap_comm q.x p.x i) (gap_comm q.y p.y i)

  pub long_limit : long a b ≤ 32767
  long_limit = omega (arith, course_long, course_runs.limit)
