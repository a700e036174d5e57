-- The cells of an ellipse in a quadrant go down like stairs.
use Prim.Native.Nat.{ℕ, zero, suc, ◌*◌, ◌≤◌, ◌<◌}
use mathlib.Core.Path.{◌≡◌, refl, sym, ◌∙◌}
use mathlib.Core.Logic.{◌⊎◌, inl, inr}
use mathlib.Core.Bool.{true≢false}
use native.Mathlib.Omega.{arith}
use lib.Dec.{eqb, eqb-suc-zero}
use Rattle.laws.proofs.Products.{lt_or_ge}
use Rattle.ring.specs.Ring.{ellipse_rule}
use Rattle.ring.proofs.Least.{edge, edge_up, least_falls}
use Rattle.ring.proofs.Reach.{reach, reach_falls, reach_sum}
use Rattle.ring.proofs.Nearest.{nearest→, column_has_one}
use Rattle.ring.proofs.Columns.{InColumns, nearest_in, in_column, in_row, ellipse_within, ellipse_zero}
use Rattle.ring.proofs.Stairs.{Stairs}

-- no cell nearest in its column is nearer the centre, both across and down, than one nearest in its row
mixed : (a b x y z v : ℕ) → InColumns a b x y → InColumns b a v z → x < z → y < v → ⊥
unfolding edge
mixed a b x y z zero c r p q = omega arith
mixed a b x y z (suc k) c r p q =
    omega (arith, r.least.low x p, c.least.high, edge_up (a * a) y k (omega arith), reach_sum a b x c.within, reach_sum b a (suc k) r.within)

-- of two cells, each nearest in its column or in its row, the one further across is no further down
both_fall : (a b x y z v : ℕ) → InColumns a b x y ⊎ InColumns b a y x → InColumns a b z v ⊎ InColumns b a v z → x < z → v ≤ y
both_fall a b x y z v c d p = elim (lt_or_ge y v) [ inl q ↦ absurd (not_down c d q) | inr q ↦ q ]
  where
    not_down : InColumns a b x y ⊎ InColumns b a y x → InColumns a b z v ⊎ InColumns b a v z → y < v → ⊥
    not_down (inl c) (inl d) q = omega (arith, least_falls (a * a) (reach a b z) (reach a b x) v y (reach_falls a b x z (omega arith)) d.least c.least)
    not_down (inl c) (inr d) q = mixed a b x y z v c d p q
    not_down (inr c) (inl d) q = mixed b a y x v z c d q p
    not_down (inr c) (inr d) q = omega (arith, least_falls (b * b) (reach b a v) (reach b a y) z x (reach_falls b a y v (omega arith)) d.least c.least)

pub stairs_from_one : (a b : ℕ) → 1 ≤ a → 1 ≤ b → Stairs a b (ellipse_rule a b)
stairs_from_one a b h k =
    record {
      within = ellipse_within a b;
      column = λ x l. let o = column_has_one a b x h l in (o.one, in_column a b h k x o.one (record { within = l; least = nearest→ a b x l o.one o.is }));
      row = λ y l. let o = column_has_one b a y k l in (o.one, in_row a b h k o.one y (record { within = l; least = nearest→ b a y l o.one o.is }));
      falls = λ x y z v t u l. both_fall a b x y z v (nearest_in a b h k x y t) (nearest_in a b h k z v u) l;
    }

of_zero : Stairs 0 0 (ellipse_rule 0 0)
of_zero =
    record {
      within = ellipse_within 0 0;
      column = λ x l. (0, ellipse_zero x 0 (omega arith) refl);
      row = λ y l. (0, ellipse_zero 0 y refl (omega arith));
      falls = λ x y z v t u l. absurd (omega (arith, ellipse_within 0 0 z v u));
    }

-- both axes are 0, or neither is
pub ellipse_stairs : (a b : ℕ) → eqb a 0 ≡ eqb b 0 → Stairs a b (ellipse_rule a b)
ellipse_stairs zero zero e = of_zero
ellipse_stairs zero (suc b) e = absurd (true≢false (e ∙ eqb-suc-zero b))
ellipse_stairs (suc a) zero e = absurd (true≢false (sym e ∙ eqb-suc-zero a))
ellipse_stairs (suc a) (suc b) e = stairs_from_one (suc a) (suc b) (omega arith) (omega arith)
