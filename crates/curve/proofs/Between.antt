-- No point of a curve leaves the limits, whatever the number of its control points: each coordinate lies between the least and the greatest control value.
use Rattle.std.proofs.Common.{◌≡◌, ℕ, zero, suc, ◌^◌, ◌<◌, ◌≤◌, true, ◌&&◌, List, [], ◌∷◌, map, length, get_or, ℤ, pos, negsuc, ◌≤ℤ◌, ap, ◌∙◌, subst, arith, pow_pos}
use lib.ListN.{length-map}
use Rattle.laws.proofs.Ints.{one_zero, from_≤ℤ, to_≤ℤ}
use Rattle.laws.proofs.Tests.{halves}
use Rattle.sheet.specs.Sheet.{coordinate, within_limits}
use Rattle.sheet.specs.declared.Cell.{Cell}
use Rattle.sheet.proofs.Limits.{limit_low, limit_high, limit_in, limits_x, limits_y}
use Rattle.curve.specs.Rule.{blend, rounded, degree, coordinate_at, point_at}
use Rattle.curve.specs.Draw.{all_within_limits}
use Rattle.curve.proofs.Blend.{blend_one, blend_grows}
use Rattle.curve.proofs.Round.{rounded_whole, rounded_grows}
use Rattle.curve.proofs.Points.{pow_above, map_at}

-- no value of a list is below low or above high: the closest such numbers are its least and its greatest value
abbrev pub Between : ℤ → ℤ → List ℤ → Type 0
Between low high ps = (j : ℕ) → j < length ps → (low ≤ℤ get_or ps j (pos 0)) × (get_or ps j (pos 0) ≤ℤ high)

-- so each coordinate of each point lies between the least and the greatest control value
module _ (ps : List ℤ) (n i : ℕ) (l : 0 < length ps) (above : 0 < n) (m : i ≤ n) where
  -- the coordinate that all control values equal to z would have is z
  equal : (z : ℤ) → rounded (blend (degree ps) n i (λ (j : ℕ). z)) (n ^ degree ps) ≡ z
  equal z = ap (λ (w : ℤ). rounded w (n ^ degree ps)) (blend_one (degree ps) n i z m) ∙ rounded_whole z (n ^ degree ps) (pow_above n (degree ps) above)

  pub coordinate_between : (low high : ℤ) → Between low high ps → (low ≤ℤ coordinate_at ps n i) × (coordinate_at ps n i ≤ℤ high)
  unfolding coordinate_at
  coordinate_between low high h = (
    subst (λ (z : ℤ). z ≤ℤ coordinate_at ps n i) (equal low) (grows (λ (j : ℕ). low) values (λ j k. (h j (omega arith)).0)),
    subst (λ (z : ℤ). coordinate_at ps n i ≤ℤ z) (equal high) (grows values (λ (j : ℕ). high) (λ j k. (h j (omega arith)).1)),
  )
    where
      values : ℕ → ℤ
      values j = get_or ps j (pos 0)

      grows : (P R : ℕ → ℤ) → ((j : ℕ) → j ≤ degree ps → P j ≤ℤ R j)
          → rounded (blend (degree ps) n i P) (n ^ degree ps) ≤ℤ rounded (blend (degree ps) n i R) (n ^ degree ps)
      grows P R f = rounded_grows _ _ (n ^ degree ps) (pow_above n (degree ps) above) (blend_grows (degree ps) n i P R f)

  -- within the limits, where all control values are
  coordinate_in : ((j : ℕ) → j < length ps → coordinate (get_or ps j (pos 0)) ≡ true) → coordinate (coordinate_at ps n i) ≡ true
  coordinate_in h =
      let z = coordinate_at ps n i in
      let b = coordinate_between (negsuc 16383) (pos 16383) (λ j k. limits (get_or ps j (pos 0)) (h j k)) in
      limit_in z (omega (arith, one_zero z, from_≤ℤ (negsuc 16383) z b.0)) (omega (arith, one_zero z, from_≤ℤ z (pos 16383) b.1))
    where
      limits : (z : ℤ) → coordinate z ≡ true → (negsuc 16383 ≤ℤ z) × (z ≤ℤ pos 16383)
      limits z e =
          (to_≤ℤ (negsuc 16383) z (omega (arith, limit_low z e, one_zero z)), to_≤ℤ z (pos 16383) (omega (arith, limit_high z e, one_zero z)))

-- each control point, where all are within the limits
pub each_in : (ps : List Cell) (d : Cell) → all_within_limits ps ≡ true → (j : ℕ) → j < length ps → within_limits (get_or ps j d) ≡ true
unfolding all_within_limits
each_in [] d e j h = absurd (omega arith)
each_in (c ∷ ps) d e zero h = (halves (within_limits c) (all_within_limits ps) e).0
each_in (c ∷ ps) d e (suc j) h = each_in ps d (halves (within_limits c) (all_within_limits ps) e).1 j (omega arith)

-- a curve with its control points within the limits has all its points within them
pub point_in_limits : (ps : List Cell) (n i : ℕ) → 0 < length ps → 0 < n → i ≤ n → all_within_limits ps ≡ true → within_limits (point_at ps n i) ≡ true
unfolding within_limits point_at
point_in_limits ps n i l above m e = λ t. by (λ c. c.x) limits_x t && by (λ c. c.y) limits_y t
  where
    each : (of : Cell → ℤ) → ((c : Cell) → within_limits c ≡ true → coordinate (of c) ≡ true) → (j : ℕ) → j < length ps → coordinate (get_or (map of ps) j (pos 0)) ≡ true
    each of f j h = let c = point_at ps n i in ap coordinate (map_at of ps c j h) ∙ f (get_or ps j c) (each_in ps c e j h)

    by : (of : Cell → ℤ) → ((c : Cell) → within_limits c ≡ true → coordinate (of c) ≡ true) → coordinate (coordinate_at (map of ps) n i) ≡ true
    by of f = coordinate_in (map of ps) n i (omega (arith, length-map ps of)) above m (λ j h. each of f j (omega (arith, length-map ps of)))

pub point_inside : (ps : List Cell) (s i : ℕ) → 0 < length ps → i ≤ 2 ^ s → all_within_limits ps ≡ true → within_limits (point_at ps (2 ^ s) i) ≡ true
point_inside ps s i l m e = point_in_limits ps (2 ^ s) i l (pow_pos s) m e
