-- The limits, as the code meets them: a slice that fits, a coordinate on the moved plane.
use Prim.Native.Nat.{ℕ, ◌+◌, ◌-◌, ◌*◌, ◌≤◌, ◌<◌}
use mathlib.Core.Path.{◌≡◌, refl, subst, ap, ◌∙◌}
use mathlib.Core.List.{List}
use mathlib.Core.Bool.{true, false, ◌&&◌}
use native.Mathlib.Omega.{arith}
use native.Mathlib.Nat.{mul-le-mul}
use borrow.Author.Tests.{le-leb, eq-eqb}
use lib.ListN.{length}
use lib.Dec.{T, eqb, leb→le, eqb→eq}
use lib.IntN.{ℤ, pos, negsuc}
use lib.Signed.{le_z}
use Rattle.laws.proofs.Parts.{up, dn}
use Rattle.laws.proofs.Ints.{le_parts, one_zero, parts, to_≡ℤ, is_le_z, no_le_z}
use Rattle.laws.proofs.Tests.{and_l, and_r, from_true, halves}
use Rattle.sheet.specs.Sheet.{size, pitched, sized, bytes, sliced, coordinate, within_limits, cell_of}
use Rattle.sheet.specs.Inner.{moved, unmoved, moved_cell, unmoved_cell, lowered, lowered_cell, Moved, fits, Sheet, Disjoint}
use Rattle.sheet.specs.declared.Cell.{Cell}
use Rattle.sheet.specs.declared.Shape.{Shape}
use Rattle.sheet.specs.declared.Spot.{Spot}

-- the limits of the sizes that other limits follow from
sized_parts : (k : Shape) → sized k ≡ true → (k.width ≤ 4096) × (k.height ≤ 4096) × Disjoint k × (k.pitch ≤ 8192)
sized_parts k e =
    let t : T (size k.width && size k.height && pitched k.width k.pitch) = from_true (sized k) e in
    (search (leb→le, and_l, and_r), search (leb→le, and_l, and_r), search (leb→le, and_l, and_r), search (leb→le, and_l, and_r))

-- no sheet has more than 4,096 × 4,096 cells
pub sides_most : (k : Shape) → sized k ≡ true → k.width * k.height ≤ 16777216
sides_most k e = let p = sized_parts k e in mul-le-mul {n₁ = k.width} {m₁ = k.height} {n₂ = 4096} {m₂ = 4096} p.0 p.1

-- where a slice fits, rows are no longer than the pitch
pub fits_disjoint : (k : Shape) (n : ℕ) → fits k n ≡ true → Disjoint k
unfolding fits
fits_disjoint k n e = (sized_parts k (halves (sized k) (sliced k n) e).0).2

-- a slice that fits is a sheet
pub fits_sheet : (k : Shape) (s : List ℕ) → fits k (length s) ≡ true → Sheet k s
unfolding fits
fits_sheet k s e =
    let t : T ((size k.width && size k.height && pitched k.width k.pitch) && eqb (length s) (bytes k)) = from_true (fits k (length s)) e in
    record {
      area = search (eqb→eq, and_l, and_r);
      broad = search (leb→le, and_l, and_r);
      wide = search (leb→le, and_l, and_r);
      deep = search (leb→le, and_l, and_r);
      high = search (leb→le, and_l, and_r);
      disjoint = search (leb→le, and_l, and_r);
      far = search (leb→le, and_l, and_r);
    }

-- and a sheet fits
pub sheet_fits : (k : Shape) (s : List ℕ) → Sheet k s → fits k (length s) ≡ true
unfolding fits
sheet_fits k s z =
    simp (
      le-leb 1 k.width z.broad,
      le-leb k.width 4096 z.wide,
      le-leb 1 k.height z.deep,
      le-leb k.height 4096 z.high,
      le-leb k.width k.pitch z.disjoint,
      le-leb k.pitch 8192 z.far,
      eq-eqb (length s) (bytes k) z.area,
    )

-- as many bytes are a sheet too
pub still_sheet : (k : Shape) (s t : List ℕ) → length t ≡ length s → Sheet k s → Sheet k t
still_sheet k s t e z = fits_sheet k t (ap (fits k) e ∙ sheet_fits k s z)

-- and begins below 2^25
pub row_small : {k : Shape} {s : List ℕ} → Sheet k s → (y : ℕ) → y < k.height → y * k.pitch ≤ 33554432
row_small {k} S y l = mul-le-mul {n₁ = y} {m₁ = k.pitch} {n₂ = 4096} {m₂ = 8192} (omega (arith, S.high)) S.far

-- a coordinate within the limits, by its parts
pub limit_low : (z : ℤ) → coordinate z ≡ true → dn z ≤ 16384
unfolding coordinate
limit_low z e =
    let t : T (le_z (negsuc 16383) z && le_z z (pos 16383)) = from_true (coordinate z) e in
    omega (arith, one_zero z, le_parts (negsuc 16383) z (and_l (le_z (negsuc 16383) z) (le_z z (pos 16383)) t))

pub limit_high : (z : ℤ) → coordinate z ≡ true → up z ≤ 16383
unfolding coordinate
limit_high z e =
    let t : T (le_z (negsuc 16383) z && le_z z (pos 16383)) = from_true (coordinate z) e in
    omega (arith, one_zero z, le_parts z (pos 16383) (and_r (le_z (negsuc 16383) z) (le_z z (pos 16383)) t))

-- and from them
pub limit_in : (z : ℤ) → dn z ≤ 16384 → up z ≤ 16383 → coordinate z ≡ true
unfolding coordinate
limit_in z l h = simp (is_le_z (negsuc 16383) z (omega arith), is_le_z z (pos 16383) (omega arith))

pub limit_below : (z : ℤ) → 16384 < dn z → coordinate z ≡ false
unfolding coordinate
limit_below z l = simp (no_le_z (negsuc 16383) z (omega (arith, one_zero z)))

pub limit_above : (z : ℤ) → 16383 < up z → coordinate z ≡ false
unfolding coordinate
limit_above z l = simp (is_le_z (negsuc 16383) z (omega (arith, one_zero z)), no_le_z z (pos 16383) (omega (arith, one_zero z)))

-- what a moved number stands for, by its parts
pub stands_parts : (m : ℕ) (z : ℤ) → unmoved m ≡ z → up z + 65536 ≡ dn z + m
stands_parts m z e = subst (λ (w : ℤ). up w + 65536 ≡ dn w + m) e (simp parts (omega arith))

-- what a moved coordinate is
pub moved_is : (z : ℤ) → coordinate z ≡ true → moved z ≡ up z + 65536 - dn z
unfolding moved
moved_is z e = simp e (simp parts (omega (arith, limit_low z e)))

pub moved_out : (z : ℤ) → coordinate z ≡ false → moved z ≡ 0
unfolding moved
moved_out z e = simp e

-- a coordinate that was lifted: within the limits, and what it stands for
pub record Lifted (z : ℤ) (m : ℕ) : Type 0 where
  pub ok : coordinate z ≡ true
  pub inside : Moved m
  pub stands : unmoved m ≡ z

pub lift_in : (z : ℤ) (m : ℕ) → coordinate z ≡ true → m ≡ moved z → Lifted z m
lift_in z m p e =
    let l = limit_low z p in
    let h = limit_high z p in
    let q : m ≡ up z + 65536 - dn z = e ∙ moved_is z p in
    record {
      ok = p;
      inside = record { least = omega arith; most = omega (arith, one_zero z) };
      stands = to_≡ℤ (unmoved m) z (simp parts (omega (arith, one_zero z)));
    }

-- a moved coordinate stands for one within the limits
pub moved_in : (m : ℕ) → Moved m → coordinate (unmoved m) ≡ true
moved_in m h = limit_in (unmoved m) (simp parts (omega (arith, h.least))) (simp parts (omega (arith, h.most)))

-- a cell within the limits, by its coordinates
pub limits_x : (c : Cell) → within_limits c ≡ true → coordinate c.x ≡ true
unfolding within_limits
limits_x c e = (halves (coordinate c.x) (coordinate c.y) e).0

pub limits_y : (c : Cell) → within_limits c ≡ true → coordinate c.y ≡ true
unfolding within_limits
limits_y c e = (halves (coordinate c.x) (coordinate c.y) e).1

-- a cell within the limits, lifted
pub record LiftedCell (c : Cell) (p : Spot) : Type 0 where
  pub inside_x : Moved p.x
  pub inside_y : Moved p.y
  pub stands : unmoved_cell p ≡ c

pub lifted_cell : (c : Cell) (p : Spot) → within_limits c ≡ true → p ≡ moved_cell c → LiftedCell c p
lifted_cell c p e q =
    let a = lift_in c.x p.x (limits_x c e) (ap (λ (p : Spot). p.x) q) in
    let b = lift_in c.y p.y (limits_y c e) (ap (λ (p : Spot). p.y) q) in
    record { inside_x = a.inside; inside_y = b.inside; stands = λ i. record { x = a.stands i; y = b.stands i } }

-- a spot at a column and a row of the sheet
pub unmoved_cell_lem : (p : Spot) → 65536 ≤ p.x → 65536 ≤ p.y → unmoved_cell p ≡ cell_of (p.x - 65536) (p.y - 65536)
unmoved_cell_lem p a b =
    let u : unmoved p.x ≡ pos (p.x - 65536) = to_≡ℤ (unmoved p.x) (pos (p.x - 65536)) (simp parts (omega arith)) in
    let v : unmoved p.y ≡ pos (p.y - 65536) = to_≡ℤ (unmoved p.y) (pos (p.y - 65536)) (simp parts (omega arith)) in
    λ i. record { x = u i; y = v i }

-- a number that is lowered, and one that is not
pub lowered_is : (m : ℕ) → 49152 ≤ m → m ≤ 81919 → lowered m ≡ unmoved m
unfolding lowered
lowered_is m l h = simp (moved_in m (record { least = l; most = h }))

-- what a spot within the limits is lowered to
lowered_in : (m : ℕ) (z : ℤ) → unmoved m ≡ z → coordinate z ≡ true → lowered m ≡ z
unfolding lowered
lowered_in m z e f = simp (e, f)

pub lowered_cell_lem : (p : Spot) (c : Cell) → unmoved_cell p ≡ c → within_limits c ≡ true → lowered_cell p ≡ c
lowered_cell_lem p c e f =
    let u = lowered_in p.x c.x (ap (λ (d : Cell). d.x) e) (limits_x c f) in
    let v = lowered_in p.y c.y (ap (λ (d : Cell). d.y) e) (limits_y c f) in
    λ i. record { x = u i; y = v i }

-- what a lifted coordinate is lowered to
pub lowered-moved : (z : ℤ) → coordinate z ≡ true → lowered (moved z) ≡ z
lowered-moved z e =
    let l = limit_low z e in
    let h = limit_high z e in
    let f = moved_is z e in
    let k = lift_in z (moved z) e refl in
    lowered_is (moved z) k.inside.least k.inside.most ∙ k.stands
