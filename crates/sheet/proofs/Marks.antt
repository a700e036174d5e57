-- One cell of the moved plane: the byte that it is, and that it is none off the sheet.
use Prim.Native.Nat.{ℕ, ◌+◌, ◌-◌, ◌*◌, ◌≤◌, ◌<◌}
use mathlib.Core.Path.{◌≡◌, refl, sym, ap, ◌∙◌}
use mathlib.Core.List.{List}
use mathlib.Core.Bool.{Bool, true, false, cond, true≢false}
use native.Mathlib.Omega.{arith}
use lib.ListN.{set}
use lib.Dec.{T}
use lib.IntN.{pos, nat_abs}
use Rattle.laws.proofs.Ints.{from_≡ℤ, up_sub, dn_sub}
use Rattle.laws.proofs.Tests.{is_true, is_false, from_true}
use Rattle.sheet.specs.Sheet.{on_sheet, cell_of, is_cell, paint, place}
use Rattle.sheet.specs.Repaint.{nothing, alone, join, box_of, Set}
use Rattle.sheet.specs.Inner.{unmoved, unmoved_cell, inked_at, joined_at, Disjoint}
use Rattle.sheet.specs.declared.Cell.{Cell}
use Rattle.sheet.specs.declared.Shape.{Shape}
use Rattle.sheet.specs.declared.Spot.{Spot}
use Rattle.sheet.specs.declared.repaint.Rectangle.{Rectangle}
use Rattle.sheet.proofs.Boxes.{Low, join_nothing, nothing_low, nothing_join, box_low, box_is, box_none, box_holds}
use Rattle.sheet.proofs.Cells.{on_sheet_lem, sheet_cell, is_cell→, is_cell_refl}
use Rattle.sheet.proofs.Limits.{unmoved_cell_lem}
use Rattle.sheet.proofs.Paint.{paint_none, paint_one}

-- which cell of the sheet a spot is
pub spot→ : (p : Spot) (i j : ℕ) → T (is_cell (unmoved_cell p) (cell_of i j)) → (i + 65536 ≡ p.x) × (j + 65536 ≡ p.y)
spot→ p i j t =
    let e = is_cell→ (unmoved_cell p) (cell_of i j) t in
    let u = from_≡ℤ (pos i) (unmoved p.x) (ap (λ (c : Cell). c.x) e) in
    let v = from_≡ℤ (pos j) (unmoved p.y) (ap (λ (c : Cell). c.y) e) in
    (omega (arith, up_sub p.x 65536, dn_sub p.x 65536), omega (arith, up_sub p.y 65536, dn_sub p.y 65536))

module _ (k : Shape) (p : Spot) where
  -- off the sheet, and on it
  pub spot_on : 65536 ≤ p.x → 65536 ≤ p.y → p.x - 65536 < k.width → p.y - 65536 < k.height → on_sheet k (unmoved_cell p) ≡ true
  spot_on a b c d = ap (on_sheet k) (unmoved_cell_lem p a b) ∙ on_sheet_lem k (p.x - 65536) (p.y - 65536) c d

  -- off the sheet nothing changes
  -- on it one byte does, and the rectangle has the cell in it
  pub mark_on : (ink : ℕ) (s : List ℕ) → 65536 ≤ p.x → 65536 ≤ p.y → p.x - 65536 < k.width → p.y - 65536 < k.height
      → set s ((p.y - 65536) * k.pitch + (p.x - 65536)) ink ≡ inked_at k ink (unmoved_cell p) s
  unfolding inked_at place
  mark_on ink s a b c d =
      sym
      (ap (λ (t : Bool). cond t (set s (place k (unmoved_cell p)) ink) s) (spot_on a b c d)
      ∙ ap (λ (d : Cell). set s (place k d) ink) (unmoved_cell_lem p a b))

-- On a sheet that is painting the cell.
pub inked_paints : (k : Shape) (ink : ℕ) (c : Cell) (s : List ℕ) → Disjoint k → inked_at k ink c s ≡ paint k ink (is_cell c) s
unfolding inked_at
inked_paints k ink c s w = by (on_sheet k c) refl
  where
    by : (t : Bool) → on_sheet k c ≡ t → cond t (set s (place k c) ink) s ≡ paint k ink (is_cell c) s
    by true e = let o = sheet_cell k c e in rw o.is_cell (sym (paint_one k ink w o.column o.row s o.in_width o.in_height))
    by false e =
        sym
        (paint_none k ink (is_cell c) s (λ x y a b.
        is_false _ (λ t. true≢false (sym (on_sheet_lem k x y a b) ∙ ap (on_sheet k) (is_cell→ c (cell_of x y) t) ∙ e))))

-- the rectangle of a cell of the sheet
pub box_one : (k : Shape) → k.width ≤ 4096 → k.height ≤ 4096 → (x y : ℕ) → x < k.width → y < k.height → box_of k (is_cell (cell_of x y)) ≡ alone x y
box_one k w h x y a b =
    let own = box_holds k (is_cell (cell_of x y)) x y (record { column = a; row = b; marked = is_true _ (is_cell_refl (cell_of x y)) }) in
    box_is k (is_cell (cell_of x y)) (alone x y) (record { left_low = omega arith; top_low = omega arith }) held
    (own.0, omega (arith, own.1), own.2, omega (arith, own.3))
  where
    held : (i j : ℕ) → Set k (is_cell (cell_of x y)) i j → (x ≤ i) × (i < x + 1) × (y ≤ j) × (j < y + 1)
    held i j m =
        let e = is_cell→ (cell_of x y) (cell_of i j) (from_true _ m.marked) in
        let u : i ≡ x = ap (λ (c : Cell). nat_abs c.x) e in
        let v : j ≡ y = ap (λ (c : Cell). nat_abs c.y) e in
        (omega arith, omega arith, omega arith, omega arith)

-- On a sheet that is the join with the cell's.
pub joined_box : (k : Shape) (c : Cell) (r : Rectangle) → k.width ≤ 4096 → k.height ≤ 4096 → Low r → joined_at k c r ≡ join r (box_of k (is_cell c))
unfolding joined_at
joined_box k c r w h l = by (on_sheet k c) refl
  where
    by : (t : Bool) → on_sheet k c ≡ t → cond t (join r (alone (nat_abs c.x) (nat_abs c.y))) r ≡ join r (box_of k (is_cell c))
    by true e =
        let o = sheet_cell k c e in
        rw o.is_cell (ap (join r) (sym (box_one k w h o.column o.row o.in_width o.in_height)))
    by false e =
        sym (ap (join r) (box_none k (is_cell c) (λ x y a b.
        is_false _ (λ t. true≢false (sym (on_sheet_lem k x y a b) ∙ ap (on_sheet k) (is_cell→ c (cell_of x y) t) ∙ e)))) ∙ join_nothing r r l)

-- one cell alone
pub alone_box : (k : Shape) (c : Cell) (q r : Rectangle) → k.width ≤ 4096 → k.height ≤ 4096 → q ≡ nothing → r ≡ joined_at k c q → r ≡ box_of k (is_cell c)
alone_box k c q r w h e f =
    f ∙ ap (joined_at k c) e ∙ joined_box k c nothing w h nothing_low ∙ nothing_join (box_of k (is_cell c)) (box_low k (is_cell c))
