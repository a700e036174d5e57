-- The rows of the pieces of a queue: those of the least and of the greatest of them, since a piece has its row in its highest bits.
use Prim.Native.Nat.{ℕ, ◌+◌, ◌<◌, ◌≤◌, min, max}
use mathlib.Core.Path.{◌≡◌, refl, sym, ◌∙◌}
use mathlib.Core.List.{List}
use mathlib.Core.Bool.{Bool, true, false}
use native.Mathlib.Omega.{arith}
use native.Mathlib.Decide.{ℕ_discrete, dec_le}
use lib.ListN.{get_or}
use Rattle.sheet.specs.Repaint.{box_of, Set}
use Rattle.sheet.specs.Reply.{Answer, is_done}
use Rattle.sheet.specs.declared.Cell.{Cell}
use Rattle.sheet.specs.declared.Shape.{Shape}
use Rattle.sheet.specs.declared.repaint.Rectangle.{Rectangle}
use Rattle.sheet.proofs.Boxes.{box_low, box_holds, box_within}
use Rattle.fill.specs.Fill.{FillsRows}
use Rattle.fill.specs.Inner.{row_of, InRows, Spans, FillsPieces}

-- the least and the greatest of the first t
pub record Extremes (q : List ℕ) (t least most : ℕ) : Type 0 where
  pub all : (j : ℕ) → j < t → (least ≤ get_or q j 0) × (get_or q j 0 ≤ most)
  pub low : (j : ℕ) × (j < t) × (get_or q j 0 ≡ least)
  pub high : (j : ℕ) × (j < t) × (get_or q j 0 ≡ most)

pub extremes_more : {q : List ℕ} {t least most : ℕ} → Extremes q t least most
    → Extremes q (t + 1) (min least (get_or q t 0)) (max most (get_or q t 0))
extremes_more {q} {t} {least} {most} E =
    record { all = λ j l. all j l (ℕ_discrete j t); low = low (dec_le least (get_or q t 0)); high = high (dec_le (get_or q t 0) most) }
  where
    all : (j : ℕ) → j < t + 1 → Dec (j ≡ t) → (min least (get_or q t 0) ≤ get_or q j 0) × (get_or q j 0 ≤ max most (get_or q t 0))
    all j l (yes e) = rw e (omega arith, omega arith)
    all j l (no e) = let h = E.all j (omega arith) in (omega (arith, h.0), omega (arith, h.1))

    low : Dec (least ≤ get_or q t 0) → (j : ℕ) × (j < t + 1) × (get_or q j 0 ≡ min least (get_or q t 0))
    low (yes l) = let h = E.low in (h.0, omega (arith, h.1), omega (arith, h.2))
    low (no l) = (t, omega arith, omega arith)

    high : Dec (get_or q t 0 ≤ most) → (j : ℕ) × (j < t + 1) × (get_or q j 0 ≡ max most (get_or q t 0))
    high (yes l) = let h = E.high in (h.0, omega (arith, h.1), omega (arith, h.2))
    high (no l) = (t, omega arith, omega arith)

-- the rows of a figure that is in the rows of the pieces are those of its rectangle
module _ {k : Shape} {f : Cell → Bool} {q : List ℕ} {t top bottom : ℕ} (I : InRows k f q t) (S : Spans q t top bottom) where
  whole : Rectangle
  whole = record { left = 0; top = top; right = k.width; bottom = bottom }

  top_low : (0 < t → k.height ≤ 4096) → top ≤ 4096
  top_low h = by (ℕ_discrete t 0)
    where
      by : Dec (t ≡ 0) → top ≤ 4096
      by (yes e) = omega (arith, (S.none e).0)
      by (no e) = let j = S.first (omega arith) in let m = I.some j.0 j.1 in omega (arith, j.2, m.1.row, h (omega arith))

  held : (x y : ℕ) → Set k f x y → (top ≤ y) × (y < bottom)
  held x y m = let j = I.all x y m in let h = S.between j.0 j.1 in (omega (arith, h.0, j.2), omega (arith, h.1, j.2))

  pub spans_box : (0 < t → k.height ≤ 4096) → (top ≡ (box_of k f).top) × (bottom ≡ (box_of k f).bottom)
  unfolding whole
  spans_box low =
      let w = box_within k f whole (record { left_low = omega arith; top_low = top_low low }) (λ x y m. let h = held x y m in (omega arith, m.column, h.0, h.1)) in
      by w (ℕ_discrete t 0)
    where
      by : (0 ≤ (box_of k f).left) × ((box_of k f).right ≤ k.width) × (top ≤ (box_of k f).top) × ((box_of k f).bottom ≤ bottom) → Dec (t ≡ 0)
          → (top ≡ (box_of k f).top) × (bottom ≡ (box_of k f).bottom)
      by w (yes e) = let n = S.none e in (omega (arith, w.2, n.0, (box_low k f).top_low), omega (arith, w.3, n.1))
      by w (no e) =
          let i = S.first (omega arith) in
          let j = S.last (omega arith) in
          let m = I.some i.0 i.1 in
          let n = I.some j.0 j.1 in
          let p = box_holds k f m.0 (row_of (get_or q i.0 0)) m.1 in
          let r = box_holds k f n.0 (row_of (get_or q j.0 0)) n.1 in
          (omega (arith, w.2, p.2, i.2), omega (arith, w.3, r.3, j.2))

-- so what is told of a fill in pieces are the rows of its territory, and those of no cell where it is refused
pub rows_told : {k : Shape} {a : Cell} {b ink p t top bottom : ℕ} {lent s q : List ℕ} {r : Answer} → FillsPieces k a b ink p lent r s q t
    → Spans q t top bottom → FillsRows k a b ink p lent r top bottom s
rows_told {k} {a} {b} {ink} {p} {t} {top} {bottom} {lent} {s} {q} {r} F S = by (is_done r) refl
  where
    box : (top ≡ (box_of k F.fills.territory).top) × (bottom ≡ (box_of k F.fills.territory).bottom)
    box = spans_box F.rows S F.high

    by : (d : Bool) → is_done r ≡ d → FillsRows k a b ink p lent r top bottom s
    by true e = record { fills = F.fills; first = box.0 ∙ sym (simp e); past = box.1 ∙ sym (simp e) }
    by false e = let n = S.none (F.refused e) in record { fills = F.fills; first = n.0 ∙ sym (simp e); past = n.1 ∙ sym (simp e) }
