-- A half of a ring that leaves the sheet: the rows of it that have a cell on the sheet follow on each other.
use Prim.Native.Nat.{ℕ, ◌+◌, ◌-◌, ◌*◌, ◌≤◌, ◌<◌, min, max}
use mathlib.Core.Path.{◌≡◌, sym, ◌∙◌}
use mathlib.Core.Logic.{inl, inr, ⊎_elim}
use mathlib.Core.List.{List}
use mathlib.Core.Bool.{false}
use native.Mathlib.Omega.{arith}
use lib.Dec.{T}
use Rattle.laws.proofs.Products.{lt_or_ge}
use Rattle.laws.proofs.Tests.{same, is_false}
use Rattle.sheet.specs.Sheet.{paint}
use Rattle.sheet.specs.Repaint.{nothing, box_of}
use Rattle.sheet.specs.Inner.{Sheet}
use Rattle.sheet.specs.declared.Shape.{Shape}
use Rattle.sheet.specs.declared.repaint.Rectangle.{Rectangle}
use Rattle.sheet.proofs.Boxes.{box_as, box_none}
use Rattle.sheet.proofs.Paint.{paint_as, paint_none}
use Rattle.ring.specs.Inner.{FrontOf, end_of_row, cells, off, in_ring, in_rows, spread, Placed, NearRow, FarRow}
use Rattle.ring.specs.declared.Ring.{Ring}
use Rattle.ring.proofs.Breadth.{Seen, Off, arc, breadth_box}
use Rattle.ring.proofs.Columns.{ellipse_within}
use Rattle.ring.proofs.Fronts.{end_most}
use Rattle.ring.proofs.Rowed.{rows→, →rows}
use Rattle.ring.proofs.Seen.{nearer_none, further_none, row_seen}

-- of the rows from l to before r, those from top to before bottom are the ones that are y to before z off a middle
pub record Part (m l r top bottom y z : ℕ) : Type 0 where
  pub first : l ≤ top
  pub last : bottom ≤ r
  pub some : top < bottom
  pub rows : Off m top bottom y z
  pub none : (j : ℕ) → l ≤ j → j < r → y ≤ off m j → off m j < z → (top ≤ j) × (j < bottom)

-- rows above a middle, and rows from it down
module _ (m l r j : ℕ) (u : l ≤ j) (v : j < r) where
  pub upper_off : r + 65536 ≤ m → (m - 65535 - r ≤ off m j) × (off m j < m - 65535 - l)
  upper_off h = (omega arith, omega arith)

  pub lower_off : m ≤ l + 65536 → (l + 65536 - m ≤ off m j) × (off m j < r + 65536 - m)
  lower_off h = (omega arith, omega arith)

module _ (m l r y z top bottom : ℕ) (o : y < z) where
  pub upper_part : (e : ℕ) → m ≡ e + 65535 → r < e → e ≤ y + r → z + l ≤ e → top + z ≡ e → bottom + y ≡ e
      → Part m l r top bottom y z
  upper_part e d h p q f g =
      record {
        first = omega arith;
        last = omega arith;
        some = omega arith;
        rows = record {
          off_in = λ j u v. (omega arith, omega arith);
          row_of = λ v s t. (e - 1 - v, omega arith, omega arith, omega arith);
        };
        none = λ j u v s t. (omega arith, omega arith);
      }

  pub lower_part : m ≤ l + 65536 → l + 65536 ≤ m + y → m + z ≤ r + 65536 → top + 65536 ≡ m + y → bottom + 65536 ≡ m + z
      → Part m l r top bottom y z
  lower_part h p q f g =
      record {
        first = omega arith;
        last = omega arith;
        some = omega arith;
        rows = record {
          off_in = λ j u v. (omega arith, omega arith);
          row_of = λ v s t. (m + v - 65536, omega arith, omega arith, omega arith);
        };
        none = λ j u v s t. (omega arith, omega arith);
      }

-- the height of the front below the row that is v off a middle, and above the one after it
pub upper_height : (m v : ℕ) → 1 ≤ v → v + 65535 ≤ m → 2 * (m - 65536 - (m - 65535 - v)) + 1 ≡ 2 * v - 1
upper_height m v p q = omega arith

pub lower_height : (m v : ℕ) → 65536 ≤ m + v → 2 * (m + v - 65536 + 65536 - m) - 1 ≡ 2 * v - 1
lower_height m v p = omega arith

-- the rectangle is one of small numbers
pub small_spread : {k : Shape} {g : Ring} {s : List ℕ} → Placed k g → Sheet k s → (y z v w x u low high : ℕ)
    → FrontOf g v x → FrontOf g w u → low ≡ end_of_row g.a g.b y x → high ≡ end_of_row g.a g.b z u
    → ((k.width ≤ 4096) × (g.x ≤ 131072) × (g.least ≤ 16384) × (1 ≤ g.past)) × (low ≤ 16384) × (high ≤ 16384)
small_spread {k} {g} P S y z v w x u low high F G e f = (
  (S.wide, omega (arith, P.column.most), omega (arith, P.some, P.most, P.axis_a.1), omega (arith, P.some)),
  omega (arith, end_most g.a g.b y x, F.high, P.most, P.axis_a.1),
  omega (arith, end_most g.a g.b z u, G.high, P.most, P.axis_a.1),
)

module _ (k : Shape) (ink : ℕ) (g : Ring) (P : Placed k g) (l r y z near past : ℕ)
    (D : (j : ℕ) → l ≤ j → j < r → (y ≤ off g.y j) × (off g.y j < z)) (N : NearRow g y z near) (F : FarRow g near z past) where
  -- a row with a cell on the sheet is neither nearer nor further
  shown : (i j : ℕ) → i < k.width → l ≤ j → j < r → T (in_ring g i j) → (near ≤ off g.y j) × (off g.y j < past)
  shown i j w p q t =
      let d = D j p q in
      let c = off g.x i in
      let v = off g.y j in
      let h : c < g.past = ⊎_elim (λ n. n) (λ n. absurd (omega (arith, (ellipse_within g.a g.b c v t).0))) (P.far i w) in
      let u : near ≤ v = elim (lt_or_ge v near) [
        | inl n ↦ absurd (nearer_none g.a g.b P.axis_a.0 P.axis_b.0 c (g.past - 1) v t (N.before v d.0 n) (omega arith))
        | inr n ↦ n
      ] in (
        u,
        elim (lt_or_ge v past) [
          | inl n ↦ n
          | inr n ↦ absurd (further_none g.a g.b P.axis_a.0 P.axis_b.0 c g.least v t (F.after v n d.1) (P.near i w))
        ],
      )

  -- all its rows are painted, and the rectangle is theirs
  abbrev Shown : List ℕ → List ℕ → Rectangle → Type 0
  Shown s t q = (t ≡ paint k ink (cells (in_rows g l r)) s) × (q ≡ box_of k (cells (in_rows g l r)))

  pub half_none : past ≤ near → (s t : List ℕ) (q : Rectangle) → t ≡ s → q ≡ nothing → Shown s t q
  half_none o s t q d e = (
    d ∙ sym (paint_none k ink (cells (in_rows g l r)) s none),
    e ∙ sym (box_none k (cells (in_rows g l r)) none),
  )
    where
      none : (i j : ℕ) → i < k.width → j < k.height → in_rows g l r i j ≡ false
      none i j w _ =
          is_false (in_rows g l r i j) (λ u. let v = rows→ g l r i j u in let n = shown i j w v.0 v.1 v.2 in omega arith)

  seen : z ≤ g.b + 1 → (v : ℕ) → near ≤ v → v < past → Seen g v
  seen b v p q =
      row_seen g.a g.b g.least g.past v P.axis_a.0 P.axis_b.0 P.some P.most (omega (arith, F.high))
      (N.after v p (omega (arith, F.high))) (F.before v p q)

  module _ (top bottom : ℕ) (A : Part g.y l r top bottom near past) where
    same_rows : (i j : ℕ) → i < k.width → j < k.height → in_rows g top bottom i j ≡ in_rows g l r i j
    same_rows i j w _ =
        same (in_rows g top bottom i j) (in_rows g l r i j)
        (λ u. let v = rows→ g top bottom i j u in →rows g l r i j (omega (arith, A.first)) (omega (arith, A.last)) v.2)
        (λ u.
        let v = rows→ g l r i j u in
        let n = shown i j w v.0 v.1 v.2 in
        let m = A.none j v.0 v.1 n.0 n.1 in
        →rows g top bottom i j m.0 m.1 v.2)

    pub half_some : near < past → z ≤ g.b + 1 → r ≤ k.height → (s t : List ℕ) → Sheet k s → (q : Rectangle) (x w : ℕ)
        → FrontOf g (2 * (past - 1) + 1) x → FrontOf g (2 * near - 1) w → t ≡ paint k ink (cells (in_rows g top bottom)) s
        → q ≡ spread k.width g.x (max (end_of_row g.a g.b (past - 1) x) g.least)
        (min (end_of_row g.a g.b near w) (g.past - 1)) top bottom
        → Shown s t q
    half_some o b h s t S q x w U W d e =
        let B = arc k g P top bottom near past x w A.rows o (omega (arith, F.high)) (seen b) U W in (
          d ∙ paint_as k ink (cells (in_rows g top bottom)) (cells (in_rows g l r)) s same_rows,
          e ∙ sym (breadth_box k g P S top bottom _ _ A.some (omega (arith, A.last)) B)
              ∙ box_as k (cells (in_rows g top bottom)) (cells (in_rows g l r)) same_rows,
        )
