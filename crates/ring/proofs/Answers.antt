-- A ring that is drawn, and what its limits promise the inner functions.
use Prim.Native.Nat.{ℕ, ◌≤◌}
use mathlib.Core.Path.{◌≡◌, refl, sym, subst, ap, ◌∙◌}
use mathlib.Core.Logic.{◌⊎◌, inl, inr}
use mathlib.Core.List.{List, []}
use mathlib.Core.Bool.{true, ◌&&◌, ◌||◌}
use native.Mathlib.Omega.{arith}
use lib.ListN.{length}
use lib.Dec.{T, leb, eqb, leb→le, eqb→eq}
use Rattle.laws.proofs.Apart.{apart_same, apart_zero}
use Rattle.laws.proofs.Tests.{and_l, and_r, or_e, same, halves, from_true}
use Rattle.sheet.specs.Chain.{wide, tall}
use Rattle.sheet.specs.Sheet.{within_limits, is_cell, paint, semi_axis, axes}
use Rattle.sheet.specs.Repaint.{box_of}
use Rattle.sheet.specs.Reply.{done, with_box}
use Rattle.sheet.specs.Drawing.{Draws}
use Rattle.sheet.specs.Inner.{moved_cell, unmoved_cell, fits}
use Rattle.sheet.specs.declared.Cell.{Cell}
use Rattle.sheet.specs.declared.Shape.{Shape}
use Rattle.sheet.specs.declared.Spot.{Spot}
use Rattle.sheet.specs.declared.repaint.Rectangle.{Rectangle}
use Rattle.sheet.proofs.Boxes.{box_only}
use Rattle.sheet.proofs.Cells.{is_cell→, is_cell_refl}
use Rattle.sheet.proofs.Draws.{draws}
use Rattle.sheet.proofs.Lent.{if_sheet_lem}
use Rattle.sheet.proofs.Limits.{lifted_cell}
use Rattle.ring.specs.Ring.{around, ellipse_rule, on_ellipse}
use Rattle.ring.specs.Draw.{ellipse_answer, ellipse_drawing}
use Rattle.ring.specs.Inner.{Centred, Axis}
use Rattle.ring.proofs.Columns.{ellipse_within, ellipse_zero}

-- a ring about a centre within the limits, drawn on a sheet that fits
pub ring_done : (k : Shape) (ink : ℕ) (c : Cell) (a b : ℕ) (s t : List ℕ) (r : Rectangle) (p : Spot) → fits k (length s) ≡ true
    → within_limits c ≡ true → axes a b ≡ true → p ≡ moved_cell c → t ≡ paint k ink (around (unmoved_cell p) (ellipse_rule a b)) s
    → r ≡ box_of k (around (unmoved_cell p) (ellipse_rule a b)) → Draws (ellipse_drawing k ink c a b) s (with_box (done []) r) t
unfolding ellipse_answer
ring_done k ink c a b s t r p e f g h q u =
    let at = (lifted_cell c p f h).stands in
    draws (ellipse_drawing k ink c a b) s (done []) r t refl (simp (if_sheet_lem k (length s) e, f, g))
    (q ∙ ap (λ (d : Cell). paint k ink (around d (ellipse_rule a b)) s) at)
    (u ∙ ap (λ (d : Cell). box_of k (around d (ellipse_rule a b))) at ∙ sym (box_only k ink (on_ellipse c a b)))

-- where both axes are 0 it is the centre alone
pub centre_alone : (c d : Cell) → is_cell c d ≡ around c (ellipse_rule 0 0) d
unfolding around
centre_alone c d = same (is_cell c d) (ellipse_rule 0 0 (wide c d) (tall c d)) to from
  where
    to : T (is_cell c d) → T (ellipse_rule 0 0 (wide c d) (tall c d))
    to t =
        let e = is_cell→ c d t in
        ellipse_zero (wide c d) (tall c d)
        (ap (λ (m : Cell). wide c m) e ∙ apart_same c.x)
        (ap (λ (m : Cell). tall c m) e ∙ apart_same c.y)

    from : T (ellipse_rule 0 0 (wide c d) (tall c d)) → T (is_cell c d)
    from t =
        let w = ellipse_within 0 0 (wide c d) (tall c d) t in
        let x = apart_zero c.x d.x (omega arith) in
        let y = apart_zero c.y d.y (omega arith) in
        subst (λ (m : Cell). T (is_cell c m)) (λ i. record { x = x i; y = y i }) (is_cell_refl c)

-- what the inner functions are promised
pub centred : (c : Cell) (p : Spot) → within_limits c ≡ true → p ≡ moved_cell c → Centred p
centred c p e f = let l = lifted_cell c p e f in record { column = l.inside_x; row = l.inside_y }

-- both semi-axes are 0, or neither is
semi_axis_is : (n other : ℕ) → semi_axis n other ≡ true → (n ≤ 16383) × ((1 ≤ n) ⊎ (other ≡ 0))
unfolding semi_axis
semi_axis_is n other e =
    let t = from_true (leb n 16383 && (leb 1 n || eqb other 0)) e in
    let u = and_r (leb n 16383) (leb 1 n || eqb other 0) t in (
      leb→le n 16383 (and_l (leb n 16383) (leb 1 n || eqb other 0) t),
      elim (or_e (leb 1 n) (eqb other 0) u) [ inl v ↦ inl (leb→le 1 n v) | inr v ↦ inr (eqb→eq other 0 v) ],
    )

module _ (a b : ℕ) (e : axes a b ≡ true) where
  pub axes_zero : a ≡ 0 → b ≡ 0
  axes_zero f = elim (semi_axis_is a b (halves (semi_axis a b) (semi_axis b a) e).0).1 [ inl l ↦ absurd (omega arith) | inr z ↦ z ]

  pub axes_from_one : 1 ≤ a → Axis a × Axis b
  axes_from_one h =
      let p = semi_axis_is a b (halves (semi_axis a b) (semi_axis b a) e).0 in
      let q = semi_axis_is b a (halves (semi_axis a b) (semi_axis b a) e).1 in
      ((h, p.0), (elim q.1 [ inl l ↦ l | inr z ↦ absurd (omega arith) ], q.0))
