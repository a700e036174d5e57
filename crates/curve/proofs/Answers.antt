-- The way along a curve whose control points are within the limits: its spots stand for the rule's points; and a curve that is drawn.
use Rattle.std.proofs.Common.{◌≡◌, ℕ, ◌+◌, ◌-◌, ◌/◌, ◌^◌, ◌<◌, ◌≤◌, Bool, true, ◌&&◌, List, [], ◌∷◌, map, length, ℤ, sym, refl, ap, ◌∙◌, subst, mul-le-mul, arith}
use Rattle.std.specs.List.{list_all}
use lib.ListN.{length-map}
use Rattle.sheet.specs.Sheet.{coordinate, within_limits, split, paint}
use Rattle.sheet.specs.Repaint.{box_of}
use Rattle.sheet.specs.Reply.{done, with_box}
use Rattle.sheet.specs.Drawing.{Draws}
use Rattle.sheet.specs.Inner.{unmoved, unmoved_cell, fits}
use Rattle.sheet.specs.declared.Cell.{Cell}
use Rattle.sheet.specs.declared.Shape.{Shape}
use Rattle.sheet.specs.declared.repaint.Rectangle.{Rectangle}
use Rattle.sheet.proofs.Boxes.{box_only}
use Rattle.sheet.proofs.Draws.{draws}
use Rattle.sheet.proofs.Lent.{if_sheet_lem}
use Rattle.sheet.proofs.Limits.{limit_high, limits_x, limits_y, stands_parts}
use Rattle.curve.specs.Rule.{coordinate_at, point_at, on_curve}
use Rattle.curve.specs.Draw.{all_within_limits, curve_answer, curve_drawing}
use Rattle.curve.specs.Inner.{shift_of, Follows, Leads, next_way, Divides, spot_of_way}
use Rattle.curve.specs.declared.Walk.{Walk}
use Rattle.curve.specs.declared.Way.{Way}
use Rattle.curve.proofs.Between.{point_inside}
use Rattle.curve.proofs.Walks.{follows_next, follows_stands}

-- all control points pass the test of one
pub all_in : (ps : List Cell) → list_all within_limits ps ≡ all_within_limits ps
unfolding all_within_limits
all_in [] = refl
all_in (c ∷ ps) = ap (λ (t : Bool). within_limits c && t) (all_in ps)

-- the way along control points is that of the same ones, lifted
pub lifted_lead : (ps qs : List Cell) (s shift : ℕ) (x y : Walk) → ps ≡ qs
    → Follows (map (λ (c : Cell). c.x) ps) s 0 x → Follows (map (λ (c : Cell). c.y) ps) s 0 y → shift ≡ shift_of (length ps) s
    → Leads qs s 0 (record { x = x; y = y; shift = shift })
lifted_lead ps qs s shift x y e h k f =
    subst (λ (qs : List Cell). Leads qs s 0 (record { x = x; y = y; shift = shift })) e (record { along_x = h; along_y = k; shift_is = f })

module _ (ps : List Cell) (some : 0 < length ps) (few : length ps ≤ 4) (s i : ℕ) (w : Way) (h : Leads ps s i w) (l : s ≤ 6) where
  pub leads_next : Leads ps s (i + 1) (next_way w)
  leads_next = record { along_x = follows_next _ s i w.x h.along_x; along_y = follows_next _ s i w.y h.along_y; shift_is = h.shift_is }

  -- each coordinate
  stands : (of : Cell → ℤ) (v : Walk) → Follows (map of ps) s i v → i ≤ 2 ^ s → unmoved (v.value / 2 ^ w.shift) ≡ coordinate_at (map of ps) (2 ^ s) i
  stands of v f m =
      let e : w.shift ≡ shift_of (length (map of ps)) s = h.shift_is ∙ ap (λ (k : ℕ). shift_of k s) (sym (length-map ps of)) in
      ap (λ (k : ℕ). unmoved (v.value / 2 ^ k)) e ∙ follows_stands (map of ps) s i v f l m

  pub spot_stands : i ≤ 2 ^ s → unmoved_cell (spot_of_way w) ≡ point_at ps (2 ^ s) i
  unfolding point_at
  spot_stands m = λ t. record { x = stands (λ c. c.x) w.x h.along_x m t; y = stands (λ c. c.y) w.y h.along_y m t }

  -- within the limits, where the control points are; so the division fits its type
  spot_in : i ≤ 2 ^ s → all_within_limits ps ≡ true → within_limits (unmoved_cell (spot_of_way w)) ≡ true
  spot_in m e = ap within_limits (spot_stands m) ∙ point_inside ps s i some m e

  divides : (v : Walk) → coordinate (unmoved (v.value / 2 ^ w.shift)) ≡ true → Divides v w.shift
  divides v e =
      record {
        whole = omega (arith, h.shift_is, mul-le-mul {n₁ = length ps - 1} {m₁ = s} {n₂ = 3} {m₂ = 6} (omega arith) l);
        fits = omega (arith, stands_parts (v.value / 2 ^ w.shift) _ refl, limit_high _ e);
      }

  pub way_divides : i ≤ 2 ^ s → all_within_limits ps ≡ true → Divides w.x w.shift × Divides w.y w.shift
  way_divides m e = (divides w.x (limits_x _ (spot_in m e)), divides w.y (limits_y _ (spot_in m e)))

-- a curve within the limits, drawn on a sheet that fits
pub curve_done : (k : Shape) (ink : ℕ) (ps : List Cell) (s : ℕ) (sheet t : List ℕ) (r : Rectangle) → fits k (length sheet) ≡ true → all_within_limits ps ≡ true
    → split s ≡ true → t ≡ paint k ink (on_curve ps s) sheet → r ≡ box_of k (on_curve ps s) → Draws (curve_drawing k ink ps s) sheet (with_box (done []) r) t
unfolding curve_answer
curve_done k ink ps s sheet t r e f g u v =
    draws (curve_drawing k ink ps s) sheet (done []) r t refl (simp (if_sheet_lem k (length sheet) e, f, g)) u (v ∙ sym (box_only k ink (on_curve ps s)))
