-- Nobody crosses by a side step.
use Prim.Native.Nat.{ℕ}
use mathlib.Core.Path.{◌≡◌, sym, ap, ◌∙◌}
use mathlib.Core.List.{List}
use mathlib.Core.Logic.{inl, inr}
use mathlib.Core.Bool.{Bool, true, cond}
use lib.ListN.{length, get_or}
use Rattle.sheet.specs.Sheet.{on_sheet, place}
use Rattle.sheet.specs.Reply.{Answer, is_done}
use Rattle.sheet.specs.Drawing.{Draws, only, if_sheet}
use Rattle.sheet.specs.declared.Cell.{Cell}
use Rattle.sheet.specs.declared.Shape.{Shape}
use Rattle.sheet.proofs.Draws.{drawn}
use Rattle.sheet.proofs.Lent.{done_sheet}
use Rattle.sheet.proofs.Limits.{fits_sheet}
use Rattle.sheet.proofs.Paint.{paint_cell}
use Rattle.sheet.proofs.Pitch.{cell_below}
use Rattle.line.specs.Rule.{on_line}
use Rattle.line.specs.Draw.{line_answer, line_drawing}
use Rattle.ring.specs.Ring.{on_ellipse}
use Rattle.ring.specs.Draw.{ellipse_answer, ellipse_drawing}
use Rattle.fill.specs.Fill.{Fills}
use Rattle.fill.specs.Crossing.{AllInked, Divides, NobodyCrosses}
use Rattle.fill.proofs.Sides.{divides}
use Rattle.fill.proofs.Lines.{level_line, upright_line}
use Rattle.fill.proofs.Rings.{ring_sides, within_turned, outside_turned}

pub nobody_crosses : NobodyCrosses
nobody_crosses =
    record {
      level = λ k a b h e. divides (level_line k a b h e);
      upright = λ k a b h e. divides (upright_line k a b h e);
      ring = λ k m a b e. divides (ring_sides m a b e k);
      by_columns = λ m a b c e. (within_turned m a b e c, outside_turned m a b e c);
    }

-- A drawing of one figure that is done leaves all its cells on the sheet in its ink: the boundary is shut.
drawn_inked : (k : Shape) (ink : ℕ) (figure : Cell → Bool) (next : ℕ → Answer) (lent : List ℕ) (reply : Answer) (bytes : List ℕ)
    → Draws (record { shape = k; answer = λ (n : ℕ). if_sheet k n (next n); figures = only ink figure }) lent reply bytes
    → is_done reply ≡ true → AllInked k ink figure bytes
drawn_inked k ink figure next lent reply bytes h d c o e =
    let done = sym (ap is_done h.tells) ∙ d in
    let z = fits_sheet k lent (done_sheet k (length lent) (next (length lent)) done) in
    ap (λ (s : List ℕ). get_or s (place k c) 0) (drawn _ lent reply bytes h done)
    ∙ paint_cell k ink z.disjoint figure lent c o (cell_below k lent z c o)
    ∙ ap (λ (t : Bool). cond t ink (get_or lent (place k c) 0)) e

pub line_shut : (k : Shape) (ink : ℕ) (a b : Cell) (lent : List ℕ) (reply : Answer) (bytes : List ℕ)
    → Draws (line_drawing k ink a b) lent reply bytes → is_done reply ≡ true → AllInked k ink (on_line a b) bytes
unfolding line_answer
line_shut k ink a b lent reply bytes h d = drawn_inked k ink (on_line a b) _ lent reply bytes h d

pub ring_shut : (k : Shape) (ink : ℕ) (m : Cell) (a b : ℕ) (lent : List ℕ) (reply : Answer) (bytes : List ℕ)
    → Draws (ellipse_drawing k ink m a b) lent reply bytes → is_done reply ≡ true → AllInked k ink (on_ellipse m a b) bytes
unfolding ellipse_answer
ring_shut k ink m a b lent reply bytes h d = drawn_inked k ink (on_ellipse m a b) _ lent reply bytes h d

-- Two controllers fill one after the other, each on its side, done or refused: the second leaves the first's side as the
-- first left it, the first left the second's as it was lent, and the boundary is as before both.
module _ {k : Shape} {boundary : Cell → Bool} {one other : Cell → Type 0} (divides : Divides k boundary one other)
    {a c : Cell} {b i j p q : ℕ} {lent : List ℕ} {r r' : Answer} {s t : List ℕ}
    (F : Fills k a b i p lent r s) (G : Fills k c b j q s r' t) (inked : AllInked k b boundary lent) (mine : one a) (yours : other c) where
  shut_still : AllInked k b boundary s
  shut_still d o e = divides.there.fill a b i p lent r s F inked mine d o (inr e) ∙ inked d o e

  pub each_side : (d : Cell) → on_sheet k d ≡ true
      → (one d → get_or t (place k d) 0 ≡ get_or s (place k d) 0)
      × (other d → get_or s (place k d) 0 ≡ get_or lent (place k d) 0)
      × (boundary d ≡ true → get_or t (place k d) 0 ≡ b)
  each_side d o = (
    λ w. divides.back.fill c b j q s r' t G shut_still yours d o (inl w),
    λ w. divides.there.fill a b i p lent r s F inked mine d o (inl w),
    λ e. divides.back.fill c b j q s r' t G shut_still yours d o (inr e) ∙ shut_still d o e,
  )
