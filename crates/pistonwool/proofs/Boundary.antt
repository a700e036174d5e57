-- The regulator's question is answered of what the controllers link: one agreed boundary, drawn from either end and in any order, is the same bytes.
use Prim.Native.Nat.{ℕ}
use mathlib.Core.Path.{◌≡◌, sym, subst, ap, ◌∙◌}
use mathlib.Core.Bool.{cond}
use mathlib.Core.List.{List}
use lib.ListN.{length}
use lib.Ieee.{Float}
use Rattle.sheet.specs.Repaint.{nothing}
use Rattle.sheet.specs.Reply.{Answer, is_done, with_box, settled}
use Rattle.sheet.specs.Drawing.{Drawing}
use Rattle.sheet.specs.Pitch.{with_pitch, Alike, AnyPitch}
use Rattle.sheet.specs.declared.Cell.{Cell}
use Rattle.sheet.specs.declared.Shape.{Shape}
use Rattle.sheet.specs.declared.Figure.TheVariants.{Line}
use Rattle.sheet.specs.declared.repaint.Rectangle.{Rectangle}
use Rattle.sheet.proofs.Draws.{draws_same}
use Rattle.sheet.proofs.Pitch.{carried}
use Rattle.line.specs.Draw.{line_drawing}
use Rattle.survey.specs.declared.Survey.{Survey}
use Rattle.survey.specs.declared.Metres.TheVariants as metres
use Rattle.record.specs.File.{holds, read_all}
use Rattle.record.specs.declared.types.Record.{Record}
use Rattle.drawing.specs.Boundary.{SameBoundary, InTurn}
use Rattle.drawing.specs.File.{file_drawing}
use Rattle.drawing.specs.Metres.{metres_drawing}
use Rattle.drawing.proofs.Boundary.{line_drawing_either, metres_drawing_either, same_boundary, same_boundary_box, same_in_turn, same_in_turn_box, box_records, files_left, files_told, files_done, files_boxed}
use Rattle.drawing.proofs.Pitch.{figure_any_pitch, metres_any_pitch, file_any_pitch}
use Rattle.pistonwool.specs.Told.{counted, replied, box_numbers, DrawsInto}
use Rattle.pistonwool.proofs.Unique.{counted_one, replied_one}

-- equal rectangles are equal four numbers, where both drawings are done or neither, and the same four were lent
told_boxes : (a b : Answer) (q r : Rectangle) (before u v : List ℕ) → is_done a ≡ is_done b → q ≡ r
    → u ≡ settled a (box_numbers q) before → v ≡ settled b (box_numbers r) before → u ≡ v
told_boxes a b q r before u v e f g h = g ∙ (λ i. cond (e i) (box_numbers (f i)) before) ∙ sym h

module _ (k : Shape) (ink : ℕ) (lent : List ℕ) (n m c d : ℕ) (s t before u v : List ℕ) where
  -- equal numbers, equal cells where they are done, the same bytes, and the same rectangle
  abbrev Agree : Type 0
  Agree = (n ≡ m) × (n ≡ 0 → c ≡ d) × (s ≡ t) × (u ≡ v)

  agree : (a b : Drawing) → a ≡ b → DrawsInto a lent (counted n c) s before u → DrawsInto b lent (counted m d) t before v → Agree
  agree a b e h g =
      let same = draws_same a lent b e _ _ s t h.draws g.draws in
      let one = counted_one n m c d (ap (λ (o : Answer). with_box o nothing) same.0) in
      (one.0, one.1, same.1, told_boxes (counted n c) (counted m d) _ _ before u v (ap is_done same.0) (ap (λ (o : Answer). o.box) same.0) h.boxes g.boxes)

  -- One line, as `pw_line` draws it from either end on sheets that were alike
  pub same_line : (a b : Cell) → DrawsInto (line_drawing k ink a b) lent (counted n c) s before u
      → DrawsInto (line_drawing k ink b a) lent (counted m d) t before v → Agree
  same_line a b h g = agree _ _ (line_drawing_either k ink a b) h g

  -- One line in metres, as `pw_line_metres` draws it from either end
  pub same_line_metres : (w : Survey) (x0 y0 x1 y1 : Float)
      → DrawsInto (metres_drawing k ink w (metres.Line x0 y0 x1 y1)) lent (counted n c) s before u
      → DrawsInto (metres_drawing k ink w (metres.Line x1 y1 x0 y0)) lent (counted m d) t before v → Agree
  same_line_metres w x0 y0 x1 y1 h g = agree _ _ (metres_drawing_either k ink w x0 y0 x1 y1) h g

-- Two files, none of whose records is refused, as `pw_file` draws them on sheets that were alike:
module _ (k : Shape) (file other lent : List ℕ) (rs qs : List Record) (e : read_all file ≡ holds rs) (f : read_all other ≡ holds qs)
    (n m v w : ℕ) (s t before x y : List ℕ) (h : DrawsInto (file_drawing k file) lent (replied n v) s before x)
    (g : DrawsInto (file_drawing k other) lent (replied m w) t before y) where
  -- where they name one boundary in one ink, in any order, the bytes left are the same ..
  pub same_file : (ink : ℕ) → SameBoundary ink rs qs → s ≡ t
  same_file ink b = files_left k file other lent rs qs e f _ _ s t h.draws g.draws (same_boundary k ink rs qs lent b)

  -- .. and so they are where they name it in the same order, in any inks;
  pub same_file_in_turn : InTurn rs qs → s ≡ t
  same_file_in_turn b = files_left k file other lent rs qs e f _ _ s t h.draws g.draws (same_in_turn k rs qs lent b)

  -- with as many records number and value are equal too;
  pub same_reply : length rs ≡ length qs → (n ≡ m) × (v ≡ w)
  same_reply l = replied_one n m v w (files_told k file other lent rs qs e f _ _ s t h.draws g.draws l)

  -- and with any number of them both are told the same rectangle.
  repaint : box_records k rs ≡ box_records k qs → x ≡ y
  repaint p =
      told_boxes (replied n v) (replied m w) _ _ before x y (files_done k file other lent rs qs e f _ _ s t h.draws g.draws)
      (files_boxed k file other lent rs qs e f _ _ s t h.draws g.draws p) h.boxes g.boxes

  pub same_repaint : (ink : ℕ) → SameBoundary ink rs qs → x ≡ y
  same_repaint ink b = repaint (same_boundary_box k ink rs qs b)

  pub same_repaint_in_turn : InTurn rs qs → x ≡ y
  same_repaint_in_turn b = repaint (same_in_turn_box k rs qs b)

-- Two controllers whose sheets differ in their pitch, but were alike cell for cell, agree cell for cell.
module _ (k : Shape) (pitch : ℕ) (lent other : List ℕ) (alike : Alike k pitch lent other) where
  -- equal bytes are alike to the same sheet
  left_alike : (s u t : List ℕ) → s ≡ u → Alike k pitch u t → Alike k pitch s t
  left_alike s u t e h = subst (λ (u : List ℕ). Alike k pitch u t) (sym e) h

  record CarriedInto (draw : Shape → Drawing) (reply : Answer) (t before v : List ℕ) : Type 0 where
    bytes : List ℕ
    into : DrawsInto (draw k) lent reply bytes before v
    same : Alike k pitch bytes t

  -- what is promised of the one sheet, carried to the other
  carried_into : (draw : Shape → Drawing) → AnyPitch draw → (reply : Answer) (t before v : List ℕ)
      → DrawsInto (draw (with_pitch k pitch)) other reply t before v → CarriedInto draw reply t before v
  carried_into draw any reply t before v g =
      let one = carried draw any k pitch lent other _ t alike g.draws in
      record {
        bytes = one.bytes;
        into = record { rectangle = g.rectangle; draws = one.drawn; boxes = g.boxes };
        same = one.alike;
      }

  module _ (ink n m c d : ℕ) (s t before u v : List ℕ) where
    abbrev AgreeAlike : Type 0
    AgreeAlike = (n ≡ m) × (n ≡ 0 → c ≡ d) × Alike k pitch s t × (u ≡ v)

    pub same_line_any_pitch : (a b : Cell) → DrawsInto (line_drawing k ink a b) lent (counted n c) s before u
        → DrawsInto (line_drawing (with_pitch k pitch) ink b a) other (counted m d) t before v → AgreeAlike
    same_line_any_pitch a b h g =
        let one = carried_into (λ k. line_drawing k ink b a) (figure_any_pitch ink (Line b a)) (counted m d) t before v g in
        let same = same_line k ink lent n m c d s one.bytes before u v a b h one.into in
        (same.0, same.1, left_alike s one.bytes t same.2 one.same, same.3)

    pub same_line_metres_any_pitch : (w : Survey) (x0 y0 x1 y1 : Float)
        → DrawsInto (metres_drawing k ink w (metres.Line x0 y0 x1 y1)) lent (counted n c) s before u
        → DrawsInto (metres_drawing (with_pitch k pitch) ink w (metres.Line x1 y1 x0 y0)) other (counted m d) t before v → AgreeAlike
    same_line_metres_any_pitch w x0 y0 x1 y1 h g =
        let one = carried_into (λ k. metres_drawing k ink w (metres.Line x1 y1 x0 y0)) (metres_any_pitch ink w (metres.Line x1 y1 x0 y0)) (counted m d) t before v g in
        let same = same_line_metres k ink lent n m c d s one.bytes before u v w x0 y0 x1 y1 h one.into in
        (same.0, same.1, left_alike s one.bytes t same.2 one.same, same.3)

  -- and so with two files, none of whose records is refused
  module _ (file back : List ℕ) (rs qs : List Record) (e : read_all file ≡ holds rs) (f : read_all back ≡ holds qs)
      (n m v w : ℕ) (s t before x y : List ℕ) (h : DrawsInto (file_drawing k file) lent (replied n v) s before x)
      (g : DrawsInto (file_drawing (with_pitch k pitch) back) other (replied m w) t before y) where
    one : CarriedInto (λ k. file_drawing k back) (replied m w) t before y
    one = carried_into (λ k. file_drawing k back) (file_any_pitch back) (replied m w) t before y g

    pub same_file_any_pitch : (ink : ℕ) → SameBoundary ink rs qs → Alike k pitch s t
    same_file_any_pitch ink b =
        left_alike s one.bytes t (same_file k file back lent rs qs e f n m v w s one.bytes before x y h one.into ink b) one.same

    pub same_file_in_turn_any_pitch : InTurn rs qs → Alike k pitch s t
    same_file_in_turn_any_pitch b =
        left_alike s one.bytes t (same_file_in_turn k file back lent rs qs e f n m v w s one.bytes before x y h one.into b) one.same

    pub same_reply_any_pitch : length rs ≡ length qs → (n ≡ m) × (v ≡ w)
    same_reply_any_pitch l = same_reply k file back lent rs qs e f n m v w s one.bytes before x y h one.into l

    pub same_repaint_any_pitch : (ink : ℕ) → SameBoundary ink rs qs → x ≡ y
    same_repaint_any_pitch ink b = same_repaint k file back lent rs qs e f n m v w s one.bytes before x y h one.into ink b

    pub same_repaint_in_turn_any_pitch : InTurn rs qs → x ≡ y
    same_repaint_in_turn_any_pitch b = same_repaint_in_turn k file back lent rs qs e f n m v w s one.bytes before x y h one.into b
