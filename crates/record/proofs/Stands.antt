-- A record that was read: it moves on by 4 bytes at least, not past the file's end, and its figure is within the limits.
use Prim.Native.Nat.{ℕ, ◌+◌, ◌≤◌, ◌<◌}
use mathlib.Core.Path.{◌≡◌, refl, sym, subst}
use mathlib.Core.List.{List}
use mathlib.Core.Bool.{true}
use lib.ListN.{length}
use Rattle.sheet.specs.Sheet.{coordinate, within_limits}
use Rattle.sheet.specs.declared.Cell.{Cell}
use Rattle.sheet.specs.declared.refusal.Refusal.{Refusal}
use Rattle.laws.proofs.Tests.{halves}
use Rattle.sheet.proofs.Figures.{Sound, cell_in_lem, axes_in}
use Rattle.sheet.proofs.Limits.{limits_x, limits_y}
use Rattle.record.specs.Layout.{Row, word_value_at, kind_place, line_row, circle_row, ellipse_row, curve_row, cubic_row, table}
use Rattle.record.specs.Reading.{Found, refused, values_from, payload_at, read_of, read_at}
use Rattle.record.specs.declared.types.Record.{Record}
use Rattle.record.specs.declared.types.Read.{Read}
use Rattle.record.specs.declared.types.Read.TheVariants as read
use Rattle.record.proofs.Found.{LimitedFrom, Made, kind_has, found_has}

-- the record stands at the offset of the file
pub record Stands (s : List ℕ) (at : ℕ) (r : Record) : Type 0 where
  pub here : r.offset ≡ at
  pub on : at + 4 ≤ r.next
  pub inside : r.next ≤ length s
  pub sound : Sound r.figure

-- the figure of a row, where the fields of its payload are within their limits
abbrev RowSound : Row → List ℕ → Type 0
RowSound row p = LimitedFrom row.payload p 0 → Sound (row.figure (values_from row.payload p 0))

-- and back
cell_limits : (c : Cell) {R : Type 0} → within_limits c ≡ true → R → (coordinate c.x ≡ true) × ((coordinate c.y ≡ true) × R)
cell_limits c l r = (limits_x c l, (limits_y c l, r))

abbrev pub RowLimited : Row → List ℕ → Type 0
RowLimited row p = Sound (row.figure (values_from row.payload p 0)) → LimitedFrom row.payload p 0

module _ (p : List ℕ) where
  line_sound : RowSound line_row p
  unfolding LimitedFrom values_from line_row
  line_sound l = let b = l.1.1.1 in (cell_in_lem _ _ l.1.0 l.1.1.0, cell_in_lem _ _ b.0 b.1.0)

  circle_sound : RowSound circle_row p
  unfolding LimitedFrom values_from circle_row
  circle_sound l = let r = l.1.1.1.0 in (cell_in_lem _ _ l.1.0 l.1.1.0, axes_in _ _ r r)

  ellipse_sound : RowSound ellipse_row p
  unfolding LimitedFrom values_from ellipse_row
  ellipse_sound l =
      let a = l.1.1.1 in
      (cell_in_lem _ _ l.1.0 l.1.1.0, axes_in _ _ a.0 a.1.0)

  curve_sound : RowSound curve_row p
  unfolding LimitedFrom values_from curve_row
  curve_sound l =
      let p1 = l.1.1.1 in
      let p2 = p1.1.1 in
      (cell_in_lem _ _ l.1.0 l.1.1.0, cell_in_lem _ _ p1.0 p1.1.0, cell_in_lem _ _ p2.0 p2.1.0, p2.1.1.0)

  cubic_sound : RowSound cubic_row p
  unfolding LimitedFrom values_from cubic_row
  cubic_sound l =
      let p1 = l.1.1.1 in
      let p2 = p1.1.1 in
      let p3 = p2.1.1 in
      (cell_in_lem _ _ l.1.0 l.1.1.0, cell_in_lem _ _ p1.0 p1.1.0, cell_in_lem _ _ p2.0 p2.1.0, cell_in_lem _ _ p3.0 p3.1.0, p3.1.1.0)

  pub line_limited : RowLimited line_row p
  unfolding LimitedFrom values_from line_row
  line_limited l = (tt, cell_limits _ l.0 (cell_limits _ l.1 tt))

  pub circle_limited : RowLimited circle_row p
  unfolding LimitedFrom values_from circle_row
  circle_limited l = (tt, cell_limits _ l.0 ((halves _ _ l.1).0, tt))

  pub ellipse_limited : RowLimited ellipse_row p
  unfolding LimitedFrom values_from ellipse_row
  ellipse_limited l = let r = halves _ _ l.1 in (tt, cell_limits _ l.0 (r.0, (r.1, tt)))

  pub curve_limited : RowLimited curve_row p
  unfolding LimitedFrom values_from curve_row
  curve_limited l = (tt, cell_limits _ l.0 (cell_limits _ l.1 (cell_limits _ l.2 (l.3, tt))))

  pub cubic_limited : RowLimited cubic_row p
  unfolding LimitedFrom values_from cubic_row
  cubic_limited l = (tt, cell_limits _ l.0 (cell_limits _ l.1 (cell_limits _ l.2 (cell_limits _ l.3 (l.4, tt)))))

module _ (s : List ℕ) (at : ℕ) where
  abbrev IfRecord : Read → Type 0
  IfRecord (read.Record r) = Stands s at r
  IfRecord read.End = Unit {0}
  IfRecord (read.Refused q o) = Unit {0}

  abbrev IfFound : Found → Type 0
  IfFound f = IfRecord (read_of f)

  if_record : IfRecord (read_at s at)
  unfolding read_at table
  if_record =
      let no : (q : Refusal) (o : ℕ) → at ≤ o → o < length s → IfFound (refused q o) = λ q o a b. tt in
      found_has s at IfFound no (λ e. tt)
      (λ a b i.
      let p = payload_at s at in
      let made : (row : Row) → RowSound row p → Made at (length s) IfFound no p (kind_place at + word_value_at s at) i (word_value_at s (kind_place at)) row =
      λ row f e m l. record { here = refl; on = a; inside = b; sound = f l } in
      kind_has at (length s) IfFound no p _ i _
      (made line_row (line_sound p), (made circle_row (circle_sound p), (made ellipse_row (ellipse_sound p), (made curve_row (curve_sound p), (made cubic_row (cubic_sound p), tt))))))

  pub stands : (r : Record) → read.Record r ≡ read_at s at → Stands s at r
  stands r e = subst IfRecord (sym e) if_record
