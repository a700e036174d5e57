-- Document 01's examples of records, and document 02's: files, what is read at their first byte, and what the whole file answers; what is
-- written, and what is rescued.
use Prim.Native.Nat.{ℕ}
use mathlib.Core.Path.{◌≡◌, refl}
use mathlib.Core.List.{List, [], ◌∷◌, map}
use lib.IntN.{pos, negsuc}
use Rattle.sheet.specs.Reply.{Answer, done, refuse_at}
use Rattle.sheet.specs.Sheet as sheet
use Rattle.sheet.specs.Sheet.{cell_of}
use Rattle.sheet.specs.declared.Figure.{Figure}
use Rattle.sheet.specs.declared.Figure.TheVariants.{Line, Circle, Ellipse, Curve, Cubic}
use Rattle.sheet.specs.declared.refusal.Refusal.TheVariants.{Coordinate, Radius, Pieces, Short, Kind, Length, Kindless}
use Rattle.record.specs.Layout.{signed, line_row, circle_row, ellipse_row, curve_row, cubic_row, table}
use Rattle.record.specs.Reading.{values_from, limited_from, row_found, kind_found, found_at, read_at, read_answer}
use Rattle.record.specs.Writing.{fields_bytes, record_bytes}
use Rattle.record.specs.File.{read_in, read_from, read_all, file_answer}
use Rattle.record.specs.Rescue.{parts_in, parts_from, parts, copy_of, offsets_of, numbers_of}

pub record Example : Type 0 where
  pub file : List ℕ
  pub first : Answer
  pub whole : Answer

pub examples : List Example
examples =
    -- the empty file is done with 0 records
    record { file = []; first = done []; whole = done (pos 0 ∷ []) }
    -- a lone byte: 8 at offset 0
    ∷ record { file = 11 ∷ []; first = refuse_at Short 0; whole = refuse_at Short 0 }
    -- length 1 with one byte after it: 16; with nothing after it: 8
    ∷ record { file = 1 ∷ 0 ∷ 7 ∷ []; first = refuse_at Kindless 0; whole = refuse_at Kindless 0 }
    ∷ record { file = 1 ∷ 0 ∷ []; first = refuse_at Short 0; whole = refuse_at Short 0 }
    -- kind 9 with length 11 and its 11 bytes: 9, at the kind
    ∷ record { file = 11 ∷ 0 ∷ 9 ∷ 0 ∷ 1 ∷ 0 ∷ 0 ∷ 0 ∷ 0 ∷ 2 ∷ 0 ∷ 1 ∷ 0 ∷ []; first = refuse_at Kind 2; whole = refuse_at Kind 2 }
    -- the line (0,0) to (2,1) with ink 1, and 13 the offset after it
    ∷ record {
      file = 11 ∷ 0 ∷ 1 ∷ 0 ∷ 1 ∷ 0 ∷ 0 ∷ 0 ∷ 0 ∷ 2 ∷ 0 ∷ 1 ∷ 0 ∷ [];
      first = done (pos 0 ∷ pos 13 ∷ pos 1 ∷ pos 1 ∷ pos 0 ∷ pos 0 ∷ pos 2 ∷ pos 1 ∷ []);
      whole = done (pos 1 ∷ []);
    }
    -- the same and a lone byte after it: 8 at offset 13
    ∷ record {
      file = 11 ∷ 0 ∷ 1 ∷ 0 ∷ 1 ∷ 0 ∷ 0 ∷ 0 ∷ 0 ∷ 2 ∷ 0 ∷ 1 ∷ 0 ∷ 11 ∷ [];
      first = done (pos 0 ∷ pos 13 ∷ pos 1 ∷ pos 1 ∷ pos 0 ∷ pos 0 ∷ pos 2 ∷ pos 1 ∷ []);
      whole = refuse_at Short 13;
    }
    -- a circle at (16,383, −1) is read, and one at x of 16,384 refused with 2, at x
    ∷ record {
      file = 9 ∷ 0 ∷ 2 ∷ 0 ∷ 5 ∷ 255 ∷ 63 ∷ 255 ∷ 255 ∷ 3 ∷ 0 ∷ [];
      first = done (pos 0 ∷ pos 11 ∷ pos 2 ∷ pos 5 ∷ pos 16383 ∷ negsuc 0 ∷ pos 3 ∷ []);
      whole = done (pos 1 ∷ []);
    }
    ∷ record { file = 9 ∷ 0 ∷ 2 ∷ 0 ∷ 5 ∷ 0 ∷ 64 ∷ 255 ∷ 255 ∷ 3 ∷ 0 ∷ []; first = refuse_at Coordinate 5; whole = refuse_at Coordinate 5 }
    -- an ellipse with both axes 0 is read, and one with a single 0 refused with 3, at that axis; the first of two bad axes is named
    ∷ record {
      file = 11 ∷ 0 ∷ 3 ∷ 0 ∷ 5 ∷ 2 ∷ 0 ∷ 1 ∷ 0 ∷ 0 ∷ 0 ∷ 0 ∷ 0 ∷ [];
      first = done (pos 0 ∷ pos 13 ∷ pos 3 ∷ pos 5 ∷ pos 2 ∷ pos 1 ∷ pos 0 ∷ pos 0 ∷ []);
      whole = done (pos 1 ∷ []);
    }
    ∷ record { file = 11 ∷ 0 ∷ 3 ∷ 0 ∷ 5 ∷ 2 ∷ 0 ∷ 1 ∷ 0 ∷ 0 ∷ 0 ∷ 4 ∷ 0 ∷ []; first = refuse_at Radius 9; whole = refuse_at Radius 9 }
    ∷ record { file = 11 ∷ 0 ∷ 3 ∷ 0 ∷ 5 ∷ 2 ∷ 0 ∷ 1 ∷ 0 ∷ 4 ∷ 0 ∷ 0 ∷ 0 ∷ []; first = refuse_at Radius 11; whole = refuse_at Radius 11 }
    ∷ record { file = 11 ∷ 0 ∷ 3 ∷ 0 ∷ 5 ∷ 2 ∷ 0 ∷ 1 ∷ 0 ∷ 0 ∷ 0 ∷ 0 ∷ 64 ∷ []; first = refuse_at Radius 9; whole = refuse_at Radius 9 }
    -- a curve of s = 6 is read, and one of s = 7 refused with 4, at s
    ∷ record {
      file = 16 ∷ 0 ∷ 4 ∷ 0 ∷ 1 ∷ 0 ∷ 0 ∷ 0 ∷ 0 ∷ 2 ∷ 0 ∷ 4 ∷ 0 ∷ 4 ∷ 0 ∷ 0 ∷ 0 ∷ 6 ∷ [];
      first = done (pos 0 ∷ pos 18 ∷ pos 4 ∷ pos 1 ∷ pos 0 ∷ pos 0 ∷ pos 2 ∷ pos 4 ∷ pos 4 ∷ pos 0 ∷ pos 6 ∷ []);
      whole = done (pos 1 ∷ []);
    }
    ∷ record { file = 16 ∷ 0 ∷ 4 ∷ 0 ∷ 1 ∷ 0 ∷ 0 ∷ 0 ∷ 0 ∷ 2 ∷ 0 ∷ 4 ∷ 0 ∷ 4 ∷ 0 ∷ 0 ∷ 0 ∷ 7 ∷ []; first = refuse_at Pieces 17; whole = refuse_at Pieces 17 }
    -- a cubic is read; its last control point is named where it is outside the limits, also beside an s of 7; and its length is 20
    ∷ record {
      file = 20 ∷ 0 ∷ 5 ∷ 0 ∷ 1 ∷ 0 ∷ 0 ∷ 0 ∷ 0 ∷ 0 ∷ 0 ∷ 4 ∷ 0 ∷ 4 ∷ 0 ∷ 4 ∷ 0 ∷ 4 ∷ 0 ∷ 255 ∷ 255 ∷ 6 ∷ [];
      first = done (pos 0 ∷ pos 22 ∷ pos 5 ∷ pos 1 ∷ pos 0 ∷ pos 0 ∷ pos 0 ∷ pos 4 ∷ pos 4 ∷ pos 4 ∷ pos 4 ∷ negsuc 0 ∷ pos 6 ∷ []);
      whole = done (pos 1 ∷ []);
    }
    ∷ record {
      file = 20 ∷ 0 ∷ 5 ∷ 0 ∷ 1 ∷ 0 ∷ 0 ∷ 0 ∷ 0 ∷ 0 ∷ 0 ∷ 4 ∷ 0 ∷ 4 ∷ 0 ∷ 4 ∷ 0 ∷ 4 ∷ 0 ∷ 0 ∷ 64 ∷ 7 ∷ [];
      first = refuse_at Coordinate 19;
      whole = refuse_at Coordinate 19;
    }
    ∷ record { file = 16 ∷ 0 ∷ 5 ∷ 0 ∷ 1 ∷ 0 ∷ 0 ∷ 0 ∷ 0 ∷ 2 ∷ 0 ∷ 4 ∷ 0 ∷ 4 ∷ 0 ∷ 0 ∷ 0 ∷ 6 ∷ []; first = refuse_at Length 0; whole = refuse_at Length 0 }
    ∷ []

pub examples_hold : (map (λ (e : Example). read_answer e.file 0) examples ≡ map (λ (e : Example). e.first) examples)
    × (map (λ (e : Example). file_answer e.file) examples ≡ map (λ (e : Example). e.whole) examples)
unfolding examples read_answer file_answer read_all read_from read_in read_at found_at kind_found row_found limited_from values_from table line_row circle_row ellipse_row curve_row cubic_row signed sheet.coordinate sheet.semi_axis
examples_hold = (refl, refl)

-- What is written for an ink and a figure: the line of document 01 again, and a record of each other kind.
pub record Writing : Type 0 where
  pub ink : ℕ
  pub figure : Figure
  pub bytes : List ℕ

pub writings : List Writing
writings =
    record { ink = 1; figure = Line (cell_of 0 0) (cell_of 2 1); bytes = 11 ∷ 0 ∷ 1 ∷ 0 ∷ 1 ∷ 0 ∷ 0 ∷ 0 ∷ 0 ∷ 2 ∷ 0 ∷ 1 ∷ 0 ∷ [] }
    ∷ record { ink = 5; figure = Circle (sheet.cell (pos 16383) (negsuc 0)) 3; bytes = 9 ∷ 0 ∷ 2 ∷ 0 ∷ 5 ∷ 255 ∷ 63 ∷ 255 ∷ 255 ∷ 3 ∷ 0 ∷ [] }
    ∷ record { ink = 5; figure = Ellipse (cell_of 2 1) 0 0; bytes = 11 ∷ 0 ∷ 3 ∷ 0 ∷ 5 ∷ 2 ∷ 0 ∷ 1 ∷ 0 ∷ 0 ∷ 0 ∷ 0 ∷ 0 ∷ [] }
    ∷ record {
      ink = 255;
      figure = Curve (sheet.cell (negsuc 16383) (pos 0)) (cell_of 2 4) (cell_of 4 0) 6;
      bytes = 16 ∷ 0 ∷ 4 ∷ 0 ∷ 255 ∷ 0 ∷ 192 ∷ 0 ∷ 0 ∷ 2 ∷ 0 ∷ 4 ∷ 0 ∷ 4 ∷ 0 ∷ 0 ∷ 0 ∷ 6 ∷ [];
    }
    ∷ record {
      ink = 0;
      figure = Cubic (cell_of 0 0) (cell_of 0 4) (cell_of 4 4) (sheet.cell (pos 300) (negsuc 255)) 0;
      bytes = 20 ∷ 0 ∷ 5 ∷ 0 ∷ 0 ∷ 0 ∷ 0 ∷ 0 ∷ 0 ∷ 0 ∷ 0 ∷ 4 ∷ 0 ∷ 4 ∷ 0 ∷ 4 ∷ 0 ∷ 44 ∷ 1 ∷ 0 ∷ 255 ∷ 0 ∷ [];
    }
    ∷ []

pub writings_hold : map (λ (w : Writing). record_bytes w.ink w.figure) writings ≡ map (λ (w : Writing). w.bytes) writings
unfolding writings record_bytes fields_bytes table line_row circle_row ellipse_row curve_row cubic_row
writings_hold = refl

-- What a rescue copies and lists of a file.
pub record Rescuing : Type 0 where
  pub file : List ℕ
  pub copy : List ℕ
  pub offsets : List ℕ
  pub numbers : List ℕ

pub rescuings : List Rescuing
rescuings =
    -- the empty file, and a lone byte: 8
    record { file = []; copy = []; offsets = []; numbers = [] }
    ∷ record { file = 11 ∷ []; copy = []; offsets = 0 ∷ []; numbers = 8 ∷ [] }
    -- the line is copied whole
    ∷ record {
      file = 11 ∷ 0 ∷ 1 ∷ 0 ∷ 1 ∷ 0 ∷ 0 ∷ 0 ∷ 0 ∷ 2 ∷ 0 ∷ 1 ∷ 0 ∷ [];
      copy = 11 ∷ 0 ∷ 1 ∷ 0 ∷ 1 ∷ 0 ∷ 0 ∷ 0 ∷ 0 ∷ 2 ∷ 0 ∷ 1 ∷ 0 ∷ [];
      offsets = [];
      numbers = [];
    }
    -- two zeros, a kind 9 and a circle at x of 16,384, the line after them, and a length that counts one byte more than are left
    ∷ record {
      file = 0 ∷ 0 ∷ 3 ∷ 0 ∷ 9 ∷ 0 ∷ 7 ∷ 9 ∷ 0 ∷ 2 ∷ 0 ∷ 5 ∷ 0 ∷ 64 ∷ 255 ∷ 255 ∷ 3 ∷ 0
          ∷ 11 ∷ 0 ∷ 1 ∷ 0 ∷ 1 ∷ 0 ∷ 0 ∷ 0 ∷ 0 ∷ 2 ∷ 0 ∷ 1 ∷ 0 ∷ 5 ∷ 0 ∷ 1 ∷ 0 ∷ 1 ∷ 0 ∷ [];
      copy = 11 ∷ 0 ∷ 1 ∷ 0 ∷ 1 ∷ 0 ∷ 0 ∷ 0 ∷ 0 ∷ 2 ∷ 0 ∷ 1 ∷ 0 ∷ [];
      offsets = 0 ∷ 2 ∷ 7 ∷ 31 ∷ [];
      numbers = 16 ∷ 9 ∷ 2 ∷ 8 ∷ [];
    }
    ∷ []

pub rescuings_hold : (map (λ (r : Rescuing). copy_of r.file (parts r.file)) rescuings ≡ map (λ (r : Rescuing). r.copy) rescuings)
    × (map (λ (r : Rescuing). offsets_of (parts r.file)) rescuings ≡ map (λ (r : Rescuing). r.offsets) rescuings)
    × (map (λ (r : Rescuing). numbers_of (parts r.file)) rescuings ≡ map (λ (r : Rescuing). r.numbers) rescuings)
unfolding rescuings parts parts_from parts_in read_at found_at kind_found row_found limited_from values_from table line_row circle_row ellipse_row curve_row cubic_row signed sheet.coordinate sheet.semi_axis
rescuings_hold = (refl, refl, refl)
