-- A property of what stands at an offset, from the places where that is made.
use Prim.Native.Nat.{ℕ, ◌+◌, ◌-◌, ◌≤◌, ◌<◌}
use mathlib.Core.Path.{◌≡◌, refl, ◌∙◌}
use mathlib.Core.List.{List, [], ◌∷◌}
use mathlib.Core.Bool.{Bool, true, false, cond}
use native.Mathlib.Omega.{arith}
use borrow.Author.Tests.{leb-true, leb-false, eqb-true, eq-eqb}
use lib.Dec.{leb, eqb}
use lib.ListN.{length, get_or, length-take, length-drop}
use Rattle.sheet.specs.Sheet as sheet
use Rattle.sheet.specs.declared.refusal.Refusal.{Refusal}
use Rattle.sheet.specs.declared.refusal.Refusal.TheVariants.{Short, Kind, Length, Kindless}
use Rattle.record.specs.Layout.{Field, length_word, kind_word, ink, coordinate, radius, axis_a, axis_b, pieces, Form, byte, word, signed_word, form, form_width, Row, word_value_at, width, value_at, widths, kind_place, payload_place, line_row, circle_row, ellipse_row, curve_row, cubic_row, table, for_kind}
use Rattle.record.specs.Reading.{Found, found, end, refused, unless_at, values_from, axis_at, limited, limited_from, row_found, kind_found, payload_at, found_at}

-- the field at k within its limits, and those that follow each other from k on
abbrev pub Limited : Field → List ℕ → ℕ → Type 0
Limited length_word p k = Unit {0}
Limited kind_word p k = Unit {0}
Limited ink p k = Unit {0}
Limited coordinate p k = sheet.coordinate (value_at coordinate p k) ≡ true
Limited radius p k = axis_at p k k ≡ true
Limited axis_a p k = axis_at p k (k + width axis_a) ≡ true
Limited axis_b p k = axis_at p k (k - width axis_a) ≡ true
Limited pieces p k = sheet.split (get_or p k 0) ≡ true

unfoldable pub LimitedFrom : List Field → List ℕ → ℕ → Type 0
LimitedFrom [] p k = Unit {0}
LimitedFrom (g ∷ fs) p k = Limited g p k × LimitedFrom fs p (k + width g)

has_bytes : (g : Form) → 1 ≤ form_width g
has_bytes byte = omega arith
has_bytes word = omega arith
has_bytes signed_word = omega arith

-- each row of the table
abbrev pub Each : (Row → Type 0) → List Row → Type 0
Each P [] = Unit {0}
Each P (row ∷ rows) = P row × Each P rows

pub each_as : {P Q : Row → Type 0} (rows : List Row) → ((row : Row) → P row → Q row) → Each P rows → Each Q rows
each_as [] h e = tt
each_as (row ∷ rows) h e = (h row e.0, each_as rows h e.1)

pub every : (P : Row → Type 0) → ((row : Row) → P row) → (rows : List Row) → Each P rows
every P h [] = tt
every P h (row ∷ rows) = (h row, every P h rows)

-- a row's length counts the kind and the payload
abbrev pub Counts : Row → Type 0
Counts row = row.length ≡ widths (kind_word ∷ row.payload)

pub table_counts : Each Counts table
unfolding table line_row circle_row ellipse_row curve_row cubic_row
table_counts = (refl, (refl, (refl, (refl, (refl, tt)))))

-- and so does the length of a record that the file has whole
pub length_holds : (s : List ℕ) (at : ℕ) → 2 ≤ length s - at → 2 ≤ word_value_at s at → word_value_at s at ≤ length s - at - 2
    → 2 + length (payload_at s at) ≡ word_value_at s at
length_holds s at f g h = simp (length-take, length-drop) (omega arith)

-- fields within their limits are not refused, and so a payload of a row's length makes its record
limited_passes : (g : Field) (p : List ℕ) (k o : ℕ) (f : Found) → Limited g p k → limited g p k o f ≡ f
limited_passes length_word p k o f l = refl
limited_passes kind_word p k o f l = refl
limited_passes ink p k o f l = refl
limited_passes coordinate p k o f l = simp l
limited_passes radius p k o f l = simp l
limited_passes axis_a p k o f l = simp l
limited_passes axis_b p k o f l = simp l
limited_passes pieces p k o f l = simp l

fields_pass : (fs : List Field) (p : List ℕ) (k start : ℕ) (f : Found) → LimitedFrom fs p k → limited_from fs p k start f ≡ f
unfolding limited_from LimitedFrom
fields_pass [] p k start f l = refl
fields_pass (g ∷ fs) p k start f l = limited_passes g p k (start + k) _ l.0 ∙ fields_pass fs p (k + width g) start f l.1

pub row_found_lem : (row : Row) (p : List ℕ) (at next : ℕ) → Counts row → length p ≡ widths row.payload → LimitedFrom row.payload p 0
    → row_found row p at next ≡ found at next row (values_from row.payload p 0)
unfolding row_found
row_found_lem row p at next c e l = simp (eq-eqb (width kind_word + length p) row.length (omega arith)) (fields_pass row.payload p 0 (payload_place at) _ l)

by_test : (P : Found → Type 0) (t : Bool) (f g : Found) → (t ≡ true → P f) → (t ≡ false → P g) → P (cond t f g)
by_test P true f g a b = a refl
by_test P false f g a b = b refl

-- of a record at an offset, in a file of n bytes: what a refusal names is a byte of the file, at or after the record's first
module _ (at n : ℕ) (P : Found → Type 0) (no : (r : Refusal) (o : ℕ) → at ≤ o → o < n → P (refused r o)) where
  passing : (t : Bool) (r : Refusal) (o : ℕ) (f : Found) → at ≤ o → o < n → (t ≡ true → P f) → P (unless_at t r o f)
  passing t r o f a b h = by_test P t f (refused r o) h (λ e. no r o a b)

  limited_has : (g : Field) (p : List ℕ) (k o : ℕ) (f : Found) → at ≤ o → o < n → (Limited g p k → P f) → P (limited g p k o f)
  limited_has length_word p k o f a b h = h tt
  limited_has kind_word p k o f a b h = h tt
  limited_has ink p k o f a b h = h tt
  limited_has coordinate p k o f a b h = passing (sheet.coordinate (value_at coordinate p k)) _ o f a b h
  limited_has radius p k o f a b h = passing (axis_at p k k) _ o f a b h
  limited_has axis_a p k o f a b h = passing (axis_at p k (k + width axis_a)) _ o f a b h
  limited_has axis_b p k o f a b h = passing (axis_at p k (k - width axis_a)) _ o f a b h
  limited_has pieces p k o f a b h = passing (sheet.split (get_or p k 0)) _ o f a b h

  fields_have : (fs : List Field) (p : List ℕ) (k start : ℕ) (f : Found) → at ≤ start → start + k + widths fs ≤ n
      → (LimitedFrom fs p k → P f) → P (limited_from fs p k start f)
  unfolding limited_from LimitedFrom
  fields_have [] p k start f a b h = h tt
  fields_have (g ∷ fs) p k start f a b h =
      let w = has_bytes (form g) in
      limited_has g p k (start + k) _ (omega arith) (omega arith)
      (λ l. fields_have fs p (k + width g) start f a (omega arith) (λ m. h (l, m)))

  module _ (p : List ℕ) (next : ℕ) (inside : payload_place at + length p ≤ n) (kind : ℕ) where
    -- a record of a row: it has the row's kind, its payload the row's bytes, and its fields are within their limits
    abbrev pub Made : Row → Type 0
    Made row = kind ≡ row.kind → length p ≡ widths row.payload → LimitedFrom row.payload p 0 → P (found at next row (values_from row.payload p 0))

    row_has : (row : Row) → Counts row → Made row → kind ≡ row.kind → P (row_found row p at next)
    unfolding row_found
    row_has row l h e =
        passing (eqb (width kind_word + length p) row.length) Length at _ (omega arith) (omega arith)
        (λ t.
        let m = eqb-true (width kind_word + length p) row.length t in
        fields_have row.payload p 0 (payload_place at) _ (omega arith) (omega arith) (h e (omega arith)))

    rows_have : (rows : List Row) → Each Counts rows → Each Made rows → P (for_kind rows kind (λ row. row_found row p at next) (refused Kind (kind_place at)))
    rows_have [] c m = no Kind (kind_place at) (omega arith) (omega arith)
    rows_have (row ∷ rows) c m =
        by_test P (eqb kind row.kind) _ _ (λ e. row_has row c.0 m.0 (eqb-true kind row.kind e)) (λ e. rows_have rows c.1 m.1)

    pub kind_has : Each Made table → P (kind_found kind p at next)
    unfolding kind_found
    kind_has m = rows_have table table_counts m

-- by the tests of a record's length: 8 before it is known to fit the bytes that are left, and no other refusal before that
module _ (s : List ℕ) (at : ℕ) (P : Found → Type 0) where
  -- a record whose length fits and leaves room for a kind
  abbrev pub OfKind : Type 0
  OfKind =
      payload_place at ≤ kind_place at + word_value_at s at → kind_place at + word_value_at s at ≤ length s → payload_place at + length (payload_at s at) ≤ length s
      → P (kind_found (word_value_at s (kind_place at)) (payload_at s at) at (kind_place at + word_value_at s at))

  pub found_cases : (length s ≤ at → P end) → (at < length s → P (refused Short at))
      → (kind_place at + word_value_at s at ≤ length s → P (refused Kindless at)) → OfKind → P (found_at s at)
  unfolding found_at
  found_cases h short kindless k =
      by_test P (leb (length s) at) _ _ (λ e. h (leb-true (length s) at e))
      (λ e.
      let a = leb-false (length s) at e in
      by_test P (leb 2 (length s - at)) _ _
      (λ f.
      let b = leb-true 2 (length s - at) f in
      by_test P (leb (word_value_at s at) (length s - at - 2)) _ _
      (λ g.
      let c = leb-true (word_value_at s at) (length s - at - 2) g in
      by_test P (leb 2 (word_value_at s at)) _ _
      (λ i.
      let d = leb-true 2 (word_value_at s at) i in
      k (omega arith) (omega arith) (simp (length-take, length-drop) (omega arith)))
      (λ i. kindless (omega arith)))
      (λ g. short (omega arith)))
      (λ f. short (omega arith)))

  pub found_has : ((r : Refusal) (o : ℕ) → at ≤ o → o < length s → P (refused r o)) → (length s ≤ at → P end) → OfKind → P (found_at s at)
  found_has refuses h k = found_cases h (λ a. refuses Short at (omega arith) a) (λ a. refuses Kindless at (omega arith) (omega arith)) k
