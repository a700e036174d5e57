-- Document 02, K14: a tally for each row, kept in a list beside the sheet.
use Rattle.std.specs.Prelude.{ℕ, ◌≡◌, List, [], Bool, not, eqb, length, get_or}
use Rattle.laws.specs.Below.{any, count}
use Rattle.sheet.specs.Sheet.{place, cell_of, by_place}
use Rattle.sheet.specs.Reply.{Answer, done, unless, settled}
use Rattle.sheet.specs.Drawing.{Drawing, if_sheet}
use Rattle.sheet.specs.declared.Shape.{Shape}
use Rattle.sheet.specs.declared.refusal.Refusal.TheVariants.{Places, Tally}

-- How many of a row's cells are nonzero: padding is no cell.
unfoldable pub row_count : Shape → List ℕ → ℕ → ℕ
row_count k s y = count k.width (λ (x : ℕ). not (eqb (get_or s (place k (cell_of x y)) 0) 0))

-- the list with that number of each row in its place
unfoldable pub tally_of : Shape → List ℕ → List ℕ → List ℕ
tally_of k s rows = by_place (λ (y v : ℕ). row_count k s y) rows

-- whether each row's place holds that number: none holds another
unfoldable pub right : Shape → List ℕ → List ℕ → Bool
right k s rows = not (any k.height (λ (y : ℕ). not (eqb (get_or rows y 0) (row_count k s y))))

-- 1, 15, then 19 unless the list has one place for each row, and then what follows
unfoldable pub if_places : Shape → ℕ → ℕ → Answer → Answer
if_places k n places next = if_sheet k n (unless (eqb places k.height) Places next)

-- 1, 15, 19, then 20 unless the list is right, and then what follows
unfoldable pub if_tally : Shape → ℕ → List ℕ → List ℕ → Answer → Answer
if_tally k n lent rows next = if_places k n (length rows) (unless (right k lent rows) Tally next)

-- the list after an answer: right for the bytes as they are left, or untouched by a refusal
abbrev pub recounted : Shape → Answer → List ℕ → List ℕ → List ℕ
recounted k a s rows = settled a (tally_of k s rows) rows

-- Counting afresh: 1, 15, 19, else 0, and the list is right whatever it held.
pub record Counts (k : Shape) (s rows : List ℕ) (reply : Answer) (after : List ℕ) : Type 0 where
  pub tells : reply ≡ if_places k (length s) (length rows) (done [])
  pub counts : after ≡ recounted k reply s rows

-- The drawing beside a list: 1, 15, 19, 20, then all others as before, each told in a form.
abbrev pub beside : (Answer → Answer) → List ℕ → List ℕ → Drawing → Drawing
beside form lent rows d =
    record {
      shape = d.shape;
      answer = λ (n : ℕ). form (if_tally d.shape n lent rows (d.answer n));
      figures = d.figures;
    }

-- the form of any drawing but a file's, which tells an offset with each refusal (`file_form`)
abbrev pub plain : Answer → Answer
plain a = a
