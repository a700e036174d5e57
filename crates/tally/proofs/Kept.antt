-- What is shown of the tallies, stated in specs/Kept.
use Prim.Native.Nat.{ℕ, ◌<◌}
use mathlib.Core.Path.{◌≡◌, refl, sym, subst, ap, ◌∙◌}
use mathlib.Core.List.{List, []}
use mathlib.Core.Bool.{Bool, true, false}
use native.Mathlib.Omega.{arith}
use native.Mathlib.Decide.{dec_lt}
use lib.ListN.{length, get_or, get_or-eq_default}
use lib.Seq.{ext_get_or}
use Rattle.laws.proofs.Tests.{is_false, is_true}
use Rattle.sheet.specs.Reply.{Answer, done, is_done}
use Rattle.sheet.specs.Drawing.{Drawing, paint_all}
use Rattle.sheet.specs.Inner.{fits}
use Rattle.sheet.specs.declared.Shape.{Shape}
use Rattle.sheet.proofs.Limits.{fits_sheet}
use Rattle.sheet.proofs.Places.{length_by, get_or_by}
use Rattle.tally.specs.Tally.{row_count, tally_of, right, Counts}
use Rattle.tally.specs.Kept.{Right, Tallies, Clear, Kept}
use Rattle.tally.proofs.Painted.{clear_stays, outside_clear}
use Rattle.tally.proofs.Rows.{right_all, right_at}
use Rattle.tally.proofs.Tests.{done_places}

module _ (k : Shape) (s : List ℕ) where
  -- right, by the test
  pub right_of : (rows : List ℕ) → length rows ≡ k.height → right k s rows ≡ true → Right k s rows
  right_of rows l e = record { places = l; numbers = right_at k s rows e }

  pub of_right : (rows : List ℕ) → Right k s rows → right k s rows ≡ true
  of_right rows R = right_all k s rows R.numbers

  -- a list with the number of each row is right
  pub tally_right : (rows : List ℕ) → length rows ≡ k.height → Right k s (tally_of k s rows)
  unfolding tally_of
  tally_right rows l = record { places = length_by _ rows ∙ l; numbers = λ y m. get_or_by _ rows y (omega arith) }

  -- and the only one
  pub right_one : (rows other : List ℕ) → Right k s rows → Right k s other → rows ≡ other
  right_one rows other R O =
      ext_get_or 0 rows other (R.places ∙ sym O.places)
      (λ y l. let m : y < k.height = omega (arith, R.places) in R.numbers y m ∙ sym (O.numbers y m))

  -- what is counted afresh is right
  pub afresh_right : (rows : List ℕ) (told : Answer) (counted : List ℕ) → Counts k s rows told counted → is_done told ≡ true → Right k s counted
  afresh_right rows told counted C e =
      let p = done_places k (length s) (length rows) (done []) (sym (ap is_done C.tells) ∙ e) in
      subst (Right k s) (sym (C.counts ∙ simp e)) (tally_right rows p.1)

module _ (d : Drawing) (lent rows : List ℕ) (reply : Answer) (bytes after : List ℕ) (T : Tallies d lent rows reply bytes after) where
  -- refused, all is as before
  same_bytes : is_done reply ≡ false → bytes ≡ lent
  same_bytes e = T.paints.leaves ∙ simp (sym (ap is_done T.paints.tells) ∙ e)

  same_list : is_done reply ≡ false → after ≡ rows
  same_list e = T.counts ∙ simp e

  -- done, the list is that of the painted bytes
  painted : is_done reply ≡ true → bytes ≡ paint_all d.shape d.figures lent
  painted e = T.paints.leaves ∙ simp (sym (ap is_done T.paints.tells) ∙ e)

  recounted_right : is_done reply ≡ true → Right d.shape lent rows → Right d.shape bytes after
  recounted_right e R = subst (Right d.shape bytes) (sym (T.counts ∙ simp e)) (tally_right d.shape bytes rows R.places)

  keeps_right : Right d.shape lent rows → Right d.shape bytes after
  keeps_right R = by (is_done reply) refl
    where
      by : (t : Bool) → is_done reply ≡ t → Right d.shape bytes after
      by true e = recounted_right e R
      by false e = rw (same_bytes e, same_list e) R

  -- a row that no figure has a cell in
  keeps_clear : (is_done reply ≡ true → (fits d.shape (length lent) ≡ true) × Right d.shape lent rows)
      → (y : ℕ) → (y < d.shape.height → Clear d.shape y d.figures) → get_or after y 0 ≡ get_or rows y 0
  keeps_clear only y c = by (is_done reply) refl
    where
      at : is_done reply ≡ true → Dec (y < d.shape.height) → get_or after y 0 ≡ get_or rows y 0
      at e (yes l) =
          let o = only e in
          let z = fits_sheet d.shape lent o.0 in
          (recounted_right e o.1).numbers y l
          ∙ ap (λ (s : List ℕ). row_count d.shape s y) (painted e)
          ∙ clear_stays d.shape d.figures lent y z l (c l)
          ∙ sym (o.1.numbers y l)
      at e (no l) =
          let o = only e in
          get_or-eq_default after 0 (omega (arith, (recounted_right e o.1).places)) ∙ sym (get_or-eq_default rows 0 (omega (arith, o.1.places)))

      by : (t : Bool) → is_done reply ≡ t → get_or after y 0 ≡ get_or rows y 0
      by true e = at e (dec_lt y d.shape.height)
      by false e = ap (λ (r : List ℕ). get_or r y 0) (same_list e)

  -- A drawing that is done only beside a list that is right, on a sheet, keeps it.
  pub tally_kept : (is_done reply ≡ true → (fits d.shape (length lent) ≡ true) × Right d.shape lent rows)
      → Kept d.shape d.figures lent rows reply bytes after
  tally_kept only =
      record {
        right = keeps_right;
        afresh = λ R other told counted C e. right_one d.shape bytes after counted (keeps_right R) (afresh_right d.shape bytes other told counted C e);
        wrong = λ w. let n = refused w in (n, same_bytes n, same_list n);
        undrawn = λ y c. keeps_clear only y (λ l. c);
        outside = λ y o. keeps_clear only y (λ l. outside_clear d.shape d.figures y l o);
      }
    where
      refused : (Right d.shape lent rows → ⊥) → is_done reply ≡ false
      refused w = is_false (is_done reply) (λ t. w (only (is_true (is_done reply) t)).1)
