-- The tests before a drawing beside a list: what `if_places` and `if_tally` come to.
use Prim.Native.Nat.{ℕ}
use mathlib.Core.Path.{◌≡◌, refl, sym, ap, ◌∙◌}
use mathlib.Core.List.{List, []}
use mathlib.Core.Bool.{Bool, true, false, ◌&&◌, true≢false}
use borrow.Author.Tests.{eqb-true, eq-eqb}
use lib.Dec.{eqb}
use lib.ListN.{length}
use Rattle.std.specs.Prelude.{Result, Ok, Err, IsErrAnd}
use Rattle.sheet.specs.Sheet.{sized, sliced}
use Rattle.sheet.specs.Reply.{Answer, done, refuse, refuse_at, told, told_file, test_answer, drawn_answer, is_done, unless}
use Rattle.sheet.specs.Drawing.{if_sheet}
use Rattle.sheet.specs.Inner.{fits}
use Rattle.sheet.specs.declared.Drawn.{Drawn}
use Rattle.sheet.specs.declared.Shape.{Shape}
use Rattle.sheet.specs.declared.refusal.FileRefusal.{FileRefusal}
use Rattle.sheet.specs.declared.refusal.Refusal.{Refusal}
use Rattle.sheet.specs.declared.refusal.Refusal.TheVariants.{Size, Slice, Places, Tally}
use Rattle.sheet.proofs.Unique.{number_not_0}
use Rattle.tally.specs.Tally.{right, if_places, if_tally, recounted}

-- four tests in turn, before an answer
abbrev after : Bool → Bool → Bool → Bool → Answer → Answer
after s t u v next = unless s Size (unless t Slice (unless u Places (unless v Tally next)))

done_after : (s t u v : Bool) (next : Answer) → is_done (after s t u v next) ≡ true → ((s && t) ≡ true) × (u ≡ true) × (v ≡ true)
done_after true true true true next e = (refl, refl, refl)
done_after true true true false next e = absurd (true≢false (sym e))
done_after true true false v next e = absurd (true≢false (sym e))
done_after true false u v next e = absurd (true≢false (sym e))
done_after false t u v next e = absurd (true≢false (sym e))

refused_after : (s t u v : Bool) (next : Answer) → is_done (after s t u v (done [])) ≡ false → after s t u v next ≡ after s t u v (done [])
refused_after true true true true next e = absurd (true≢false e)
refused_after true true true false next e = refl
refused_after true true false v next e = refl
refused_after true false u v next e = refl
refused_after false t u v next e = refl

passed_after : (s t u v : Bool) (next : Answer) → (s && t) ≡ true → u ≡ true → v ≡ true → after s t u v next ≡ next
passed_after true t u v next e f g = simp (e, f, g)
passed_after false t u v next e f g = absurd (true≢false (sym e))

module _ (k : Shape) (n places : ℕ) where
  -- a sheet and a list with one place for each row
  pub if_places_lem : fits k n ≡ true → places ≡ k.height → (next : Answer) → if_places k n places next ≡ next
  unfolding if_places if_sheet fits
  if_places_lem f e next = passed_after (sized k) (sliced k n) (eqb places k.height) true next f (eq-eqb places k.height e) refl

  pub done_places : (next : Answer) → is_done (if_places k n places next) ≡ true → (fits k n ≡ true) × (places ≡ k.height)
  unfolding if_places if_sheet fits
  done_places next e =
      let p = done_after (sized k) (sliced k n) (eqb places k.height) true next e in
      (p.0, eqb-true places k.height p.1)

  pub refused_places : (next : Answer) → is_done (if_places k n places (done [])) ≡ false → if_places k n places next ≡ if_places k n places (done [])
  unfolding if_places if_sheet
  refused_places next e = refused_after (sized k) (sliced k n) (eqb places k.height) true next e

  -- what the tests have shown that were answered with a refusal, and with none
  pub no_places : (r : Refusal) → told test_answer (Err r) ≡ if_places k n places (done []) → (next : Answer) → if_places k n places next ≡ refuse r
  no_places r e next = refused_places next (ap is_done (sym e) ∙ number_not_0 r) ∙ sym e

  pub is_places : told test_answer (Ok tt) ≡ if_places k n places (done []) → (fits k n ≡ true) × (places ≡ k.height)
  is_places e = done_places (done []) (ap is_done (sym e))

module _ (k : Shape) (n : ℕ) (lent rows : List ℕ) where
  -- and a list that is right
  pub if_tally_lem : fits k n ≡ true → length rows ≡ k.height → right k lent rows ≡ true → (next : Answer) → if_tally k n lent rows next ≡ next
  unfolding if_tally if_places if_sheet fits
  if_tally_lem f e g next = passed_after (sized k) (sliced k n) (eqb (length rows) k.height) (right k lent rows) next f (eq-eqb (length rows) k.height e) g

  pub done_tally : (next : Answer) → is_done (if_tally k n lent rows next) ≡ true → (fits k n ≡ true) × (length rows ≡ k.height) × (right k lent rows ≡ true)
  unfolding if_tally if_places if_sheet fits
  done_tally next e =
      let p = done_after (sized k) (sliced k n) (eqb (length rows) k.height) (right k lent rows) next e in
      (p.0, eqb-true (length rows) k.height p.1, p.2)

  pub refused_tally : (next : Answer) → is_done (if_tally k n lent rows (done [])) ≡ false → if_tally k n lent rows next ≡ if_tally k n lent rows (done [])
  unfolding if_tally if_places if_sheet
  refused_tally next e = refused_after (sized k) (sliced k n) (eqb (length rows) k.height) (right k lent rows) next e

-- refused, a list is as before
pub list_stays : {A : Type 0} (answer : A → Answer) (k : Shape) (s rows : List ℕ) (reply : Result A Refusal) (r : Refusal) → IsErrAnd reply (λ q. q ≡ r)
    → rows ≡ recounted k (told answer reply) s rows
list_stays answer k s rows (Ok a) r h = absurd h
list_stays answer k s rows (Err q) r h = sym (simp (number_not_0 q))

-- and of a file
pub file_err : (reply : Result Drawn FileRefusal) (f : FileRefusal) → IsErrAnd reply (λ g. g ≡ f) → told_file drawn_answer reply ≡ refuse_at f.refusal f.offset
file_err (Ok d) f h = absurd h
file_err (Err g) f h = ap (λ (f : FileRefusal). refuse_at f.refusal f.offset) h
