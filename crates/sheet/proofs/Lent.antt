-- The test of a sheet, with which every drawing's answer begins.
use Prim.Native.Nat.{ℕ}
use mathlib.Core.Path.{◌≡◌, refl, sym, ap, ◌∙◌}
use mathlib.Core.List.{List, []}
use mathlib.Core.Bool.{Bool, true, false, ◌&&◌, true≢false}
use lib.IntN.{ℤ}
use lib.ListN.{length}
use Rattle.std.specs.Prelude.{Result, Ok, Err, is_err, IsErrAnd}
use Rattle.sheet.specs.Sheet.{sized, sliced}
use Rattle.sheet.specs.Reply.{Answer, done, refuse, told, test_answer, drawn_answer, is_done, unless}
use Rattle.sheet.specs.Drawing.{if_sheet, Drawing, Draws}
use Rattle.sheet.specs.Inner.{fits}
use Rattle.sheet.specs.declared.Drawn.{Drawn}
use Rattle.sheet.specs.declared.Shape.{Shape}
use Rattle.sheet.specs.declared.refusal.Refusal.{Refusal}
use Rattle.sheet.specs.declared.refusal.Refusal.TheVariants.{Size, Slice}
use Rattle.sheet.proofs.Draws.{refuses}
use Rattle.sheet.proofs.Unique.{number_not_0}

-- two tests in turn, before an answer
abbrev after : Bool → Bool → Answer → Answer
after s t next = unless s Size (unless t Slice next)

both_passed : (s t : Bool) (next : Answer) → (s && t) ≡ true → after s t next ≡ next
both_passed true t next e = simp e
both_passed false t next e = absurd (true≢false (sym e))

done_after : (s t : Bool) → is_done (after s t (done [])) ≡ true → (s && t) ≡ true
done_after true true e = refl
done_after true false e = absurd (true≢false (sym e))
done_after false t e = absurd (true≢false (sym e))

not_after : (s t : Bool) → is_done (after s t (done [])) ≡ false → (s && t) ≡ false
not_after true true e = absurd (true≢false e)
not_after true false e = refl
not_after false t e = refl

refused_after : (s t : Bool) (next : Answer) → is_done (after s t (done [])) ≡ false → after s t next ≡ after s t (done [])
refused_after true true next e = absurd (true≢false e)
refused_after true false next e = refl
refused_after false t next e = refl

twice_after : (s t : Bool) (next : Answer) → after s t (after s t next) ≡ after s t next
twice_after true true next = refl
twice_after true false next = refl
twice_after false t next = refl

done_alike : (s t : Bool) (v w : List ℤ) → is_done (after s t (done v)) ≡ is_done (after s t (done w))
done_alike true true v w = refl
done_alike true false v w = refl
done_alike false t v w = refl

cases_after : (P : Answer → Type 0) (s t : Bool) (next : Answer) → ((r : Refusal) → P (refuse r)) → ((s && t) ≡ true → P next) → P (after s t next)
cases_after P true true next refused follows = follows refl
cases_after P true false next refused follows = refused Slice
cases_after P false t next refused follows = refused Size

module _ (k : Shape) (n : ℕ) where
  -- on a sheet what follows is the answer
  pub if_sheet_lem : fits k n ≡ true → (next : Answer) → if_sheet k n next ≡ next
  unfolding if_sheet fits
  if_sheet_lem e next = both_passed (sized k) (sliced k n) next e

  -- what holds of every refusal, and of what follows on a sheet, holds of the answer
  pub sheet_cases : (P : Answer → Type 0) (next : Answer) → ((r : Refusal) → P (refuse r)) → (fits k n ≡ true → P next) → P (if_sheet k n next)
  unfolding if_sheet fits
  sheet_cases P next refused follows = cases_after P (sized k) (sliced k n) next refused follows

  -- an answer that is 0 is of a sheet
  pub done_sheet : (next : Answer) → is_done (if_sheet k n next) ≡ true → fits k n ≡ true
  done_sheet next = sheet_cases (λ a. is_done a ≡ true → fits k n ≡ true) next (λ r e. absurd (true≢false (sym e ∙ number_not_0 r))) (λ e f. e)

  -- tested again, it comes to the same
  pub sheet_again : (next : Answer) → if_sheet k n (if_sheet k n next) ≡ if_sheet k n next
  unfolding if_sheet
  sheet_again next = twice_after (sized k) (sliced k n) next

  -- whether an answer is 0 after it does not turn on its values
  pub sheet_done : (v w : List ℤ) → is_done (if_sheet k n (done v)) ≡ is_done (if_sheet k n (done w))
  unfolding if_sheet
  sheet_done v w = done_alike (sized k) (sliced k n) v w

  -- what a test of the sheet that was answered with a refusal, and with none, has shown
  pub no_sheet : (r : Refusal) → told test_answer (Err r) ≡ if_sheet k n (done []) → (next : Answer) → if_sheet k n next ≡ refuse r
  unfolding if_sheet
  no_sheet r e next = refused_after (sized k) (sliced k n) next (ap is_done (sym e) ∙ number_not_0 r) ∙ sym e

  pub is_no_sheet : (r : Refusal) → told test_answer (Err r) ≡ if_sheet k n (done []) → fits k n ≡ false
  unfolding if_sheet fits
  is_no_sheet r e = not_after (sized k) (sliced k n) (ap is_done (sym e) ∙ number_not_0 r)

  pub is_sheet : told test_answer (Ok tt) ≡ if_sheet k n (done []) → fits k n ≡ true
  unfolding if_sheet fits
  is_sheet e = done_after (sized k) (sliced k n) (ap is_done (sym e))

  -- the same of a test that is asked with `is_err`
  pub passed_sheet : (reply : Result (Unit {0}) Refusal) → told test_answer reply ≡ if_sheet k n (done []) → false ≡ is_err reply → fits k n ≡ true
  passed_sheet (Ok _) e h = is_sheet e
  passed_sheet (Err r) e h = absurd (true≢false (sym h))

  pub failed_sheet : (reply : Result (Unit {0}) Refusal) → told test_answer reply ≡ if_sheet k n (done []) → true ≡ is_err reply → fits k n ≡ false
  failed_sheet (Ok _) e h = absurd (true≢false h)
  failed_sheet (Err r) e h = is_no_sheet r e

-- what is told where `?` passes a refusal on
pub told_err : {A : Type 0} (answer : A → Answer) (reply : Result A Refusal) (r : Refusal) → IsErrAnd reply (λ q. q ≡ r) → told answer reply ≡ refuse r
told_err answer (Ok a) r h = absurd h
told_err answer (Err q) r h = ap refuse h

-- a drawing that is refused for its sheet
pub sheet_refused : (d : Drawing) (k : Shape) (s : List ℕ) (reply : Result Drawn Refusal) (r : Refusal) (next : Answer) → d.answer (length s) ≡ if_sheet k (length s) next
    → told test_answer (Err r) ≡ if_sheet k (length s) (done []) → IsErrAnd reply (λ q. q ≡ r) → Draws d s (told drawn_answer reply) s
sheet_refused d k s reply r next is e h =
    rw (told_err drawn_answer reply r h) (refuses d s r (is ∙ no_sheet k (length s) r e next))
