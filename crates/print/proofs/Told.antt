-- What is printed in each case.
use Prim.Native.Nat.{ℕ, ◌≤◌, ◌<◌}
use mathlib.Core.Path.{◌≡◌, sym, ap, ap₂, subst, ◌∙◌}
use mathlib.Core.List.{List}
use mathlib.Core.Bool.{Bool, true, false, cond}
use lib.ListN.{length}
use borrow.Author.Tests.{le-leb, lt-leb}
use Rattle.sheet.specs.Sheet.{bytes}
use Rattle.sheet.specs.Reply.{Answer, is_done, value_of}
use Rattle.sheet.specs.Drawing.{paint_all, telling, Draws}
use Rattle.sheet.proofs.Draws.{drawn as drawn_whole}
use Rattle.drawing.specs.File.{figures_in, draw_file_answer, file_drawing}
use Rattle.laws.specs.Text.{written_over}
use Rattle.print.specs.Text.{sheet, zeros, picture, refusal, too_long, printed, text_of, unreadable, reply_of}
use Rattle.laws.proofs.Written.{Written, write_ends}

-- what is answered of a file, and what is drawn of one that is not refused
abbrev answer : List ℕ → Answer
answer file = draw_file_answer sheet file (bytes sheet)

abbrev painted : List ℕ → List ℕ
painted file = paint_all sheet (figures_in file) zeros

pub text_too_long : (file : List ℕ) → 4096 < length file → text_of file ≡ too_long
unfolding text_of
text_too_long file l = ap (λ (t : Bool). cond t (printed (answer file) (painted file)) too_long) (lt-leb (length file) 4096 l)

module _ (file drawn : List ℕ) (a : Answer) (l : length file ≤ 4096) (h : Draws (file_drawing sheet file) zeros a drawn) where
  text_told : (t : Bool) → is_done a ≡ t → text_of file ≡ cond t (picture (painted file)) (refusal a.number (value_of a))
  unfolding text_of
  text_told t e =
      ap (λ (t : Bool). cond t (printed (answer file) (painted file)) too_long) (le-leb (length file) 4096 l)
      ∙ ap (λ (b : Answer). printed b (painted file)) (sym h.tells)
      ∙ ap (λ (t : Bool). cond t (picture (painted file)) (refusal a.number (value_of a))) e

  pub text_drawn : is_done a ≡ true → text_of file ≡ picture drawn
  text_drawn e = text_told true e ∙ ap picture (sym (drawn_whole (telling (file_drawing sheet file)) zeros a drawn h (ap is_done (sym h.tells) ∙ e)))

  pub text_refused : (n at : ℕ) → is_done a ≡ false → n ≡ a.number → at ≡ value_of a → text_of file ≡ refusal n at
  text_refused n at e m o = text_told false e ∙ ap₂ refusal (sym m) (sym o)

pub reply_whole : (whole : Bool) (file : List ℕ) → whole ≡ true → reply_of whole file ≡ text_of file
unfolding reply_of
reply_whole whole file e = ap (λ (t : Bool). cond t (text_of file) unreadable) e

pub reply_failed : (whole : Bool) (file : List ℕ) → whole ≡ false → reply_of whole file ≡ unreadable
unfolding reply_of
reply_failed whole file e = ap (λ (t : Bool). cond t (text_of file) unreadable) e

-- a text that is the one wanted
pub begins : (wanted text before after : List ℕ) (r : ℕ) → wanted ≡ text → (r ≡ length text) × (after ≡ written_over text before)
    → (r ≡ length wanted) × (after ≡ written_over wanted before)
begins wanted text before after r e h =
    subst (λ (t : List ℕ). (r ≡ length t) × (after ≡ written_over t before)) (sym e) h

-- a written text that is the file's
pub prints : (file text before after : List ℕ) (r : ℕ) → text_of file ≡ text → Written before text after r → r ≤ length before
    → (r ≡ length (text_of file)) × (after ≡ written_over (text_of file) before)
prints file text before after r e w l = begins (text_of file) text before after r e (write_ends before text after r w l)
