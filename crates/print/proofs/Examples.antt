-- Document 01, "Record file" and "Checked examples": a lone byte, the empty file, numbers in decimal digits.
use Prim.Native.Nat.{ℕ}
use mathlib.Core.Path.{◌≡◌, refl, sym, ap, ◌∙◌}
use mathlib.Core.List.{List, [], ◌∷◌}
use mathlib.Core.Bool.{Bool, true, false}
use native.Mathlib.Omega.{arith}
use lib.ListN.{get_or}
use Rattle.sheet.specs.Sheet.{place}
use Rattle.sheet.specs.Drawing.{if_sheet}
use Rattle.sheet.proofs.Empty.{Differ}
use Rattle.record.specs.Reading.{found_at, read_at}
use Rattle.record.specs.File.{read_in, read_from, read_all, file_answer}
use Rattle.drawing.specs.File.{draw_file_answer}
use Rattle.laws.specs.Text.{decimal_in, decimal}
use Rattle.print.specs.Text.{in_turn, zeros, character_at, line, picture, refusal, text_of, reply_of}

-- 0, 10, 4083
pub some_decimals : (decimal 0 ≡ 48 ∷ []) × (decimal 10 ≡ 49 ∷ 48 ∷ []) × (decimal 4083 ≡ 52 ∷ 48 ∷ 56 ∷ 51 ∷ [])
unfolding decimal decimal_in
some_decimals = (refl, refl, refl)

-- `refused 8 at 0`
pub lone_byte : (b : ℕ) → text_of (b ∷ []) ≡ 114 ∷ 101 ∷ 102 ∷ 117 ∷ 115 ∷ 101 ∷ 100 ∷ 32 ∷ 56 ∷ 32 ∷ 97 ∷ 116 ∷ 32 ∷ 48 ∷ 10 ∷ []
unfolding text_of refusal decimal decimal_in draw_file_answer if_sheet file_answer read_all read_from read_in read_at found_at
lone_byte b = refl

-- the picture of the sheet of zeros
pub empty_text : text_of [] ≡ picture zeros
unfolding text_of draw_file_answer if_sheet file_answer read_all read_from read_in read_at found_at
empty_text = refl

-- A program that refuses all prints the line of a refusal, which begins with `r`, where the empty file's picture begins with `.`.
pub text_shows : (number offset : ℕ) → refusal number offset ≡ text_of [] → ⊥
unfolding text_of refusal picture line in_turn character_at place draw_file_answer if_sheet file_answer read_all read_from read_in read_at found_at
text_shows number offset e = let z : ◌≡◌ {A = ℕ} 114 46 = ap (λ (s : List ℕ). get_or s 0 0) e in omega arith

-- One that always prints the same has one text for a lone byte and for the empty file.
pub text_differs : Differ text_of (0 ∷ []) []
unfolding refusal decimal decimal_in
text_differs e = text_shows 8 0 (sym (lone_byte 0) ∙ e)

-- and one for the empty file read whole and for a read that failed, whose line begins with `i`
pub reply_differs : Differ (λ (whole : Bool). reply_of whole []) true false
unfolding reply_of text_of picture line in_turn character_at place draw_file_answer if_sheet file_answer read_all read_from read_in read_at found_at
reply_differs e = let z : ◌≡◌ {A = ℕ} 46 105 = ap (λ (s : List ℕ). get_or s 0 0) e in omega arith
