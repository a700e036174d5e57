-- The code's answer tells the paper's: what `read_at` gives is told as `read_answer`.
use Prim.Native.Nat.{ℕ, ◌≤◌, ◌<◌}
use mathlib.Core.Path.{◌≡◌, refl, ap, ◌∙◌}
use mathlib.Core.List.{List}
use lib.ListN.{length}
use Rattle.sheet.specs.declared.refusal.Refusal.{Refusal}
use Rattle.record.specs.Layout.{line_row, circle_row, ellipse_row, curve_row, cubic_row, table}
use Rattle.record.specs.Reading.{Found, refused, values_from, payload_at, answer_of, read_of, read_at, read_answer, told_read}
use Rattle.record.specs.declared.types.Read.{Read}
use Rattle.record.proofs.Found.{kind_has, found_has}

abbrev Tells : Found → Type 0
Tells f = told_read (read_of f) ≡ answer_of f

pub told_read_lem : (s : List ℕ) (at : ℕ) → told_read (read_at s at) ≡ read_answer s at
unfolding read_at read_answer values_from table line_row circle_row ellipse_row curve_row cubic_row
told_read_lem s at =
    let no : (r : Refusal) (o : ℕ) → at ≤ o → o < length s → Tells (refused r o) = λ r o a b. refl in
    found_has s at Tells no (λ e. refl)
    (λ a b i. kind_has at (length s) Tells no (payload_at s at) _ i _ (λ e m l. refl, (λ e m l. refl, (λ e m l. refl, (λ e m l. refl, (λ e m l. refl, tt))))))

-- both promises of a read
pub answers : (s : List ℕ) (at : ℕ) (r : Read) → r ≡ read_at s at → (told_read r ≡ read_answer s at) × (r ≡ read_at s at)
answers s at r e = (ap told_read e ∙ told_read_lem s at, e)
