-- Two replies of a read, or of a done rescue, that meet one statement are equal: its telling is one-to-one.
use mathlib.Core.Path.{◌≡◌, refl, sym, ap, ◌∙◌}
use mathlib.Core.List.{List, [], ◌∷◌}
use mathlib.Core.Bool.{cond}
use lib.IntN.{ℤ, nat_abs}
use lib.ListN.{drop}
use Rattle.std.specs.Prelude.{Result}
use Rattle.sheet.specs.Reply.{Answer, told, is_done}
use Rattle.sheet.specs.declared.refusal.Refusal.{Refusal}
use Rattle.sheet.specs.Figure.{number_in}
use Rattle.sheet.proofs.Figures.{figure_of, figure_of_lem}
use Rattle.sheet.proofs.Unique.{refusal, refusal-number, number_not_0, told_one}
use Rattle.record.specs.Reading.{told_read}
use Rattle.record.specs.Rescue.{rescued_answer}
use Rattle.sheet.specs.declared.Figure.{Figure}
use Rattle.record.specs.declared.types.Read.{Read}
use Rattle.record.specs.declared.types.Read.TheVariants as read
use Rattle.record.specs.declared.types.Rescued.{Rescued}

-- the reply that an answer tells
done_of : List ℤ → Read
done_of [] = read.End
done_of (offset ∷ v) = read.Record (record { offset = nat_abs offset; next = number_in v 0; ink = number_in v 2; figure = figure_of (number_in v 1) (drop 3 v) })

read_told : Answer → Read
read_told a = cond (is_done a) (done_of a.values) (read.Refused (refusal a.number) (number_in a.values 0))

read_told_lem : (r : Read) → read_told (told_read r) ≡ r
unfolding read_told done_of
read_told_lem (read.Record r) =
    ap (λ (f : Figure). read.Record (record { offset = r.offset; next = r.next; ink = r.ink; figure = f })) (figure_of_lem r.figure)
read_told_lem read.End = refl
read_told_lem (read.Refused q at) = simp (number_not_0 q, refusal-number q)

-- two replies told alike are equal
pub read_one : (r q : Read) → told_read r ≡ told_read q → r ≡ q
read_one r q e = sym (read_told_lem r) ∙ ap read_told e ∙ read_told_lem q

-- two done rescues told alike are equal
pub rescued_one : (r q : Rescued) → rescued_answer r ≡ rescued_answer q → r ≡ q
rescued_one r q e =
    let copied : r.copied ≡ q.copied = ap (λ (a : Answer). number_in a.values 0) e in
    let listed : r.listed ≡ q.listed = ap (λ (a : Answer). number_in a.values 1) e in
    λ i. record { copied = copied i; listed = listed i }

-- and so are two rescues, done or refused
pub rescue_one : (r q : Result Rescued Refusal) → told rescued_answer r ≡ told rescued_answer q → r ≡ q
rescue_one = told_one rescued_answer (λ r. refl) rescued_one
