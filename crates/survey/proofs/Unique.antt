-- Two replies that are told alike are equal: the telling of each is one-to-one.
use mathlib.Core.Path.{◌≡◌, refl, sym, ap, ◌∙◌}
use mathlib.Core.List.{List, [], ◌∷◌}
use lib.ListN.{get_or}
use lib.IntN.{ℤ, pos, nat_abs}
use Rattle.std.specs.Prelude.{Result}
use Rattle.sheet.specs.Reply.{Answer, told}
use Rattle.sheet.specs.Figure.{kind_of, values_of}
use Rattle.sheet.specs.declared.Figure.{Figure}
use Rattle.sheet.specs.declared.refusal.Refusal.{Refusal}
use Rattle.sheet.proofs.Figures.{figure_of, figure_of_lem}
use Rattle.sheet.proofs.Unique.{told_one}
use Rattle.survey.specs.Cell.{coordinate_answer}
use Rattle.survey.specs.Metres.{figure_answer}

pub found_one : (r s : Result ℤ Refusal) → told coordinate_answer r ≡ told coordinate_answer s → r ≡ s
found_one = told_one coordinate_answer (λ k. refl) (λ j k e. ap (λ (a : Answer). get_or a.values 0 (pos 0)) e)

-- the figure that its kind and values tell
told_figure : List ℤ → Figure
told_figure [] = figure_of 0 []
told_figure (kind ∷ v) = figure_of (nat_abs kind) v

figure_one : (f g : Figure) → figure_answer f ≡ figure_answer g → f ≡ g
unfolding told_figure
figure_one f g e =
    let same : figure_of (kind_of f) (values_of f) ≡ figure_of (kind_of g) (values_of g) = ap (λ (a : Answer). told_figure a.values) e in
    sym (figure_of_lem f) ∙ same ∙ figure_of_lem g

pub in_cells_one : (r s : Result Figure Refusal) → told figure_answer r ≡ told figure_answer s → r ≡ s
in_cells_one = told_one figure_answer (λ f. refl) figure_one
