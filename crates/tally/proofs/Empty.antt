-- No program that refuses all, always replies the same, draws nothing or leaves the list meets a statement about tallies: on a sheet of
-- one cell, lent as 0, beside a list that holds 0, all is as without a list.
use Prim.Native.Nat.{ℕ}
use mathlib.Core.Path.{◌≡◌, refl, sym, subst, ap, ◌∙◌}
use mathlib.Core.List.{List, [], ◌∷◌}
use mathlib.Core.Bool.{true}
use native.Mathlib.Omega.{arith}
use lib.ListN.{get_or}
use Rattle.laws.specs.Below.{any, count}
use Rattle.sheet.specs.Sheet.{place, cell_of, by_place}
use Rattle.sheet.specs.Reply.{Answer, done, is_done}
use Rattle.sheet.specs.Drawing.{if_sheet, Drawing, Draws}
use Rattle.sheet.specs.Inner.{fits}
use Rattle.sheet.specs.declared.Shape.{Shape}
use Rattle.sheet.proofs.Empty.{Both}
use Rattle.drawing.proofs.Nothing.{small}
use Rattle.fill.specs.Fill.{FillsAs}
use Rattle.fill.proofs.Examples.{fill_draws}
use Rattle.tally.specs.Tally.{row_count, tally_of, right, if_places, if_tally, recounted, Counts, beside, plain}
use Rattle.tally.proofs.Beside.{Listed, Keeping, draws_without}
use Rattle.tally.proofs.Every.{fill_as_without}
use Rattle.tally.proofs.Kept.{right_of}
use Rattle.tally.proofs.Tests.{if_tally_lem}

abbrev none : List ℕ
none = 0 ∷ []

abbrev one : List ℕ
one = 1 ∷ []

listed : Listed small none none
unfolding fits right row_count count any place
listed = record { fit = refl; places = refl; held = refl }

-- Both inputs of a function without a list are both of its tallied form, in any form of its answers.
pub beside_both : {I : Type 0} (form : Answer → Answer) → Keeping form → (next : I → Answer) (i j : I) → Both next i j
    → Both (λ (k : I). form (if_tally small 1 none none (next k))) i j
beside_both {I} form same next i j b = record { done = told i ∙ b.done; refused = told j ∙ b.refused }
  where
    told : (k : I) → is_done (form (if_tally small 1 none none (next k))) ≡ is_done (next k)
    told k =
        ap (λ (n : ℕ). is_done (record { number = n; values = []; box = (next k).box })) (same (if_tally small 1 none none (next k)))
        ∙ ap is_done (if_tally_lem small 1 none none listed.fit listed.places listed.held (next k))

-- What is no drawing without a list is none beside it.
pub beside_draws : (form : Answer → Answer) (d : Drawing) → d.shape ≡ small → form (d.answer 1) ≡ d.answer 1
    → ((a : Answer) → Draws d none a none → ⊥) → (a : Answer) → Draws (beside form none none d) none a none → ⊥
beside_draws form d p same n a h = n a (draws_without form d none none (subst (λ (k : Shape). Listed k none none) (sym p) listed) same a none h)

pub fill_beside_draws : (a : Answer) → FillsAs (beside plain none none) small (cell_of 0 0) 1 2 1 none a none → ⊥
fill_beside_draws a F =
    fill_draws a (fill_as_without small (cell_of 0 0) 1 2 1 none none a none listed.fit (right_of small none none listed.places listed.held) F)

-- A list that holds 0 is right, and one that holds 1 is not; one place is one for each row, and no place is not.
pub check_list_both : Both (λ (rows : List ℕ). if_tally small 1 none rows (done [])) none one
unfolding if_tally if_places if_sheet right row_count count any place
check_list_both = record { done = refl; refused = refl }

pub count_both : Both (λ (places : ℕ). if_places small 1 places (done [])) 1 0
unfolding if_places if_sheet
count_both = record { done = refl; refused = refl }

-- A list that held 0 holds 1 after the one cell is set, whether it is counted afresh or kept.
pub list_moves : (a : Answer) → is_done a ≡ true → none ≡ recounted small a one none → ⊥
unfolding tally_of by_place row_count count place
list_moves a e f =
    let g : none ≡ one = f ∙ simp e in
    let z : ◌≡◌ {A = ℕ} 0 1 = ap (λ (s : List ℕ). get_or s 0 0) g in
    omega arith

pub count_lists : (a : Answer) → Counts small one none a none → ⊥
unfolding if_places if_sheet
count_lists a C = list_moves a (ap is_done C.tells) C.counts
