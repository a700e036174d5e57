-- The pitch does not matter to a fill, and padding never changes.
use Prim.Native.Nat.{ℕ, ◌*◌}
use mathlib.Core.Path.{◌≡◌, sym, subst₂, ap, ◌∙◌}
use mathlib.Core.List.{List, [], ◌∷◌}
use mathlib.Core.Logic.{◌↔◌}
use mathlib.Core.Bool.{Bool, true}
use lib.Dec.{leb}
use lib.IntN.{pos}
use lib.ListN.{length, get_or}
use Rattle.sheet.specs.Sheet.{on_sheet, paint, cells_on}
use Rattle.sheet.specs.Reply.{Answer, done, unless, is_done}
use Rattle.sheet.specs.Drawing.{only}
use Rattle.sheet.specs.Pitch.{Padding, with_pitch, Alike}
use Rattle.sheet.specs.Inner.{fits}
use Rattle.sheet.specs.declared.Cell.{Cell}
use Rattle.sheet.specs.declared.Shape.{Shape}
use Rattle.sheet.specs.declared.refusal.Refusal.TheVariants.{Work, Start}
use Rattle.sheet.proofs.Count.{cells_pitch}
use Rattle.sheet.proofs.Limits.{fits_disjoint}
use Rattle.sheet.proofs.Pitch.{padding_stays, paint_alike, paints_any_pitch, on_sheets}
use Rattle.fill.specs.Territory.{Open, Reach}
use Rattle.fill.specs.Fill.{fill_answer, Fills}
use Rattle.fill.proofs.Reaching.{reach_then, reach_back, reach_as, tests_same}
use Rattle.fill.proofs.Outcome.{finished, turns_not, told_by}

-- A fill leaves padding as it was.
pub fill_padding : {k : Shape} {a : Cell} {b i p : ℕ} {lent : List ℕ} {r : Answer} {s : List ℕ} → Fills k a b i p lent r s
    → (n : ℕ) → Padding k n → get_or s n 0 ≡ get_or lent n 0
fill_padding F = padding_stays _ _ _ _ F.draws

-- the answer for one test, with any pitch
module _ (a : Cell) (p : ℕ) (f : Cell → Bool) where
  answer_pitch : (k : Shape) (pitch n m : ℕ) → fits k n ≡ true → fits (with_pitch k pitch) m ≡ true
      → fill_answer k a p f n ≡ fill_answer (with_pitch k pitch) a p f m
  unfolding fill_answer on_sheet
  answer_pitch k pitch n m e g =
      on_sheets k (with_pitch k pitch) n m _ _ e g
      (ap (λ (c : ℕ). unless (leb (k.width * k.height) p) Work (unless (on_sheet k a) Start (done (pos c ∷ []))))
      (cells_pitch f k pitch (fits_disjoint k n e) (fits_disjoint (with_pitch k pitch) m g)))

-- On two sheets that are alike cell for cell,
module _ {k : Shape} {pitch : ℕ} {lent other : List ℕ} (h : Alike k pitch lent other) where
  -- the same cells are reached,
  pub reach_pitch : (b : ℕ) (a c : Cell) → Reach k b lent a c ↔ Reach (with_pitch k pitch) b other a c
  unfolding on_sheet
  reach_pitch b a c = (reach_as there, reach_as back)
    where
      there : (c : Cell) → Open k b lent c → Open (with_pitch k pitch) b other c
      there c o = record { on = o.on; other = λ q. o.other (h.cells c o.on ∙ q) }

      back : (c : Cell) → Open (with_pitch k pitch) b other c → Open k b lent c
      back c o = record { on = o.on; other = λ q. o.other (sym (h.cells c o.on) ∙ q) }

  -- a fill gives equal replies and leaves them alike,
  pub fill_any_pitch : {a : Cell} {b i p : ℕ} {r r' : Answer} {s s' : List ℕ}
      → Fills k a b i p lent r s → Fills (with_pitch k pitch) a b i p other r' s' → (r ≡ r') × Alike k pitch s s'
  unfolding fits
  fill_any_pitch {a} {b} {i} {p} {r} {r'} {s} {s'} F G =
      let f = F.territory in
      let told = F.draws.tells ∙ answer_pitch a p f k pitch (length lent) (length other) h.one h.other in
      let same = (turns_not (with_pitch k pitch) a p (length other) f G.territory).0 in
      let done : is_done r ≡ is_done r' = ap is_done told ∙ same ∙ sym (ap is_done G.draws.tells) in
      paints_any_pitch (λ k. fill_answer k a p f) (only i f) (answer_pitch a p f) k pitch lent other r r' s s' h F.draws
      (told_by G f (λ e. tests_same (G.decides e) (F.decides (done ∙ e)) (λ c. (reach_pitch b a c).1) (λ c. (reach_pitch b a c).0)))

  -- and so do two fills from any two cells of one territory that are both done.
  pub same_territory_any_pitch : {a c : Cell} {b i p q : ℕ} {r r' : Answer} {s s' : List ℕ} → Reach k b lent a c
      → Fills k a b i p lent r s → Fills (with_pitch k pitch) c b i q other r' s' → is_done r ≡ true → is_done r' ≡ true
      → (r ≡ r') × Alike k pitch s s'
  same_territory_any_pitch {c = c} {b = b} {i = i} n F G d d' =
      let y = finished F d in
      let z = finished G d' in
      let f = F.territory in
      let m = reach_pitch b c in
      let e = tests_same y.decides z.decides (λ e l. (m e).0 (reach_then (reach_back n) l)) (λ e l. reach_then n ((m e).1 l)) in
      let cells = cells_pitch f k pitch y.sheet.disjoint z.sheet.disjoint ∙ ap (cells_on (with_pitch k pitch)) e in (
        y.tells ∙ ap (λ (n : ℕ). done (pos n ∷ [])) cells ∙ sym z.tells,
        subst₂ (Alike k pitch) (sym y.leaves) (ap (λ (f : Cell → Bool). paint (with_pitch k pitch) i f other) e ∙ sym z.leaves)
            (paint_alike k pitch i f lent other h),
      )
