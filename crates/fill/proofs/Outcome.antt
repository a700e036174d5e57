-- What a fill tells and leaves: where it is done, and where it is not.
use Prim.Native.Nat.{ℕ, ◌*◌}
use mathlib.Core.Path.{◌≡◌, refl, sym, subst, ap, ◌∙◌}
use mathlib.Core.List.{List, [], ◌∷◌}
use mathlib.Core.Bool.{Bool, true, false, cond, true≢false}
use lib.Dec.{leb}
use lib.IntN.{ℤ, pos}
use lib.ListN.{length, get_or}
use Rattle.sheet.specs.Sheet.{sized, sliced, on_sheet, place, paint, cells_on}
use Rattle.sheet.specs.Reply.{Answer, done, unless, is_done}
use Rattle.sheet.specs.Drawing.{Paints, if_sheet}
use Rattle.sheet.specs.Inner.{Sheet}
use Rattle.sheet.specs.declared.Cell.{Cell}
use Rattle.sheet.specs.declared.Shape.{Shape}
use Rattle.sheet.specs.declared.refusal.Refusal.TheVariants.{Size, Slice, Work, Start}
use Rattle.sheet.proofs.Draws.{drawn}
use Rattle.sheet.proofs.Lent.{if_sheet_lem, done_sheet}
use Rattle.sheet.proofs.Limits.{fits_sheet}
use Rattle.sheet.proofs.Paint.{paint_cell}
use Rattle.sheet.proofs.Pitch.{cell_below}
use Rattle.fill.specs.Territory.{Territory}
use Rattle.fill.specs.Fill.{fill_answer, fill_drawing, Fills}

-- the two tests after those of a sheet
abbrev asked : Bool → Bool → List ℤ → Answer
asked room on v = unless room Work (unless on Start (done v))

done_asked : (p o : Bool) (v : List ℤ) → is_done (asked p o v) ≡ true → (o ≡ true) × (asked p o v ≡ done v)
done_asked true true v e = (refl, refl)
done_asked true false v e = absurd (true≢false (sym e))
done_asked false o v e = absurd (true≢false (sym e))

-- A fill that is done: on a sheet, from a cell of it, it tells how many cells can be reached and leaves them in the ink.
pub record Finished (k : Shape) (start : Cell) (boundary ink : ℕ) (lent : List ℕ) (reply : Answer) (bytes : List ℕ)
    (territory : Cell → Bool) : Type 0 where
  pub sheet : Sheet k lent
  pub on : on_sheet k start ≡ true
  pub decides : Territory k boundary lent start territory
  pub tells : reply ≡ done (pos (cells_on k territory) ∷ [])
  pub leaves : bytes ≡ paint k ink territory lent

pub finished : {k : Shape} {a : Cell} {b i p : ℕ} {lent : List ℕ} {r : Answer} {s : List ℕ} (F : Fills k a b i p lent r s) → is_done r ≡ true
    → Finished k a b i lent r s F.territory
unfolding fill_answer
finished {k} {a} {b} {i} {p} {lent} {r} {s} F d =
    let v = pos (cells_on k F.territory) ∷ [] in
    let next = asked (leb (k.width * k.height) p) (on_sheet k a) v in
    let e : is_done (if_sheet k (length lent) next) ≡ true = sym (ap is_done F.draws.tells) ∙ d in
    let f = done_sheet k (length lent) next e in
    let g = if_sheet_lem k (length lent) f next in
    let h = done_asked (leb (k.width * k.height) p) (on_sheet k a) v (sym (ap is_done g) ∙ e) in
    record {
      sheet = fits_sheet k lent f;
      on = h.0;
      decides = F.decides d;
      tells = F.draws.tells ∙ g ∙ h.1;
      leaves = drawn (fill_drawing k a i F.territory p) lent r s F.draws e;
    }

-- Each cell of the sheet after it: the ink where it is of the territory, and else as it was lent.
pub cell_after : {k : Shape} {a : Cell} {b i p : ℕ} {lent : List ℕ} {r : Answer} {s : List ℕ} (F : Fills k a b i p lent r s)
    → is_done r ≡ true → (c : Cell) → on_sheet k c ≡ true → (t : Bool) → F.territory c ≡ t → get_or s (place k c) 0 ≡ cond t i (get_or lent (place k c) 0)
cell_after {k} {i = i} {lent = lent} F d c o t e =
    let z = finished F d in
    ap (λ (s : List ℕ). get_or s (place k c) 0) z.leaves
    ∙ paint_cell k i z.sheet.disjoint F.territory lent c o (cell_below k lent z.sheet c o)
    ∙ ap (λ (t : Bool). cond t i (get_or lent (place k c) 0)) e

-- A fill that is refused leaves the bytes as they were lent.
pub refused_keeps : {k : Shape} {a : Cell} {b i p : ℕ} {lent : List ℕ} {r : Answer} {s : List ℕ} → Fills k a b i p lent r s
    → is_done r ≡ false → s ≡ lent
refused_keeps F e =
    let u = sym (ap is_done F.draws.tells) ∙ e in
    F.draws.leaves ∙ simp u

-- Whether a fill is done does not turn on the test, nor does the reply where it is not.
abbrev answered : Bool → Bool → Bool → Bool → List ℤ → Answer
answered s t p o v = unless s Size (unless t Slice (asked p o v))

by_tests : (s t p o : Bool) (v w : List ℤ)
    → (is_done (answered s t p o v) ≡ is_done (answered s t p o w))
    × (is_done (answered s t p o v) ≡ false → answered s t p o v ≡ answered s t p o w)
by_tests true true true true v w = (refl, λ e. absurd (true≢false e))
by_tests true true true false v w = (refl, λ e. refl)
by_tests true true false o v w = (refl, λ e. refl)
by_tests true false p o v w = (refl, λ e. refl)
by_tests false t p o v w = (refl, λ e. refl)

pub turns_not : (k : Shape) (a : Cell) (p n : ℕ) (f g : Cell → Bool)
    → (is_done (fill_answer k a p f n) ≡ is_done (fill_answer k a p g n))
    × (is_done (fill_answer k a p f n) ≡ false → fill_answer k a p f n ≡ fill_answer k a p g n)
unfolding fill_answer if_sheet
turns_not k a p n f g =
    by_tests (sized k) (sliced k n) (leb (k.width * k.height) p) (on_sheet k a) (pos (cells_on k f) ∷ []) (pos (cells_on k g) ∷ [])

-- So a fill may be told by any test that is its own where it is done.
pub told_by : {k : Shape} {a : Cell} {b i p : ℕ} {lent : List ℕ} {r : Answer} {s : List ℕ} (F : Fills k a b i p lent r s) (g : Cell → Bool)
    → (is_done r ≡ true → F.territory ≡ g) → Paints (fill_drawing k a i g p) lent r s
told_by {k} {a} {b} {i} {p} {lent} {r} {s} F g same = by (is_done r) refl
  where
    by : (t : Bool) → is_done r ≡ t → Paints (fill_drawing k a i g p) lent r s
    by true e = subst (λ (g : Cell → Bool). Paints (fill_drawing k a i g p) lent r s) (same e) F.draws
    by false e =
        let u : is_done (fill_answer k a p F.territory (length lent)) ≡ false = sym (ap is_done F.draws.tells) ∙ e in
        let q = (turns_not k a p (length lent) F.territory g).1 u in
        let v : is_done (fill_answer k a p g (length lent)) ≡ false = sym (ap is_done q) ∙ u in
        record { tells = F.draws.tells ∙ q; leaves = F.draws.leaves ∙ simp (u, v) }
