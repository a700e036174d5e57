-- The statement of a fill determines the reply and the bytes.
use Prim.Native.Nat.{ℕ}
use mathlib.Core.Path.{◌≡◌, refl, sym, ap, ◌∙◌}
use mathlib.Core.List.{List, [], ◌∷◌}
use mathlib.Core.Bool.{Bool, true, false, true≢false}
use lib.IntN.{pos}
use lib.ListN.{length, get_or}
use Rattle.std.specs.Prelude.{Result, Ok, Err}
use Rattle.laws.proofs.Tests.{is_false, is_true}
use Rattle.sheet.specs.Sheet.{place, cell_of}
use Rattle.sheet.specs.Repaint.{nothing, box_of}
use Rattle.sheet.specs.Reply.{Answer, done, refuse, told, is_done, settled}
use Rattle.sheet.specs.declared.Cell.{Cell}
use Rattle.sheet.specs.declared.Shape.{Shape}
use Rattle.sheet.specs.declared.refusal.Refusal.{Refusal}
use Rattle.sheet.specs.declared.repaint.Rectangle.{Rectangle}
use Rattle.sheet.proofs.Count.{cells_none}
use Rattle.sheet.proofs.Draws.{draws_one}
use Rattle.sheet.proofs.Paint.{paint_none}
use Rattle.sheet.proofs.Unique.{number_not_0, number_one, count_one}
use Rattle.fill.specs.Fill.{fill_drawing, Fills, FillsRows, filled_answer, first_row, past_row}
use Rattle.fill.specs.declared.Filled.{Filled}
use Rattle.fill.proofs.Reaching.{reach_start, tests_same}
use Rattle.fill.proofs.Outcome.{finished, turns_not, told_by}

-- Two replies that meet the statement are equal, and so are the bytes left.
pub fills_same : {k : Shape} {a : Cell} {b i p : ℕ} {lent : List ℕ} {r r' : Answer} {s s' : List ℕ}
    → Fills k a b i p lent r s → Fills k a b i p lent r' s' → (r ≡ r') × (s ≡ s')
fills_same {k} {a} {b} {i} {p} {lent} {r} {r'} {s} {s'} F G =
    let f = F.territory in
    let same = (turns_not k a p (length lent) f G.territory).0 in
    let done : is_done r ≡ is_done r' = ap is_done F.draws.tells ∙ same ∙ sym (ap is_done G.draws.tells) in
    draws_one (fill_drawing k a i f p) lent r r' s s' F.draws
    (told_by G f (λ e. tests_same (G.decides e) (F.decides (done ∙ e)) (λ d q. q) (λ d q. q)))

-- Where the start has the boundary ink, nothing is set and the number is 0.
pub shut_start : {k : Shape} {a : Cell} {b i p : ℕ} {lent : List ℕ} {r : Answer} {s : List ℕ}
    → Fills k a b i p lent r s → is_done r ≡ true → get_or lent (place k a) 0 ≡ b → (r ≡ done (pos 0 ∷ [])) × (s ≡ lent)
shut_start {k} {a} {b} {i} {p} {lent} {r} {s} F d e =
    let z = finished F d in (
      z.tells ∙ ap (λ (n : ℕ). done (pos n ∷ [])) (cells_none k F.territory (λ x y l m. none (cell_of x y))),
      z.leaves ∙ paint_none k i F.territory lent (λ x y l m. none (cell_of x y)),
    )
  where
    none : (c : Cell) → F.territory c ≡ false
    none c = is_false (F.territory c) (λ t. (reach_start ((F.decides d).only c (is_true (F.territory c) t))).other e)

-- and so are the rows that are told
pub rows_same : {k : Shape} {a : Cell} {b i p : ℕ} {lent : List ℕ} {r r' : Answer} {top bottom top' bottom' : ℕ} {s s' : List ℕ}
    → FillsRows k a b i p lent r top bottom s → FillsRows k a b i p lent r' top' bottom' s' → (top ≡ top') × (bottom ≡ bottom')
rows_same {k} {r = r} {r'} F G =
    let same = fills_same F.fills G.fills in
    let box : settled r (box_of k F.fills.territory) nothing ≡ settled r' (box_of k G.fills.territory) nothing = by (is_done r) refl same.0 in (
      F.first ∙ ap (λ (q : Rectangle). q.top) box ∙ sym G.first,
      F.past ∙ ap (λ (q : Rectangle). q.bottom) box ∙ sym G.past,
    )
  where
    by : (d : Bool) → is_done r ≡ d → r ≡ r' → settled r (box_of k F.fills.territory) nothing ≡ settled r' (box_of k G.fills.territory) nothing
    by true e q =
        let z = sym (ap is_done q) ∙ e in
        let t = tests_same (F.fills.decides e) (G.fills.decides z) (λ d h. h) (λ d h. h) in
        simp (e, z) (ap (box_of k) t)
    by false e q = let z = sym (ap is_done q) ∙ e in simp (e, z)

-- Two replies with the rows are equal, where they tell the same and have the same rows;
told_apart : (f : Filled) (q : Refusal) → filled_answer f ≡ refuse q → ⊥
told_apart f q e = true≢false (ap is_done e ∙ number_not_0 q)

pub filled_one : (r q : Result Filled Refusal) → told filled_answer r ≡ told filled_answer q → first_row r ≡ first_row q → past_row r ≡ past_row q → r ≡ q
filled_one (Ok f) (Ok g) e t b =
    let cells = count_one f.cells g.cells e in
    λ i. Ok (record { cells = cells i; top = t i; bottom = b i })
filled_one (Ok f) (Err q) e t b = absurd (told_apart f q e)
filled_one (Err r) (Ok g) e t b = absurd (told_apart g r (sym e))
filled_one (Err r) (Err q) e t b = ap Err (number_one r q (ap (λ (a : Answer). a.number) e))

-- and so are two that meet the statement.
pub filled_same : {k : Shape} {a : Cell} {b i p : ℕ} {lent : List ℕ} {r q : Result Filled Refusal} {s s' : List ℕ}
    → FillsRows k a b i p lent (told filled_answer r) (first_row r) (past_row r) s
    → FillsRows k a b i p lent (told filled_answer q) (first_row q) (past_row q) s' → r ≡ q
filled_same {r = r} {q} F G = let rows = rows_same F G in filled_one r q (fills_same F.fills G.fills).0 rows.0 rows.1
