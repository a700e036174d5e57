-- The start of a fill, and what a fill tells and leaves: refused, and done.
use Prim.Native.Nat.{ℕ, ◌*◌, ◌<◌, ◌≤◌}
use mathlib.Core.Path.{◌≡◌, refl, sym, ap, ◌∙◌}
use mathlib.Core.List.{List, [], ◌∷◌}
use mathlib.Core.Bool.{Bool, true, false, cond, ◌&&◌, true≢false}
use native.Mathlib.Omega.{arith}
use borrow.Author.Tests.{le-leb, ltb-true}
use lib.Dec.{ltb}
use lib.IntN.{ℤ, pos, negsuc, nat_abs}
use lib.ListN.{length}
use lib.Signed.{le_z, lt_z}
use Rattle.std.specs.Prelude.{Option, Some, None, is_some, unwrap_or, Result, Ok, Err, is_ok, is_err, IsErrAnd}
use Rattle.std.specs.Result.{result_ok, result_err}
use Rattle.std.specs.Option.{ok_or}
use Rattle.sheet.specs.Sheet.{on_sheet, cell_of}
use Rattle.sheet.specs.Reply.{done, refuse, told}
use Rattle.sheet.specs.Inner.{fits}
use Rattle.sheet.specs.declared.Cell.{Cell}
use Rattle.sheet.specs.declared.Shape.{Shape}
use Rattle.sheet.specs.declared.refusal.Refusal.{Refusal}
use Rattle.sheet.proofs.Cells.{on_sheet_lem}
use Rattle.sheet.proofs.Draws.{keeps, paints}
use Rattle.sheet.proofs.Lent.{if_sheet_lem}
use Rattle.sheet.proofs.Limits.{fits_sheet}
use Rattle.sheet.proofs.Unique.{number_not_0}
use Rattle.fill.specs.Fill.{fill_answer}
use Rattle.fill.specs.Inner.{index_of, FloodedIn, amount_answer, pieces_of, FillsPieces}
use Rattle.fill.specs.declared.Amount.{Amount}

-- what the index says of the number
pub index_found : (z : ℤ) (size r : ℕ) → Some r ≡ index_of z size → (z ≡ pos r) × (r < size)
unfolding index_of
index_found (negsuc n) size r e = absurd (true≢false (ap is_some e))
index_found (pos n) size r e = by (ltb n size) refl (e ∙ simp (le-leb 0 n (omega arith)))
  where
    by : (t : Bool) → ltb n size ≡ t → Some r ≡ cond (ltb n size) (Some n) None → (pos n ≡ pos r) × (r < size)
    by true f g =
        let h : r ≡ n = ap (λ (o : Option ℕ). unwrap_or o 0) (g ∙ ap (λ (t : Bool). cond t (Some n) None) f) in
        (ap pos (sym h), omega (arith, ltb-true n size f))
    by false f g = absurd (true≢false (ap is_some (g ∙ ap (λ (t : Bool). cond t (Some n) None) f)))

pub index_none : (z : ℤ) (size : ℕ) → None ≡ index_of z size → (le_z (pos 0) z && lt_z z (pos size)) ≡ false
unfolding index_of
index_none z size e = by (le_z (pos 0) z && lt_z z (pos size)) refl
  where
    by : (t : Bool) → (le_z (pos 0) z && lt_z z (pos size)) ≡ t → t ≡ false
    by true f = absurd (true≢false (sym (ap is_some (e ∙ ap (λ (t : Bool). cond t (Some (nat_abs z)) None) f))))
    by false f = refl

-- a start that is off the sheet by its column, or by its row
column_off : (a b c d : Bool) → (a && b) ≡ false → (a && b && c && d) ≡ false
column_off true true c d e = absurd (true≢false e)
column_off true false c d e = refl
column_off false b c d e = refl

row_off : (a b c d : Bool) → (c && d) ≡ false → (a && b && c && d) ≡ false
row_off true true c d e = e
row_off true false c d e = refl
row_off false b c d e = refl

module _ (k : Shape) (a : Cell) where
  abbrev left : Bool
  left = le_z (pos 0) a.x

  abbrev right : Bool
  right = lt_z a.x (pos k.width)

  abbrev top : Bool
  top = le_z (pos 0) a.y

  abbrev bottom : Bool
  bottom = lt_z a.y (pos k.height)

  pub off_column : None ≡ index_of a.x k.width → on_sheet k a ≡ false
  unfolding on_sheet
  off_column e = column_off left right top bottom (index_none a.x k.width e)

  pub off_row : None ≡ index_of a.y k.height → on_sheet k a ≡ false
  unfolding on_sheet
  off_row e = row_off left right top bottom (index_none a.y k.height e)

-- a refused fill
pub pieces_refused : {k : Shape} {a : Cell} {b ink p : ℕ} {s q : List ℕ} (reply : Result Amount Refusal) (r : Refusal) → IsErrAnd reply (λ e. e ≡ r)
    → fill_answer k a p (λ (c : Cell). false) (length s) ≡ refuse r → FillsPieces k a b ink p s (told amount_answer reply) s q (pieces_of reply)
pieces_refused (Ok m) r h f = absurd h
pieces_refused {s = s} (Err e) r h f =
    record {
      fills = record { territory = λ (c : Cell). false; decides = λ d. absurd (true≢false (sym d ∙ number_not_0 e)); draws = keeps _ s (refuse e) (number_not_0 e) (f ∙ ap refuse (sym h)) };
      rows = record { some = λ j l. absurd (omega arith); all = λ x y m. absurd (true≢false (sym m.marked)) };
      few = omega arith;
      high = λ l. absurd (omega arith);
      refused = λ d. refl;
    }

-- what `ok_or` and `?` say of an option
pub none_of : {A : Type 0} (o : Option A) (e q : Refusal) → Err q ≡ ok_or o e → (None ≡ o) × (e ≡ q)
none_of None e q h = (refl, ap (λ (r : Option Refusal). unwrap_or r e) (sym (ap result_err h)))
none_of (Some a) e q h = absurd (true≢false (ap is_err h))

pub some_of : {A : Type 0} (a : A) (o : Option A) (e : Refusal) → Ok a ≡ ok_or o e → Some a ≡ o
some_of a None e h = absurd (true≢false (ap is_ok h))
some_of a (Some b) e h = ap result_ok h

-- a fill that is done
pub pieces_done : {k : Shape} {a : Cell} {b ink p x y n t : ℕ} {s s' q : List ℕ} → fits k (length s) ≡ true → k.width * k.height ≤ p → x < k.width → y < k.height
    → a ≡ cell_of x y → FloodedIn k b ink x y s n s' q t → t ≤ length q → FillsPieces k a b ink p s (done (pos n ∷ [])) s' q t
unfolding fill_answer
pieces_done {k} {a} {b} {ink} {p} {x} {y} {n} {t} {s} {s'} f room l m e F few =
    let G = F.flooded in
    rw e (record {
      fills =
          record {
            territory = G.test;
            decides = λ d. G.decides;
            draws = paints _ s (done (pos n ∷ [])) s' refl (simp (if_sheet_lem k (length s) f, le-leb (k.width * k.height) p room, on_sheet_lem k x y l m, G.number)) G.paints;
          };
      rows = F.rows;
      few = few;
      high = λ u. (fits_sheet k s f).high;
      refused = λ d. absurd (true≢false d);
    })
