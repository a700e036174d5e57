-- Drawing the records of a file: the loop of `draw_records`, and the returns of `draw_file`.
use Prim.Native.Nat.{ℕ, ◌≤◌}
use mathlib.Core.Path.{◌≡◌, refl, sym, subst, ap, ◌∙◌}
use mathlib.Core.List.{List, [], ◌∷◌, map}
use mathlib.Core.Bool.{true, true≢false}
use native.Mathlib.Omega.{arith}
use lib.ListN.{length}
use Rattle.std.specs.Prelude.{Result, Ok, Err, Some}
use Rattle.std.specs.Result.{IsErrAnd, result_unwrap_or}
use Rattle.sheet.specs.Sheet.{paint}
use Rattle.sheet.specs.Repaint.{nothing, join, box_of}
use Rattle.sheet.specs.Reply.{Answer, done, refuse, refuse_at, told, told_file, test_answer, count_answer, drawn_answer, is_done}
use Rattle.sheet.specs.Drawing.{Inked, paint_all, box_all, if_sheet, Draws}
use Rattle.sheet.specs.Inner.{fits}
use Rattle.sheet.specs.declared.Shape.{Shape}
use Rattle.sheet.specs.declared.Drawn.{Drawn}
use Rattle.sheet.specs.declared.refusal.Refusal.{Refusal}
use Rattle.sheet.specs.declared.refusal.FileRefusal.{FileRefusal}
use Rattle.sheet.specs.declared.repaint.Rectangle.{Rectangle}
use Rattle.sheet.proofs.Boxes.{Low, join_nothing, join_assoc, join_low, nothing_low, nothing_join, box_low}
use Rattle.sheet.proofs.Draws.{kept, draws}
use Rattle.sheet.proofs.Lent.{if_sheet_lem, no_sheet}
use Rattle.sheet.proofs.Paint.{paint_length}
use Rattle.sheet.proofs.Unique.{number_not_0}
use Rattle.record.specs.Reading.{read_at}
use Rattle.record.specs.File.{Contents, holds, refuses, also, read_from, read_all, contents_answer, file_answer}
use Rattle.record.specs.declared.types.Record.{Record}
use Rattle.record.specs.declared.types.Read.{Read}
use Rattle.record.specs.declared.types.Read.TheVariants as read
use Rattle.record.proofs.Onward.{NoRecord, never, from_record, from_end, from_refusal}
use Rattle.record.proofs.Stands.{stands}
use Rattle.drawing.specs.Figure.{on_figure, figure_drawing}
use Rattle.drawing.specs.File.{records_of, inked, figures_in, file_form, draw_file_answer, file_drawing}
use Rattle.drawing.proofs.Figures.{figure_told, figure_painted, figure_boxed}

-- no record is refused
abbrev Accepted : Contents → Type 0
Accepted c = is_done (contents_answer c) ≡ true

-- the records of contents, painted
abbrev painted : Shape → Contents → List ℕ → List ℕ
painted k c s = paint_all k (map inked (records_of c)) s

not_refused : (q : Refusal) (at : ℕ) → Accepted (refuses q at) → ⊥
not_refused q at e = true≢false (sym e ∙ number_not_0 q)

-- a record before the rest
accepted_rest : (r : Record) (c : Contents) → Accepted (also r c) → Accepted c
accepted_rest r (holds rs) e = refl
accepted_rest r (refuses q at) e = e

records_also : (r : Record) (c : Contents) → Accepted c → records_of (also r c) ≡ r ∷ records_of c
records_also r (holds rs) e = refl
records_also r (refuses q at) e = absurd (not_refused q at e)

-- the rectangle over the records of contents
abbrev boxed : Shape → Contents → Rectangle
boxed k c = box_all k (map inked (records_of c))

-- what is left to draw makes the file's picture of the sheet, and its rectangle of that which is told so far
pub record DrawsOn (k : Shape) (s sheet₀ sheet : List ℕ) (r : Rectangle) (at : ℕ) : Type 0 where
  pub accepted : Accepted (read_from s at)
  pub makes : painted k (read_from s at) sheet ≡ paint_all k (figures_in s) sheet₀
  pub joins : join r (boxed k (read_from s at)) ≡ box_all k (figures_in s)
  pub low : Low r
  pub kept : length sheet ≡ length sheet₀
  pub inside : at ≤ length s

boxes_low : (k : Shape) (fs : List Inked) → Low (box_all k fs)
unfolding box_all
boxes_low k [] = nothing_low
boxes_low k (f ∷ fs) = join_low (box_of k f.figure) (box_all k fs) (box_low k f.figure)

pub begins : (k : Shape) (s sheet : List ℕ) (r : Rectangle) → is_done (file_answer s) ≡ true → r ≡ nothing → DrawsOn k s sheet sheet r 0
unfolding file_answer read_all
begins k s sheet r e n =
    record {
      accepted = e;
      makes = refl;
      joins = ap (λ (q : Rectangle). join q (box_all k (figures_in s))) n ∙ nothing_join (box_all k (figures_in s)) (boxes_low k (figures_in s));
      low = subst Low (sym n) nothing_low;
      kept = refl;
      inside = omega arith;
    }

-- one more record
more_boxed : (k : Shape) (r : Record) (rest : Contents) (q : Rectangle)
    → join (join q (box_of k (on_figure r.figure))) (boxed k rest) ≡ join q (box_all k (map inked (r ∷ records_of rest)))
unfolding box_all
more_boxed k r rest q = join_assoc q (box_of k (on_figure r.figure)) (boxed k rest)

module _ (k : Shape) (s sheet₀ sheet : List ℕ) (q : Rectangle) (at : ℕ) (h : DrawsOn k s sheet₀ sheet q at) where
  pub turn : (r : Record) (t : List ℕ) (a : Answer) (p : Rectangle) → read.Record r ≡ read_at s at → fits k (length sheet₀) ≡ true
      → Draws (figure_drawing k r.ink r.figure) sheet a t → p ≡ join q a.box → DrawsOn k s sheet₀ t p r.next
  turn r t a p e f g ep =
      let o = stands s at r e in
      let rest = read_from s r.next in
      let on = from_record s at r e in
      let accepted : Accepted rest = accepted_rest r rest (subst Accepted on h.accepted) in
      let first : records_of (read_from s at) ≡ r ∷ records_of rest = ap records_of on ∙ records_also r rest accepted in
      let fitting : fits k (length sheet) ≡ true = ap (fits k) h.kept ∙ f in
      let drawn : t ≡ paint k r.ink (on_figure r.figure) sheet = figure_painted k r.ink r.figure sheet t a fitting o.sound g in
      let told : p ≡ join q (box_of k (on_figure r.figure)) = ep ∙ ap (join q) (figure_boxed k r.ink r.figure sheet t a fitting o.sound g) in
      record {
        accepted = accepted;
        makes = ap (painted k rest) drawn ∙ ap (λ (rs : List Record). paint_all k (map inked rs) sheet) (sym first) ∙ h.makes;
        joins =
            ap (λ (m : Rectangle). join m (boxed k rest)) told
            ∙ more_boxed k r rest q
            ∙ ap (λ (rs : List Record). join q (box_all k (map inked rs))) (sym first)
            ∙ h.joins;
        low = subst Low (sym told) (join_low q (box_of k (on_figure r.figure)) h.low);
        kept = ap length drawn ∙ paint_length k r.ink (on_figure r.figure) sheet ∙ h.kept;
        inside = o.inside;
      }

  -- no record is refused
  pub not_drawn : (r : Record) (t : List ℕ) (e : Refusal) → read.Record r ≡ read_at s at → fits k (length sheet₀) ≡ true
      → Draws (figure_drawing k r.ink r.figure) sheet (refuse e) t → ⊥
  not_drawn r t e f g d =
      let fitting : fits k (length sheet) ≡ true = ap (fits k) h.kept ∙ g in
      true≢false (sym (figure_told k r.ink r.figure sheet t (refuse e) fitting (stands s at r f).sound d) ∙ number_not_0 e)

  -- where the reading ends all is drawn
  pub closes : (e : Read) → e ≡ read_at s at → NoRecord e → (sheet ≡ paint_all k (figures_in s) sheet₀) × (q ≡ box_all k (figures_in s))
  unfolding box_all
  closes (read.Record r) e n = absurd (never r n)
  closes read.End e n = (
    sym (ap (λ (c : Contents). painted k c sheet) (from_end s at e)) ∙ h.makes,
    sym (ap (λ (c : Contents). join q (boxed k c)) (from_end s at e) ∙ join_nothing q q h.low) ∙ h.joins,
  )
  closes (read.Refused r o) e n = absurd (not_refused r o (subst Accepted (from_refusal s at r o e) h.accepted))

-- a file's answer has its one value already
contents_valued : (c : Contents) → file_form (contents_answer c) ≡ contents_answer c
contents_valued (holds rs) = refl
contents_valued (refuses q at) = refl

file_valued : (s : List ℕ) → file_form (file_answer s) ≡ file_answer s
unfolding file_answer
file_valued s = contents_valued (read_all s)

-- a reply into which `?` passes a refusal
passed : (reply : Result Drawn FileRefusal) (f : FileRefusal) → IsErrAnd reply (λ g. g ≡ f) → told_file drawn_answer reply ≡ refuse_at f.refusal f.offset
passed (Ok d) f h = absurd h
passed (Err g) f h = ap (λ (f : FileRefusal). refuse_at f.refusal f.offset) h

refused_at : (k : Shape) (s sheet : List ℕ) (reply : Result Drawn FileRefusal) (f : FileRefusal) → IsErrAnd reply (λ g. g ≡ f)
    → draw_file_answer k s (length sheet) ≡ refuse_at f.refusal f.offset → Draws (file_drawing k s) sheet (told_file drawn_answer reply) sheet
refused_at k s sheet reply f h e = kept (file_drawing k s) sheet _ _ (passed reply f h) (number_not_0 f.refusal) e

-- the drawing of a file that is refused for its sheet, by what the test told
pub no_sheet_file : (k : Shape) (s sheet : List ℕ) (r : Refusal) (reply : Result Drawn FileRefusal) → told test_answer (Err r) ≡ if_sheet k (length sheet) (done [])
    → IsErrAnd reply (λ g. g ≡ record { refusal = r; offset = 0 }) → Draws (file_drawing k s) sheet (told_file drawn_answer reply) sheet
unfolding draw_file_answer
no_sheet_file k s sheet r reply e h = refused_at k s sheet reply _ h (ap file_form (no_sheet k (length sheet) r e (file_answer s)))

-- the drawing of a file on a sheet that fits, by the reply of reading it
module _ (k : Shape) (s sheet : List ℕ) (fit : fits k (length sheet) ≡ true) where
  answered : draw_file_answer k s (length sheet) ≡ file_answer s
  unfolding draw_file_answer
  answered = ap file_form (if_sheet_lem k (length sheet) fit (file_answer s)) ∙ file_valued s

  pub file_refused : (f : FileRefusal) (reply : Result Drawn FileRefusal) → told_file count_answer (Err f) ≡ file_answer s → IsErrAnd reply (λ g. g ≡ f)
      → Draws (file_drawing k s) sheet (told_file drawn_answer reply) sheet
  file_refused f reply e h = refused_at k s sheet reply f h (answered ∙ sym e)

  pub file_drawn : (n : ℕ) (t : List ℕ) (r : Rectangle) → told_file count_answer (Ok n) ≡ file_answer s → t ≡ paint_all k (figures_in s) sheet
      → ◌≡◌ {A = Result Rectangle Refusal} (Ok r) (Ok (box_all k (figures_in s)))
      → Draws (file_drawing k s) sheet (told_file drawn_answer (Ok (record { count = Some n; rectangle = r }))) t
  file_drawn n t r e p q =
      draws (file_drawing k s) sheet (count_answer n) r t refl (answered ∙ sym e) p (ap (λ (b : Result Rectangle Refusal). result_unwrap_or b nothing) q)
