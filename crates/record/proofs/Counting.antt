-- The loop of `check`: what was counted and what is left to read make the file's answer.
use Prim.Native.Nat.{ℕ, ◌+◌, ◌≤◌}
use mathlib.Core.Path.{◌≡◌, refl, sym, ap, ◌∙◌}
use mathlib.Core.List.{List, [], ◌∷◌}
use native.Mathlib.Omega.{arith}
use lib.IntN.{pos}
use lib.ListN.{length}
use Rattle.sheet.specs.Reply.{Answer, done, refuse_at, told_file, count_answer}
use Rattle.record.specs.Reading.{read_at}
use Rattle.record.specs.File.{Contents, holds, refuses, also, read_from, read_all, contents_answer, file_answer}
use Rattle.record.specs.Inner.{closed_by}
use Rattle.record.specs.declared.types.Record.{Record}
use Rattle.record.specs.declared.types.Read.{Read}
use Rattle.record.specs.declared.types.Read.TheVariants as read
use Rattle.record.proofs.Stands.{stands}
use Rattle.record.proofs.Onward.{NoRecord, never, from_record, from_end, from_refusal}

-- the answer of contents that stand after n records
abbrev pub answer_after : ℕ → Contents → Answer
answer_after n (holds rs) = done (pos (n + length rs) ∷ [])
answer_after n (refuses q at) = refuse_at q at

after_none : (k : Contents) → answer_after 0 k ≡ contents_answer k
after_none (holds rs) = let e : 0 + length rs ≡ length rs = omega arith in ap (λ (n : ℕ). done (pos n ∷ [])) e
after_none (refuses q at) = refl

after_one : (n : ℕ) (r : Record) (k : Contents) → answer_after (n + 1) k ≡ answer_after n (also r k)
after_one n r (holds rs) = let e : n + 1 + length rs ≡ n + length (r ∷ rs) = omega arith in ap (λ (n : ℕ). done (pos n ∷ [])) e
after_one n r (refuses q at) = refl

pub record Counting (s : List ℕ) (count at : ℕ) : Type 0 where
  pub whole : answer_after count (read_from s at) ≡ file_answer s
  pub few : count ≤ at
  pub inside : at ≤ length s

pub begins : (s : List ℕ) → Counting s 0 0
unfolding file_answer read_all
begins s = record { whole = after_none (read_from s 0); few = omega arith; inside = omega arith }

module _ (s : List ℕ) (count at : ℕ) (h : Counting s count at) where
  pub turn : (r : Record) → read.Record r ≡ read_at s at → Counting s (count + 1) r.next
  turn r e =
      let p = stands s at r e in
      record {
        whole = after_one count r (read_from s r.next) ∙ ap (answer_after count) (sym (from_record s at r e)) ∙ h.whole;
        few = omega arith;
        inside = p.inside;
      }

  -- the end and a refusal close the reading; a record does not
  pub closes : (q : Read) → q ≡ read_at s at → NoRecord q → told_file count_answer (closed_by q count) ≡ file_answer s
  closes (read.Record r) e t = absurd (never r t)
  closes read.End e t =
      let n : count ≡ count + 0 = omega arith in
      ap (λ (n : ℕ). done (pos n ∷ [])) n ∙ ap (answer_after count) (sym (from_end s at e)) ∙ h.whole
  closes (read.Refused q o) e t = ap (answer_after count) (sym (from_refusal s at q o e)) ∙ h.whole
