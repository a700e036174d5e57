-- What is written is the reply to what the reader had.
use Rattle.std.proofs.Common.{ℕ, ◌≡◌, List, length, take, drop, ap, sym, ◌∙◌, subst, refl, Option, None, Some, Bool, true, false, inl, inr, arith}
use Rattle.std.proofs.Math.Seq.{take-append_seam}
use Rattle.std.proofs.lemmas.List.{length-take-le, take_all}
use Rattle.laws.proofs.Products.{lt_or_ge}
use Rattle.std.specs.Io.KnownBytes.{Appends}
use Rattle.print.specs.Run.{Answers, Holds}
use Rattle.laws.specs.Text.{written_over}
use Rattle.print.specs.Text.{text_of, reply_of}
use Rattle.print.proofs.Told.{text_too_long}

-- a byte more than is drawn tells that there are too many
text_of_first : (file : List ℕ) → text_of (take 4097 file) ≡ text_of file
text_of_first file =
    elim (lt_or_ge 4096 (length file)) [
      | inl l ↦ text_too_long (take 4097 file) (omega (arith, length-take-le 4097 file (omega arith))) ∙ sym (text_too_long file l)
      | inr l ↦ ap text_of (take_all 4097 file (omega arith))
    ]

-- the reply of a failed read is one whatever came before it
same_reply : (whole : Bool) (read had : List ℕ) → (whole ≡ true → read ≡ take 4097 had) → reply_of whole read ≡ reply_of whole had
unfolding reply_of
same_reply true read had h = ap text_of (h refl) ∙ text_of_first had
same_reply false read had h = refl

-- the front of what a text is written over
front : (text out before : List ℕ) (n : ℕ) → n ≡ length text → out ≡ written_over text before → take n out ≡ text
front text out before n e h =
    ap (λ (k : ℕ). take k out) e ∙ ap (λ (bs : List ℕ). take (length text) bs) h ∙ take-append_seam text (drop (length text) before)

pub answered : (had old new : Option (List ℕ)) (whole : Bool) (count n : ℕ) (room out before : List ℕ) → length room ≡ 4097 → Holds had whole count room
    → n ≡ length (reply_of whole (take count room)) → out ≡ written_over (reply_of whole (take count room)) before → Appends old new (take n out) → Answers had old new whole
answered None old new whole count n room out before l h e w a = tt
answered (Some xs) old new whole count n room out before l h e w a =
    let same = same_reply whole (take count room) xs (λ t. h t ∙ ap (λ (k : ℕ). take k xs) l) in
    subst (λ (bs : List ℕ). Appends old new bs) (front (reply_of whole (take count room)) out before n e w ∙ same) a
