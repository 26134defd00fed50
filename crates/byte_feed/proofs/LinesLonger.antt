-- The lines of a front, and of a longer input.
use Rattle.std.proofs.Common.{◌≡◌, ◌⊎◌, inl, inr, List, ◌++◌, ℕ, refl, sym, ◌∙◌, ap, arith, subst}
use Rattle.la_io.specs.Capture.{Ending, Open}
use Rattle.byte_feed.specs.Laws.{Extends, LinesExtend}
use Rattle.byte_feed.specs.Parts.{Fed, ends}
use Rattle.byte_feed.specs.Lines.{by_feeds, kept, lines_behind, lines_from, without_mark}
use Rattle.byte_feed.proofs.LineMoving.{kept_append}
use Rattle.byte_feed.proofs.Longer.{ext_from, still_faulty_from, whole_extends}
use Rattle.byte_feed.proofs.Marks.{MarkFront, front_in, front_or_settled}
use Rattle.byte_feed.proofs.PartLaws.{cut_part}

-- with a mark before them
ext_marked : (how : Ending) (front more : List ℕ) → Extends (lines_behind 0 Open front) (lines_behind 0 how (front ++ more))
ext_marked how front more = by_mark (front_or_settled front) where
  by_mark : MarkFront front ⊎ ((more : List ℕ) → without_mark (front ++ more) ≡ without_mark front ++ more) → Extends (lines_behind 0 Open front) (lines_behind 0 how (front ++ more))
  by_mark (inl may) =
      let in_front = front_in 0 front refl may in
      let is : lines_behind 0 Open front ≡ ends Open = ap (λ (l : List ℕ). lines_from 1 Open l) in_front.2 ∙ cut_part by_feeds 1 front (omega (arith, in_front.0)) in_front.1 in
      let whole = lines_behind 0 how (front ++ more) in
      inl (ap (λ (f : Fed). f.ending) is, whole.items, ap (λ (f : Fed). f.items ++ whole.items) (sym is))
  by_mark (inr settled) = subst (λ (l : List ℕ). Extends (lines_behind 0 Open front) (lines_from 1 how l)) (sym (settled more)) (ext_from by_feeds 1 how (without_mark front) more)

ext_kept : (how : Ending) (front more : List ℕ) → Extends (lines_behind 0 Open (kept front)) (lines_behind 0 how (kept (front ++ more)))
ext_kept how front more = subst (λ (l : List ℕ). Extends (lines_behind 0 Open (kept front)) (lines_behind 0 how l)) (sym (kept_append front more)) (ext_marked how (kept front) (kept more))

pub lines_extend : LinesExtend
lines_extend = whole_extends (λ how bytes. lines_behind 0 how (kept bytes)) ext_kept (λ fault bytes. still_faulty_from by_feeds 1 fault (without_mark (kept bytes)))
