-- Worked lines, which the definition computes.
use Rattle.std.specs.Prelude.{◌≡◌, [], ◌∷◌, ◌++◌, codes}
use Rattle.la_io.specs.Capture.{AtEnd, Cut, Clean, Open}
use Rattle.byte_feed.specs.Lines.{lines_of, mark}

pub record WorkedLines : Type 0 where
  -- an empty line counts, and the last one may lack its end
  pub ends : lines_of (codes "a,b\n\n0,1") AtEnd
      ≡ record { items = (1, codes "a,b") ∷ (2, []) ∷ (3, codes "0,1") ∷ []; ending = Clean }
  pub cut : lines_of (codes "a,b\n\n0,1") Cut
      ≡ record { items = (1, codes "a,b") ∷ (2, []) ∷ []; ending = Open }
  -- carriage returns are dropped wherever they stand
  pub returns : lines_of (13 ∷ 97 ∷ 13 ∷ 98 ∷ 13 ∷ 10 ∷ 13 ∷ []) AtEnd
      ≡ record { items = (1, codes "ab") ∷ []; ending = Clean }
  -- a mark is dropped at the very front alone, and there once
  pub marked : lines_of (239 ∷ 13 ∷ 187 ∷ 191 ∷ codes "a\n") AtEnd
      ≡ record { items = (1, codes "a") ∷ []; ending = Clean }
  pub marked_once : lines_of (mark ++ mark ++ codes "\n" ++ mark) AtEnd
      ≡ record { items = (1, mark) ∷ (2, mark) ∷ []; ending = Clean }
  pub mark_alone : lines_of mark AtEnd ≡ record { items = []; ending = Clean }
  pub cut_mark : lines_of (239 ∷ 187 ∷ []) AtEnd
      ≡ record { items = (1, 239 ∷ 187 ∷ []) ∷ []; ending = Clean }
  -- a last line that is empty is none
  pub return_alone : lines_of (97 ∷ 10 ∷ 13 ∷ []) AtEnd
      ≡ record { items = (1, codes "a") ∷ []; ending = Clean }
  pub none : lines_of [] AtEnd ≡ record { items = []; ending = Clean }
