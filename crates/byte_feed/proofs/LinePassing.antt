-- A line that is held with its end.
use Rattle.std.proofs.Common.{◌≡◌, ℕ, ◌+◌, ◌-◌, ◌^◌, ◌≤◌, ◌<◌, inl, List, [], ◌∷◌, ◌++◌, take, drop, length, length-drop, refl, sym, ◌∙◌, ap, subst, arith, slice_index, Bool}
use Rattle.std.proofs.lemmas.List.{append-nil}
use Rattle.text_parts.specs.Places.{Placed}
use Rattle.la_io.specs.Intake.{Front}
use Rattle.byte_feed.specs.Lines.{is_feed, kept}
use Rattle.byte_feed.specs.LineMoves.{AllIn, LineAt}
use Rattle.byte_feed.specs.LineReader.{Ahead, GaveLine, LinesAt, front_of, rest_of}
use Rattle.byte_feed.specs.Feeding.{told_of}
use Rattle.byte_feed.specs.declared.lines.Lines.{Lines}
use Rattle.byte_feed.proofs.Marks.{front_behind}
use Rattle.byte_feed.proofs.LineStanding.{FrontAt, front_reached, lines_next}

-- the next line, of what is held behind so many bytes
pub line_on : (old mid : Front) (over lines len : ℕ) → mid.bytes ≡ drop over old.bytes → mid.taken ≡ old.taken → 1 ≤ lines → len < 65536 → len < length mid.bytes → LineAt mid.bytes len → (is : Bool) (bytes : List ℕ) (given : List Placed)
    → LinesAt old over lines is bytes given → LinesAt mid (len + 1) (lines + 1) is bytes (given ++ (lines + 1, take len mid.bytes) ∷ [])
line_on old mid over lines len gone same counted short held line is bytes given st =
    lines_next mid len (len + 1) lines is bytes given (omega (arith, held)) short (omega (arith, held)) line.one (λ l. line.feed) (λ e. absurd (omega (arith, e, held))) (λ l. refl) (λ e. absurd (omega (arith, e, held)))
    (subst (λ (b : List ℕ). FrontAt mid lines is b given) (append-nil bytes)
    (front_reached old mid over lines is is bytes [] given
    (λ more e. front_behind lines (drop over old.bytes ++ kept []) mid.bytes counted (gone ∙ sym (append-nil (drop over old.bytes))) more)
    (omega (arith, same)) (λ e. refl) (λ e. e) (λ e. inl e) st))

module _ (old : Lines) (mid : Front) (len : ℕ) (gone : mid.bytes ≡ rest_of old) (same : mid.taken ≡ (front_of old).taken) (ahead : Ahead old len) (one : AllIn (rest_of old) len) where
  pub line_ahead : LineAt mid.bytes len
  line_ahead = record { one = subst (λ (l : List ℕ). AllIn l len) (sym gone) one; feed = ap (λ (l : List ℕ). is_feed (slice_index l len)) gone ∙ ahead.feed }

  pub line_passed : (is : Bool) (bytes : List ℕ) (given : List Placed) → LinesAt (front_of old) old.over old.number is bytes given
      → LinesAt mid (len + 1) (old.number + 1) is bytes (given ++ (old.number + 1, take len mid.bytes) ∷ [])
  line_passed is bytes given st =
      let less = ahead.held in
      line_on (front_of old) mid old.over old.number len gone same ahead.counted ahead.short (omega (arith, less, ap length gone)) line_ahead is bytes given st

  pub line_gave : (new : Lines) → front_of new ≡ mid → new.len ≡ len → new.over ≡ len + 1 → new.number ≡ old.number + 1 → new.ended ≡ old.ended → GaveLine old new (old.number + 1)
  line_gave new front_is len_is over_is number_is ended_is bytes told given st = record {
    told_is = st.told_is ∙ ap (λ (b : Bool). told_of b) (sym ended_is);
    stands = coe 0 1 (i. LinesAt (sym front_is i) (sym over_is i) (sym number_is i) (sym ended_is i) bytes (given ++ (old.number + 1, take (sym len_is i) (sym front_is i).bytes) ∷ [])) (line_passed old.ended bytes given st.stands);
  }

  pub left_less : 2 ^ 60 + (length mid.bytes - (len + 1)) - mid.taken < 2 ^ 60 + (length (front_of old).bytes - old.over) - (front_of old).taken
  left_less = let less = ahead.held in let most = ahead.most in omega (arith, less, most, same, ap length gone, length-drop old.over (front_of old).bytes)
