-- What the answers of a reader of lines mean, from what it took and what it found.
use Rattle.std.proofs.Common.{◌≡◌, ◌≢◌, ℕ, ◌+◌, ◌-◌, ◌^◌, ◌<◌, ◌≤◌, List, [], ◌∷◌, ◌++◌, take, drop, length, refl, sym, ◌∙◌, ap, subst, arith, append_assoc, length-append, length-drop, Option, Some, None, Bool, false, min, Result, Ok, Err}
use Rattle.std.proofs.lemmas.List.{nil_from_length}
use Rattle.std.specs.Io.KnownBytes.{IsAtEnd}
use Rattle.text_parts.specs.Places.{Placed}
use Rattle.la_io.specs.Capture.{Told, AtEnd}
use Rattle.la_io.specs.Intake.{Front}
use Rattle.byte_feed.specs.declared.fault.FeedFault.{FeedFault}
use Rattle.byte_feed.specs.declared.fault.FeedFault.TheVariants.{Read, TooLong, Bytes, Spent}
use Rattle.byte_feed.specs.Parts.{behind, bytes_ending}
use Rattle.byte_feed.specs.Lines.{by_feeds, kept, lines_from, lines_of, unmarked}
use Rattle.byte_feed.specs.LineMoves.{AllIn, FrontPassed, LineReached, PassesFront, ReachesEnd}
use Rattle.byte_feed.specs.LineReader.{Answers, LinesAt, Stands, front_of, text_of}
use Rattle.byte_feed.specs.Feeding.{Onward, told_of}
use Rattle.byte_feed.specs.declared.lines.Lines.{Lines}
use Rattle.byte_feed.proofs.LineMoving.{kept_len}
use Rattle.byte_feed.proofs.LineStanding.{FrontAt, HeldAs, front_more, front_reached, held_on, lines_are, lines_end, lines_next, lines_stopped, whole_lines}
use Rattle.byte_feed.proofs.Giving.{gives_full, gives_long, gives_none, gives_read, told_left, told_less}

module _ {T : Type 0} (old : Lines) (mid new : Front) (is : Bool) (l m : Option (List ℕ)) (result : Result T FeedFault) (passes : PassesFront old.number mid new old.ended is l m result)
    (gone : mid.bytes ≡ drop old.over (front_of old).bytes) (same : mid.taken ≡ (front_of old).taken) (before : List ℕ) (told : Told) (given : List Placed)
    (at : told ≡ AtEnd → IsAtEnd l) (st : Stands old before told given) where
  -- at the front of a line
  passed : (x : T) → FrontPassed old.number (mid.bytes ++ kept passes.bytes) new is (Ok x) → FrontAt new old.number is (before ++ passes.bytes) given
  passed x answer =
      let move = passes.moves in
      front_reached (front_of old) new old.over old.number old.ended is before passes.bytes given (λ more e. ap (λ (l : List ℕ). unmarked old.number ((l ++ kept passes.bytes) ++ more)) (sym gone) ∙ answer more e)
      (omega (arith, move.taken, same)) move.none move.stays (told_less old.ended is m new.taken move.told) st.stands

  pass_told : told_of is ≡ AtEnd → IsAtEnd m
  pass_told = told_left old.ended is l m new.taken passes.moves.kept passes.moves.told told st.told_is at

  -- how many bytes were taken
  counted : new.taken ≡ length (before ++ passes.bytes)
  counted = let taken = st.stands.taken in omega (arith, passes.moves.taken, same, taken, length-append before passes.bytes)

  stopped : is ≡ false → unmarked old.number (mid.bytes ++ kept passes.bytes) ≡ mid.bytes ++ kept passes.bytes → new.bytes ≡ mid.bytes ++ kept passes.bytes → length (before ++ passes.bytes) ≤ 2 ^ 60
      → lines_of (before ++ passes.bytes) (told_of is) ≡ behind given (lines_from (old.number + 1) (bytes_ending (length (before ++ passes.bytes)) (told_of is)) new.bytes)
  stopped e plain held few =
      lines_stopped new old.number (mid.bytes ++ kept passes.bytes) (before ++ passes.bytes) given is few e
      (subst (λ (l : List ℕ). Onward is (HeldAs old.number (l ++ kept passes.bytes) (before ++ passes.bytes) given)) (sym gone) (held_on (front_of old) old.over old.number old.ended is before passes.bytes given passes.moves.none passes.moves.stays st.stands)) plain held

  -- reading stopped there
  pub front_stops : (last : Lines) (fault : FeedFault) → last.ended ≡ is → FrontPassed {T = T} old.number (mid.bytes ++ kept passes.bytes) new is (Err fault) → Answers last m (before ++ passes.bytes) given (Err fault)
  front_stops last Read ended_is answer =
      let e = answer.4.0 in
      (ended_is ∙ e, gives_read by_feeds whole_lines (old.number + 1) new.bytes is _ given (stopped e answer.3 answer.0 (omega (arith, counted, answer.4.1))) e (omega (arith, counted, answer.4.1)) (omega (arith, answer.1, ap length answer.0)) (subst (λ (l : List ℕ). AllIn l (length l)) (sym answer.0) answer.2))
  front_stops last (TooLong n) ended_is answer = absurd answer.4
  front_stops last Bytes ended_is answer =
      let e = answer.4.0 in
      (ended_is ∙ e, gives_full by_feeds whole_lines (old.number + 1) new.bytes is _ given (stopped e answer.3 answer.0 (omega (arith, counted, answer.4.1))) e (omega (arith, counted, answer.4.1)) (omega (arith, answer.1, ap length answer.0)) (subst (λ (l : List ℕ). AllIn l (length l)) (sym answer.0) answer.2))
  front_stops last Spent ended_is answer = absurd answer.4

  module _ (after : Front) (now : Bool) (n : Option (List ℕ)) (length_of : Result ℕ FeedFault) (reaches : ReachesEnd old.number new after is now m n length_of) (x : T) (found : FrontPassed old.number (mid.bytes ++ kept passes.bytes) new is (Ok x)) where
    abbrev bytes : List ℕ
    bytes = before ++ (passes.bytes ++ reaches.bytes)

    reached : FrontAt after old.number now bytes given
    reached =
        let move = reaches.moves in
        subst (λ (b : List ℕ). FrontAt after old.number now b given) (append_assoc before passes.bytes reaches.bytes)
        (front_more new after old.number is now (before ++ passes.bytes) reaches.bytes given reaches.held move.taken move.none move.stays (told_less is now n after.taken move.told) (passed x found))

    reach_told : told_of now ≡ AtEnd → IsAtEnd n
    reach_told = told_left is now m n after.taken reaches.moves.kept reaches.moves.told (told_of is) refl pass_told

    here : after.taken ≤ 2 ^ 60 → lines_of bytes (told_of now) ≡ behind given (lines_from (old.number + 1) (bytes_ending (length bytes) (told_of now)) after.bytes)
    here few = let taken = reached.taken in lines_are after old.number now bytes given (omega (arith, taken, few)) reached

    -- a line
    pub line_given : (last : Lines) (count over number : ℕ) → front_of last ≡ after → last.len ≡ count → last.over ≡ over → last.number ≡ number → last.ended ≡ now → number ≡ old.number + 1 → 0 < length after.bytes
        → over ≡ min (length after.bytes) (count + 1) → LineReached old.number after now (Ok count) → Answers last n bytes given (Ok (Some number))
    line_given last count over number front_is len_is over_is number_is ended_is one_more some over_by r =
        let stands = lines_next after count over old.number now bytes given some r.0 r.1 r.2 r.3 r.4 (λ less. omega (arith, less, over_by)) (λ all. omega (arith, all, over_by)) reached in
        let item : (number, text_of last) ≡ (old.number + 1, take count after.bytes) = λ i. (one_more i, take (len_is i) (front_is i).bytes) in (
          told_of now,
          reach_told,
          record {
            told_is = sym (ap told_of ended_is);
            stands = subst (λ (p : Placed). LinesAt (front_of last) last.over last.number last.ended bytes (given ++ p ∷ [])) (sym item)
                (subst (λ (f : Front). LinesAt f last.over last.number last.ended bytes (given ++ (old.number + 1, take count after.bytes) ∷ [])) (sym front_is)
                (subst (λ (k : ℕ). LinesAt after k last.number last.ended bytes (given ++ (old.number + 1, take count after.bytes) ∷ [])) (sym over_is)
                (subst (λ (k : ℕ). LinesAt after over k last.ended bytes (given ++ (old.number + 1, take count after.bytes) ∷ [])) (sym (number_is ∙ one_more))
                (subst (λ (b : Bool). LinesAt after over (old.number + 1) b bytes (given ++ (old.number + 1, take count after.bytes) ∷ [])) (sym ended_is) stands))));
          },
        )

    -- the end came
    pub none_left : (last : Lines) (count : ℕ) → front_of last ≡ after → last.over ≡ 0 → last.number ≡ old.number → last.ended ≡ now → length after.bytes ≡ 0 → LineReached old.number after now (Ok count) → after.taken ≤ 2 ^ 60 → Answers last n bytes given (Ok None)
    none_left last count front_is over_is number_is ended_is nothing r few =
        let e = r.4 (omega (arith, r.1, nothing)) in
        let empty = nil_from_length after.bytes nothing in (
          reach_told (ap told_of e),
          record {
            told_is = sym (ap told_of (ended_is ∙ e));
            stands = subst (λ (f : Front). LinesAt f last.over last.number last.ended bytes given) (sym front_is)
                (subst (λ (k : ℕ). LinesAt after k last.number last.ended bytes given) (sym over_is)
                (subst (λ (k : ℕ). LinesAt after 0 k last.ended bytes given) (sym number_is)
                (subst (λ (b : Bool). LinesAt after 0 old.number b bytes given) (sym ended_is) (lines_end after old.number now bytes given e empty reached))));
          },
          gives_none by_feeds whole_lines (old.number + 1) after.bytes now bytes given (here few) e (reached.few e) empty,
        )

    -- reading stopped in it
    pub line_stops : (last : Lines) (fault : FeedFault) → last.ended ≡ now → LineReached old.number after now (Err fault) → Answers last n bytes given (Err fault)
    line_stops last Read ended_is r = let taken = reached.taken in (ended_is ∙ r.0, gives_read by_feeds whole_lines (old.number + 1) after.bytes now bytes given (here (omega (arith, r.1))) r.0 (omega (arith, taken, r.1)) r.2 r.3)
    line_stops last (TooLong at) ended_is r = (told_of now, reach_told, sym (ap told_of ended_is), gives_long by_feeds whole_lines (old.number + 1) after.bytes now bytes given (here r.3) at r.2 r.0 r.1)
    line_stops last Bytes ended_is r = let taken = reached.taken in (ended_is ∙ r.0, gives_full by_feeds whole_lines (old.number + 1) after.bytes now bytes given (here (omega (arith, r.1))) r.0 (omega (arith, taken, r.1)) r.2 r.3)
    line_stops last Spent ended_is r = absurd r

-- no reading says that it is spent
pub front_not_spent : (T : Type 0) (lines : ℕ) (all : List ℕ) (new : Front) (is : Bool) (fault : FeedFault) → FrontPassed {T = T} lines all new is (Err fault) → fault ≢ Spent
front_not_spent T lines all new is fault found e = (subst (λ (f : FeedFault). FrontPassed {T = T} lines all new is (Err f)) e found).4

pub line_not_spent : (lines : ℕ) (new : Front) (is : Bool) (fault : FeedFault) → LineReached lines new is (Err fault) → fault ≢ Spent
line_not_spent lines new is fault found e = subst (λ (f : FeedFault). LineReached lines new is (Err f)) e found

-- there are no more lines than bytes
module _ (old mid new : Front) (over number : ℕ) (x : List ℕ) (few : number + (length old.bytes - over) ≤ old.taken) (gone : mid.bytes ≡ drop over old.bytes) (same : mid.taken ≡ old.taken)
    (held : length new.bytes ≤ length mid.bytes + length x) (taken : new.taken ≡ mid.taken + length x) where
  pub few_front : number + length new.bytes ≤ new.taken
  few_front = omega (arith, few, ap length gone, length-drop over old.bytes, same, held, taken)

  module _ (after : Front) (y : List ℕ) (more : after.bytes ≡ new.bytes ++ kept y) (taken_more : after.taken ≡ new.taken + length y) where
    more_len : length after.bytes ≤ length new.bytes + length y
    more_len = omega (arith, ap length more, length-append new.bytes (kept y), kept_len y)

    pub few_line : number + length after.bytes ≤ after.taken
    few_line = omega (arith, few_front, more_len, taken_more)

    -- a line has a byte, or its end
    pub left_falls : (past : ℕ) → 0 < past → past ≤ length after.bytes → over ≤ length old.bytes → after.taken ≤ 2 ^ 60
        → 2 ^ 60 + (length after.bytes - past) - after.taken < 2 ^ 60 + (length old.bytes - over) - old.taken
    left_falls past some within order most = omega (arith, some, within, order, most, more_len, taken_more, held, taken, same, ap length gone, length-drop over old.bytes, few)
