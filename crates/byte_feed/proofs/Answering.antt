-- What the answers of a reader of tokens mean, from what it took and what it found.
use Rattle.std.proofs.Common.{◌≡◌, ℕ, zero, suc, ◌+◌, ◌-◌, ◌^◌, ◌<◌, ◌≤◌, ◌≢◌, length-append, length-drop, slice_index, List, [], ◌∷◌, ◌++◌, take, drop, length, refl, sym, ◌∙◌, ap, subst, arith, append_assoc, Option, Some, None, Bool, true, false, Result, Ok, Err}
use Rattle.std.proofs.lemmas.Bool.{false≢true}
use Rattle.byte_feed.specs.Tokens.{by_blanks, is_blank, tokens_from}
use Rattle.std.specs.Io.KnownBytes.{IsAtEnd}
use Rattle.text_parts.specs.Places.{Placed}
use Rattle.la_io.specs.Capture.{Told, AtEnd}
use Rattle.la_io.specs.Intake.{Front}
use Rattle.byte_feed.specs.declared.fault.FeedFault.{FeedFault}
use Rattle.byte_feed.specs.declared.fault.FeedFault.TheVariants.{Read, TooLong, Bytes, Spent}
use Rattle.byte_feed.specs.Moving.{Skips, Skipped, Reaches, Reached}
use Rattle.byte_feed.specs.Feeding.{told_of}
use Rattle.byte_feed.specs.Reader.{StandsAt, Stands, Answers, place, front_of, text_of}
use Rattle.byte_feed.specs.declared.tokens.Tokens.{Tokens}
use Rattle.byte_feed.proofs.Giving.{gives_full, gives_long, gives_none, gives_read, told_left, told_less}
use Rattle.byte_feed.proofs.Standing.{first_stays, stands_skip, stands_token, taken_are}

pub found_is : (new : Front) (is one other : Bool) → one ≡ other → Skipped new is (Ok one) → Skipped new is (Ok other)
found_is new is one other e h = subst (λ (b : Bool). Skipped new is (Ok b)) e h

module _ (old : Tokens) (mid new : Front) (is : Bool) (l m : Option (List ℕ)) (result : Result Bool FeedFault) (skips : Skips mid new old.ended is l m result)
    (gone : mid.bytes ≡ drop old.len (front_of old).bytes) (same : mid.taken ≡ (front_of old).taken) (before : List ℕ) (told : Told) (given : List Placed)
    (at : told ≡ AtEnd → IsAtEnd l) (st : Stands old before told given) where
  -- behind blanks
  pub skipped : StandsAt new 0 is (before ++ skips.bytes) given
  skipped =
      let move = skips.moves in
      stands_skip (front_of old) new old.len old.ended is before skips.bytes skips.blanks given old.within (ap (λ (l : List ℕ). l ++ skips.bytes) (sym gone) ∙ skips.split) skips.all_blank
      (omega (arith, move.taken, same)) move.none move.stays (told_less old.ended is m new.taken move.told) st.stands

  pub skip_told : told_of is ≡ AtEnd → IsAtEnd m
  skip_told = told_left old.ended is l m new.taken skips.moves.kept skips.moves.told told st.told_is at

  -- the end came
  pub none_left : (last : Tokens) → front_of last ≡ new → last.len ≡ 0 → last.ended ≡ is → Skipped new is (Ok false) → Answers last m (before ++ skips.bytes) given (Ok None)
  none_left last front_is len_is ended_is found = (
    skip_told (ap told_of found.0),
    record {
      told_is = sym (ap told_of (ended_is ∙ found.0));
      stands = subst (λ (f : Front). StandsAt f last.len last.ended (before ++ skips.bytes) given) (sym front_is)
          (subst (λ (n : ℕ). StandsAt new n last.ended (before ++ skips.bytes) given) (sym len_is) (subst (λ (b : Bool). StandsAt new 0 b (before ++ skips.bytes) given) (sym ended_is) skipped));
    },
    gives_none by_blanks (tokens_from 0) (place new 0) new.bytes is (before ++ skips.bytes) given (taken_are new 0 is (before ++ skips.bytes) given (let few = skipped.few found.0 in omega (arith, few)) skipped) found.0 (skipped.few found.0) found.1,
  )

  -- reading stopped
  pub skip_stops : (last : Tokens) (fault : FeedFault) → last.ended ≡ is → Skipped new is (Err fault) → Answers last m (before ++ skips.bytes) given (Err fault)
  skip_stops last Read ended_is found =
      let count = skipped.taken in (
        ended_is ∙ found.1.0,
        gives_read by_blanks (tokens_from 0) (place new 0) new.bytes is (before ++ skips.bytes) given (taken_are new 0 is (before ++ skips.bytes) given (omega (arith, count, found.1.1)) skipped) found.1.0 (omega (arith, count, found.1.1)) (omega (arith, ap length found.0)) (λ k less. absurd (omega (arith, less, ap length found.0))),
      )
  skip_stops last (TooLong n) ended_is found = absurd found.1
  skip_stops last Bytes ended_is found =
      let count = skipped.taken in (
        ended_is ∙ found.1.0,
        gives_full by_blanks (tokens_from 0) (place new 0) new.bytes is (before ++ skips.bytes) given (taken_are new 0 is (before ++ skips.bytes) given (omega (arith, count, found.1.1)) skipped) found.1.0 (omega (arith, count, found.1.1)) (omega (arith, ap length found.0)) (λ k less. absurd (omega (arith, less, ap length found.0))),
      )
  skip_stops last Spent ended_is found = absurd found.1

  module _ (after : Front) (now : Bool) (n : Option (List ℕ)) (length_of : Result ℕ FeedFault) (reaches : Reaches new after is now m n length_of) (found : Skipped new is (Ok true)) where
    abbrev bytes : List ℕ
    bytes = before ++ (skips.bytes ++ reaches.bytes)

    reached : StandsAt after 0 now bytes given
    reached =
        let move = reaches.moves in
        subst (λ (b : List ℕ). StandsAt after 0 now b given) (append_assoc before skips.bytes reaches.bytes)
        (stands_skip new after 0 is now (before ++ skips.bytes) reaches.bytes [] given (omega arith) (sym reaches.held) (λ k less. absurd (omega (arith, less))) move.taken move.none move.stays (told_less is now n after.taken move.told) skipped)

    reach_told : told_of now ≡ AtEnd → IsAtEnd n
    reach_told = told_left is now m n after.taken reaches.moves.kept reaches.moves.told (told_of is) refl skip_told

    -- a token
    pub token_given : (last : Tokens) (count place_is : ℕ) → front_of last ≡ after → last.len ≡ count → last.ended ≡ now → place_is ≡ place after 0 → Reached after now (Ok count) → Answers last n bytes given (Ok (Some place_is))
    token_given last count place_is front_is len_is ended_is at_is r =
        let first = first_stays new.bytes after.bytes reaches.bytes found.0 reaches.held found.1 in
        let stands = stands_token after count now bytes given first.0 first.1 r.0 r.1 r.2 r.3 r.4 reached in
        let item : (place_is, text_of last) ≡ (place after 0, take count after.bytes) = λ i. (at_is i, take (len_is i) (front_is i).bytes) in (
          told_of now,
          reach_told,
          record {
            told_is = sym (ap told_of ended_is);
            stands = subst (λ (p : Placed). StandsAt (front_of last) last.len last.ended bytes (given ++ p ∷ [])) (sym item)
                (subst (λ (f : Front). StandsAt f last.len last.ended bytes (given ++ (place after 0, take count after.bytes) ∷ [])) (sym front_is)
                (subst (λ (k : ℕ). StandsAt after k last.ended bytes (given ++ (place after 0, take count after.bytes) ∷ [])) (sym len_is)
                (subst (λ (b : Bool). StandsAt after count b bytes (given ++ (place after 0, take count after.bytes) ∷ [])) (sym ended_is) stands)));
          },
        )

    -- reading stopped in it
    pub token_stops : (last : Tokens) (fault : FeedFault) → last.ended ≡ now → Reached after now (Err fault) → Answers last n bytes given (Err fault)
    token_stops last Read ended_is r = let count = reached.taken in (ended_is ∙ r.0, gives_read by_blanks (tokens_from 0) (place after 0) after.bytes now bytes given (taken_are after 0 now bytes given (omega (arith, count, r.1)) reached) r.0 (omega (arith, count, r.1)) r.2 r.3)
    token_stops last (TooLong at) ended_is r =
        let count = reached.taken in
        (told_of now, reach_told, sym (ap told_of ended_is), gives_long by_blanks (tokens_from 0) (place after 0) after.bytes now bytes given (taken_are after 0 now bytes given (omega (arith, count, r.3)) reached) at (omega (arith, r.2)) r.0 r.1)
    token_stops last Bytes ended_is r = let count = reached.taken in (ended_is ∙ r.0, gives_full by_blanks (tokens_from 0) (place after 0) after.bytes now bytes given (taken_are after 0 now bytes given (omega (arith, count, r.1)) reached) r.0 (omega (arith, count, r.1)) r.2 r.3)
    token_stops last Spent ended_is r = absurd r

-- a token has a byte, and so less is left behind it
pub left_falls : (old mid new after : Front) (len count : ℕ) (was is now : Bool) (l m n : Option (List ℕ)) (one : Result Bool FeedFault) (two : Result ℕ FeedFault) → Skips mid new was is l m one → Reaches new after is now m n two
    → Skipped new is (Ok true) → Reached after now (Ok count) → mid.bytes ≡ drop len old.bytes → mid.taken ≡ old.taken → len ≤ length old.bytes → after.taken ≤ 2 ^ 60
    → 2 ^ 60 + (length after.bytes - count) - after.taken < 2 ^ 60 + (length old.bytes - len) - old.taken
left_falls old mid new after len count was is now l m n one two skips reaches found r gone same within few =
    let first = first_stays new.bytes after.bytes reaches.bytes found.0 reaches.held found.1 in
    let some : 0 < count = by_count count refl first in
    omega (arith, some, r.1, few, within, same, skips.moves.taken, reaches.moves.taken, ap length gone, length-drop len old.bytes, ap length skips.split, length-append mid.bytes skips.bytes, length-append skips.blanks new.bytes, ap length reaches.held, length-append new.bytes reaches.bytes)
  where
    by_count : (k : ℕ) → k ≡ count → (0 < length after.bytes) × (is_blank (slice_index after.bytes 0) ≡ false) → 0 < count
    by_count (suc k) e first = omega (arith, e)
    by_count zero e first =
        let blank : is_blank (slice_index after.bytes 0) ≡ true = ap (λ (k : ℕ). is_blank (slice_index after.bytes k)) e ∙ r.3 (omega (arith, e, first.0)) in
        absurd (false≢true (sym first.1 ∙ blank))

-- no reading says that it is spent
pub skip_not_spent : (new : Front) (is : Bool) (fault : FeedFault) → Skipped new is (Err fault) → fault ≢ Spent
skip_not_spent new is fault found e = (subst (λ (f : FeedFault). Skipped new is (Err f)) e found).1

pub token_not_spent : (new : Front) (is : Bool) (fault : FeedFault) → Reached new is (Err fault) → fault ≢ Spent
token_not_spent new is fault found e = subst (λ (f : FeedFault). Reached new is (Err f)) e found

-- nothing comes behind two readings that take nothing
pub none_twice : (was is : Bool) (x y : List ℕ) → (was ≡ true → x ≡ []) → (was ≡ true → is ≡ true) → (is ≡ true → y ≡ []) → was ≡ true → x ++ y ≡ []
none_twice was is x y one stays two e = λ i. one e i ++ two (stays e) i
