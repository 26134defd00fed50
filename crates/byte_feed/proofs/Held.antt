-- A token that is held whole.
use Rattle.std.proofs.Common.{◌≡◌, ℕ, ◌+◌, ◌-◌, ◌≤◌, ◌<◌, ◌⊎◌, inl, inr, List, [], ◌∷◌, ◌++◌, take, drop, slice_range, length, refl, sym, ◌∙◌, ap, subst, arith, length-drop, take-append-drop, slice_index, Bool, true, false}
use Rattle.std.proofs.lemmas.List.{append-nil, take_all}
use Rattle.text_parts.specs.Places.{Placed}
use Rattle.la_io.specs.Capture.{Open}
use Rattle.la_io.specs.Intake.{Front}
use Rattle.byte_feed.specs.Parts.{Fed}
use Rattle.byte_feed.specs.Tokens.{by_blanks, is_blank, tokens_from}
use Rattle.byte_feed.specs.Blanks.{AllBlank, AllPlain}
use Rattle.byte_feed.specs.Feeding.{told_of}
use Rattle.byte_feed.specs.Reader.{StandsAt, GaveToken, place, front_of, text_of}
use Rattle.byte_feed.specs.declared.tokens.Tokens.{Tokens}
use Rattle.byte_feed.proofs.Moving.{first_behind, front_blank}
use Rattle.byte_feed.proofs.Standing.{stands_skip, stands_token}
use Rattle.byte_feed.proofs.PartLaws.{cut_part, long_part}
use Rattle.byte_feed.proofs.TokenLaws.{skip_all}

pub rest_is : (xs : List ℕ) (n : ℕ) → slice_range xs n (length xs) ≡ drop n xs
rest_is xs n = take_all (length xs - n) (drop n xs) (omega (arith, length-drop n xs))

-- a token behind blanks, and a blank behind it
module _ (old new : Front) (len n count : ℕ) (within : len ≤ length old.bytes) (gone : new.bytes ≡ drop n (drop len old.bytes)) (same : new.taken ≡ old.taken) (blanks : n ≤ length (drop len old.bytes))
    (blank : AllBlank (drop len old.bytes) n) (first : n < length (drop len old.bytes) → is_blank (slice_index (drop len old.bytes) n) ≡ false) (plain : AllPlain new.bytes count) (less : count < length new.bytes)
    (last : is_blank (slice_index new.bytes count) ≡ true) where
  abbrev rest : List ℕ
  rest = drop len old.bytes

  has : n < length rest
  has = omega (arith, less, ap length gone, length-drop n rest)

  first_is : is_blank (slice_index new.bytes 0) ≡ false
  first_is = ap (λ (l : List ℕ). is_blank (slice_index l 0)) gone ∙ ap is_blank (first_behind rest n) ∙ first has

  pub held_stands : (is : Bool) (bytes : List ℕ) (given : List Placed) → length new.bytes ≤ 65536 → StandsAt old len is bytes given → StandsAt new count is bytes (given ++ (place new 0, take count new.bytes) ∷ [])
  held_stands is bytes given room st =
      stands_token new count is bytes given (omega (arith, less)) first_is (omega (arith, less, room)) (omega (arith, less)) plain (λ l. last) (λ e. absurd (omega (arith, e, less)))
      (subst (λ (b : List ℕ). StandsAt new 0 is b given) (append-nil bytes)
      (stands_skip old new len is is bytes [] (take n rest) given within (append-nil rest ∙ sym (take-append-drop n rest) ∙ ap (λ (l : List ℕ). take n rest ++ l) (sym gone)) (front_blank rest n blanks blank)
      (omega (arith, same)) (λ e. refl) (λ e. e) (λ e. inl e) st))

pub held_gives : (old new : Tokens) (at : ℕ) → new.ended ≡ old.ended → at ≡ place (front_of new) 0
    → ((is : Bool) (bytes : List ℕ) (given : List Placed) → StandsAt (front_of old) old.len is bytes given → StandsAt (front_of new) new.len is bytes (given ++ (place (front_of new) 0, take new.len (front_of new).bytes) ∷ []))
    → GaveToken old new at
held_gives old new at ended at_is stands bytes told given st = record {
  told_is = st.told_is ∙ ap (λ (b : Bool). told_of b) (sym ended);
  stands = subst (λ (p : ℕ). StandsAt (front_of new) new.len new.ended bytes (given ++ (p, text_of new) ∷ [])) (sym at_is)
      (subst (λ (b : Bool). StandsAt (front_of new) new.len b bytes (given ++ (place (front_of new) 0, text_of new) ∷ [])) (sym ended) (stands old.ended bytes given st.stands));
}

-- where no blank comes behind the last bytes, they are no token yet
pub none_held : (rest : List ℕ) (n : ℕ) → n ≤ length rest → AllBlank rest n → AllPlain (drop n rest) (length (drop n rest)) → length rest ≤ 65536 → (tokens_from 0 Open rest).items ≡ []
none_held rest n within blank plain room =
    ap (λ (l : List ℕ). (tokens_from 0 Open l).items) (sym (take-append-drop n rest)) ∙ ap (λ (f : Fed). f.items) (skip_all 0 Open (take n rest) word (front_blank rest n within blank)) ∙ by_size (search arith)
  where
    word : List ℕ
    word = drop n rest

    at : ℕ
    at = 0 + length (take n rest)

    by_size : (length word < 65536) ⊎ (65536 ≤ length word) → (tokens_from at Open word).items ≡ []
    by_size (inl short) = ap (λ (f : Fed). f.items) (cut_part by_blanks at word short plain)
    by_size (inr long) = ap (λ (l : List ℕ). (tokens_from at Open l).items) (sym (append-nil word)) ∙ ap (λ (f : Fed). f.items) (long_part by_blanks at Open word [] long plain)
