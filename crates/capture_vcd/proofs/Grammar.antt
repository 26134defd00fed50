-- The statements of tokens are those that are read token by token.
use Rattle.std.proofs.Common.{◌≡◌, ℕ, ◌&&◌, ◌||◌, ◌==◌, not, List, [], ◌∷◌, ◌++◌, length, refl, ◌∙◌, ap, Bool, true, false, cond, Option, None, codes}
use Rattle.std.proofs.lemmas.List.{append-nil}
use Rattle.std.specs.List.{list_all}
use Rattle.la_base.specs.Naming.{same_name}
use Rattle.la_base.specs.Naming.{number_after}
use Rattle.text_parts.specs.Numbers.{is_number}
use Rattle.text_parts.specs.Places.{Placed}
use Rattle.la_io.specs.Capture.{Head, Good, Bad, Unread, Ending, Clean, Faulty, Open, Captured}
use Rattle.byte_feed.specs.Parts.{Fed}
use Rattle.capture_vcd.specs.Header.{Declared, header_from, says}
use Rattle.capture_vcd.specs.Body.{Statement, Time, Change, Wrong, comment, event_of, first_is, is_digit, skipped, statements, vector}
use Rattle.capture_vcd.specs.Within.{Within, Free, Value, Skip, Comment, hanging, statements_from, statements_read, within_behind}
use Rattle.capture_vcd.specs.Vcd.{bits_in, body_by, body_tokens, capture_by, chosen, declared_in, head_by, statements_at, tokens_give}
use Rattle.text_parts.specs.Reading.{read_front}

-- what a value lacks that is open behind tokens
abbrev lack : (ℕ → List Statement) → Within → List Statement
lack lacks Free = []
lack lacks (Value at digits) = lacks at
lack lacks (Skip at) = lacks at
lack lacks Comment = []

-- the statements of tokens behind something that is open
abbrev reads : (ℕ → List Statement) → Within → List Placed → List Statement
reads lacks within tokens = statements_from within tokens ++ lack lacks (within_behind within tokens)

record Same (lacks : ℕ → List Statement) (tokens : List Placed) : Type 0 where
  free : statements lacks tokens ≡ reads lacks Free tokens
  value : (at : ℕ) (digits : List ℕ) → vector lacks at digits tokens ≡ reads lacks (Value at digits) tokens
  skip : (at : ℕ) → skipped lacks at tokens ≡ reads lacks (Skip at) tokens
  within : comment lacks tokens ≡ reads lacks Comment tokens

module _ (lacks : ℕ → List Statement) where
  -- what is read behind a step
  abbrev after : List Statement × Within → List Placed → List Statement
  after step tokens = (step.0 ++ statements_from step.1 tokens) ++ lack lacks (within_behind step.1 tokens)

  module _ (tokens : List Placed) (same : Same lacks tokens) where
    free_same : (token : Placed) → statements lacks (token ∷ tokens) ≡ reads lacks Free (token ∷ tokens)
    free_same (at, []) = ap (λ (l : List Statement). Wrong at ∷ l) same.free
    free_same (at, first ∷ rest) =
        by_tests (first == 35) (is_number rest) (is_digit first && not (length rest == 0)) (first_is first 98 66 && not (length rest == 0) && list_all is_digit rest) (first_is first 114 82 || first_is first 115 83)
        (same_name (codes "$comment") (first ∷ rest)) (first == 36)
      where
        by_tests : (time number scalar digits skip comments passed : Bool)
            → cond time (cond number (Time at (number_after 0 rest)) (Wrong at) ∷ statements lacks tokens) (cond scalar (Change rest (first ∷ []) ∷ statements lacks tokens) (cond digits (vector lacks at rest tokens)
            (cond skip (skipped lacks at tokens) (cond comments (comment lacks tokens) (cond passed (statements lacks tokens) (Wrong at ∷ statements lacks tokens))))))
            ≡ after (cond time (cond number (Time at (number_after 0 rest) ∷ [], Free) (Wrong at ∷ [], Free)) (cond scalar (Change rest (first ∷ []) ∷ [], Free) (cond digits ([], Value at rest)
            (cond skip ([], Skip at) (cond comments ([], Comment) (cond passed ([], Free) (Wrong at ∷ [], Free))))))) tokens
        by_tests true true scalar digits skip comments passed = ap (λ (l : List Statement). Time at (number_after 0 rest) ∷ l) same.free
        by_tests true false scalar digits skip comments passed = ap (λ (l : List Statement). Wrong at ∷ l) same.free
        by_tests false number true digits skip comments passed = ap (λ (l : List Statement). Change rest (first ∷ []) ∷ l) same.free
        by_tests false number false true skip comments passed = same.value at rest
        by_tests false number false false true comments passed = same.skip at
        by_tests false number false false false true passed = same.within
        by_tests false number false false false false true = same.free
        by_tests false number false false false false false = ap (λ (l : List Statement). Wrong at ∷ l) same.free

    within_same : (token : Placed) → comment lacks (token ∷ tokens) ≡ reads lacks Comment (token ∷ tokens)
    within_same token = by_end (says (codes "$end") token) where
      by_end : (ends : Bool) → cond ends (statements lacks tokens) (comment lacks tokens) ≡ after (cond ends ([], Free) ([], Comment)) tokens
      by_end true = same.free
      by_end false = same.within

  all_same : (tokens : List Placed) → Same lacks tokens
  all_same [] = record { free = refl; value = λ at digits. refl; skip = λ at. refl; within = refl }
  all_same (token ∷ tokens) =
      let same = all_same tokens in
      record {
        free = free_same tokens same token;
        value = λ at digits. ap (λ (l : List Statement). Change token.1 digits ∷ l) same.free;
        skip = λ at. same.free;
        within = within_same tokens same token;
      }

hanging_is : (within : Within) → lack (λ at. Wrong at ∷ []) within ≡ hanging within
hanging_is Free = refl
hanging_is (Value at digits) = refl
hanging_is (Skip at) = refl
hanging_is Comment = refl

none_lacks : (within : Within) → lack (λ at. []) within ≡ []
none_lacks Free = refl
none_lacks (Value at digits) = refl
none_lacks (Skip at) = refl
none_lacks Comment = refl

pub statements_same : (how : Ending) (tokens : List Placed) → statements_at how tokens ≡ statements_read how tokens
statements_same Clean tokens = (all_same (λ at. Wrong at ∷ []) tokens).free ∙ ap (λ (l : List Statement). statements_from Free tokens ++ l) (hanging_is (within_behind Free tokens))
statements_same (Faulty fault) tokens = (all_same (λ at. []) tokens).free ∙ ap (λ (l : List Statement). statements_from Free tokens ++ l) (none_lacks (within_behind Free tokens)) ∙ append-nil (statements_from Free tokens)
statements_same Open tokens = (all_same (λ at. []) tokens).free ∙ ap (λ (l : List Statement). statements_from Free tokens ++ l) (none_lacks (within_behind Free tokens)) ∙ append-nil (statements_from Free tokens)

-- what a file gives, by the statements that are read
abbrev pub capture_read : ℕ → List ℕ → Ending → Option (List Placed) → List Declared → Head → Captured
capture_read down pins how body declared (Bad fault) = record { head = Bad fault; settled = []; ending = Faulty fault }
capture_read down pins how body declared Unread = record { head = Unread; settled = []; ending = Open }
capture_read down pins how body declared (Good names num den) = body_by down (Good names num den) (chosen (bits_in declared) pins) how (read_front event_of [] (statements_read how (body_tokens body)))

capture_same : (down : ℕ) (pins : List ℕ) (how : Ending) (body : Option (List Placed)) (declared : List Declared) (head : Head) → capture_by down pins how body declared head ≡ capture_read down pins how body declared head
capture_same down pins how body declared (Bad fault) = refl
capture_same down pins how body declared Unread = refl
capture_same down pins how body declared (Good names num den) = ap (λ (l : List Statement). body_by down (Good names num den) (chosen (bits_in declared) pins) how (read_front event_of [] l)) (statements_same how (body_tokens body))

abbrev pub tokens_read : ℕ → List ℕ → Fed → Captured
tokens_read down pins fed =
    let cut = header_from None fed.items in
    let declared = declared_in cut in
    capture_read down pins fed.ending cut.body declared.0 (head_by down fed.ending cut declared)

pub tokens_same : (down : ℕ) (pins : List ℕ) (fed : Fed) → tokens_give down pins fed ≡ tokens_read down pins fed
tokens_same down pins fed =
    let cut = header_from None fed.items in
    let declared = declared_in cut in
    capture_same down pins fed.ending cut.body declared.0 (head_by down fed.ending cut declared)
