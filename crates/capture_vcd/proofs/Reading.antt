-- What a reader's tokens say of the whole capture.
use Rattle.std.proofs.Common.{◌≡◌, ℕ, ◌*◌, ◌^◌, ◌≤◌, List, [], ◌++◌, length, refl, sym, ◌∙◌, ap, arith, Option, Some, None, Bool, true, false, nat_le}
use Rattle.std.proofs.lemmas.Bool.{cond-false, lt-leb}
use Rattle.std.proofs.lemmas.List.{append-nil, take_all}
use Rattle.text_parts.specs.Places.{Placed}
use Rattle.la_io.specs.declared.fault.CaptureFault.{CaptureFault}
use Rattle.la_io.specs.declared.fault.CaptureFault.TheVariants.{Bytes}
use Rattle.la_io.specs.Capture.{Told, Cut, Head, Good, Ending, Clean, Faulty, Captured}
use Rattle.byte_feed.specs.Tokens.{tokens_from, tokens_of}
use Rattle.byte_feed.specs.Parts.{Fed, behind, bytes_ending}
use Rattle.byte_feed.specs.Reader.{Stands, StandsAt, front_of, taken_of}
use Rattle.byte_feed.specs.Feeding.{told_of}
use Rattle.byte_feed.specs.declared.tokens.Tokens.{Tokens}
use Rattle.capture_vcd.specs.Header.{Declared, Section, channels_of, declared_by, header_from}
use Rattle.capture_vcd.specs.Header as header
use Rattle.capture_vcd.specs.Body.{Channel, event_of}
use Rattle.capture_vcd.specs.Vcd.{body_by, declared_in, head_by, head_in, vcd_capture, whole_head}
use Rattle.text_parts.specs.Reading.{read_front}
use Rattle.capture_vcd.proofs.Grammar.{capture_read, tokens_read, tokens_same}
use Rattle.capture_vcd.specs.Within.{statements_read}
use Rattle.capture_vcd.specs.Reader.{HeadRead, Kept}
use Rattle.capture_vcd.proofs.Headers.{header_whole}

module _ (down : ℕ) (pins : List ℕ) (channels : List Channel) (kept : Kept) (head : List Placed) (h : HeadRead down pins channels kept head) where
  abbrev pub head_is : Head
  head_is = Good (channels_of h.declared) h.scale.1 (h.scale.0 * down)

  -- what tokens behind the header give
  pub tokens_body : (rest : List Placed) (how : Ending) → tokens_read down pins (record { items = head ++ rest; ending = how }) ≡ body_by down head_is channels how (read_front event_of [] (statements_read how rest))
  tokens_body rest how =
      let G : header.Cut → Captured = λ (cut : header.Cut). capture_read down pins how cut.body (declared_in cut).0 (head_by down how cut (declared_in cut)) in
      ap G (header_whole None head rest [] (ap (λ (c : header.Cut). c.body) h.whole) ∙ ap (λ (c : header.Cut). record { sections = c.sections; body = Some rest }) h.whole)
      ∙ ap (λ (r : List Declared × Option CaptureFault). capture_read down pins how (Some rest) r.0 (head_in down how (Some rest) r.0 r.1)) h.read
      ∙ ap (λ (s : Option (ℕ × ℕ)). capture_read down pins how (Some rest) h.declared (whole_head down (channels_of h.declared) s)) h.scale_is
      ∙ ap (λ (ch : List Channel). body_by down head_is ch how (read_front event_of [] (statements_read how rest))) (sym h.channels_are)

  pub capture_is : (bytes : List ℕ) (told : Told) (rest : List Placed) (how : Ending) → tokens_of bytes told ≡ record { items = head ++ rest; ending = how }
      → vcd_capture down pins bytes told ≡ body_by down head_is channels how (read_front event_of [] (statements_read how rest))
  unfolding vcd_capture
  capture_is bytes told rest how is = tokens_same down pins (tokens_of bytes told) ∙ ap (λ (fed : Fed). tokens_read down pins fed) is ∙ tokens_body rest how

-- what a reader of tokens gave is a front of them
pub given_first : (tokens : Tokens) (bytes : List ℕ) (told : Told) (given : List Placed) → Stands tokens bytes told given → taken_of tokens ≤ 2 ^ 60 → (rest : Fed) × (tokens_of bytes told ≡ behind given rest)
given_first tokens bytes told given st few = by_end tokens.ended st.told_is st.stands where
  by_end : (ended : Bool) → told ≡ told_of ended → StandsAt (front_of tokens) tokens.len ended bytes given → (rest : Fed) × (tokens_of bytes told ≡ behind given rest)
  by_end true is at = (
    _,
    ap (λ (s : Told). tokens_of bytes s) is ∙ (λ i. tokens_from 0 (cond-false (nat_le (2 ^ 60) (length bytes)) (Faulty Bytes) Clean (lt-leb (2 ^ 60) (length bytes) (at.few refl)) i) (take_all (2 ^ 60) bytes (let f = at.few refl in omega (arith, f)) i))
        ∙ ap (λ (l : List ℕ). tokens_from 0 Clean l) (sym (append-nil bytes)) ∙ at.goes_on,
  )
  by_end false is at = (
    _,
    ap (λ (s : Told). tokens_of bytes s) is ∙ ap (λ (l : List ℕ). tokens_from 0 (bytes_ending (length bytes) Cut) l) (take_all (2 ^ 60) bytes (omega (arith, at.taken, few)) ∙ sym (append-nil bytes))
        ∙ at.goes_on [] (bytes_ending (length bytes) Cut),
  )
