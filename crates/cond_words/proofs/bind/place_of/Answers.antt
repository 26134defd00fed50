use Rattle.std.proofs.Common.{◌≡◌, ◌≢◌, ◌+◌, ◌≤◌, ◌++◌, ◌∷◌, [], Some, List, ℕ, length, arith, sym, ◌∙◌, ap, subst, ◌==◌, refl}
use Rattle.std.specs.List.{position, slice_get}
use Rattle.std.proofs.lemmas.Bool.{false≢true}
use Rattle.std.proofs.lemmas.Bool.Decides.{Decides-eqb}
use Rattle.std.proofs.lemmas.List.{length_push}
use Rattle.la_base.specs.declared.samples.TheConstants.{MOST_PINS}
use Rattle.cond_words.specs.Steps.{with_pin}
use Rattle.cond_words.proofs.PinLemmas.{pin_there, is_pin_at, no_pin, with_old, with_new}
use Rattle.wait_cond.proofs.Sets.{get_last}
use Rattle.cond_words.proofs.bind.place_of.Goals as goal

pub returns-in-Some : goal.returns-in-Some
returns-in-Some c =
    let pins = c.args.pins.now.items in
    let channel = c.args.channel in
    let found = ap (λ (l : List ℕ). position (λ pin. pin == channel) l) (sym c.deref.ensures.0) ∙ sym c.place_among.ensures ∙ c.in-Some.is in
    let at = pin_there pins channel c.in-Some.place found in
    (sym (with_old pins channel (is_pin_at pins c.in-Some.place channel at)), at, subst (λ (l : List ℕ). length l ≤ MOST_PINS) c.deref.ensures.0 c.deref.ensures.1)

pub returns-then-is_full : goal.returns-then-is_full
returns-then-is_full c =
    let pins = c.args.pins.now.items in
    let channel = c.args.channel in
    let none = ap (λ (l : List ℕ). position (λ pin. pin == channel) l) (sym c.deref.ensures.0) ∙ sym c.place_among.ensures ∙ c.in_default.is in
    let full : length pins ≡ MOST_PINS = (Decides-eqb (length pins) MOST_PINS).0 (sym c.is_full.ensures.value ∙ c.if-is_full.true) in
    let longer : length (with_pin pins channel) ≡ length pins + 1 = ap (λ (l : List ℕ). length l) (with_new pins channel (no_pin pins channel none)) ∙ length_push pins channel in
    (refl, omega (arith, full, longer))

pub returns : goal.returns
returns c =
    let pins = c.args.pins.now.items in
    let channel = c.args.channel in
    let none = ap (λ (l : List ℕ). position (λ pin. pin == channel) l) (sym c.deref.ensures.0) ∙ sym c.place_among.ensures ∙ c.in_default.is in
    let not_full : length pins ≢ MOST_PINS = λ full. false≢true (sym c.if-is_full.false ∙ c.is_full.ensures.value ∙ (Decides-eqb (length pins) MOST_PINS).1 full) in
    let new = c.push.ensures.items in
    let fits : length pins ≤ MOST_PINS = c.is_full.ensures.fits in
    let there = subst (λ (n : ℕ). slice_get (pins ++ channel ∷ []) n ≡ Some channel) (sym c.len-place.ensures.value) (get_last pins channel) in (
      new ∙ sym (with_new pins channel (no_pin pins channel none)),
      subst (λ (l : List ℕ). slice_get l c.len-place.result ≡ Some channel) (sym new) there,
      omega (arith, c.push.ensures.len, not_full, fits),
    )
