use Rattle.std.proofs.Common.{◌≡◌, ◌∙◌, ℕ, ◌+◌, ◌<◌, ap, refl, sym, subst, arith, List, drop, length, length-drop, slice_index, false}
use Rattle.std.proofs.lemmas.List.{drop-drop}
use Rattle.la_io.specs.Intake.{Front}
use Rattle.byte_feed.specs.Tokens.{is_blank}
use Rattle.byte_feed.specs.Blanks.{AllBlank, AllPlain}
use Rattle.byte_feed.specs.Reader.{front_of}
use Rattle.byte_feed.proofs.Held.{held_gives, held_stands, none_held, rest_is}
use Rattle.byte_feed.proofs.tokens.Tokens.held.Goals as goal

pub returns-then-count-left-clause-none : goal.returns-then-count-left-clause-none
returns-then-count-left-clause-none c = λ e.
    let s = c.args.self.now in
    let all = c.bytes.ensures.bytes ∙ ap (λ (f : Front). f.bytes) c.deref.ensures in
    let r = rest_is c.bytes.result.now s.len ∙ ap (λ (l : List ℕ). drop s.len l) all in
    let n = c.blanks_at-blanks.result in
    let rest = drop s.len (front_of s).bytes in
    let w = rest_is _ n ∙ ap (λ (l : List ℕ). drop n l) r in
    let plain : AllPlain (drop n rest) c.plain_at-count.result = subst (λ (l : List ℕ). AllPlain l c.plain_at-count.result) w c.plain_at-count.ensures.plain in
    none_held rest n (omega (arith, c.blanks_at-blanks.ensures.within, ap length r)) (subst (λ (l : List ℕ). AllBlank l n) r c.blanks_at-blanks.ensures.blank)
    (subst (λ (k : ℕ). AllPlain (drop n rest) k) (c.if-count-left.true ∙ ap length w) plain) (omega (arith, c.bytes.ensures.room, ap length c.bytes.ensures.bytes, ap length all, length-drop s.len (front_of s).bytes))

pub returns-clause-gave : goal.returns-clause-gave
returns-clause-gave c =
    let s = c.args.self.now in
    let all = c.bytes.ensures.bytes ∙ ap (λ (f : Front). f.bytes) c.deref.ensures in
    let r = rest_is c.bytes.result.now s.len ∙ ap (λ (l : List ℕ). drop s.len l) all in
    let n = c.blanks_at-blanks.result in
    let count = c.plain_at-count.result in
    let rest = drop s.len (front_of s).bytes in
    let w = rest_is _ n ∙ ap (λ (l : List ℕ). drop n l) r in
    let new = c.advance.new.self in
    let gone = c.advance.ensures.bytes ∙ ap (λ (f : Front). drop (s.len + n) f.bytes) c.deref_mut.ensures.value ∙ sym (drop-drop n s.len (front_of s).bytes) in
    let back = w ∙ sym gone in
    let less : count < length new.bytes = omega (arith, c.plain_at-count.ensures.within, c.if-count-left.false, ap length back) in
    held_gives s _ _ refl (omega (arith, c.taken.ensures.taken, ap (λ (f : Front). f.taken) c.deref-2.ensures, ap length back))
    (λ is bytes given st. held_stands (front_of s) new s.len n count s.within gone (c.advance.ensures.taken ∙ ap (λ (f : Front). f.taken) c.deref_mut.ensures.value) (omega (arith, c.blanks_at-blanks.ensures.within, ap length r))
    (subst (λ (l : List ℕ). AllBlank l n) r c.blanks_at-blanks.ensures.blank)
    (subst (λ (l : List ℕ). n < length l → is_blank (slice_index l n) ≡ false) r c.blanks_at-blanks.ensures.behind)
    (subst (λ (l : List ℕ). AllPlain l count) back c.plain_at-count.ensures.plain) less
    (ap (λ (l : List ℕ). is_blank (slice_index l count)) (sym back) ∙ c.plain_at-count.ensures.behind (omega (arith, less, ap length back)))
    is bytes given (omega (arith, ap length gone, c.bytes.ensures.room, ap length c.bytes.ensures.bytes, ap length all, length-drop s.len (front_of s).bytes, length-drop n rest)) st)
