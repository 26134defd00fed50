use Rattle.std.proofs.Common.{◌≡◌, ◌-◌, ◌++◌, ◌∙◌, ℕ, List, ap, sym, arith, length, replicate, append_assoc, length-append}
use Rattle.std.proofs.lemmas.List.{take-replicate, length-replicate}
use Rattle.line_text.specs.Texts.{padded}
use Rattle.line_text.proofs.Widths.{length_padded, padded_is}
use Rattle.line_text.proofs.line.LineBuf.push_padded.Goals as goal

pub push_bytes-requires : goal.push_bytes-requires
push_bytes-requires c =
    let count : c.saturating_sub-zeros.result ≡ c.args.width - length c.args.text.now = c.saturating_sub-zeros.ensures in
    let zeros = take-replicate {X = ℕ} c.saturating_sub-zeros.result 16 48 (omega arith) in
    omega (arith, ap length zeros, length-replicate {A = ℕ} c.saturating_sub-zeros.result 48, length_padded c.args.width c.args.text.now, c.requires.room)

pub push_bytes-requires-2 : goal.push_bytes-requires-2
push_bytes-requires-2 c =
    let count : c.saturating_sub-zeros.result ≡ c.args.width - length c.args.text.now = c.saturating_sub-zeros.ensures in
    let zeros = take-replicate {X = ℕ} c.saturating_sub-zeros.result 16 48 (omega arith) in
    let pushed : c.push_bytes.new.self ≡ c.args.self.now ++ replicate c.saturating_sub-zeros.result 48 = c.push_bytes.ensures.text ∙ ap (λ (l : List ℕ). c.args.self.now ++ l) zeros in
    omega (arith, ap length pushed, length-append c.args.self.now (replicate c.saturating_sub-zeros.result 48), length-replicate {A = ℕ} c.saturating_sub-zeros.result 48, length_padded c.args.width c.args.text.now, c.requires.room)

pub returns-clause-text : goal.returns-clause-text
returns-clause-text c =
    let text = c.args.text.now in
    let count : c.saturating_sub-zeros.result ≡ c.args.width - length c.args.text.now = c.saturating_sub-zeros.ensures in
    let zeros = take-replicate {X = ℕ} c.saturating_sub-zeros.result 16 48 (omega arith) ∙ ap (λ (n : ℕ). replicate n 48) count in
    c.push_bytes-2.ensures.text
    ∙ ap (λ (l : List ℕ). l ++ text) (c.push_bytes.ensures.text ∙ ap (λ (l : List ℕ). c.args.self.now ++ l) zeros)
    ∙ append_assoc c.args.self.now (replicate (c.args.width - length text) 48) text
    ∙ ap (λ (l : List ℕ). c.args.self.now ++ l) (sym (padded_is c.args.width text))

pub returns-clause-grows : goal.returns-clause-grows
returns-clause-grows c = ap length (returns-clause-text c) ∙ length-append c.args.self.now (padded c.args.width c.args.text.now)
