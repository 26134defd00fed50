use Rattle.std.proofs.Common.{◌≡◌, ℕ, suc, List, ◌++◌, ◌-◌, length, sym, ◌∙◌, ap, arith}
use Rattle.std.specs.List.{flat_map}
use Rattle.std.proofs.lemmas.List.{drop_all}
use Rattle.capture_make.specs.Made.{block}
use Rattle.capture_make.specs.Behind.{all_behind, sent_behind}
use Rattle.capture_make.proofs.Blocks.{block_length}
use Rattle.capture_make.proofs.Giving.{next_is}
use Rattle.capture_make.proofs.source.MadeSource.is_ready.Goals as goal

pub invariant_of-self-clause-whole : goal.invariant_of-self-clause-whole
invariant_of-self-clause-whole c = ap (λ (l : List ℕ). length l) c.put_block.ensures ∙ block_length c.sent_behind-behind.result.0

pub returns-clause-left : goal.returns-clause-left
returns-clause-left c =
    let s = c.args.self.now in
    let left = s.count - 1 in
    let count : s.count ≡ suc left = omega (arith, c.if-self-eq0.false) in
    let sent = c.sent_behind-behind.ensures in
    ap (λ (l : List ℕ). l ++ flat_map block (all_behind c.sent_behind-behind.result.1 left)) (c.put_block.ensures ∙ ap block sent.sent)
    ∙ ap (λ (n : ℕ). block (sent_behind s.number) ++ flat_map block (all_behind n left)) sent.next
    ∙ sym (next_is s.number left)
    ∙ ap (λ (n : ℕ). flat_map block (all_behind s.number n)) (sym count)
    ∙ ap (λ (l : List ℕ). l ++ flat_map block (all_behind s.number s.count)) (sym (drop_all s.at s.samples (omega (arith, s.whole, c.if-self-lt-BLOCK.false))))
