use Rattle.std.proofs.Common.{◌≡◌, ◌+◌, ◌-◌, ◌<◌, ◌≤◌, ◌∙◌, ap, arith, subst, sym, ℕ, get_or, length, replicate, slice_set, List}
use Rattle.std.proofs.lemmas.List.{get_or-replicate, length-set}
use Rattle.la_base.specs.declared.samples.TheConstants.{MOST_PINS}
use Rattle.capture_vcd.specs.Chains.{ChainedFrom, key_of}
use Rattle.capture_vcd.proofs.Chaining.{chained_more, chained_none, keys, keys_are, keys_count}
use Rattle.capture_vcd.proofs.chains.Chains.of.Goals as goal

far : (n i a count : ℕ) → i < n → count ≤ a → count ≤ get_or (replicate n a) i 0
far n i a count small few = omega (arith, get_or-replicate n i a 0 small, few)

pub loop-left-init : goal.loop-left-init
loop-left-init c =
    let count = length c.args.slots.now in
    let keys_is = keys c.args.codes.now c.args.slots.now in
    record {
      within = omega arith;
      chained = chained_none (replicate 256 255) (replicate MOST_PINS 255) keys_is count (omega (arith, keys_count c.args.codes.now c.args.slots.now)) (λ key small. far 256 key 255 count small (omega (arith, c.requires)));
    }

pub loop-left-preserved : goal.loop-left-preserved
loop-left-preserved c =
    let codes = c.args.codes.now in
    let slots = c.args.slots.now in
    let left = c.loop-left.left in
    let n = left - 1 in
    let next_n : n + 1 ≡ left = omega (arith, c.loop-left-test.true) in
    let within = c.loop-left.invariant.within in
    let key = c.key_of-key.result in
    let is : get_or (keys codes slots) n 0 ≡ key = keys_are codes slots n (omega (arith, within, c.loop-left-test.true)) ∙ sym (c.key_of-key.ensures ∙ ap key_of c.code_of.ensures) in
    let rows : length c.loop-left.heads ≡ 256 = omega (arith, c.link.array_long, ap length c.link.ensures.heads, length-set c.loop-left.heads key n) in
    let room : n < length c.loop-left.next = omega (arith, c.link.array_long2, ap length c.link.ensures.next, length-set c.loop-left.next n (get_or c.loop-left.heads key 0), within, c.requires, c.loop-left-test.true) in
    record {
      within = omega (arith, within);
      chained = subst (λ (heads : List ℕ). ChainedFrom n heads c.link.new.next (keys codes slots)) (sym c.link.ensures.heads)
          (subst (λ (next : List ℕ). ChainedFrom n (slice_set c.loop-left.heads key n) next (keys codes slots)) (sym c.link.ensures.next)
          (chained_more c.loop-left.heads c.loop-left.next (keys codes slots) n key is c.key_of-key.type_inv rows room (subst (λ (m : ℕ). ChainedFrom m c.loop-left.heads c.loop-left.next (keys codes slots)) (sym next_n) c.loop-left.invariant.chained)));
    }
