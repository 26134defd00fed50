use Rattle.std.proofs.Common.{◌++◌, ◌∷◌, [], ◌∙◌, sym, ap, arith, length, length-append, List, ℕ, append_assoc}
use Rattle.std.proofs.lemmas.List.{append-nil}
use Rattle.capture_vcd.specs.Header.{bit_names}
use Rattle.capture_vcd.proofs.Declaring.{names_len, names_more, no_names}
use Rattle.capture_vcd.proofs.bits.push_bits.Goals as goal

pub loop-bit-init : goal.loop-bit-init
loop-bit-init c = sym (append-nil c.args.names.now) ∙ ap (λ (l : List (List ℕ)). c.args.names.now ++ l) (sym (no_names c.args.reference.now))

pub push-requires : goal.push-requires
push-requires c = omega (arith, ap length c.loop-bit.invariant, length-append c.args.names.now (bit_names c.args.reference.now c.loop-bit.bit), names_len c.args.reference.now c.loop-bit.bit, c.loop-bit-test.true, c.requires)

pub loop-bit-preserved : goal.loop-bit-preserved
loop-bit-preserved c =
    let names = c.args.names.now in
    let so_far = bit_names c.args.reference.now c.loop-bit.bit in
    c.in_ok-push.ensures.ok ∙ (λ i. c.loop-bit.invariant i ++ (c.deref.ensures.value ∙ c.in_ok-bit_name.ensures) i ∷ []) ∙ append_assoc names so_far _ ∙ ap (λ (l : List (List ℕ)). names ++ l) (sym (names_more c.args.reference.now c.loop-bit.bit))
