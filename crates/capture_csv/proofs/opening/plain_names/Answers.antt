use Rattle.std.proofs.Common.{◌++◌, ◌∷◌, [], ◌∙◌, sym, ap, arith, length}
use Rattle.capture_csv.proofs.Naming.{no_names, names_more, names_len}
use Rattle.capture_csv.proofs.opening.plain_names.Goals as goal

pub loop-channel-init : goal.loop-channel-init
loop-channel-init c = c.new-names.ensures ∙ no_names

pub push-requires : goal.push-requires
push-requires c = omega (arith, ap length c.loop-channel.invariant, names_len c.loop-channel.channel, c.loop-channel-test.true)

pub loop-channel-preserved : goal.loop-channel-preserved
loop-channel-preserved c =
    c.in_ok-push.ensures.ok ∙ (λ i. c.loop-channel.invariant i ++ (c.bytes.ensures.bytes ∙ c.plain_name.ensures) i ∷ []) ∙ sym (names_more c.loop-channel.channel)
