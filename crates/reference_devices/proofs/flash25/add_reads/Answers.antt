use Rattle.std.proofs.Common.{◌<◌, ◌+◌, ◌%◌, length, refl, arith}
use Rattle.std.specs.Prelude.{◌^◌}
use Rattle.dev_flash25.specs.Flash.{read_outs}
use Rattle.reference_devices.proofs.Rounds.{counted_round}
use Rattle.reference_devices.proofs.flash25.add_reads.Goals as goal

pub loop-place-preserved : goal.loop-place-preserved
loop-place-preserved c =
    let s = c.loop-place in
    let word = c.index-words-place in
    let within : s.place < length c.args.words.now = omega arith in
    counted_round (λ before word. read_outs ((c.args.at + length before) % 2 ^ 24) word) c.args.words.now s.place word.result within word.is
    c.args.outs.now.items s.outs.items c.add_read.new.outs.items (λ place. read_outs ((c.args.at + place) % 2 ^ 24) word.result) (λ before. refl) s.invariant c.in_ok-add_read.ensures
