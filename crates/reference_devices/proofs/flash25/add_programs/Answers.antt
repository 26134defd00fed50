use Rattle.std.proofs.Common.{ℕ, ◌<◌, ◌++◌, ◌∙◌, ap, length, refl, arith}
use Rattle.dev_flash25.specs.Flash.{program_outs, in_page}
use Rattle.reference_devices.proofs.Rounds.{counted_round}
use Rattle.reference_devices.proofs.flash25.add_programs.Goals as goal

pub loop-place-preserved : goal.loop-place-preserved
loop-place-preserved c =
    let s = c.loop-place in
    let word = c.index-words-place in
    let within : s.place < length c.args.words.now = omega arith in
    counted_round (λ before word. program_outs (in_page c.args.at (length before)) word) c.args.words.now s.place word.result within word.is
    c.args.outs.now.items s.outs.items c.add_programmed.new.outs.items (λ place. program_outs (in_page c.args.at place) word.result) (λ before. refl) s.invariant (c.in_ok-add_programmed.ensures ∙ ap (λ (n : ℕ). s.outs.items ++ program_outs n word.result) c.in_page.ensures)
