use Rattle.std.proofs.Common.{◌≤◌, ◌∙◌, ◌*◌, ap, sym, arith, refl, ℕ, List, length, take, replicate, subst}
use Rattle.std.proofs.lemmas.List.{length-replicate}
use Rattle.la_base.specs.Samples.{samples}
use Rattle.capture_raw.specs.Raw.{raw_samples}
use Rattle.capture_raw.specs.Reader.{Gives}
use Rattle.capture_raw.proofs.Standing.{gives_front}
use Rattle.capture_raw.proofs.reader.RawReader.run_by.Goals as goal

pub returns : goal.returns
unfolding samples
returns c =
    let s = c.args.self.now in
    let pins = s.pins.items in
    let unit = c.args.unit in
    let count = c.alike_units-count.result in
    let value = c.sample-value.result in
    let bytes = c.bytes-bytes.ensures.bytes in
    let given = replicate count value in
    let same = ap (λ (w : ℕ). replicate count w) c.sample-value.ensures ∙ sym (c.alike_units-count.ensures.same pins s.mask_covers) ∙ ap (λ (l : List ℕ). raw_samples unit pins (take (count * unit) l)) bytes in
    let fits : count * unit ≤ length s.held.bytes = omega (arith, c.alike_units-count.ensures.within, ap length bytes) in
    record {
      gives = subst (λ (n : ℕ). Gives n pins s.held c.advance.new.self given) c.requires.unit
          (gives_front unit pins s.held c.advance.new.self given (count * unit) (ap (λ (n : ℕ). n * unit) (length-replicate count value)) fits same c.advance.ensures.bytes c.advance.ensures.taken);
      form = record { channels = refl; rate = refl; pins = refl };
      is_open = refl;
    }
