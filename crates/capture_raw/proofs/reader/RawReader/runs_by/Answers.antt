use Rattle.std.proofs.Common.{◌<◌, ◌∙◌, ◌*◌, ap, sym, arith, refl, ℕ, length, length-drop, length-set, take, replicate, subst}
use Rattle.std.proofs.lemmas.List.{take_rest}
use Rattle.la_base.specs.Samples.{samples}
use Rattle.la_base.specs.Runs.{samples_of}
use Rattle.capture_raw.specs.Reader.{Gives}
use Rattle.capture_raw.proofs.Batches.{runs_none, runs_more, gives_runs}
use Rattle.capture_raw.proofs.Captures.{unit_some}
use Rattle.capture_raw.proofs.reader.RawReader.runs_by.Goals as goal

pub loop-count-init : goal.loop-count-init
loop-count-init c =
    let s = c.args.self.now in
    let some : 0 < c.args.unit = omega (arith, c.requires.unit, unit_some s.channels s.channels_fit.0) in
    record {
      room = omega arith;
      within = omega arith;
      runs = runs_none c.args.unit some s.pins.items c.bytes-bytes.result.now c.args.into.now;
    }

pub loop-count-preserved : goal.loop-count-preserved
unfolding samples
loop-count-preserved c =
    let s = c.args.self.now in
    let pins = s.pins.items in
    let unit = c.args.unit in
    let left = c.loop-count.left.now in
    let len = c.alike_units-len.result in
    let some : 0 < unit = omega (arith, c.requires.unit, unit_some s.channels s.channels_fit.0) in
    let same = ap (λ (w : ℕ). replicate len w) c.sample.ensures ∙ sym (c.alike_units-len.ensures.same pins s.mask_covers) in
    let rest = take_rest left (len * unit) in
    record {
      room = simp length-set (omega arith);
      within = omega (arith, ap length rest, length-drop (len * unit) left, c.loop-count.invariant.within);
      runs = runs_more unit some pins c.bytes-bytes.result.now c.loop-count.into c.loop-count.count left _ _ c.loop-count-test.true c.alike_units-len.ensures.within rest same c.loop-count.invariant.runs;
    }

pub returns-clause-lets_go : goal.returns-clause-lets_go
returns-clause-lets_go c =
    let s = c.args.self.now in
    let l = c.loop-count in
    record {
      gives = subst (λ (n : ℕ). Gives n s.pins.items s.held c.advance.new.self (samples_of (take l.count l.into))) c.requires.unit
          (gives_runs c.args.unit s.pins.items s.held c.advance.new.self c.bytes-bytes.result.now l.into l.count l.left.now c.bytes-bytes.ensures.bytes l.invariant.runs c.advance.ensures.bytes c.advance.ensures.taken);
      form = record { channels = refl; rate = refl; pins = refl };
      is_open = refl;
    }
