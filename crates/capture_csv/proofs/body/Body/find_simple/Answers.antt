use Rattle.std.proofs.Common.{◌∙◌, ap, sym, subst, arith, length, map, List, ℕ, Bool, None}
use Rattle.std.proofs.lemmas.List.{take_rest}
use Rattle.capture_csv.specs.Modes.{skips}
use Rattle.capture_csv.specs.Records.{trimmed}
use Rattle.capture_csv.specs.Times.{time_in}
use Rattle.capture_csv.specs.Values.{LevelsRead}
use Rattle.capture_csv.proofs.Finding.{no_levels, rows_found, times_found, times_skip, written}
use Rattle.capture_csv.proofs.SimpleLines.{first_parted, first_taken, line_simple}
use Rattle.capture_csv.proofs.body.Body.find_simple.Goals as goal

pub simple_levels-requires-clause-some : goal.simple_levels-requires-clause-some
simple_levels-requires-clause-some c =
    let s = c.args.self.now in
    let fields = c.requires.fields in
    (fields.0, fields.1, omega (arith, fields.2, s.fits, ap skips c.in-Rows.is, ap length c.deref_mut.ensures.value))

pub returns-in-Rows-clause-found : goal.returns-in-Rows-clause-found
returns-in-Rows-clause-found c = λ fields line same.
    let s = c.args.self.now in
    let is = ap length c.deref_mut.ensures.value in
    let new = written s.levels.len c.simple_levels.new.levels s.levels.items (c.simple_levels.ensures.len ∙ is) (sym is ∙ c.deref_mut.ensures.len) in
    rows_found s.mode fields _ _ c.in-Rows.is
    (subst (λ (l : List Bool). LevelsRead 1 (map trimmed fields) l c.simple_levels.result) (sym new) (c.simple_levels.ensures.levels fields line (omega (arith, same, s.fits, ap skips c.in-Rows.is, is))))

pub first_len-len-requires : goal.first_len-len-requires
first_len-len-requires c = line_simple c.args.text.now c.requires.fields.0 c.requires.some c.requires.fields.1

pub text_in-requires : goal.text_in-requires
text_in-requires c = first_taken c.args.text.now c.first_len-len.result (line_simple c.args.text.now c.requires.fields.0 c.requires.some c.requires.fields.1) c.first_len-len.ensures.first

pub returns-then-len-text-clause-found : goal.returns-then-len-text-clause-found
returns-then-len-text-clause-found c = λ fields line same.
    let s = c.args.self.now in
    let parted = first_parted c.args.text.now c.first_len-len.result fields c.requires.some line c.first_len-len.ensures.first in
    let alone = parted.alone c.if-len-text.true in
    let time = c.time_of-time.ensures.time ∙ ap time_in c.trimmed.ensures ∙ ap (λ (l : List ℕ). time_in (trimmed l)) (parted.text_is c.text_in.result.now c.text_in.ensures) in
    times_found s.mode fields parted.word parted.others s.levels.items _ c.in-Times.is parted.fields_are time
    (subst (λ (l : List (List ℕ)). LevelsRead 2 (map trimmed l) s.levels.items None) (sym alone) (no_levels s.levels.items (omega (arith, ap length parted.fields_are, ap length alone, same, s.fits, times_skip s.mode c.in-Times.is))))

pub simple_levels-requires-in-Times-clause-some : goal.simple_levels-requires-in-Times-clause-some
simple_levels-requires-in-Times-clause-some c =
    let s = c.args.self.now in
    let fields = c.requires.fields in
    let parted = first_parted c.args.text.now c.first_len-len.result fields.0 c.requires.some fields.1 c.first_len-len.ensures.first in
    let behind = parted.behind c.if-len-text.false _ (take_rest c.args.text.now _) in
    (parted.others, behind.1, omega (arith, ap length parted.fields_are, fields.2, s.fits, times_skip s.mode c.in-Times.is, ap length c.deref_mut-in-Times.ensures.value))

pub returns-else-len-text-clause-found : goal.returns-else-len-text-clause-found
returns-else-len-text-clause-found c = λ fields line same.
    let s = c.args.self.now in
    let parted = first_parted c.args.text.now c.first_len-len.result fields c.requires.some line c.first_len-len.ensures.first in
    let behind = parted.behind c.if-len-text.false _ (take_rest c.args.text.now _) in
    let time = c.time_of-time.ensures.time ∙ ap time_in c.trimmed.ensures ∙ ap (λ (l : List ℕ). time_in (trimmed l)) (parted.text_is c.text_in.result.now c.text_in.ensures) in
    let is = ap length c.deref_mut-in-Times.ensures.value in
    let new = written s.levels.len c.simple_levels-in-Times.new.levels s.levels.items (c.simple_levels-in-Times.ensures.len ∙ is) (sym is ∙ c.deref_mut-in-Times.ensures.len) in
    times_found s.mode fields parted.word parted.others _ _ c.in-Times.is parted.fields_are time
    (subst (λ (l : List Bool). LevelsRead 2 (map trimmed parted.others) l c.simple_levels-in-Times.result) (sym new)
    (c.simple_levels-in-Times.ensures.levels parted.others behind.1 (omega (arith, ap length parted.fields_are, same, s.fits, times_skip s.mode c.in-Times.is, is))))
