use Rattle.std.proofs.Common.{◌+◌, ◌<◌, ◌≤◌, ℕ, List, [], ◌∷◌, length, sym, ap, subst, arith}
use Rattle.std.proofs.lemmas.List.{length-append}
use Rattle.wait_cond.specs.Conds.{cond_alts}
use Rattle.wait_cond.specs.declared.alt.Alt.{Alt}
use Rattle.search_job.proofs.Choosing.{ChosenSoFar, choosing_stops, chosen_ends, chosen_more, chosen_nothing, no_more_terms, terms_at}
use Rattle.search_job.proofs.alternatives.bind_words.Goals as goal

pub returns-in-Err-clause-chooses : goal.returns-in-Err-clause-chooses
returns-in-Err-clause-chooses c = λ alternatives are.
    let names = c.args.names.now in
    let first = subst (λ (l : List ℕ). ChosenSoFar names alternatives 0 l []) (sym c.new-pins.ensures) (chosen_nothing names alternatives) in
    let t = terms_at c.args.chains.now alternatives are 0 c.index-chains-0.result (omega (arith, c.requires.some)) c.index-chains-0.is in
    choosing_stops names alternatives 0 c.new-pins.result.items [] first t.0 t.1 c.bind_word.new.pins.items c.in-Err.error (c.in-Err.ensures.chooses t.0 t.2)

pub loop-entry-init : goal.loop-entry-init
loop-entry-init c =
    let names = c.args.names.now in
    record {
      so_far = λ alternatives are.
          let first = subst (λ (l : List ℕ). ChosenSoFar names alternatives 0 l []) (sym c.new-pins.ensures) (chosen_nothing names alternatives) in
          let t = terms_at c.args.chains.now alternatives are 0 c.index-chains-0.result (omega (arith, c.requires.some)) c.index-chains-0.is in
          subst (λ (l : List Alt). ChosenSoFar names alternatives 1 c.bind_word.new.pins.items l) (sym c.one-cond.ensures)
          (chosen_more names alternatives 0 c.new-pins.result.items [] first t.0 t.1 c.bind_word.new.pins.items c.in-Ok.alt (c.in-Ok.ensures.chooses t.0 t.2));
      distinct = c.in-Ok.ensures.distinct;
      below = c.in-Ok.ensures.below (λ k within. absurd (omega (arith, within, ap length c.new-pins.ensures)));
      count = ap length c.one-cond.ensures;
    }

pub returns-in-Err-bind_word-clause-chooses : goal.returns-in-Err-bind_word-clause-chooses
returns-in-Err-bind_word-clause-chooses c = λ alternatives are.
    let names = c.args.names.now in
    let k = c.loop-entry.entry in
    let within : k < length c.args.chains.now = omega arith in
    let t = terms_at c.args.chains.now alternatives are k c.index-chains-entry.result within c.index-chains-entry.is in
    choosing_stops names alternatives k c.loop-entry.pins.items (cond_alts c.loop-entry.cond) (c.loop-entry.invariant.so_far alternatives are) t.0 t.1 c.bind_word-in-loop-entry.new.pins.items c.in-Err-bind_word.error
    (c.in-Err-bind_word.ensures.chooses t.0 t.2)

pub loop-entry-preserved : goal.loop-entry-preserved
loop-entry-preserved c =
    let names = c.args.names.now in
    let k = c.loop-entry.entry in
    let within : k < length c.args.chains.now = omega arith in
    record {
      so_far = λ alternatives are.
          let t = terms_at c.args.chains.now alternatives are k c.index-chains-entry.result within c.index-chains-entry.is in
          subst (λ (l : List Alt). ChosenSoFar names alternatives (k + 1) c.bind_word-in-loop-entry.new.pins.items l) (sym c.add.ensures)
          (chosen_more names alternatives k c.loop-entry.pins.items (cond_alts c.loop-entry.cond) (c.loop-entry.invariant.so_far alternatives are) t.0 t.1 c.bind_word-in-loop-entry.new.pins.items c.in-Ok-bind_word.alt
          (c.in-Ok-bind_word.ensures.chooses t.0 t.2));
      distinct = c.in-Ok-bind_word.ensures.distinct;
      below = c.in-Ok-bind_word.ensures.below c.loop-entry.invariant.below;
      count = omega (arith, ap length c.add.ensures, length-append (cond_alts c.loop-entry.cond) (c.in-Ok-bind_word.alt ∷ []), c.loop-entry.invariant.count);
    }

pub returns-clause-chooses : goal.returns-clause-chooses
returns-clause-chooses c = λ alternatives are.
    let behind : length c.args.chains.now ≤ c.loop-entry.entry = omega arith in
    chosen_ends c.args.names.now alternatives c.loop-entry.entry c.loop-entry.pins.items (cond_alts c.loop-entry.cond) (c.loop-entry.invariant.so_far alternatives are)
    (no_more_terms c.args.chains.now alternatives are c.loop-entry.entry behind)
