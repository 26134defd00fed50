use Rattle.std.proofs.Common.{◌≡◌, ◌++◌, ◌∷◌, [], Ok, Err, length, map, rules, arith, refl, ◌∙◌, lit<}
use Rattle.std.specs.List.{slice_split}
use Rattle.std.proofs.lemmas.List.{length_push}
use Rattle.std.proofs.lemmas.Iterator.Splits.{YieldsList-from_str_split}
use Rattle.std.proofs.lemmas.Iterator.Consumers.{YieldsList-turn, YieldsList-end}
use Rattle.text_parts.proofs.ReadLemmas.{read_more, read_stops, read_ends, width_split, width_more, map-push}
use Rattle.kind_table.specs.Kinds.{opt_row}
use Rattle.stack_words.specs.Meaning.{given_of, stack_fault_in}
use Rattle.std.specs.Option.{IfSome}
use Rattle.std.proofs.lemmas.Option.{IfSome_then}
use Rattle.stack_words.specs.Options.{is_colon, option_at}
use Rattle.stack_words.proofs.options.read_list.Goals as goal

pub loop-option-init : goal.loop-option-init
loop-option-init c = record {
  can_next = tt;
  is_finite = tt;
  reads = rw c.new-options.ensures.items refl;
  place = let e = width_split is_colon c.args.text.now in omega arith;
}

pub returns-in-Err : goal.returns-in-Err
returns-in-Err c =
    let rows = map opt_row c.args.rows.now in
    let before = map given_of c.loop-option.options.items in
    let parts = slice_split is_colon c.args.text.now in
    let t = YieldsList-turn (YieldsList-from_str_split 58 c.args.text.now (lit< tt) (cc) (cc) (cc)) c.loop-option.yielded _ c.loop-option.yielded_by _ _ c.in-Some.option c.in-Some.is c.next.ensures.steps in
    let bad : IfSome (stack_fault_in c.in-Err.error) (λ fault. option_at rows c.args.word before (c.loop-option.at, c.in-Some.option.now) ≡ Err fault) = search rules in
    IfSome_then (stack_fault_in c.in-Err.error) bad (λ fault e. c.loop-option.invariant.reads
    ∙ read_stops (option_at rows c.args.word) before c.loop-option.at parts (length c.loop-option.yielded) c.in-Some.option.now fault t.0 t.1 e)

pub place_behind-at-requires : goal.place_behind-at-requires
place_behind-at-requires c =
    let parts = slice_split is_colon c.args.text.now in
    let t = YieldsList-turn (YieldsList-from_str_split 58 c.args.text.now (lit< tt) (cc) (cc) (cc)) c.loop-option.yielded _ c.loop-option.yielded_by _ _ c.in-Some.option c.in-Some.is c.next.ensures.steps in
    let w = width_more parts (length c.loop-option.yielded) c.in-Some.option.now t.0 t.1 in
    omega (arith, c.loop-option.invariant.place, c.requires)

pub loop-option-preserved : goal.loop-option-preserved
loop-option-preserved c =
    let rows = map opt_row c.args.rows.now in
    let before = map given_of c.loop-option.options.items in
    let parts = slice_split is_colon c.args.text.now in
    let t = YieldsList-turn (YieldsList-from_str_split 58 c.args.text.now (lit< tt) (cc) (cc) (cc)) c.loop-option.yielded _ c.loop-option.yielded_by _ _ c.in-Some.option c.in-Some.is c.next.ensures.steps in
    let n = length_push c.loop-option.yielded c.in-Some.option in
    let good : option_at rows c.args.word before (c.loop-option.at, c.in-Some.option.now) ≡ Ok (given_of c.in-Ok.given) = search rules in
    let pushed : c.push.new.self.items ≡ c.loop-option.options.items ++ c.in-Ok.given ∷ [] = search rules in
    record {
      can_next = tt;
      is_finite = tt;
      reads = c.loop-option.invariant.reads
          ∙ read_more (option_at rows c.args.word) before c.loop-option.at parts (length c.loop-option.yielded) c.in-Some.option.now (given_of c.in-Ok.given) t.0 t.1 good
          ∙ rw (pushed, n, map-push given_of c.loop-option.options.items c.in-Ok.given, c.place_behind-at.ensures) refl;
      place = let w = width_more parts (length c.loop-option.yielded) c.in-Some.option.now t.0 t.1 in rw (n, c.place_behind-at.ensures) (omega (arith, c.loop-option.invariant.place));
    }

pub returns : goal.returns
returns c =
    let rows = map opt_row c.args.rows.now in
    let parts = slice_split is_colon c.args.text.now in
    let t = YieldsList-end (YieldsList-from_str_split 58 c.args.text.now (lit< tt) (cc) (cc) (cc)) c.loop-option.yielded _ c.loop-option.yielded_by _ _ c.in-None.is c.next.ensures.steps in
    c.loop-option.invariant.reads
    ∙ read_ends (option_at rows c.args.word) (map given_of c.loop-option.options.items) c.loop-option.at parts (length c.loop-option.yielded) (omega (arith, t.1))
