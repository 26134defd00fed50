use Rattle.std.proofs.Common.{◌≡◌, ◌≤◌, ◌∙◌, Some, length, map, option_map, sym, ap, rules, Bor, String, Global}
use Rattle.std.specs.String.{string_bytes}
use Rattle.decoder_set.specs.Opening.{setup_of}
use Rattle.stack_words.specs.Stacks.{instances_in}
use Rattle.run_asks.specs.Parting.{places_of}
use Rattle.ldecode.proofs.Begun.{as_many_setups, asked_begins, asked_begun, asked_refuses, places_same}
use Rattle.ldecode.proofs.part.begin.Goals as goal

pub returns-in-Some-clause-begun : goal.returns-in-Some-clause-begun
returns-in-Some-clause-begun c =
    let old = c.args.machines.now in
    let instances = instances_in c.args.stack.now in
    let kinds : c.as_slice.result.now ≡ places_of (map setup_of old) = c.as_slice.ensures.value ∙ (c.places.ensures ∙ sym (places_same old instances c.requires.kinds)) in
    let word : string_bytes c.in-Some.word.now ≡ c.as_str.result.now = search rules in
    let few : length (map setup_of old) ≤ 8 = search (rules, as_many_setups old instances c.requires.kinds) in
    asked_begun _ old c.read_check.new.machines c.as_str.result.now c.as_slice.result.now kinds few (option_map (λ (text : Bor (String Global)). string_bytes text.now) c.args.from)
    (ap (option_map (λ (text : Bor (String Global)). string_bytes text.now)) c.in-Some.is ∙ ap Some word) c.read_check.result c.read_check.ensures

pub returns-in-Some-clause-begins : goal.returns-in-Some-clause-begins
returns-in-Some-clause-begins c =
    let old = c.args.machines.now in
    let instances = instances_in c.args.stack.now in
    let kinds : c.as_slice.result.now ≡ places_of (map setup_of old) = c.as_slice.ensures.value ∙ (c.places.ensures ∙ sym (places_same old instances c.requires.kinds)) in
    let word : string_bytes c.in-Some.word.now ≡ c.as_str.result.now = search rules in
    let few : length (map setup_of old) ≤ 8 = search (rules, as_many_setups old instances c.requires.kinds) in
    asked_begins _ old c.read_check.new.machines c.as_str.result.now c.as_slice.result.now kinds few (option_map (λ (text : Bor (String Global)). string_bytes text.now) c.args.from)
    (ap (option_map (λ (text : Bor (String Global)). string_bytes text.now)) c.in-Some.is ∙ ap Some word) c.read_check.result c.read_check.ensures

pub returns-in-Some-clause-refused : goal.returns-in-Some-clause-refused
returns-in-Some-clause-refused c =
    let old = c.args.machines.now in
    let instances = instances_in c.args.stack.now in
    let kinds : c.as_slice.result.now ≡ places_of (map setup_of old) = c.as_slice.ensures.value ∙ (c.places.ensures ∙ sym (places_same old instances c.requires.kinds)) in
    let word : string_bytes c.in-Some.word.now ≡ c.as_str.result.now = search rules in
    let few : length (map setup_of old) ≤ 8 = search (rules, as_many_setups old instances c.requires.kinds) in
    asked_refuses _ old c.read_check.new.machines c.as_str.result.now c.as_slice.result.now kinds few (option_map (λ (text : Bor (String Global)). string_bytes text.now) c.args.from)
    (ap (option_map (λ (text : Bor (String Global)). string_bytes text.now)) c.in-Some.is ∙ ap Some word) c.read_check.result c.read_check.ensures
