use Rattle.std.proofs.Common.{◌≡◌, ◌+◌, ◌<◌, ◌++◌, ◌∷◌, [], List, Option, Ok, Err, map, option_map, rules, arith, refl, sym, ap, ◌∙◌}
use Rattle.std.proofs.lemmas.List.{length-map}
use Rattle.std.specs.String.{string_bytes}
use Rattle.text_parts.proofs.ReadLemmas.{map-push}
use Rattle.words.specs.Given.{used_of}
use Rattle.words.specs.Lexer.{Text}
use Rattle.words.specs.Uses.{number_behind, use_at, value_behind}
use Rattle.words.proofs.Turns.{use_more, use_stops, fewer_words, number_one, number_two, words_counted}
use Rattle.words.proofs.reading.read_uses.Goals as goal
use Rattle.words.proofs.reading.read_uses.Goals.{then-is_some, else-is_some}

pub loop-word-smaller : goal.loop-word-smaller
loop-word-smaller c =
    let first : map string_bytes c.loop-word.words.now ≡ string_bytes c.in-Some.word.now ∷ map string_bytes c.in-Some.behind.now = ap (map string_bytes) c.in-Some.ensures.cases.0 in
    let text : c.as_str.result.now ≡ string_bytes c.in-Some.word.now = search rules in
    let value : (option_map (λ s. s.now) c.value_behind.result.0, map string_bytes c.value_behind.result.1.now) ≡ value_behind (string_bytes c.in-Some.word.now) (map string_bytes c.in-Some.behind.now) = rw text at c.value_behind.ensures in
    let f = fewer_words [] 0 (map string_bytes c.loop-word.words.now) (string_bytes c.in-Some.word.now) (map string_bytes c.in-Some.behind.now) (option_map (λ s. s.now) c.value_behind.result.0) (map string_bytes c.value_behind.result.1.now) first value in
    simp length-map at f

pub loop-word-preserved : goal.loop-word-preserved
loop-word-preserved c =
    let words : List Text = map string_bytes c.loop-word.words.now in
    let word : Text = string_bytes c.in-Some.word.now in
    let behind : List Text = map string_bytes c.in-Some.behind.now in
    let next : Option Text = option_map (λ s. s.now) c.value_behind.result.0 in
    let rest : List Text = map string_bytes c.value_behind.result.1.now in
    let first : words ≡ word ∷ behind = ap (map string_bytes) c.in-Some.ensures.cases.0 in
    let text : c.as_str.result.now ≡ word = search rules in
    let value : (next, rest) ≡ value_behind word behind = rw text at c.value_behind.ensures in
    let good : use_at (map used_of c.loop-word.uses.items) (record { number = c.loop-word.number; word = word; next = next }) ≡ Ok (used_of c.in-Ok.used) = search rules in
    let pushed : c.push.new.self.items ≡ c.loop-word.uses.items ++ c.in-Ok.used ∷ [] = search rules in
    let step : number_behind c.loop-word.number next ≡ c.loop-word.number + c.if-is_some.number = elim c.if-is_some.branch [
      | then-is_some w ↦ number_two c.loop-word.number next (search rules) ∙ ap (λ s. c.loop-word.number + s) (sym w.number-is)
      | else-is_some w ↦ number_one c.loop-word.number next (search rules) ∙ ap (λ s. c.loop-word.number + s) (sym w.number-is)
    ] in
    record {
      reads = c.loop-word.invariant.reads ∙ use_more (map used_of c.loop-word.uses.items) c.loop-word.number words word behind next rest first value (used_of c.in-Ok.used) good
          ∙ rw (pushed, map-push used_of c.loop-word.uses.items c.in-Ok.used, step) refl;
      early = let below : c.loop-word.number < 256 = c.in-Ok.ensures.early in elim c.if-is_some.branch [ then-is_some w ↦ omega arith | else-is_some w ↦ omega arith ];
      count = let n = simp length-map at (words_counted c.loop-word.number words word behind next rest first value) in omega (arith, step, n, c.loop-word.invariant.count);
    }

pub returns-in-Err-clause-reads : goal.returns-in-Err-clause-reads
returns-in-Err-clause-reads c =
    let words : List Text = map string_bytes c.loop-word.words.now in
    let word : Text = string_bytes c.in-Some.word.now in
    let behind : List Text = map string_bytes c.in-Some.behind.now in
    let next : Option Text = option_map (λ s. s.now) c.value_behind.result.0 in
    let rest : List Text = map string_bytes c.value_behind.result.1.now in
    let first : words ≡ word ∷ behind = ap (map string_bytes) c.in-Some.ensures.cases.0 in
    let text : c.as_str.result.now ≡ word = search rules in
    let value : (next, rest) ≡ value_behind word behind = rw text at c.value_behind.ensures in
    let bad : use_at (map used_of c.loop-word.uses.items) (record { number = c.loop-word.number; word = word; next = next }) ≡ Err c.in-Err.fault = search rules in
    c.loop-word.invariant.reads ∙ use_stops (map used_of c.loop-word.uses.items) c.loop-word.number words word behind next rest first value c.in-Err.fault bad
