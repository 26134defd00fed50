use Rattle.std.proofs.Common.{◌≡◌, ◌++◌, ◌∷◌, [], false, Ok, Err, codes, length, rules, arith, refl, ◌∙◌, lit<}
use Rattle.std.specs.Prelude.{◌==◌}
use Rattle.std.specs.List.{slice_split}
use Rattle.std.specs.Option.{IfSome}
use Rattle.std.specs.Str.{bytes_eq}
use Rattle.std.proofs.lemmas.Option.{IfSome_then}
use Rattle.std.proofs.lemmas.List.{length_push}
use Rattle.std.proofs.lemmas.Iterator.Splits.{YieldsList-from_str_split}
use Rattle.std.proofs.lemmas.Iterator.Consumers.{YieldsList-turn, YieldsList-end}
use Rattle.text_parts.proofs.ReadLemmas.{read_more, read_stops, read_ends, width_split, width_more, map-push}
use Rattle.cond_words.specs.Words.{meaning_of, meanings, fault_in}
use Rattle.cond_words.specs.Grammar.{term_at}
use Rattle.cond_words.proofs.WordLemmas.{not_any}
use Rattle.cond_words.proofs.read.read_alt.Goals as goal

pub loop-text-init : goal.loop-text-init
loop-text-init c = record {
  can_next = tt;
  is_finite = tt;
  reads = rw c.new-terms.ensures.items refl;
  place = let e = width_split (λ b. b == 44) c.args.word.now in omega arith;
  few = rw c.new-terms.ensures.items (omega arith);
}

pub returns-in-Err : goal.returns-in-Err
returns-in-Err c =
    let parts = slice_split (λ b. b == 44) c.args.word.now in
    let t = YieldsList-turn (YieldsList-from_str_split 44 c.args.word.now (lit< tt) (cc) (cc) (cc)) c.loop-text.yielded _ c.loop-text.yielded_by _ _ c.in-Some.text c.in-Some.is c.next.ensures.steps in
    let other : bytes_eq c.args.word.now (codes "any") ≡ false = search rules in
    let bad : IfSome (fault_in c.in-Err.error) (λ fault. term_at (meanings c.loop-text.terms.items) (c.loop-text.at, c.in-Some.text.now) ≡ Err fault) = search rules in
    IfSome_then (fault_in c.in-Err.error) bad (λ fault e. not_any c.args.word.now other ∙ c.loop-text.invariant.reads
    ∙ read_stops term_at (meanings c.loop-text.terms.items) c.loop-text.at parts (length c.loop-text.yielded) c.in-Some.text.now fault t.0 t.1 e)

pub loop-text-preserved : goal.loop-text-preserved
loop-text-preserved c =
    let parts = slice_split (λ b. b == 44) c.args.word.now in
    let t = YieldsList-turn (YieldsList-from_str_split 44 c.args.word.now (lit< tt) (cc) (cc) (cc)) c.loop-text.yielded _ c.loop-text.yielded_by _ _ c.in-Some.text c.in-Some.is c.next.ensures.steps in
    let n = length_push c.loop-text.yielded c.in-Some.text in
    let good : term_at (meanings c.loop-text.terms.items) (c.loop-text.at, c.in-Some.text.now) ≡ Ok (meaning_of c.in-Ok.term) = search rules in
    let pushed : c.push.new.self.items ≡ c.loop-text.terms.items ++ c.in-Ok.term ∷ [] = search rules in
    record {
      can_next = tt;
      is_finite = tt;
      reads = c.loop-text.invariant.reads
          ∙ read_more term_at (meanings c.loop-text.terms.items) c.loop-text.at parts (length c.loop-text.yielded) c.in-Some.text.now (meaning_of c.in-Ok.term) t.0 t.1 good
          ∙ rw (pushed, n, map-push meaning_of c.loop-text.terms.items c.in-Ok.term, c.place_behind-at.ensures) refl;
      place = let w = width_more parts (length c.loop-text.yielded) c.in-Some.text.now t.0 t.1 in rw (n, c.place_behind-at.ensures) (omega (arith, c.loop-text.invariant.place));
      few = rw pushed (let l = length_push c.loop-text.terms.items c.in-Ok.term in omega (arith, c.in-Ok.ensures.few));
    }

pub returns : goal.returns
returns c =
    let parts = slice_split (λ b. b == 44) c.args.word.now in
    let t = YieldsList-end (YieldsList-from_str_split 44 c.args.word.now (lit< tt) (cc) (cc) (cc)) c.loop-text.yielded _ c.loop-text.yielded_by _ _ c.in-None.is c.next.ensures.steps in
    let other : bytes_eq c.args.word.now (codes "any") ≡ false = search rules in
    not_any c.args.word.now other ∙ c.loop-text.invariant.reads
    ∙ read_ends term_at (meanings c.loop-text.terms.items) c.loop-text.at parts (length c.loop-text.yielded) (omega (arith, t.1))
