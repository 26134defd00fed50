use Rattle.std.proofs.Common.{◌≡◌, ◌++◌, ◌∷◌, [], Ok, Err, length, map, rules, arith, refl, ◌∙◌, lit<}
use Rattle.std.specs.Prelude.{◌==◌}
use Rattle.std.specs.List.{slice_split}
use Rattle.std.specs.Option.{IfSome}
use Rattle.std.proofs.lemmas.Option.{IfSome_then}
use Rattle.std.proofs.lemmas.List.{length_push}
use Rattle.std.proofs.lemmas.Iterator.Splits.{YieldsList-from_str_split}
use Rattle.std.proofs.lemmas.Iterator.Consumers.{YieldsList-turn, YieldsList-end}
use Rattle.text_parts.proofs.ReadLemmas.{read_more, read_stops, read_ends, width_split, width_more}
use Rattle.stack_words.specs.Accepting.{shown_at}
use Rattle.stack_words.specs.Meaning.{stack_fault_in, instance_of}
use Rattle.stack_words.proofs.shown.read_names.Goals as goal

pub loop-name-init : goal.loop-name-init
loop-name-init c = record {
  can_next = tt;
  is_finite = tt;
  reads = rw c.new-places.ensures.items refl;
  place = let e = width_split (λ b. b == 44) c.args.text.now in omega arith;
}

pub returns-in-Err : goal.returns-in-Err
returns-in-Err c =
    let judge = shown_at (map instance_of c.args.instances.now) c.args.word in
    let parts = slice_split (λ b. b == 44) c.args.text.now in
    let t = YieldsList-turn (YieldsList-from_str_split 44 c.args.text.now (lit< tt) (cc) (cc) (cc)) c.loop-name.yielded _ c.loop-name.yielded_by _ _ c.in-Some.name c.in-Some.is c.next.ensures.steps in
    let bad : IfSome (stack_fault_in c.in-Err.error) (λ fault. judge c.loop-name.places.items (c.loop-name.at, c.in-Some.name.now) ≡ Err fault) = search rules in
    IfSome_then (stack_fault_in c.in-Err.error) bad (λ fault e. c.loop-name.invariant.reads
    ∙ read_stops judge c.loop-name.places.items c.loop-name.at parts (length c.loop-name.yielded) c.in-Some.name.now fault t.0 t.1 e)

pub loop-name-preserved : goal.loop-name-preserved
loop-name-preserved c =
    let judge = shown_at (map instance_of c.args.instances.now) c.args.word in
    let parts = slice_split (λ b. b == 44) c.args.text.now in
    let t = YieldsList-turn (YieldsList-from_str_split 44 c.args.text.now (lit< tt) (cc) (cc) (cc)) c.loop-name.yielded _ c.loop-name.yielded_by _ _ c.in-Some.name c.in-Some.is c.next.ensures.steps in
    let n = length_push c.loop-name.yielded c.in-Some.name in
    let good : judge c.loop-name.places.items (c.loop-name.at, c.in-Some.name.now) ≡ Ok c.in-Ok.place = search rules in
    let pushed : c.push.new.self.items ≡ c.loop-name.places.items ++ c.in-Ok.place ∷ [] = search rules in
    record {
      can_next = tt;
      is_finite = tt;
      reads = c.loop-name.invariant.reads
          ∙ read_more judge c.loop-name.places.items c.loop-name.at parts (length c.loop-name.yielded) c.in-Some.name.now c.in-Ok.place t.0 t.1 good
          ∙ rw (pushed, n, c.place_behind-at.ensures) refl;
      place = let w = width_more parts (length c.loop-name.yielded) c.in-Some.name.now t.0 t.1 in rw (n, c.place_behind-at.ensures) (omega (arith, c.loop-name.invariant.place));
    }

pub returns : goal.returns
returns c =
    let judge = shown_at (map instance_of c.args.instances.now) c.args.word in
    let parts = slice_split (λ b. b == 44) c.args.text.now in
    let t = YieldsList-end (YieldsList-from_str_split 44 c.args.text.now (lit< tt) (cc) (cc) (cc)) c.loop-name.yielded _ c.loop-name.yielded_by _ _ c.in-None.is c.next.ensures.steps in
    c.loop-name.invariant.reads
    ∙ read_ends judge c.loop-name.places.items c.loop-name.at parts (length c.loop-name.yielded) (omega (arith, t.1))
