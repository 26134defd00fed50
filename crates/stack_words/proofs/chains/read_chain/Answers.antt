use Rattle.std.proofs.Common.{[], length, map, arith, refl, sym, lit<}
use Rattle.std.specs.Prelude.{◌==◌}
use Rattle.std.specs.List.{slice_split}
use Rattle.std.proofs.lemmas.Option.{IfSome_then}
use Rattle.std.proofs.lemmas.List.{append-nil, length_push}
use Rattle.std.proofs.lemmas.Iterator.Splits.{YieldsList-from_str_split}
use Rattle.std.proofs.lemmas.Iterator.Consumers.{YieldsList-turn, YieldsList-end}
use Rattle.text_parts.proofs.ReadLemmas.{width_split, width_more}
use Rattle.stack_words.specs.Meaning.{stack_fault_in, instance_of}
use Rattle.stack_words.proofs.LinkLemmas.{chain_more, chain_stops, chain_ends}
use Rattle.stack_words.proofs.chains.read_chain.Goals as goal

pub loop-part-init : goal.loop-part-init
loop-part-init c = record {
  can_next = tt;
  is_finite = tt;
  so_far = record { links = []; reads = refl; joined = sym (append-nil (map instance_of c.args.instances.now.items)); last = refl };
  place = let e = width_split (λ b. b == 44) c.args.text.now in omega arith;
  few = c.requires.few;
}

pub returns-in-Err-clause-step : goal.returns-in-Err-clause-step
returns-in-Err-clause-step c =
    let parts = slice_split (λ b. b == 44) c.args.text.now in
    let t = YieldsList-turn (YieldsList-from_str_split 44 c.args.text.now (lit< tt) (cc) (cc) (cc)) c.loop-part.yielded _ c.loop-part.yielded_by _ _ c.in-Some.part c.in-Some.is c.next.ensures.steps in
    IfSome_then (stack_fault_in c.in-Err.error) c.in-Err.ensures.step (λ fault e. chain_stops (map instance_of c.args.instances.now.items) c.args.word parts (length c.loop-part.yielded) c.loop-part.at (map instance_of c.loop-part.instances.items) c.loop-part.parent
    c.loop-part.invariant.so_far c.in-Some.part.now t.0 t.1 fault e)

pub loop-part-preserved : goal.loop-part-preserved
loop-part-preserved c =
    let earlier = map instance_of c.args.instances.now.items in
    let parts = slice_split (λ b. b == 44) c.args.text.now in
    let t = YieldsList-turn (YieldsList-from_str_split 44 c.args.text.now (lit< tt) (cc) (cc) (cc)) c.loop-part.yielded _ c.loop-part.yielded_by _ _ c.in-Some.part c.in-Some.is c.next.ensures.steps in
    let n = length_push c.loop-part.yielded c.in-Some.part in
    let new = map instance_of c.read_part.new.instances.items in
    let more = chain_more earlier c.args.word parts (length c.loop-part.yielded) c.loop-part.at (map instance_of c.loop-part.instances.items) c.loop-part.parent
    c.loop-part.invariant.so_far c.in-Some.part.now t.0 t.1 c.in-Ok.place new c.in-Ok.ensures.step in
    record {
      can_next = tt;
      is_finite = tt;
      so_far = rw (n, c.place_behind-at.ensures) more;
      place = let w = width_more parts (length c.loop-part.yielded) c.in-Some.part.now t.0 t.1 in rw (n, c.place_behind-at.ensures) (omega (arith, c.loop-part.invariant.place));
      few = c.in-Ok.ensures.few;
    }

pub returns-clause-step : goal.returns-clause-step
returns-clause-step c =
    let parts = slice_split (λ b. b == 44) c.args.text.now in
    let t = YieldsList-end (YieldsList-from_str_split 44 c.args.text.now (lit< tt) (cc) (cc) (cc)) c.loop-part.yielded _ c.loop-part.yielded_by _ _ c.in-None.is c.next.ensures.steps in
    chain_ends (map instance_of c.args.instances.now.items) c.args.word parts (length c.loop-part.yielded) c.loop-part.at (map instance_of c.loop-part.instances.items) c.loop-part.parent
    c.loop-part.invariant.so_far (omega (arith, t.1))
