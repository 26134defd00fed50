use Rattle.std.proofs.Common.{◌≡◌, ◌+◌, ◌-◌, ◌/◌, ◌^◌, ◌<◌, ◌≤◌, ◌∙◌, ℕ, List, ap, sym, subst, arith, drop, set, length-set}
use Rattle.std.proofs.lemmas.List.{drop_all}
use Rattle.line_text.proofs.Hexadecimal.{hex_onto, hex_onto_all, next_places, last_place, fewer, some_places}
use Rattle.line_text.proofs.hex.write_hex.Goals as goal

pub loop-rest-init : goal.loop-rest-init
loop-rest-init c = record {
  within = omega arith;
  room = c.told-places;
  small = omega arith;
  so_far = ap (λ (l : List ℕ). hex_onto 64 c.args.number l) (drop_all 16 c.args.places.now (omega arith)) ∙ hex_onto_all c.args.number;
}

pub loop-rest-preserved : goal.loop-rest-preserved
loop-rest-preserved c =
    let l = c.loop-rest in
    let above : 1 ≤ l.start = some_places l.start l.rest c.loop-rest-test.true l.invariant.small in
    let same : l.start ≡ l.start - 1 + 1 = omega arith in record {
      within = omega arith;
      room = length-set l.places l.start c.digit.result ∙ l.invariant.room;
      small = subst (λ (n : ℕ). l.rest / 16 < 16 ^ n) same (fewer l.rest l.start l.invariant.small);
      so_far =
          ap (λ (d : ℕ). hex_onto (l.start - 1 + 49) (l.rest / 16) (drop (l.start - 1 + 1) (set l.places l.start d))) c.digit.ensures
          ∙ next_places l.places l.start l.rest (omega arith) c.loop-rest-test.true above
          ∙ l.invariant.so_far;
    }

pub returns-clause-digits : goal.returns-clause-digits
returns-clause-digits c =
    let l = c.loop-rest in
    ap (λ (d : ℕ). drop l.start (set l.places l.start d)) c.digit-2.ensures
    ∙ sym (last_place l.places l.start l.rest (omega arith) c.loop-rest-test.false)
    ∙ l.invariant.so_far
