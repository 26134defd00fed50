use Rattle.std.proofs.Common.{◌⊎◌, inl, inr, ⊎_elim, ℕ, bit_or}
use Rattle.wait_cond.specs.Meets.{Rises, Falls, LinesHold, NoneIn}
use Rattle.wait_cond.proofs.Masks.{either, inside, outside, like}
use Rattle.wait_cond.proofs.lines.lines_hold.Goals as goal

pub returns-then-not-all_in-3 : goal.returns-then-not-all_in-3
returns-then-not-all_in-3 c =
    let before = c.args.before in
    let now = c.args.now in
    let edges = either c.rises-rises.result c.falls-falls.result (Rises before now) (Falls before now) c.rises-rises.ensures c.falls-falls.ensures in
    λ h. c.if-not-all_in-3.ensures (λ line one. edges.all line (h.edge line one))

pub returns : goal.returns
returns c =
    let before = c.args.before in
    let now = c.args.now in
    let edges = either c.rises-rises.result c.falls-falls.result (Rises before now) (Falls before now) c.rises-rises.ensures c.falls-falls.ensures in
    let either_way : ℕ → Type 0 = λ line. Rises before now line ⊎ Falls before now line in
    let lines = bit_or c.rises-rises.result c.falls-falls.result in
    like c.none_in-2.result (NoneIn c.args.alt.now.steady lines) (LinesHold c.args.alt.now before now)
    (λ none. record {
      low = c.if-not-none_in.ensures;
      high = c.if-not-all_in-4.ensures;
      rise = λ line one. c.rises-rises.ensures.each line (c.if-not-all_in.ensures line one);
      fall = λ line one. c.falls-falls.ensures.each line (c.if-not-all_in-2.ensures line one);
      edge = λ line one. edges.each line (c.if-not-all_in-3.ensures line one);
      steady = λ line one. (λ r. outside lines either_way edges line (none line one) (inl r), λ f. outside lines either_way edges line (none line one) (inr f));
    })
    (λ h line one. inside lines either_way edges line (λ e. ⊎_elim (h.steady line one).0 (h.steady line one).1 e))
    c.none_in-2.ensures
