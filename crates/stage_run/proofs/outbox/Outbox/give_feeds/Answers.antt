use Rattle.std.proofs.Common.{◌≡◌, ◌≤◌, ◌<◌, ◌+◌, ◌∙◌, ◌++◌, ◌∷◌, [], List, suc, length, length-append, map, set, get_or, take, drop, ap, subst, sym, refl, arith}
use Rattle.std.proofs.Math.Path.{transport}
use Rattle.std.specs.Prelude.{nat_lt}
use Rattle.std.proofs.lemmas.List.{append-nil, get_or-map, length-map, length-take, map-set, take-append-drop, take_all}
use Rattle.std.proofs.Math.Seq.{map-set_same}
use Rattle.la_base.specs.declared.wires.Feed.{Feed}
use Rattle.stage_ring.specs.declared.ends.Tx.{Tx}
use Rattle.stage_ring.specs.Link.{more_if, sent, tx_link, tx_misses}
use Rattle.stage_run.specs.Acts.{Acts}
use Rattle.stage_run.specs.Boxes.{given_by, missed_by, served, sum}
use Rattle.stage_run.specs.Rows.{Kept, waiting}
use Rattle.stage_run.proofs.Counts.{acts_child}
use Rattle.stage_run.proofs.Rows.{skipped}
use Rattle.stage_run.proofs.Serving.{gives_rest, gives_some}
use Rattle.stage_run.proofs.outbox.Outbox.give_feeds.Goals as goal

sent_of : (xs : List (Tx Feed)) (c : _) (tx : Tx Feed) → c < length xs → tx ≡ get_or xs c tx → sent tx ≡ get_or (map sent xs) c (sent tx)
sent_of xs c tx low is = ap sent is ∙ sym (get_or-map sent xs c tx (sent tx) low)

pub returns-then-count-kept-clause-links : goal.returns-then-count-kept-clause-links
returns-then-count-kept-clause-links c =
    let s = c.args.self.now in
    record { children = map-set_same tx_link s.children.items s.place c.offer_some-count.new.self c.index_mut.result.now (c.offer_some-count.ensures.link.0 ∙ ap tx_link c.index_mut.ensures.value); marks = refl }

pub returns-clause-links : goal.returns-clause-links
returns-clause-links c =
    let s = c.args.self.now in
    let same = c.go_on.ensures.same in
    record {
      children = ap (λ v. map tx_link v.items) same.children ∙ map-set_same tx_link s.children.items s.place c.offer_some-count.new.self c.index_mut.result.now (c.offer_some-count.ensures.link.0 ∙ ap tx_link c.index_mut.ensures.value);
      marks = ap tx_link same.marks;
    }

pub returns-then-count-kept-clause-gives : goal.returns-then-count-kept-clause-gives
returns-then-count-kept-clause-gives c =
    let s = c.args.self.now in
    let items = s.children.items in
    let tx = c.index_mut.result.now in
    let new = c.offer_some-count.new.self in
    let n = c.offer_some-count.result in
    let w = waiting s.fed in
    let is = c.waiting.ensures.list in
    let low : s.place < length items = omega (arith, s.served, s.for_children, c.requires.some, s.children.ok.0) in
    let lower : s.place < length (map sent items) = omega (arith, low, length-map items sent) in
    let row = c.skip.new.self in
    let some = gives_some s.place (take n w) (drop n w) s.fed row (map sent items) (sent tx) lower (sent_of items s.place tx low c.index_mut.ensures.value) (sym (take-append-drop n w))
    (ap waiting c.skip.ensures ∙ skipped s.fed n) (ap (λ (r : Kept Feed). r.list) c.skip.ensures) in
    let more : sent new ≡ sent tx ++ take n w = c.offer_some-count.ensures.sent ∙ ap (λ (l : List Feed). sent tx ++ take n l) is in (
      s.place,
      take n w,
      omega (arith, length-take n w, ap length is, c.waiting.ensures.few),
      record { may = some.0; is = ap (served s.place row) (map-set sent items s.place new ∙ ap (set (map sent items) s.place) more) ∙ sym some.1 },
    )

pub returns-clause-gives : goal.returns-clause-gives
returns-clause-gives c =
    let s = c.args.self.now in
    let items = s.children.items in
    let tx = c.index_mut.result.now in
    let new = c.offer_some-count.new.self in
    let n = c.offer_some-count.result in
    let w = waiting s.fed in
    let is = c.waiting.ensures.list in
    let all : length w ≤ n = omega (arith, ap length is, ap length c.waiting-kept.ensures.list, c.if-count-kept.false) in
    let low : s.place < length items = omega (arith, s.served, s.for_children, c.requires.some, s.children.ok.0) in
    let lower : s.place < length (map sent items) = omega (arith, low, length-map items sent) in
    let row : Kept Feed = record { list = s.fed.list; at = length s.fed.list } in
    let none : waiting row ≡ [] = gone s.fed.list in
    let some = gives_some s.place w [] s.fed row (map sent items) (sent tx) lower (sent_of items s.place tx low c.index_mut.ensures.value) (sym (append-nil w)) none refl in
    let more : sent new ≡ sent tx ++ w = c.offer_some-count.ensures.sent ∙ ap (λ (l : List Feed). sent tx ++ take n l) is ∙ ap (λ (l : List Feed). sent tx ++ l) (take_all n w all) in
    let next : suc s.place ≡ s.place + 1 = omega arith in (
      s.place,
      w,
      omega (arith, ap length is, c.waiting.ensures.few),
      record {
        may = some.0;
        is = c.go_on.ensures.children ∙ (λ i. served (sym next i) (record { list = s.fed.list; at = 0 }) ((map-set sent items s.place new ∙ ap (set (map sent items) s.place) more) i))
            ∙ sym (gives_rest s.place row (map sent items) (sent tx ++ w) lower none) ∙ sym some.1;
      },
    )
  where
    gone : (xs : List Feed) → drop (length xs) xs ≡ []
    gone [] = refl
    gone (x ∷ xs) = gone xs

pub returns-then-count-kept-clause-act : goal.returns-then-count-kept-clause-act
returns-then-count-kept-clause-act c =
    let s = c.args.self.now in
    let items = s.children.items in
    let tx = c.index_mut.result.now in
    let new = c.offer_some-count.new.self in
    let e = c.offer_some-count.ensures in
    let n = c.offer_some-count.result in
    let kept = c.waiting-kept.result.now in
    let row = c.waiting.result.now in
    let same : length row ≡ length kept = ap length (c.waiting.ensures.list ∙ sym c.waiting-kept.ensures.list) in
    let low : s.place < length items = omega (arith, s.served, s.for_children, c.requires.some, s.children.ok.0) in
    let longer : length (sent new) ≡ length (sent tx) + n = omega (arith, ap length e.sent, length-append (sent tx) (take n row), length-take n row, e.within) in
    subst (λ a. Acts a (given_by s) (length (sent s.marks) + sum (map (λ t. length (sent t)) (set items s.place new))) (missed_by s) (tx_misses s.marks + sum (map tx_misses (set items s.place new)))) (sym c.act_of.ensures)
    (acts_child (length (sent s.marks)) (tx_misses s.marks) n (length kept) items s.place tx new low c.index_mut.ensures.value (omega (arith, e.within, same)) longer (e.misses ∙ ap (λ k. more_if (nat_lt n k) (tx_misses tx)) same))

pub returns-clause-act : goal.returns-clause-act
returns-clause-act c =
    let s = c.args.self.now in
    let items = s.children.items in
    let tx = c.index_mut.result.now in
    let new = c.offer_some-count.new.self in
    let e = c.offer_some-count.ensures in
    let n = c.offer_some-count.result in
    let kept = c.waiting-kept.result.now in
    let row = c.waiting.result.now in
    let is = c.go_on.ensures.same in
    let same : length row ≡ length kept = ap length (c.waiting.ensures.list ∙ sym c.waiting-kept.ensures.list) in
    let low : s.place < length items = omega (arith, s.served, s.for_children, c.requires.some, s.children.ok.0) in
    let longer : length (sent new) ≡ length (sent tx) + n = omega (arith, ap length e.sent, length-append (sent tx) (take n row), length-take n row, e.within) in
    let given : given_by c.go_on.new.self ≡ length (sent s.marks) + sum (map (λ t. length (sent t)) (set items s.place new)) = λ i. length (sent (is.marks i)) + sum (map (λ t. length (sent t)) (is.children i).items) in
    let missed : missed_by c.go_on.new.self ≡ tx_misses s.marks + sum (map tx_misses (set items s.place new)) = λ i. tx_misses (is.marks i) + sum (map tx_misses (is.children i).items) in
    transport (λ i. Acts (sym c.act_of-2.ensures i) (given_by s) (sym given i) (missed_by s) (sym missed i))
    (acts_child (length (sent s.marks)) (tx_misses s.marks) n (length kept) items s.place tx new low c.index_mut.ensures.value (omega (arith, e.within, same)) longer (e.misses ∙ ap (λ k. more_if (nat_lt n k) (tx_misses tx)) same))
