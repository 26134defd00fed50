use Rattle.std.proofs.Common.{◌≡◌, ◌≤◌, ◌++◌, length, take, sym, ◌∙◌, ap, subst, arith}
use Rattle.std.proofs.lemmas.List.{append_cancel_left, length-append}
use mathlib.Core.List.{IsPrefix}
use Rattle.stage_ring.specs.Link.{sent, received, free, known}
use Rattle.stage_ring.proofs.PassLemmas.{all_sent, all_taken, row_taken}
use Rattle.stage_ring.proofs.laws.all_pass_through.Goals as goal

pub returns-clause-items : goal.returns-clause-items
returns-clause-items g c =
    let one = c.settle.ensures in
    let offers = c.offer_some.ensures in
    let two = c.settle-2.ensures in
    let takes = c.take_some.ensures in
    let items = c.args.items.now in
    let none : length (known c.settle.new.rx) ≡ 0 = omega (arith, ap length one.tied, length-append (received c.settle.new.rx) (known c.settle.new.rx), ap length one.tx.2, ap length one.rx.1, ap length c.requires.none_waits) in
    let room : length items ≤ free c.settle.new.tx = omega (arith, one.room, none, c.requires.room, one.tx.1) in
    let all : take c.offer_some.result items ≡ items = all_sent items c.offer_some.result (free c.settle.new.tx) (free c.offer_some.new.self) offers.within room offers.free offers.full in
    let went : sent c.settle-2.new.tx ≡ sent c.args.tx.now ++ items = two.tx.2 ∙ offers.sent ∙ (λ i. one.tx.2 i ++ all i) in
    let came : received c.settle-2.new.rx ≡ sent c.args.tx.now = two.rx.1 ∙ one.rx.1 ∙ c.requires.none_waits in
    let waits : known c.settle-2.new.rx ≡ items = append_cancel_left (sent c.args.tx.now) (known c.settle-2.new.rx) items (ap (λ l. l ++ known c.settle-2.new.rx) (sym came) ∙ two.tied ∙ went) in
    all_taken items c.take_some.new.into (known c.take_some.new.self) c.take_some.result
    (omega (arith, takes.within.0, takes.within.1)) (takes.within.1 ∙ c.requires.fits)
    (subst (λ l. IsPrefix l (take c.take_some.result c.take_some.new.into ++ known c.take_some.new.self)) waits takes.known)
    (λ short. takes.none (omega (arith, short, takes.within.1)))

pub returns-clause-none_waits : goal.returns-clause-none_waits
returns-clause-none_waits g c =
    let one = c.settle.ensures in
    let offers = c.offer_some.ensures in
    let two = c.settle-2.ensures in
    let takes = c.take_some.ensures in
    let items = c.args.items.now in
    let none : length (known c.settle.new.rx) ≡ 0 = omega (arith, ap length one.tied, length-append (received c.settle.new.rx) (known c.settle.new.rx), ap length one.tx.2, ap length one.rx.1, ap length c.requires.none_waits) in
    let room : length items ≤ free c.settle.new.tx = omega (arith, one.room, none, c.requires.room, one.tx.1) in
    let all : take c.offer_some.result items ≡ items = all_sent items c.offer_some.result (free c.settle.new.tx) (free c.offer_some.new.self) offers.within room offers.free offers.full in
    let went : sent c.settle-2.new.tx ≡ sent c.args.tx.now ++ items = two.tx.2 ∙ offers.sent ∙ (λ i. one.tx.2 i ++ all i) in
    let came : received c.settle-2.new.rx ≡ sent c.args.tx.now = two.rx.1 ∙ one.rx.1 ∙ c.requires.none_waits in
    let waits : known c.settle-2.new.rx ≡ items = append_cancel_left (sent c.args.tx.now) (known c.settle-2.new.rx) items (ap (λ l. l ++ known c.settle-2.new.rx) (sym came) ∙ two.tied ∙ went) in
    let fits : length c.take_some.new.into ≡ length items = takes.within.1 ∙ c.requires.fits in
    let got : take c.take_some.result c.take_some.new.into ≡ items = row_taken items c.take_some.new.into (known c.take_some.new.self) c.take_some.result
    (omega (arith, takes.within.0, takes.within.1)) fits
    (subst (λ l. IsPrefix l (take c.take_some.result c.take_some.new.into ++ known c.take_some.new.self)) waits takes.known)
    (λ short. takes.none (omega (arith, short, takes.within.1))) in
    takes.received ∙ (λ i. came i ++ got i) ∙ sym went
