use Rattle.std.proofs.Common.{◌≡◌, ◌<◌, [], ◌∷◌, ◌++◌, length, sym, ◌∙◌, ap, arith}
use Rattle.std.proofs.lemmas.List.{append_cancel_left, length-append}
use Rattle.stage_ring.specs.Link.{sent, received, free, known, tx_misses, rx_misses}
use Rattle.stage_ring.proofs.PassLemmas.{one_sent, one_taken}
use Rattle.stage_ring.proofs.laws.passes_through.Goals as goal

pub returns-clause-item : goal.returns-clause-item
returns-clause-item g c =
    let two = c.settle-2.ensures in
    let one = c.settle.ensures in
    let none : length (known c.settle.new.rx) ≡ 0 = omega (arith, ap length one.tied, length-append (received c.settle.new.rx) (known c.settle.new.rx), ap length one.tx.2, ap length one.rx.1, ap length c.requires.none_waits) in
    let room : 0 < free c.settle.new.tx = omega (arith, one.room, none, c.requires.room, one.tx.1) in
    let gone = c.offer.new.self in
    let goes : sent gone ≡ sent c.settle.new.tx ++ c.args.item ∷ [] = one_sent c.offer.result c.args.item (sent c.settle.new.tx) (sent gone) (free c.settle.new.tx) (free gone) (tx_misses c.settle.new.tx) (tx_misses gone) room c.offer.ensures.ok c.offer.ensures.err in
    let went : sent c.settle-2.new.tx ≡ sent c.args.tx.now ++ c.args.item ∷ [] = two.tx.2 ∙ goes ∙ ap (λ l. l ++ c.args.item ∷ []) one.tx.2 in
    let came : received c.settle-2.new.rx ≡ sent c.args.tx.now = two.rx.1 ∙ c.settle.ensures.rx.1 ∙ c.requires.none_waits in
    let waits : known c.settle-2.new.rx ≡ c.args.item ∷ [] = append_cancel_left (sent c.args.tx.now) (known c.settle-2.new.rx) (c.args.item ∷ []) (ap (λ l. l ++ known c.settle-2.new.rx) (sym came) ∙ two.tied ∙ went) in
    (one_taken c.take.result c.args.item (received c.settle-2.new.rx) (received c.take.new.self) (known c.settle-2.new.rx) (known c.take.new.self) (rx_misses c.settle-2.new.rx) (rx_misses c.take.new.self) waits c.take.ensures.some c.take.ensures.none).0

pub returns-clause-none_waits : goal.returns-clause-none_waits
returns-clause-none_waits g c =
    let two = c.settle-2.ensures in
    let one = c.settle.ensures in
    let none : length (known c.settle.new.rx) ≡ 0 = omega (arith, ap length one.tied, length-append (received c.settle.new.rx) (known c.settle.new.rx), ap length one.tx.2, ap length one.rx.1, ap length c.requires.none_waits) in
    let room : 0 < free c.settle.new.tx = omega (arith, one.room, none, c.requires.room, one.tx.1) in
    let gone = c.offer.new.self in
    let goes : sent gone ≡ sent c.settle.new.tx ++ c.args.item ∷ [] = one_sent c.offer.result c.args.item (sent c.settle.new.tx) (sent gone) (free c.settle.new.tx) (free gone) (tx_misses c.settle.new.tx) (tx_misses gone) room c.offer.ensures.ok c.offer.ensures.err in
    let went : sent c.settle-2.new.tx ≡ sent c.args.tx.now ++ c.args.item ∷ [] = two.tx.2 ∙ goes ∙ ap (λ l. l ++ c.args.item ∷ []) one.tx.2 in
    let came : received c.settle-2.new.rx ≡ sent c.args.tx.now = two.rx.1 ∙ c.settle.ensures.rx.1 ∙ c.requires.none_waits in
    let waits : known c.settle-2.new.rx ≡ c.args.item ∷ [] = append_cancel_left (sent c.args.tx.now) (known c.settle-2.new.rx) (c.args.item ∷ []) (ap (λ l. l ++ known c.settle-2.new.rx) (sym came) ∙ two.tied ∙ went) in
    let got = (one_taken c.take.result c.args.item (received c.settle-2.new.rx) (received c.take.new.self) (known c.settle-2.new.rx) (known c.take.new.self) (rx_misses c.settle-2.new.rx) (rx_misses c.take.new.self) waits c.take.ensures.some c.take.ensures.none).1 in
    got ∙ ap (λ l. l ++ c.args.item ∷ []) came ∙ sym went
