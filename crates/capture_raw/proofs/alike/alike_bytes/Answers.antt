use Rattle.std.proofs.Common.{◌≡◌, get_or, bit_and, bit_xor, arith}
use Rattle.std.proofs.lemmas.Bool.Decides.{nat_tests}
use Rattle.capture_raw.proofs.Agreeing.{all_first, all_more, agree_from}
use Rattle.capture_raw.proofs.alike.alike_bytes.Goals as goal

pub returns-then-bytes-first-ne0-2-clause-alike : goal.returns-then-bytes-first-ne0-2-clause-alike
returns-then-bytes-first-ne0-2-clause-alike c =
    let bytes = c.args.bytes.now in
    let first = get_or bytes 0 0 in
    let same : bit_and (bit_xor (get_or bytes 1 0) first) c.args.mask ≡ 0 = grind (c.if-bytes-first-ne0.false, arith, nat_tests) in
    all_more c.args.mask first bytes 1 (all_first c.args.mask bytes) (agree_from c.args.mask (get_or bytes 1 0) first same)

pub alike_short-requires-clause-agree : goal.alike_short-requires-clause-agree
alike_short-requires-clause-agree c =
    let bytes = c.args.bytes.now in
    let mask = c.args.mask in
    let first = get_or bytes 0 0 in
    let one : bit_and (bit_xor (get_or bytes 1 0) first) mask ≡ 0 = grind (c.if-bytes-first-ne0.false, arith, nat_tests) in
    let two : bit_and (bit_xor (get_or bytes 2 0) first) mask ≡ 0 = grind (c.if-bytes-first-ne0-2.false, arith, nat_tests) in
    all_more mask first bytes 2 (all_more mask first bytes 1 (all_first mask bytes) (agree_from mask (get_or bytes 1 0) first one)) (agree_from mask (get_or bytes 2 0) first two)
