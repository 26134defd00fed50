use Rattle.std.proofs.Common.{◌+◌, ◌-◌, ◌*◌, ◌^◌, ◌<◌, ◌≤◌, false, arith}
use Rattle.std.specs.Prelude.{slice_index_or}
use Rattle.list_cuts.specs.Bits.{bit_of}
use Rattle.reference_devices.proofs.NetRounds.{next_room, whole_small}
use Rattle.reference_devices.proofs.onewire_net.low_first.Goals as goal

pub overflow_mul-number : goal.overflow_mul-number
overflow_mul-number c =
    let s = c.loop-place in
    let bits = c.args.bits.now in
    let room : 2 * s.number + bit_of (slice_index_or bits (s.place - 1) false) < 2 ^ 64 = next_room bits s.place s.number s.invariant.told (omega arith) s.invariant.within c.requires in
    omega (arith, room)

pub overflow_add-number : goal.overflow_add-number
overflow_add-number c =
    let s = c.loop-place in
    let bits = c.args.bits.now in
    let room : 2 * s.number + bit_of (slice_index_or bits (s.place - 1) false) < 2 ^ 64 = next_room bits s.place s.number s.invariant.told (omega arith) s.invariant.within c.requires in
    let same = c.bit_of.ensures.value in
    omega (arith, room, same)

pub returns-clause-small : goal.returns-clause-small
returns-clause-small c =
    let s = c.loop-place in
    let none : s.place ≤ 0 = omega arith in
    whole_small c.args.bits.now s.place s.number s.invariant.told none
