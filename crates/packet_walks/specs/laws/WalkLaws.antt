-- What a definition over whole lists of packets promises that goes on as a sound walk says.
use Rattle.std.proofs.Common.{◌≡◌, ℕ, zero, suc, ◌<◌, ◌≤◌, List, [], ◌∷◌, ◌++◌, length, sym, ◌∙◌}
use Rattle.std.proofs.Common.{ap, subst, arith, append_assoc, length-append}
use Rattle.std.specs.List.Sorted.{IsNonDecreasing}
use Rattle.std.proofs.Math.ListN.{get_or}
use Rattle.std.proofs.lemmas.List.{append-nil, append_cancel_left}
use Rattle.la_base.specs.declared.wires.Out.{Out}
use Rattle.la_base.specs.declared.wires.Out.TheVariants.{Note as NoteOut, Piece as PieceOut}
use Rattle.la_base.specs.declared.wires.Out.TheVariants.{Packet as PacketOut}
use Rattle.la_base.specs.declared.wires.Packet.{Packet}
use Rattle.la_base.specs.declared.wires.Wire.{Wire}
use Rattle.decoder_core.specs.Packets.{CountFrom, IsPacketFloor, PacketsStayInOrder, last_start}
use Rattle.decoder_core.specs.Promises.{AddsFew, GivesNothing, GivesOn, KeepsFront, NotesFrom}
use Rattle.decoder_core.specs.Promises.{PacketsFrom, PacketsOn, packet_starts}
use Rattle.decoder_core.specs.laws.OutLaws.{NotesFrom-append, PacketsOn-append}
use Rattle.decoder_core.specs.laws.OutLaws.{packet_starts-append}
use Rattle.sample_walks.specs.Walks.{Between}
use Rattle.sample_walks.specs.laws.WalkLaws.{between_packets}
use Rattle.packet_walks.specs.Outputs.{PacketOuts}
use Rattle.packet_walks.specs.Walks.{PacketWalk, SoundPackets, PushedPackets}

-- numbers that never fall
first_most : (xs : List ℕ) (low high i d : ℕ) → Between low high xs → i < length xs
    → low ≤ get_or xs i d
first_most [] low high i d rise within = absurd (omega (arith, within))
first_most (x ∷ xs) low high zero d rise within = rise.0
first_most (x ∷ xs) low high (suc i) d rise within =
    let on = first_most xs x high i d rise.1 (omega (arith, within)) in
    omega (arith, rise.0, on)

never_fall : (xs : List ℕ) (low high : ℕ) → Between low high xs → IsNonDecreasing xs
never_fall [] low high rise i j d before within = absurd (omega (arith, within))
never_fall (x ∷ xs) low high rise zero zero d before within = omega arith
never_fall (x ∷ xs) low high rise zero (suc j) d before within =
    first_most xs x high j d rise.1 (omega (arith, within))
never_fall (x ∷ xs) low high rise (suc i) zero d before within = absurd (omega (arith, before))
never_fall (x ∷ xs) low high rise (suc i) (suc j) d before within =
    never_fall xs x high rise.1 i j d (omega (arith, before)) (omega (arith, within))

low_high : (xs : List ℕ) (low high : ℕ) → Between low high xs → low ≤ high
low_high [] low high rise = rise
low_high (x ∷ xs) low high rise = let on = low_high xs x high rise.1 in omega (arith, rise.0, on)

lower : (xs : List ℕ) (less low high : ℕ) → less ≤ low → Between low high xs → Between less high xs
lower [] less low high below rise = omega (arith, below, rise)
lower (x ∷ xs) less low high below rise = (omega (arith, below, rise.0), rise.1)

both : (xs ys : List ℕ) (low mid high : ℕ) → Between low mid xs → Between mid high ys
    → Between low high (xs ++ ys)
both [] ys low mid high first rest = lower ys low mid high first rest
both (x ∷ xs) ys low mid high first rest = (first.0, both xs ys x mid high first.1 rest)

-- notes that start there or later start at any earlier place or later
pub notes_from_less : (outs : List Out) (less low : ℕ) → less ≤ low → NotesFrom low outs
    → NotesFrom less outs
notes_from_less [] less low below from = tt
notes_from_less (NoteOut note ∷ outs) less low below from =
    (omega (arith, below, from.0), notes_from_less outs less low below from.1)
notes_from_less (PieceOut piece ∷ outs) less low below from =
    notes_from_less outs less low below from
notes_from_less (PacketOut packet ∷ outs) less low below from =
    notes_from_less outs less low below from

pub packets_from_less : (outs : List Out) (less low : ℕ) → less ≤ low → PacketsFrom low outs
    → PacketsFrom less outs
packets_from_less [] less low below from = tt
packets_from_less (NoteOut note ∷ outs) less low below from =
    packets_from_less outs less low below from
packets_from_less (PieceOut piece ∷ outs) less low below from =
    packets_from_less outs less low below from
packets_from_less (PacketOut packet ∷ outs) less low below from =
    (omega (arith, below, from.0), packets_from_less outs less low below from.1)

module _ {H : Type 0} (w : PacketWalk H) where
  -- what packets give one after another, and what is then kept
  abbrev given_from : H → List Packet → List Out
  given_from h [] = []
  given_from h (p ∷ ps) = w.gives h p ++ given_from (w.next h p) ps

  abbrev walk_from : H → List Packet → H
  walk_from h [] = h
  walk_from h (p ∷ ps) = walk_from (w.next h p) ps

  module _ (outs : List Packet → List Out) (kept : List Packet → H)
      (pushed : PushedPackets w outs kept) where
    outs_more : (more ps : List Packet) → outs (ps ++ more) ≡ outs ps ++ given_from (kept ps) more
    outs_more [] ps = ap outs (append-nil ps) ∙ sym (append-nil (outs ps))
    outs_more (p ∷ more) ps =
        ap outs (sym (append_assoc ps (p ∷ []) more))
        ∙ outs_more more (ps ++ p ∷ [])
        ∙ (λ i. pushed.outs_push ps p i ++ given_from (pushed.kept_push ps p i) more)
        ∙ append_assoc (outs ps) (w.gives (kept ps) p) (given_from (w.next (kept ps) p) more)

    kept_more : (more ps : List Packet) → kept (ps ++ more) ≡ walk_from (kept ps) more
    kept_more [] ps = ap kept (append-nil ps)
    kept_more (p ∷ more) ps =
        ap kept (sym (append_assoc ps (p ∷ []) more)) ∙ kept_more more (ps ++ p ∷ [])
        ∙ ap (λ (h : H). walk_from h more) (pushed.kept_push ps p)

    outs_are : (ps : List Packet) → outs ps ≡ given_from w.begin ps
    outs_are ps = outs_more ps [] ∙ (λ i. pushed.no_outs i ++ given_from (pushed.no_kept i) ps)

    kept_is : (ps : List Packet) → kept ps ≡ walk_from w.begin ps
    kept_is ps = kept_more ps [] ∙ ap (λ (h : H). walk_from h ps) pushed.no_kept

    walk_prefix : KeepsFront outs
    walk_prefix ps more = (given_from (kept ps) more, outs_more more ps)

    module _ (on : Wire) (fits : H → ℕ → Type 0) (sound : SoundPackets w on fits) where
      walk_few : AddsFew outs
      walk_few ps p =
          let add : length (outs (ps ++ p ∷ [])) ≡ length (outs ps ++ w.gives (kept ps) p) =
          ap length (pushed.outs_push ps p) in
          omega (arith, add, length-append (outs ps) (w.gives (kept ps) p), sound.few (kept ps) p)

      on_from : (ps : List Packet) (h : H) → PacketsOn on (given_from h ps)
      on_from [] h = tt
      on_from (p ∷ ps) h =
          PacketsOn-append on (w.gives h p) (given_from (w.next h p) ps) (sound.on_wire h p)
          (on_from ps (w.next h p))

      walk_on : GivesOn on outs
      walk_on ps = subst (PacketsOn on) (sym (outs_are ps)) (on_from ps w.begin)

      module _ (wire : Wire) where
        fits_from : (ps : List Packet) (h : H) (last : ℕ) → fits h last → CountFrom wire last ps
            → fits (walk_from h ps) (last_start last ps)
        fits_from [] h last fit all = fit
        fits_from (p ∷ ps) h last fit all =
            fits_from ps (w.next h p) p.start (sound.next_fits h last p fit all.1) all.2

        packets_from : (ps : List Packet) (h : H) (last : ℕ) → fits h last → CountFrom wire last ps
            → Between (w.near h last) (w.near (walk_from h ps) (last_start last ps))
            (packet_starts (given_from h ps))
        packets_from [] h last fit all = omega arith
        packets_from (p ∷ ps) h last fit all =
            let g = w.next h p in
            subst (Between (w.near h last) (w.near (walk_from g ps) (last_start p.start ps)))
            (sym (packet_starts-append (w.gives h p) (given_from g ps)))
            (both (packet_starts (w.gives h p)) (packet_starts (given_from g ps)) (w.near h last)
            (w.near g p.start) (w.near (walk_from g ps) (last_start p.start ps))
            (sound.packets h last p fit all.1)
            (packets_from ps g p.start (sound.next_fits h last p fit all.1) all.2))

        walk_order : PacketsStayInOrder wire outs
        walk_order ps all =
            subst (λ (l : List Out). IsNonDecreasing (packet_starts l)) (sym (outs_are ps))
            (never_fall (packet_starts (given_from w.begin ps)) (w.near w.begin 0)
            (w.near (walk_from w.begin ps) (last_start 0 ps))
            (packets_from ps w.begin 0 sound.begin_fits all))

        pub walk_promises : PacketOuts wire on outs
        walk_promises = record {
          nothing = pushed.no_outs;
          prefix = walk_prefix;
          order = walk_order;
          few = walk_few;
          on_wire = walk_on;
        }

        later_packets : (ps : List Packet) (h : H) (low last : ℕ) → fits h last
            → CountFrom wire last ps → low ≤ w.near h last → PacketsFrom low (given_from h ps)
        later_packets ps h low last fit all below =
            between_packets (given_from h ps) low (w.near h last) _ below
            (packets_from ps h last fit all)

        notes_from : (ps : List Packet) (h : H) (low last : ℕ) → fits h last
            → CountFrom wire last ps → low ≤ w.near h last → NotesFrom low (given_from h ps)
        notes_from [] h low last fit all below = tt
        notes_from (p ∷ ps) h low last fit all below =
            let rise =
            low_high (packet_starts (w.gives h p)) (w.near h last) (w.near (w.next h p) p.start)
            (sound.packets h last p fit all.1) in
            NotesFrom-append low (w.gives h p) (given_from (w.next h p) ps)
            (notes_from_less (w.gives h p) low (w.near h last) below
            (sound.notes h last p fit all.1))
            (notes_from ps (w.next h p) low p.start (sound.next_fits h last p fit all.1) all.2
            (omega (arith, below, rise)))

        pub walk_floor : (seen : List Packet) (from : ℕ) → last_start 0 seen ≤ from
            → IsPacketFloor wire outs seen from (w.near (kept seen) from)
        walk_floor seen from later more new all behind is =
            let last = last_start 0 seen in
            let floor = w.near (kept seen) from in
            let fit : fits (kept seen) from =
            sound.later_fits (kept seen) last from
            (subst (λ (h : H). fits h last) (sym (kept_is seen))
            (fits_from seen w.begin 0 sound.begin_fits all)) later in
            subst (λ (l : List Out). NotesFrom floor l × PacketsFrom floor l)
            (append_cancel_left (outs seen) (given_from (kept seen) more) new
            (sym (outs_more more seen) ∙ is)) (
              notes_from more (kept seen) floor from fit behind (omega arith),
              later_packets more (kept seen) floor from fit behind (omega arith),
            )
