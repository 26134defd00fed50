-- The events of the worked run may happen.
use Rattle.std.proofs.Common.{◌≡◌, ℕ, zero, suc, ◌<◌, true, List, [], ◌∷◌, Some, refl, subst, arith}
use Rattle.la_base.specs.Samples.{samples}
use Rattle.la_base.specs.declared.wires.Out.{Out}
use Rattle.la_base.specs.declared.wires.Out.TheVariants.{Note as NoteOut, Piece as PieceOut, Packet as PacketOut}
use Rattle.decoder_core.specs.Inputs.{Item, Sample, Pack}
use Rattle.decoder_core.specs.Promises.{NotesFrom, PacketsFrom}
use Rattle.stack_laws.specs.Running.{opening}
use Rattle.stack_laws.specs.Feeds.{ends_marks}
use Rattle.stack_laws.specs.Links.{some}
use Rattle.stack_laws.specs.Moves.{MayTell}
use Rattle.stack_laws.specs.Events.{MayAll, after_all, gathered_of}
use Rattle.stack_laws.specs.Worked.{WorkedRun, all_echo, echoes, packet, places, history}

from_nothing : (outs : List Out) → NotesFrom 0 outs
from_nothing [] = tt
from_nothing (NoteOut note ∷ outs) = (omega arith, from_nothing outs)
from_nothing (PieceOut piece ∷ outs) = from_nothing outs
from_nothing (PacketOut sent ∷ outs) = from_nothing outs

packets_from_nothing : (outs : List Out) → PacketsFrom 0 outs
packets_from_nothing [] = tt
packets_from_nothing (NoteOut note ∷ outs) = packets_from_nothing outs
packets_from_nothing (PieceOut piece ∷ outs) = packets_from_nothing outs
packets_from_nothing (PacketOut sent ∷ outs) = (omega arith, packets_from_nothing outs)

no_floor : (above : ℕ) (input : List Item) (start : ℕ) → Some 0 ≡ Some start → MayTell above echoes (λ _. 0) input start
no_floor above input start is = let same : 0 ≡ start = cc in ((λ more new from grows. (subst (λ (n : ℕ). NotesFrom n new) same (from_nothing new), subst (λ (n : ℕ). PacketsFrom n new) same (packets_from_nothing new))), omega arith)

by_two : (P : ℕ → Type 0) → P 0 → P 1 → (j : ℕ) → j < 2 → P j
by_two P one other zero low = one
by_two P one other (suc zero) low = other
by_two P one other (suc (suc j)) low = absurd (omega (arith, low))

history_may : MayAll places all_echo 1 history opening
unfolding samples
history_may = ((refl, tt), (((refl, (_, refl)), omega arith), (((refl, refl), (_, refl)), (((refl, (_, refl), refl, no_floor _ (Sample 0 ∷ [])), tt), (((refl, (_, refl)), omega arith), (((_, refl), omega arith), ((omega arith, (_, refl)), ((((_, refl), refl, by_two _ (omega arith, λ _. omega arith) (omega arith, λ _. omega arith)), tt), (((refl, refl), (_, refl)), (((refl, (_, refl), refl, no_floor _ (Pack packet ∷ [])), tt), (((refl, (_, refl)), omega arith), (((refl, refl), (_, refl)), ((refl, tt), (((refl, (_, refl)), omega arith), (((refl, refl), (_, refl)), (((refl, refl, refl, refl), tt), (((refl, (_, refl)), omega arith), (((_, refl), omega arith), ((omega arith, (_, refl)), (((_, refl), omega arith), ((omega arith, (_, refl)), (((_, refl), omega arith), ((omega arith, (_, refl)), ((((_, refl), refl, by_two _ tt (omega arith, λ _. omega arith)), tt), (((refl, refl), (_, refl)), (((refl, refl, refl, refl), tt), (((_, refl), omega arith), ((omega arith, (_, refl)), (((_, refl), omega arith), ((omega arith, (_, refl)), tt))))))))))))))))))))))))))))))

pub worked : WorkedRun
worked = record {
  may = history_may;
  prints = refl;
  done = record { ends = by_two (λ i. some ends_marks (gathered_of (after_all places history opening) i) ≡ true) refl refl; none_held = refl };
}
