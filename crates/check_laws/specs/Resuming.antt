-- What a run gives that goes on behind a checkpoint: what follows.
use Rattle.std.specs.Prelude.{ℕ, ◌≡◌, ◌<◌, List, ◌++◌, map, length, take, Option, Result}
use Rattle.std.specs.Prelude.{Ok, Err}
use Rattle.la_base.specs.declared.samples.Run.{Run}
use Rattle.la_base.specs.declared.wires.Mark.{Mark}
use Rattle.la_base.specs.declared.wires.Out.{Out}
use Rattle.hex.specs.Hex.{decode_of}
use Rattle.decoder_core.specs.Inputs.{Item}
use Rattle.decoder_core.specs.declared.end.RunEnd.{RunEnd}
use Rattle.decoder_core.specs.declared.end.RunEnd.TheVariants.{Ended, Stopped}
use Rattle.decoder_core.specs.declared.machine.Machine.{Ghosts as MachineGhosts}
use Rattle.tree_io.specs.declared.feeds.MarkTake.{Ghosts as TakeGhosts}
use Rattle.tree_io.specs.declared.feeds.RunFeed.{Ghosts as FeedGhosts}
use Rattle.tree_runs.specs.Machines.{Stand, near_of, whole_of}
use Rattle.tree_runs.specs.Passing.{Took}
use Rattle.tree_runs.specs.Runs.{RestsAt, StandOn, StoppedIn, ToldOn, WereWhole, feeds_on, input_on}
use Rattle.tree_runs.specs.Runs.{is_ended, samples_in}
use Rattle.check_point.specs.Checks.{IsCheckOf}
use Rattle.check_point.specs.declared.faults.CheckFault.{CheckFault}

-- bytes are a checkpoint of machines of these setups, behind samples on which they stand
pub record IsCheckOn {M S : Type 0} (setup : M → S) (outputs : S → List Item → List Out)
    (consumed : M → List Item → Type 0) (saves : M → List ℕ → Type 0)
    (kinds : List ℕ) (parents : List (Option ℕ)) (setups : List S) (bytes earlier : List ℕ)
    : Type 0 where
  pub machines : List M
  pub setups_are : map setup machines ≡ setups
  pub stand : StandOn outputs setups parents (Stand consumed machines) earlier
  pub check : IsCheckOf saves (length earlier) kinds machines bytes

-- a word is that of such a checkpoint
pub record IsCheckBehind {M S : Type 0} (setup : M → S) (outputs : S → List Item → List Out)
    (consumed : M → List Item → Type 0) (saves : M → List ℕ → Type 0)
    (kinds : List ℕ) (parents : List (Option ℕ)) (setups : List S) (word earlier : List ℕ)
    : Type 0 where
  pub bytes : List ℕ
  pub on : IsCheckOn setup outputs consumed saves kinds parents setups bytes earlier
  pub word_is : decode_of word ≡ Ok bytes

module _ {M S F O G Q : Type 0} (m : MachineGhosts M S) (f : FeedGhosts F O) (g : TakeGhosts G Q)
    (parents : List (Option ℕ)) (machines_old machines_new : List M) (feed_old feed_new : F)
    (take_old take_new : G) (earlier : List ℕ) where
  abbrev setups : List S
  setups = map m.setup machines_old

  abbrev input : List ℕ → ℕ → List Item
  input samples j = input_on m.outputs setups parents samples j

  -- a run went on behind these samples: what was taken of each instance is what follows, and where
  -- it ended the machines stand on all of them. `samples` is the number that was answered
  pub record Resumed (samples : ℕ) (end : RunEnd) : Type 0 where
    pub number : samples ≡ length earlier
    pub lists : List (List Run)
    pub marks : ℕ → List Mark
    pub gave : (before : List (List Run)) → f.gave feed_old before
        → f.gave feed_new (before ++ lists)
    pub took : Took (g.took take_old) (g.took take_new) marks
    pub told : (j : ℕ) → j < length parents
        → ToldOn end (f.at_end feed_new) (whole_of m.outputs setups j) (near_of m.near setups j)
        (input earlier j) (input (earlier ++ samples_in lists) j)
        (λ more. input ((earlier ++ samples_in lists) ++ more) j)
        (feeds_on m.outputs setups parents earlier lists j) (marks j)
    pub rested : (k : ℕ) → 0 < k → WereWhole (is_ended end) lists k
        → RestsAt m.outputs m.near setups parents earlier
        (earlier ++ samples_in (take k lists)) marks
    pub stopped : end ≡ Stopped
        → StoppedIn m.outputs m.near setups parents earlier lists (f.at_end feed_new) marks
    pub stand : end ≡ Ended
        → StandOn m.outputs setups parents (Stand m.consumed machines_new)
        (earlier ++ samples_in lists)

  -- the answer, where the word is a checkpoint behind these samples: it isn't refused
  abbrev pub ResumesAs : Result (ℕ × RunEnd) CheckFault → Type 0
  ResumesAs (Ok (samples, end)) = Resumed samples end
  ResumesAs (Err fault) = ⊥
