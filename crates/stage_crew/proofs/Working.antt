-- What the frames of a crew did, from what those within them did.
use Rattle.std.proofs.Common.{◌≡◌, ◌+◌, ℕ, Bool, List, [], ◌∷◌, ◌++◌, Vec, Global, vec_len, ap, subst, sym, ◌∙◌, arith}
use Rattle.std.specs.Prelude.{vec_capacity}
use Rattle.tree_io.specs.declared.feeds.MarkTake.{Ghosts as TakeGhosts}
use Rattle.decoder_core.specs.declared.end.RunEnd.{RunEnd}
use Rattle.stage_crew.specs.Crew.{Each, Ends}
use Rattle.stage_crew.specs.Working.{Drives, WorksOff}
use Rattle.stage_crew.specs.declared.crew.DriverEnds.{DriverEnds}
use Rattle.stage_crew.specs.declared.crew.Work.{Work}
use Rattle.stage_crew.proofs.Each.{handed, put_back}

-- the same, of what is equal
pub drives_same : {A O : Type 0} (g : TakeGhosts A O) {take0 take1 take2 : A} {r1 r2 : RunEnd} {e0 e1 e2 : DriverEnds}
    → Drives g take0 take1 r1 e0 e1 → take2 ≡ take1 → r2 ≡ r1 → e2 ≡ e1 → Drives g take0 take2 r2 e0 e2
drives_same g {take0} {take1} {take2} {r1} {r2} {e0} {e1} {e2} d take_is end_is ends_is =
    subst (λ (e : DriverEnds). Drives g take0 take2 r2 e0 e) (sym ends_is)
    (subst (λ (r : RunEnd). Drives g take0 take2 r e0 e1) (sym end_is) (subst (λ (t : _). Drives g take0 t r1 e0 e1) (sym take_is) d))

-- all came back that were to be run, where none had before
pub all_done : {D S : Type 0} {reads_on : D → D → Type 0} {goes_on : S → S → Type 0} {over : S → Bool} (old new : Work D S)
    → old.done.items ≡ [] → WorksOff reads_on goes_on over old new → Each (Ends goes_on over) old.todo.items new.done.items
all_done {goes_on = goes_on} {over = over} old new none w =
    subst (λ l. Each (Ends goes_on over) old.todo.items l) (sym (w.done.1 ∙ ap (λ l. l ++ w.done.0) none)) w.done.2

module _ {D S : Type 0} {reads_on : D → D → Type 0} {goes_on : S → S → Type 0} {over : S → Bool} (old : Work D S) (left : Vec S Global)
    (stage : S) (popped : old.todo.items ≡ left.items ++ stage ∷ []) (one_less : vec_len left + 1 ≡ vec_len old.todo) where
  -- the worker that took the last stage gave it back
  pub works_beside : (within : Work D S) (pushed : Vec S Global) (back : S) → pushed.items ≡ within.done.items ++ back ∷ [] → vec_len pushed ≡ vec_len within.done + 1
      → vec_capacity pushed ≡ vec_capacity within.done → Ends goes_on over stage back → WorksOff reads_on goes_on over (record old { todo = left }) within
      → WorksOff reads_on goes_on over old (record within { done = pushed })
  works_beside within pushed back comes one_more room ends w = record {
    readers = w.readers;
    own = w.own;
    done = put_back (Ends goes_on over) old.todo.items left.items old.done.items within.done.items pushed.items stage back popped w.done.0 w.done.1 w.done.2 comes ends;
    done_len = omega (arith, one_more, w.done_len, one_less);
    room = room ∙ w.room;
  }

module _ {D S : Type 0} {reads_on : D → D → Type 0} {goes_on : S → S → Type 0} {over : S → Bool} (old : Work D S) (lent : Vec S Global)
    (given came : S) (lends : lent.items ≡ old.own.items ++ given ∷ []) (one_more : vec_len lent ≡ vec_len old.own + 1)
    (within : Work D S) (w : WorksOff reads_on goes_on over (record old { own = lent }) within)
    (kept : Vec S Global) (keeps : within.own.items ≡ kept.items ++ came ∷ []) (one_less : vec_len kept + 1 ≡ vec_len within.own) where
  -- one that the driver was given goes on
  pub came_on : Each goes_on old.own.items kept.items × goes_on given came
  came_on = handed goes_on lent.items within.own.items old.own.items kept.items given came w.own.each lends keeps

  -- and is taken out again
  pub works_around : WorksOff reads_on goes_on over old (record within { own = kept })
  works_around = record {
    readers = w.readers;
    own = record { each = came_on.0; count = omega (arith, one_less, w.own.count, one_more) };
    done = w.done;
    done_len = w.done_len;
    room = w.room;
  }
