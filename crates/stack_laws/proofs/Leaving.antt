-- The events of a stage leave all else alone.
use Rattle.std.proofs.Common.{◌≡◌, ◌≢◌, ℕ, false, ◌||◌, List, [], ◌∷◌, ◌++◌, slice_get, Option, Some, refl, ◌∙◌, subst, arith, if◌then◌else◌}
use Rattle.std.specs.Prelude.{nat_eq}
use Rattle.std.proofs.lemmas.Bool.Decides.{nat_tests}
use Rattle.la_base.specs.declared.wires.Feed.{Feed}
use Rattle.la_base.specs.declared.wires.Feed.TheVariants.{End}
use Rattle.la_base.specs.declared.wires.Mark.{Mark}
use Rattle.la_base.specs.declared.wires.Mark.TheVariants.{End as EndMark}
use Rattle.la_base.specs.declared.wires.Out.{Out}
use Rattle.decoder_core.specs.Inputs.{Item}
use Rattle.tree_io.specs.Feeds.{marks_of}
use Rattle.stack_laws.specs.Running.{State, Stage}
use Rattle.stack_laws.specs.Feeds.{feeds_of, floor_feed, floor_mark, is_floor}
use Rattle.stack_laws.specs.Events.{Read, Hear, Root, Take, Close, Step, Give, Tell, Gather, Print, after}
use Rattle.stack_laws.specs.Owning.{Leaves, StageLeavesOthers}
use Rattle.stack_laws.proofs.Places.{or_none, stays_at, stays_to, stays_child}

not_there : (i j : ℕ) → j ≢ i → nat_eq j i ≡ false
not_there i j apart = grind (arith, nat_tests)

module _ (parents : List (Option ℕ)) (state : State) (i : ℕ) where
  abbrev at : ℕ → Stage
  at j = state.stages j

  take_leaves : (feed : Feed) → Leaves parents i state (after parents (Take i feed) state)
  take_leaves feed = record {
    fed = refl;
    printed = refl;
    ended = refl;
    stopped = refl;
    heard = refl;
    gathered = λ j. refl;
    others = λ j apart. record { received = stays_at i j (feed ∷ []) (at j).input.received apart; consumed = refl; told = refl; marks = refl; closed = refl };
    links = λ j off. (refl, refl);
  }

  close_leaves : Leaves parents i state (after parents (Close i) state)
  close_leaves = record {
    fed = refl;
    printed = refl;
    ended = refl;
    stopped = refl;
    heard = refl;
    gathered = λ j. refl;
    others = λ j apart. record {
      received = refl;
      consumed = refl;
      told = refl;
      marks = λ k. record (at j).marks { made = stays_at i j (EndMark ∷ []) (at j).marks.made apart k };
      closed = (λ k. (at j).closed || not_there i j apart k) ∙ or_none (at j).closed;
    };
    links = λ j off. (stays_to parents i j (End ∷ []) (at j).input.made off, refl);
  }

  step_leaves : (items : List Item) (new : List Out) (floor : Option ℕ) → Leaves parents i state (after parents (Step i items new floor) state)
  step_leaves items new floor = record {
    fed = refl;
    printed = refl;
    ended = refl;
    stopped = refl;
    heard = refl;
    gathered = λ j. refl;
    others = λ j apart. record {
      received = refl;
      consumed = stays_at i j items (at j).consumed apart;
      told = λ k. if not_there i j apart k then is_floor floor else (at j).told;
      marks = λ k. record (at j).marks { made = stays_at i j (marks_of new ++ floor_mark floor) (at j).marks.made apart k };
      closed = refl;
    };
    links = λ j off. (stays_to parents i j (feeds_of new ++ floor_feed floor) (at j).input.made off, refl);
  }

  give_leaves : (child : ℕ) (feed : Feed) → slice_get parents child ≡ Some (Some i) → Leaves parents i state (after parents (Give i child feed) state)
  give_leaves child feed on = record {
    fed = refl;
    printed = refl;
    ended = refl;
    stopped = refl;
    heard = refl;
    gathered = λ j. refl;
    others = λ j apart. record { received = refl; consumed = refl; told = refl; marks = refl; closed = refl };
    links = λ j off. (refl, stays_child parents i child j (feed ∷ []) (at j).input.sent on off);
  }

  tell_leaves : (mark : Mark) → Leaves parents i state (after parents (Tell i mark) state)
  tell_leaves mark = record {
    fed = refl;
    printed = refl;
    ended = refl;
    stopped = refl;
    heard = refl;
    gathered = λ j. refl;
    others = λ j apart. record { received = refl; consumed = refl; told = refl; marks = λ k. record (at j).marks { sent = stays_at i j (mark ∷ []) (at j).marks.sent apart k }; closed = refl };
    links = λ j off. (refl, refl);
  }

pub leaves_others : StageLeavesOthers
leaves_others parents by i (Take j feed) same state asks = subst (λ (k : ℕ). Leaves parents k state (after parents (Take j feed) state)) same (take_leaves parents state j feed)
leaves_others parents by i (Close j) same state asks = subst (λ (k : ℕ). Leaves parents k state (after parents (Close j) state)) same (close_leaves parents state j)
leaves_others parents by i (Step j items new floor) same state asks = subst (λ (k : ℕ). Leaves parents k state (after parents (Step j items new floor) state)) same (step_leaves parents state j items new floor)
leaves_others parents by i (Give j child feed) same state asks = subst (λ (k : ℕ). Leaves parents k state (after parents (Give j child feed) state)) same (give_leaves parents state j child feed asks.0)
leaves_others parents by i (Tell j mark) same state asks = subst (λ (k : ℕ). Leaves parents k state (after parents (Tell j mark) state)) same (tell_leaves parents state j mark)
leaves_others parents by i (Read run) same state asks = absurd same
leaves_others parents by i Hear same state asks = absurd same
leaves_others parents by i (Root j feed) same state asks = absurd same
leaves_others parents by i (Gather j mark stops) same state asks = absurd same
leaves_others parents by i (Print entry stops) same state asks = absurd same
