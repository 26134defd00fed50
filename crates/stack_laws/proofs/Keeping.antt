-- Each event keeps a state legal, and so does each list of them.
use Rattle.std.proofs.Common.{◌≡◌, ℕ, Bool, true, false, ◌||◌, List, [], ◌∷◌, ◌++◌, slice_get, Option, Some, None, refl, sym, ◌∙◌, ap, subst, arith, append_assoc, if◌then◌else◌}
use Rattle.std.specs.Prelude.{nat_eq}
use Rattle.std.specs.List.{All}
use Rattle.std.proofs.lemmas.List.Elements.{All-nil}
use Rattle.la_base.specs.declared.samples.Run.{Run}
use Rattle.la_base.specs.declared.wires.Feed.{Feed}
use Rattle.la_base.specs.declared.wires.Mark.{Mark}
use Rattle.la_base.specs.declared.wires.Out.{Out}
use Rattle.note_order.specs.Order.{is_before, entry_of}
use Rattle.decoder_core.specs.Inputs.{Item}
use Rattle.tree_io.specs.Feeds.{marks_of}
use Rattle.decoder_core.specs.Promises.{KeepsFront}
use Rattle.tree_runs.specs.Listings.{notes_of}
use Rattle.tree_runs.specs.Machines.{Definitions}
use Rattle.tree_runs.specs.Passing.{only}
use Rattle.stack_laws.specs.Links.{IsNext, IsFree}
use Rattle.stack_laws.specs.Running.{State, opening, is_over}
use Rattle.stack_laws.specs.Feeds.{feeds_of}
use Rattle.stack_laws.specs.Events.{Event, Read, Hear, Root, Take, Close, Step, Give, Tell, Gather, Print, May, MayAll, after, after_all, gathered, sent_feed}
use Rattle.stack_laws.specs.Heeding.{Heeds, without_places}
use Rattle.stack_laws.specs.Legal.{Fits, Legal, due}
use Rattle.stack_laws.specs.Laws.{IsLawful, EventKeepsLegal}
use Rattle.stack_laws.proofs.Heeding.{heeds_front}
use Rattle.stack_laws.proofs.Places.{at_place}
use Rattle.stack_laws.proofs.Batching.{batched_none}
use Rattle.stack_laws.proofs.Feeding.{hear_fits, read_fits, send_fits, tell_fits}
use Rattle.stack_laws.proofs.Moving.{take_fits, close_fits, step_fits}
use Rattle.stack_laws.proofs.Printing.{gather_legal, print_legal}

not_ended : (ended heard : Bool) → (ended || heard) ≡ false → ended ≡ true → ⊥
not_ended true heard none is = cc
not_ended false heard none is = cc

module _ (parents : List (Option ℕ)) (by : Definitions) (slots : ℕ) (state : State) (legal : Legal parents by slots state) where
  read_legal : (run : Option Run) → is_over state ≡ false → Legal parents by slots (after parents (Read run) state)
  read_legal (Some run) going = record { fits = read_fits parents by slots state legal.fits (Some run) going; prints = legal.prints; hears = legal.hears; later = legal.later }
  read_legal None going = record {
    fits = read_fits parents by slots state legal.fits None going;
    prints = legal.prints;
    hears = legal.hears;
    later = λ j low more new on is. legal.later j low more new (on.0, λ closed ended. absurd (not_ended state.ended state.heard going ended)) is;
  }

  hear_legal : state.stopped ≡ true → Legal parents by slots (after parents Hear state)
  hear_legal stopped = record { fits = hear_fits parents by slots state legal.fits; prints = legal.prints; hears = λ is. stopped; later = legal.later }

  send_legal : (i : ℕ) (feed : Feed) → IsNext (state.stages i).input.sent feed (state.stages i).input.made → IsFree slots (state.stages i).input
      → Legal parents by slots (record state { stages = sent_feed i feed state.stages })
  send_legal i feed next free = record { fits = send_fits parents by slots state legal.fits i feed next free; prints = legal.prints; hears = legal.hears; later = legal.later }

  tell_legal : (i : ℕ) (mark : Mark) → May parents by slots (Tell i mark) state → Legal parents by slots (after parents (Tell i mark) state)
  tell_legal i mark may = record { fits = tell_fits parents by slots state legal.fits i mark may.0 may.1; prints = legal.prints; hears = legal.hears; later = legal.later }

  take_legal : (i : ℕ) (feed : Feed) → May parents by slots (Take i feed) state → Legal parents by slots (after parents (Take i feed) state)
  take_legal i feed may = record {
    fits = take_fits parents by slots state legal.fits i feed may;
    prints = legal.prints;
    hears = legal.hears;
    later = λ j low more new on is.
        legal.later j low more new
        (heeds_front (state.stages j).input.received (only i (feed ∷ []) j) ((state.stages j).consumed ++ more) on.0, on.1) is;
  }

  close_legal : (i : ℕ) → May parents by slots (Close i) state → Legal parents by slots (after parents (Close i) state)
  close_legal i may = record {
    fits = close_fits parents by slots state legal.fits i may.0;
    prints = legal.prints;
    hears = legal.hears;
    later = λ j low more new on is. legal.later j low more new (on.0, λ closed. on.1 (ap (λ (b : Bool). b || nat_eq j i) closed)) is;
  }

  module _ (prefix : (j : ℕ) → KeepsFront (by.whole j)) (i : ℕ) (items : List Item) (new : List Out) (floor : Option ℕ) (may : May parents by slots (Step i items new floor) state) where
    -- what a stage's input may go on with now, it might go on with behind what it has consumed now
    step_on : (more : List Item) (j : ℕ) → ((state.stages j).closed ≡ true → state.ended ≡ true → more ≡ []) → (state.stages j).closed ≡ true → state.ended ≡ true → only i items j ++ more ≡ []
    step_on more = at_place (λ j b. ((state.stages j).closed ≡ true → state.ended ≡ true → more ≡ []) → (state.stages j).closed ≡ true → state.ended ≡ true → (if b then items else []) ++ more ≡ []) i
        (λ on closed ended. let no : true ≡ false = sym closed ∙ may.0.0 in absurd cc)
        (λ j on. on)

    step_legal : Legal parents by slots (after parents (Step i items new floor) state)
    step_legal = record {
      fits = step_fits parents by slots state legal.fits prefix i items new floor may.0;
      prints = legal.prints;
      hears = legal.hears;
      later = λ j low more notes on is.
          legal.later j low (only i items j ++ more) notes
          (subst (Heeds (state.stages j).input.received) (append_assoc (state.stages j).consumed (only i items j) more) on.0, step_on more j on.1) (ap (λ (l : List Item). notes_of (by.whole j l)) (sym (append_assoc (state.stages j).consumed (only i items j) more)) ∙ is);
    }

pub event_keeps : EventKeepsLegal
event_keeps parents by slots lawful (Read run) state legal may = read_legal parents by slots state legal run may.0
event_keeps parents by slots lawful Hear state legal may = hear_legal parents by slots state legal may.0
event_keeps parents by slots lawful (Root i feed) state legal may = send_legal parents by slots state legal i feed may.0.1 may.1
event_keeps parents by slots lawful (Take i feed) state legal may = take_legal parents by slots state legal i feed may
event_keeps parents by slots lawful (Close i) state legal may = close_legal parents by slots state legal i may
event_keeps parents by slots lawful (Step i items new floor) state legal may = step_legal parents by slots state legal lawful.prefix i items new floor may
event_keeps parents by slots lawful (Give i child feed) state legal may = send_legal parents by slots state legal child feed may.0.1 may.1
event_keeps parents by slots lawful (Tell i mark) state legal may = tell_legal parents by slots state legal i mark may
event_keeps parents by slots lawful (Gather i mark stops) state legal may = gather_legal parents by slots state legal lawful.forest i mark stops may
event_keeps parents by slots lawful (Print entry stops) state legal may = print_legal parents by slots state legal lawful.forest lawful.prefix entry stops may

module _ (parents : List (Option ℕ)) (by : Definitions) (slots : ℕ) (lawful : IsLawful parents by) where
  nothing_due : (place : Option (Option ℕ)) → without_places [] ≡ due by.whole opening place
  nothing_due None = refl
  nothing_due (Some None) = refl
  nothing_due (Some (Some p)) = λ i. feeds_of (sym (lawful.nothing p) i) ++ []

  opening_fits : Fits parents by slots opening
  opening_fits = record {
    inputs = λ i. record { sends = ([], refl); receives = ([], refl); room = omega arith; last = tt };
    outputs = λ i. record { sends = ([], refl); receives = ([], refl); room = omega arith; last = tt };
    takes = λ i. record { front = ([], refl); all = λ is. let no : false ≡ true = is in absurd cc };
    hands = λ i. nothing_due (slice_get parents i);
    places = λ i parent on more heeds. tt;
    marks = λ i. record { shows = ap marks_of (sym (lawful.nothing i)); last = tt; ends = refl };
    floors = λ i more heeds. tt;
    batched = λ i. batched_none (by.whole i) (by.near i) (lawful.nothing i);
  }

  pub opening_legal : Legal parents by slots opening
  opening_legal = record {
    fits = opening_fits;
    prints = (gathered parents opening, refl);
    hears = λ is. let no : false ≡ true = is in absurd cc;
    later = λ i low more new on is. All-nil (λ entry. All (λ note. is_before (entry_of i note) entry ≡ false) new);
  }

  pub keep_on : (events : List Event) (state : State) → Legal parents by slots state → MayAll parents by slots events state → Legal parents by slots (after_all parents events state)
  keep_on [] state legal may = legal
  keep_on (event ∷ events) state legal may = keep_on events (after parents event state) (event_keeps parents by slots lawful event state legal may.0) may.1

  pub events_keep : (events : List Event) → MayAll parents by slots events opening → Legal parents by slots (after_all parents events opening)
  events_keep events may = keep_on events opening opening_legal may
