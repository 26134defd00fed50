-- What is written of one more mark.
use Rattle.std.proofs.Common.{◌≡◌, ◌≢◌, inl, inr, ℕ, ◌==◌, ◌≤◌, ◌<◌, Bool, true, false, cond, List, [], ◌∷◌, ◌++◌, get_or, length, Option, Some, None, Ok, Err, refl, sym, ◌∙◌, ap, subst, append_assoc, arith}
use Rattle.std.specs.Prelude.{IsNone, IsSome}
use Rattle.std.specs.Io.KnownBytes.{Appends, Keeps}
use Rattle.std.proofs.KnownBytes.{Appends-kept}
use Rattle.std.proofs.lemmas.Option.{none-some}
use Rattle.std.proofs.lemmas.Bool.{cases_eq}
use Rattle.std.proofs.lemmas.Bool.Decides.{nat_tests}
use Rattle.std.proofs.lemmas.List.{append-nil}
use Rattle.std.proofs.lemmas.List.Elements.{All-nil}
use Rattle.la_base.specs.declared.wires.Mark.{Mark}
use Rattle.la_base.specs.declared.wires.Mark.TheVariants.{Note as NoteMark, Piece as PieceMark, Floor as FloorMark, End as EndMark}
use Rattle.la_io.specs.Causes.{AppendsFront, Rose}
use Rattle.tree_io.specs.Feeds.{AddsMark, AddsMarks}
use Rattle.la_io.specs.Grown.{appends_nothing, appends_on}
use Rattle.la_io.proofs.Fronts.{front_on, front_whole}
use Rattle.tree_io.proofs.Taking.{adds_behind, adds_first, middle, same_after, takes_nothing}
use Rattle.note_order.specs.declared.entry.Entry.{Entry}
use Rattle.stack_words.specs.Accepting.{Accepted}
use Rattle.annot_merge.specs.Bounds.{IsAllowed}
use Rattle.annot_merge.specs.Held.{Stands, StandsStill, Takes, count_of, held_in}
use Rattle.annot_merge.specs.Marks.{Begins, Pushes}
use Rattle.annot_merge.specs.declared.merge.Merge.{Merge}
use Rattle.note_lister.specs.Data.{bytes_in, wanted_by, wanted_of}
use Rattle.note_lister.specs.Lines.{shown_entries, shown_lines}
use Rattle.note_lister.specs.Prompt.{Prompts}
use Rattle.note_lister.specs.Pushing.{PushesMarks}
use Rattle.note_lister.specs.Ready.{ListsReady, StopCause}
use Rattle.note_lister.specs.Taking.{Writes, WritesAll, WritesFront, WritesFrontOf, WritesLines}
use Rattle.note_lister.specs.Watching.{SeesNone}
use Rattle.note_lister.specs.declared.stop.ListStop.{ListStop}
use Rattle.note_lister.specs.declared.stop.ListStop.TheVariants.{Write, NoMemory}
use Rattle.note_lister.proofs.Seeing.{Shown, entries_append, listed_more, nothing_front, saw_none, shown_behind, shown_front, shown_longer, shown_saw, shown_whole}
use Rattle.note_lister.proofs.Settling.{Settles, one_more, settles}

pub as_pushed : (before after : ℕ → List Mark) (instance : ℕ) (mark : Mark) → AddsMark before after instance mark → Pushes before after instance mark
as_pushed before after instance mark adds = record { here = adds.here; others = adds.others }

pub one_pushed : (merge last : Merge) (instance : ℕ) (mark : Mark) → Takes merge last instance mark → PushesMarks merge last instance (mark ∷ [])
one_pushed merge last instance mark takes = λ given before after stands adds. takes before after given stands (as_pushed before after instance mark adds)

pub none_pushed : (merge last : Merge) (instance : ℕ) → StandsStill merge last → PushesMarks merge last instance []
none_pushed merge last instance still = λ given before after stands adds. still after given (subst (λ (had : ℕ → List Mark). Stands merge had given) (same_after adds) stands)

pub begins_itself : {X : Type 0} (list : List X) → Begins list list
begins_itself list = ([], append-nil list)

-- notes are listed, and no binary data is wanted
pub wants_none : {X : Type 0} (binary : Option X) → binary ≡ None → IsSome binary → ⊥
wants_none None is some = cc
wants_none (Some wanted) is some = cc

-- bytes among marks
pub bytes_in-append : (class : ℕ) (xs ys : List Mark) → bytes_in class (xs ++ ys) ≡ bytes_in class xs ++ bytes_in class ys
bytes_in-append class [] ys = refl
bytes_in-append class (NoteMark note ∷ xs) ys = bytes_in-append class xs ys
bytes_in-append class (PieceMark piece ∷ xs) ys = by (piece.class == class) (bytes_in-append class xs ys)
  where
    by : (b : Bool) → bytes_in class (xs ++ ys) ≡ bytes_in class xs ++ bytes_in class ys
        → cond b (piece.byte ∷ bytes_in class (xs ++ ys)) (bytes_in class (xs ++ ys)) ≡ cond b (piece.byte ∷ bytes_in class xs) (bytes_in class xs) ++ bytes_in class ys
    by true more = ap (λ (l : List ℕ). piece.byte ∷ l) more
    by false more = more
bytes_in-append class (FloorMark start ∷ xs) ys = bytes_in-append class xs ys
bytes_in-append class (EndMark ∷ xs) ys = bytes_in-append class xs ys

-- what a mark adds to the bytes that are wanted
pub bytes_after : (wanted : ℕ × ℕ) (before after : ℕ → List Mark) (instance : ℕ) (mark : Mark) → AddsMark before after instance mark → bytes_in wanted.1 (after wanted.0) ≡ bytes_in wanted.1 (before wanted.0) ++ wanted_of wanted instance mark
bytes_after wanted before after instance mark adds = by (wanted.0 == instance) refl
  where
    by : (here : Bool) → (wanted.0 == instance) ≡ here → bytes_in wanted.1 (after wanted.0) ≡ bytes_in wanted.1 (before wanted.0) ++ cond here (bytes_in wanted.1 (mark ∷ [])) []
    by true is =
        let same : wanted.0 ≡ instance = grind (arith, nat_tests, is) in
        subst (λ (k : ℕ). bytes_in wanted.1 (after k) ≡ bytes_in wanted.1 (before k) ++ bytes_in wanted.1 (mark ∷ [])) (sym same)
        (ap (bytes_in wanted.1) adds.here ∙ bytes_in-append wanted.1 (before instance) (mark ∷ []))
    by false is = ap (bytes_in wanted.1) (adds.others wanted.0 (λ same. absurd (differ is same))) ∙ sym (append-nil (bytes_in wanted.1 (before wanted.0)))
      where
        differ : (wanted.0 == instance) ≡ false → wanted.0 ≡ instance → ⊥
        differ other same = let equal : (wanted.0 == instance) ≡ true = grind (arith, nat_tests, same) in absurd cc

pub none_is : {X : Type 0} (o : Option X) → IsNone o → o ≡ None
none_is None is = refl
none_is (Some x) is = absurd cc

some-none : {X : Type 0} (x : X) → Some x ≡ None → ⊥
some-none x is = none-some x (sym is)

module _ (accepted : Accepted) where
  -- nothing was taken
  pub nothing_taken : (binary : Option (ℕ × ℕ)) (merge : Merge) (saw : List Entry → Type 0) (old : Option (List ℕ)) → saw [] → Stands merge (λ _. []) [] → held_in merge ≡ [] → WritesAll accepted binary merge saw old old (λ _. [])
  nothing_taken None merge saw old unseen stands none = record {
    given = [];
    stands = stands;
    prompt = subst (λ l. (k : ℕ) (d : Entry) → k < length l → IsAllowed (count_of merge) (λ _. []) (get_or l k d) → ⊥) (sym none) (All-nil (λ e. IsAllowed (count_of merge) (λ _. []) e → ⊥));
    lines = appends_nothing old;
    seen = unseen;
  }
  nothing_taken (Some wanted) merge saw old unseen stands none = (appends_nothing old, unseen)

  -- it is stopped now
  stopped_now : (count : ℕ) (saw : List Entry → Type 0) (old new : Option (List ℕ)) (marks : ℕ → List Mark) → WritesFrontOf accepted count saw old new marks → WritesFront accepted count saw old new marks
  stopped_now count saw old new marks w = record {
    first = marks;
    begins = λ j. begins_itself (marks j);
    out = w.out;
    notes = w.notes;
    prompts = w.prompts;
    front = w.front;
    seen = w.seen;
  }

  -- there is no cause
  pub never_stopped : (merge : Merge) (cause : Option ListStop) (stops : ℕ) (saw : List Entry → Type 0) (old new : Option (List ℕ)) (failed_old failed_new : ℕ) (marks : ℕ → List Mark) → cause ≡ None → Writes accepted merge cause stops saw old new failed_old failed_new marks
      → (stops ≡ 0) × (failed_new ≡ failed_old) × WritesAll accepted accepted.binary merge saw old new marks
  never_stopped merge None stops saw old new failed_old failed_new marks never w = w
  never_stopped merge (Some why) stops saw old new failed_old failed_new marks never w = absurd (some-none why never)

  -- what was written at once is a front of itself
  pub all_front : (binary : Option (ℕ × ℕ)) → accepted.binary ≡ binary → (merge : Merge) (saw : List Entry → Type 0) (old new : Option (List ℕ)) (marks : ℕ → List Mark) → WritesAll accepted binary merge saw old new marks → WritesFrontOf accepted (count_of merge) saw old new marks
  all_front None is merge saw old new marks w = record {
    out = shown_lines accepted w.given;
    notes = shown_entries accepted w.given;
    prompts = subst (λ b. Prompts accepted b (count_of merge) marks (shown_lines accepted w.given) (shown_entries accepted w.given)) (sym is) (record {
      given = w.given;
      held = held_in merge;
      merges = w.stands.merges;
      prompt = w.prompt;
      lines = refl;
      shown = refl;
    });
    front = front_whole old new (shown_lines accepted w.given) w.lines;
    seen = shown_saw accepted saw old new w.given (shown_whole accepted saw old new w.given w.lines w.seen);
  }
  all_front (Some wanted) is merge saw old new marks w =
      let front = front_whole old new (bytes_in wanted.1 (marks wanted.0)) w.0 in
      record {
        out = bytes_in wanted.1 (marks wanted.0);
        notes = [];
        prompts = subst (λ b. Prompts accepted b (count_of merge) marks (bytes_in wanted.1 (marks wanted.0)) []) (sym is) (refl, refl);
        front = front;
        seen = saw_none accepted saw old new (bytes_in wanted.1 (marks wanted.0)) front w.1;
      }

  -- it stays written and seen
  all_kept : (binary : Option (ℕ × ℕ)) (merge : Merge) (saw_mid saw : List Entry → Type 0) (old mid new : Option (List ℕ)) (marks : ℕ → List Mark) → SeesNone saw_mid saw → Keeps mid new → WritesAll accepted binary merge saw_mid old mid marks → WritesAll accepted binary merge saw old new marks
  all_kept None merge saw_mid saw old mid new marks none kept w = record {
    given = w.given;
    stands = w.stands;
    prompt = w.prompt;
    lines = Appends-kept old mid new (shown_lines accepted w.given) w.lines kept;
    seen = none (shown_entries accepted w.given) w.seen;
  }
  all_kept (Some wanted) merge saw_mid saw old mid new marks none kept w = (Appends-kept old mid new (bytes_in wanted.1 (marks wanted.0)) w.0 kept, none [] w.1)

  -- a pause
  module _ (merge : Merge) (cause : Option ListStop) (stops : ℕ) (saw_mid saw : List Entry → Type 0) (old mid new : Option (List ℕ)) (failed_old failed_mid failed_new : ℕ) (marks : ℕ → List Mark) (never : cause ≡ None) (none : SeesNone saw_mid saw) (kept : Keeps mid new)
      (w : Writes accepted merge cause stops saw_mid old mid failed_old failed_mid marks) where
    all_still : WritesAll accepted accepted.binary merge saw old new marks
    all_still = all_kept accepted.binary merge saw_mid saw old mid new marks none kept (never_stopped merge cause stops saw_mid old mid failed_old failed_mid marks never w).2

    pub pause_kept : failed_new ≡ failed_mid → Writes accepted merge cause stops saw old new failed_old failed_new marks × WritesAll accepted accepted.binary merge saw old new marks
    pause_kept same =
        let had = never_stopped merge cause stops saw_mid old mid failed_old failed_mid marks never w in
        (subst (λ c. Writes accepted merge c stops saw old new failed_old failed_new marks) (sym never) (had.0, same ∙ had.1, all_still), all_still)

    pub pause_fails : failed_mid ≤ failed_new → Rose failed_mid failed_new → Writes accepted merge (Some Write) stops saw old new failed_old failed_new marks × WritesAll accepted accepted.binary merge saw old new marks
    pause_fails later rose =
        let had = never_stopped merge cause stops saw_mid old mid failed_old failed_mid marks never w in
        ((omega (arith, had.1, later), subst (λ (n : ℕ). Rose n failed_new) had.1 rose, stopped_now (count_of merge) saw old new marks (all_front accepted.binary refl merge saw old new marks all_still)), all_still)

  -- it was stopped before, and again in a pause
  pub paused_again : (merge : Merge) (cause : Option ListStop) (stops more : ℕ) (saw : List Entry → Type 0) (old new : Option (List ℕ)) (failed_old failed_new : ℕ) (marks : ℕ → List Mark) → IsSome cause → more ≢ 0 → Writes accepted merge cause stops saw old new failed_old failed_new marks
      → Writes accepted merge cause more saw old new failed_old failed_new marks
  paused_again merge None stops more saw old new failed_old failed_new marks some again w = absurd cc
  paused_again merge (Some Write) stops more saw old new failed_old failed_new marks some again w = w
  paused_again merge (Some NoMemory) stops more saw old new failed_old failed_new marks some again w = (again, w.1, w.2)

  module _ (before after : ℕ → List Mark) (instance : ℕ) (added : List Mark) (adds : AddsMarks before after instance added) where
    -- it was stopped before
    front_later : (count : ℕ) (saw : List Entry → Type 0) (old new : Option (List ℕ)) → WritesFront accepted count saw old new before → WritesFront accepted count saw old new after
    front_later count saw old new w = record {
      first = w.first;
      begins = λ j. elim (cases_eq j instance) [
        | inl same ↦ subst (λ (k : ℕ). Begins (w.first k) (after k)) (sym same) ((w.begins instance).0 ++ added, sym (append_assoc (w.first instance) (w.begins instance).0 added) ∙ (ap (λ (l : List Mark). l ++ added) (w.begins instance).1 ∙ sym adds.here))
        | inr differ ↦ subst (Begins (w.first j)) (sym (adds.others j differ)) (w.begins j)
      ];
      out = w.out;
      notes = w.notes;
      prompts = w.prompts;
      front = w.front;
      seen = w.seen;
    }

    pub stopped_again : (merge : Merge) (cause : Option ListStop) (stops more : ℕ) (saw : List Entry → Type 0) (old new : Option (List ℕ)) (failed_old failed_new : ℕ) → IsSome cause → more ≢ 0 → Writes accepted merge cause stops saw old new failed_old failed_new before
        → Writes accepted merge cause more saw old new failed_old failed_new after
    stopped_again merge None stops more saw old new failed_old failed_new some again w = absurd cc
    stopped_again merge (Some Write) stops more saw old new failed_old failed_new some again w = (w.0, w.1, front_later (count_of merge) saw old new w.2)
    stopped_again merge (Some NoMemory) stops more saw old new failed_old failed_new some again w = (again, w.1, front_later (count_of merge) saw old new w.2)

    -- notes are listed
    lines_on : (merge mid_merge last : Merge) (saw_mid saw : List Entry → Type 0) (old mid new : Option (List ℕ)) (done : Unit {0}) → WritesLines accepted merge saw_mid old mid before → PushesMarks merge mid_merge instance added
        → ((marks : ℕ → List Mark) (given : List Entry) → Stands mid_merge marks given → ListsReady accepted last saw_mid saw mid new marks given (Ok done)) → WritesLines accepted last saw old new after
    lines_on merge mid_merge last saw_mid saw old mid new done w takes lists =
        let r = lists after w.given (takes w.given before after w.stands adds) in
        record {
          given = w.given ++ r.0.more;
          stands = r.0.stands;
          prompt = r.1;
          lines = listed_more accepted old mid new w.given r.0.more w.lines r.0.lines;
          seen = subst saw (sym (entries_append accepted w.given r.0.more)) (r.0.sees (shown_entries accepted w.given) w.seen);
        }

    module _ (is : accepted.binary ≡ None) where
      front_of : (count : ℕ) (saw : List Entry → Type 0) (old new : Option (List ℕ)) (given : List Entry) (s : Settles count after given) → Shown accepted saw old new given → WritesFrontOf accepted count saw old new after
      front_of count saw old new given s shown =
          let longer = shown_longer accepted saw old new given s.more shown in
          record {
            out = shown_lines accepted (given ++ s.more);
            notes = shown_entries accepted (given ++ s.more);
            prompts = subst (λ b. Prompts accepted b count after (shown_lines accepted (given ++ s.more)) (shown_entries accepted (given ++ s.more))) (sym is) (record {
              given = given ++ s.more;
              held = s.held;
              merges = s.merges;
              prompt = s.prompt;
              lines = refl;
              shown = refl;
            });
            front = shown_front accepted saw old new (given ++ s.more) longer;
            seen = shown_saw accepted saw old new (given ++ s.more) longer;
          }

      lines_front : (merge mid_merge last : Merge) (saw_mid saw : List Entry → Type 0) (old mid new : Option (List ℕ)) (why : ListStop) → WritesLines accepted merge saw_mid old mid before → PushesMarks merge mid_merge instance added
          → ((marks : ℕ → List Mark) (given : List Entry) → Stands mid_merge marks given → ListsReady accepted last saw_mid saw mid new marks given (Err why)) → WritesFrontOf accepted (count_of last) saw old new after
      lines_front merge mid_merge last saw_mid saw old mid new why w takes lists =
          let r = lists after w.given (takes w.given before after w.stands adds) in
          front_of (count_of last) saw old new (w.given ++ r.more) (settles (count_of last) after (w.given ++ r.more) (held_in last) r.stands.merges)
          (shown_behind accepted saw saw_mid old mid new w.given r.more w.lines w.seen r.front)

    -- what was written and seen before, and how often the sink had failed
    module _ (merge : Merge) (cause : Option ListStop) (stops : ℕ) (saw_mid saw : List Entry → Type 0) (old mid new : Option (List ℕ)) (failed_old failed_mid failed_new : ℕ) (never : cause ≡ None) (w : Writes accepted merge cause stops saw_mid old mid failed_old failed_mid before) where
      had : (stops ≡ 0) × (failed_mid ≡ failed_old) × WritesAll accepted accepted.binary merge saw_mid old mid before
      had = never_stopped merge cause stops saw_mid old mid failed_old failed_mid before never w

      -- all of it
      goes_well : (last : Merge) (saw_now : List Entry → Type 0) → failed_new ≡ failed_mid → WritesAll accepted accepted.binary last saw_now old new after → Writes accepted last cause stops saw_now old new failed_old failed_new after
      goes_well last saw_now kept all = subst (λ c. Writes accepted last c stops saw_now old new failed_old failed_new after) (sym never) (had.0, kept ∙ had.1, all)

      -- it was stopped for this cause
      stopped_for : (last : Merge) (saw_now : List Entry → Type 0) (why : ListStop) (more : ℕ) → more ≢ 0 → StopCause why failed_mid failed_new → WritesFrontOf accepted (count_of last) saw_now old new after → Writes accepted last (Some why) more saw_now old new failed_old failed_new after
      stopped_for last saw_now Write more again cause front = (omega (arith, had.1, cause.0), subst (λ (n : ℕ). Rose n failed_new) had.1 cause.1, stopped_now (count_of last) saw_now old new after front)
      stopped_for last saw_now NoMemory more again cause front = (again, cause ∙ had.1, stopped_now (count_of last) saw_now old new after front)

      fails : (last : Merge) (saw_now : List Entry → Type 0) (why : ListStop) (now : Option ListStop) (more : ℕ) → now ≡ Some why → more ≢ 0 → StopCause why failed_mid failed_new → WritesFrontOf accepted (count_of last) saw_now old new after
          → Writes accepted last now more saw_now old new failed_old failed_new after × WritesFrontOf accepted (count_of last) saw_now old new after
      fails last saw_now why now more is again cause front = (subst (λ c. Writes accepted last c more saw_now old new failed_old failed_new after) (sym is) (stopped_for last saw_now why more again cause front), front)

      -- of notes
      module _ (notes : accepted.binary ≡ None) (mid_merge last : Merge) where
        lines : WritesLines accepted merge saw_mid old mid before
        lines = subst (λ b. WritesAll accepted b merge saw_mid old mid before) notes had.2

        pub marks_write : (done : Unit {0}) → failed_new ≡ failed_mid → PushesMarks merge mid_merge instance added
            → ((marks : ℕ → List Mark) (given : List Entry) → Stands mid_merge marks given → ListsReady accepted last saw_mid saw mid new marks given (Ok done)) → Writes accepted last cause stops saw old new failed_old failed_new after
        marks_write done kept takes lists = goes_well last saw kept (subst (λ b. WritesAll accepted b last saw old new after) (sym notes) (lines_on merge mid_merge last saw_mid saw old mid new done lines takes lists))

        pub marks_fail : (why : ListStop) (now : Option ListStop) (more : ℕ) → now ≡ Some why → more ≢ 0 → StopCause why failed_mid failed_new → PushesMarks merge mid_merge instance added
            → ((marks : ℕ → List Mark) (given : List Entry) → Stands mid_merge marks given → ListsReady accepted last saw_mid saw mid new marks given (Err why)) → Writes accepted last now more saw old new failed_old failed_new after × WritesFrontOf accepted (count_of last) saw old new after
        marks_fail why now more is again cause takes lists = fails last saw why now more is again cause (lines_front notes merge mid_merge last saw_mid saw old mid new why lines takes lists)

  -- there was no memory for the last of them
  module _ (before after : ℕ → List Mark) (instance : ℕ) (first : List Mark) (refused : Mark) (adds : AddsMarks before after instance (first ++ refused ∷ [])) where
    pub lines_cut : accepted.binary ≡ None → (merge last : Merge) (saw : List Entry → Type 0) (old new : Option (List ℕ)) → instance < count_of last → WritesLines accepted merge saw old new before → PushesMarks merge last instance first → WritesFrontOf accepted (count_of last) saw old new after
    lines_cut is merge last saw old new within w pushes =
        let mid = middle before instance first in
        let stands = pushes w.given before mid w.stands (adds_first before instance first) in
        let behind = adds_behind before after instance first (refused ∷ []) adds in
        front_of before after instance (first ++ refused ∷ []) adds is (count_of last) saw old new w.given (one_more (count_of last) mid after w.given (held_in last) instance refused within stands.merges (as_pushed mid after instance refused behind))
        (shown_whole accepted saw old new w.given w.lines w.seen)

    pub marks_cut : (merge : Merge) (cause : Option ListStop) (stops : ℕ) (saw : List Entry → Type 0) (old new : Option (List ℕ)) (failed_old failed_new : ℕ) (never : cause ≡ None) → Writes accepted merge cause stops saw old new failed_old failed_new before → accepted.binary ≡ None
        → (last : Merge) (now : Option ListStop) (more : ℕ) → now ≡ Some NoMemory → more ≢ 0 → instance < count_of last → PushesMarks merge last instance first → Writes accepted last now more saw old new failed_old failed_new after × WritesFrontOf accepted (count_of last) saw old new after
    marks_cut merge cause stops saw old new failed_old failed_new never w notes last now more is again within pushes =
        let h = never_stopped merge cause stops saw old new failed_old failed_new before never w in
        fails before after instance (first ++ refused ∷ []) adds merge cause stops saw saw old new new failed_old failed_new failed_new never w last saw NoMemory now more is again refl
        (lines_cut notes merge last saw old new within (subst (λ b. WritesAll accepted b merge saw old new before) notes h.2) pushes)

  -- one mark, where not all go to the merge
  module _ (before after : ℕ → List Mark) (instance : ℕ) (mark : Mark) (adds : AddsMark before after instance mark) where
    -- binary data is wanted
    data_on : (binary : Option (ℕ × ℕ)) → IsSome binary → (merge : Merge) (saw : List Entry → Type 0) (old mid new : Option (List ℕ)) → WritesAll accepted binary merge saw old mid before → Appends mid new (wanted_by binary instance mark) → WritesAll accepted binary merge saw old new after
    data_on None some merge saw old mid new had more = absurd cc
    data_on (Some wanted) some merge saw old mid new had more = (
      appends_on old mid new (bytes_in wanted.1 (before wanted.0)) (wanted_of wanted instance mark) (bytes_in wanted.1 (after wanted.0)) had.0 more (sym (bytes_after wanted before after instance mark adds)),
      had.1,
    )

    data_front : (binary : Option (ℕ × ℕ)) → IsSome binary → accepted.binary ≡ binary → (merge : Merge) (saw : List Entry → Type 0) (old mid new : Option (List ℕ)) → WritesAll accepted binary merge saw old mid before → AppendsFront mid new (wanted_by binary instance mark)
        → WritesFrontOf accepted (count_of merge) saw old new after
    data_front None some is merge saw old mid new had more = absurd cc
    data_front (Some wanted) some is merge saw old mid new had more =
        let front : AppendsFront old new (bytes_in wanted.1 (after wanted.0)) = subst (AppendsFront old new) (sym (bytes_after wanted before after instance mark adds)) (front_on old mid new (bytes_in wanted.1 (before wanted.0)) (wanted_of wanted instance mark) had.0 more) in
        record {
          out = bytes_in wanted.1 (after wanted.0);
          notes = [];
          prompts = subst (λ b. Prompts accepted b (count_of merge) after (bytes_in wanted.1 (after wanted.0)) []) (sym is) (refl, refl);
          front = front;
          seen = saw_none accepted saw old new (bytes_in wanted.1 (after wanted.0)) front had.1;
        }

    -- nothing is written of it
    pub cut_first : (binary : Option (ℕ × ℕ)) → accepted.binary ≡ binary → (merge : Merge) (saw : List Entry → Type 0) (old new : Option (List ℕ)) → instance < count_of merge → WritesAll accepted binary merge saw old new before → WritesFrontOf accepted (count_of merge) saw old new after
    cut_first None is merge saw old new within w = lines_cut before after instance [] mark adds is merge merge saw old new within w (λ given. takes_nothing (λ had. Stands merge had given) instance)
    cut_first (Some wanted) is merge saw old new within w = data_front (Some wanted) refl is merge saw old new new w (nothing_front new (wanted_of wanted instance mark))

    module _ (merge : Merge) (cause : Option ListStop) (stops : ℕ) (saw_mid saw : List Entry → Type 0) (old mid new : Option (List ℕ)) (failed_old failed_mid failed_new : ℕ) (never : cause ≡ None) (w : Writes accepted merge cause stops saw_mid old mid failed_old failed_mid before) where
      before_it : WritesAll accepted accepted.binary merge saw_mid old mid before
      before_it = (never_stopped merge cause stops saw_mid old mid failed_old failed_mid before never w).2

      pub data_writes : IsSome accepted.binary → failed_new ≡ failed_mid → Appends mid new (wanted_by accepted.binary instance mark) → Writes accepted merge cause stops saw_mid old new failed_old failed_new after
      data_writes some kept more = goes_well before after instance (mark ∷ []) adds merge cause stops saw_mid saw old mid new failed_old failed_mid failed_new never w merge saw_mid kept (data_on accepted.binary some merge saw_mid old mid new before_it more)

      pub data_fails : IsSome accepted.binary → (now : Option ListStop) (more : ℕ) → now ≡ Some Write → more ≢ 0 → failed_mid ≤ failed_new → Rose failed_mid failed_new → AppendsFront mid new (wanted_by accepted.binary instance mark)
          → Writes accepted merge now more saw_mid old new failed_old failed_new after × WritesFrontOf accepted (count_of merge) saw_mid old new after
      data_fails some now more is again later rose front = fails before after instance (mark ∷ []) adds merge cause stops saw_mid saw old mid new failed_old failed_mid failed_new never w merge saw_mid Write now more is again (later, rose) (data_front accepted.binary some refl merge saw_mid old mid new before_it front)
