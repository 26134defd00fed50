-- Lines that are written, and the notes that are seen behind them.
use Rattle.std.proofs.Common.{◌≡◌, ℕ, ◌<◌, ◌+◌, Bool, true, false, cond, List, [], ◌∷◌, ◌++◌, length, get_or, take, drop, Option, refl, sym, ◌∙◌, ap, subst, append_assoc, take-append-drop, arith}
use Rattle.std.specs.Io.KnownBytes.{Appends}
use Rattle.std.proofs.lemmas.Grind.{flat_map-append}
use Rattle.std.proofs.lemmas.List.{append-nil}
use Rattle.std.proofs.lemmas.List.Elements.{filter-append}
use Rattle.la_io.specs.Causes.{AppendsFront}
use Rattle.la_io.specs.Grown.{appends_nothing, appends_on}
use Rattle.la_io.proofs.Fronts.{front_longer, front_on, front_whole}
use Rattle.note_order.specs.declared.entry.Entry.{Entry}
use Rattle.stack_words.specs.Accepting.{Accepted}
use Rattle.annot_merge.proofs.PutLemmas.{first_of}
use Rattle.note_lister.specs.Lines.{has_shown, note_line, note_lines, shown_entries, shown_line, shown_lines}
use Rattle.note_lister.specs.Watching.{SawFront, Sees, SeesNone, ShowsFront}

pub nothing_front : (old : Option (List ℕ)) (bytes : List ℕ) → AppendsFront old old bytes
nothing_front old bytes = front_longer old old [] bytes (front_whole old old [] (appends_nothing old))

pub no_entries : (es : List Entry) → length es ≡ 0 → es ≡ []
no_entries [] none = refl
no_entries (e ∷ es) none = absurd (omega (arith, none))

-- what is seen
pub sees_on : (first mid last : List Entry → Type 0) (xs ys whole : List Entry) → Sees first mid xs → Sees mid last ys → xs ++ ys ≡ whole → Sees first last whole
sees_on first mid last xs ys whole one other is before had =
    subst last (append_assoc before xs ys ∙ ap (λ (l : List Entry). before ++ l) is) (other (before ++ xs) (one before had))

pub sees_nothing : (first last : List Entry → Type 0) → SeesNone first last → Sees first last []
sees_nothing first last none before had = subst last (sym (append-nil before)) (none before had)

module _ (accepted : Accepted) where
  pub lines_append : (xs ys : List Entry) → shown_lines accepted (xs ++ ys) ≡ shown_lines accepted xs ++ shown_lines accepted ys
  lines_append xs ys = flat_map-append (shown_line accepted) xs ys

  pub entries_append : (xs ys : List Entry) → shown_entries accepted (xs ++ ys) ≡ shown_entries accepted xs ++ shown_entries accepted ys
  entries_append xs ys = filter-append (has_shown accepted) xs ys

  -- the lines of notes are those of the notes that are shown
  pub lines_shown : (entries : List Entry) → shown_lines accepted entries ≡ note_lines accepted.instances (shown_entries accepted entries)
  lines_shown [] = refl
  lines_shown (e ∷ entries) = by (has_shown accepted e) (lines_shown entries)
    where
      by : (b : Bool) → shown_lines accepted entries ≡ note_lines accepted.instances (shown_entries accepted entries)
          → cond b (note_line accepted.instances e) [] ++ shown_lines accepted entries ≡ note_lines accepted.instances (cond b (e ∷ shown_entries accepted entries) (shown_entries accepted entries))
      by true rest = ap (λ (l : List ℕ). note_line accepted.instances e ++ l) rest
      by false rest = rest

  -- more notes that were given
  pub listed_more : (old mid new : Option (List ℕ)) (more run : List Entry) → Appends old mid (shown_lines accepted more) → Appends mid new (shown_lines accepted run) → Appends old new (shown_lines accepted (more ++ run))
  listed_more old mid new more run had one =
      appends_on old mid new (shown_lines accepted more) (shown_lines accepted run) (shown_lines accepted (more ++ run)) had one (sym (lines_append more run))

  pub seen_more : (first mid last : List Entry → Type 0) (more run : List Entry) → Sees first mid (shown_entries accepted more) → Sees mid last (shown_entries accepted run) → Sees first last (shown_entries accepted (more ++ run))
  seen_more first mid last more run had one =
      sees_on first mid last (shown_entries accepted more) (shown_entries accepted run) (shown_entries accepted (more ++ run)) had one (sym (entries_append more run))

  -- some notes whole, and a front of others
  pub shows_on : (first mid_saw last : List Entry → Type 0) (old mid new : Option (List ℕ)) (done entries : List Entry) → Appends old mid (shown_lines accepted done) → Sees first mid_saw (shown_entries accepted done) → ShowsFront accepted mid_saw last mid new entries
      → ShowsFront accepted first last old new (done ++ entries)
  shows_on first mid_saw last old mid new done entries lines sees front = record {
    first = done ++ front.first;
    rest = front.rest;
    both = append_assoc done front.first front.rest ∙ ap (λ (l : List Entry). done ++ l) front.both;
    sees = seen_more first mid_saw last done front.first sees front.sees;
    mid = front.mid;
    lines = listed_more old mid front.mid done front.first lines front.lines;
    front = front.front;
  }

  -- a front of the first line
  one_stopped : (first last : List Entry → Type 0) (old new : Option (List ℕ)) (e : Entry) (rest : List Entry) → AppendsFront old new (shown_line accepted e) → SeesNone first last → ShowsFront accepted first last old new (e ∷ rest)
  one_stopped first last old new e rest front none = record {
    first = [];
    rest = e ∷ rest;
    both = refl;
    sees = sees_nothing first last none;
    mid = old;
    lines = appends_nothing old;
    front = front_longer old new (shown_line accepted e) (shown_lines accepted rest) front;
  }

  -- the lines of some notes, and a front of the next one's
  pub stopped_at : (first mid_saw last : List Entry → Type 0) (old mid new : Option (List ℕ)) (es : List Entry) (i : ℕ) (e : Entry) → i < length es → e ≡ get_or es i e → Appends old mid (shown_lines accepted (take i es)) → Sees first mid_saw (shown_entries accepted (take i es))
      → AppendsFront mid new (shown_line accepted e) → SeesNone mid_saw last → ShowsFront accepted first last old new es
  stopped_at first mid_saw last old mid new es i e within is lines sees front none =
      subst (λ (l : List Entry). ShowsFront accepted first last old new l) (ap (λ (l : List Entry). take i es ++ l) (sym (first_of es i e within is)) ∙ take-append-drop i es)
      (shows_on first mid_saw last old mid new (take i es) (e ∷ drop (i + 1) es) lines sees (one_stopped mid_saw last mid new e (drop (i + 1) es) front none))

  module _ (saw : List Entry → Type 0) where
    -- of some notes the first were seen, behind their lines
    pub record Shown (old new : Option (List ℕ)) (entries : List Entry) : Type 0 where
      pub first : List Entry
      pub rest : List Entry
      pub both : first ++ rest ≡ entries
      pub seen : saw (shown_entries accepted first)
      pub mid : Option (List ℕ)
      pub lines : Appends old mid (shown_lines accepted first)
      pub front : AppendsFront mid new (shown_lines accepted rest)

    -- all were
    pub shown_whole : (old new : Option (List ℕ)) (given : List Entry) → Appends old new (shown_lines accepted given) → saw (shown_entries accepted given) → Shown old new given
    shown_whole old new given lines seen = record {
      first = given;
      rest = [];
      both = append-nil given;
      seen = seen;
      mid = new;
      lines = lines;
      front = nothing_front new [];
    }

    -- all these, and the first of others
    pub shown_behind : (mid_saw : List Entry → Type 0) (old mid new : Option (List ℕ)) (given more : List Entry) → Appends old mid (shown_lines accepted given) → mid_saw (shown_entries accepted given) → ShowsFront accepted mid_saw saw mid new more → Shown old new (given ++ more)
    shown_behind mid_saw old mid new given more lines seen front = record {
      first = given ++ front.first;
      rest = front.rest;
      both = append_assoc given front.first front.rest ∙ ap (λ (l : List Entry). given ++ l) front.both;
      seen = subst saw (sym (entries_append given front.first)) (front.sees (shown_entries accepted given) seen);
      mid = front.mid;
      lines = listed_more old mid front.mid given front.first lines front.lines;
      front = front.front;
    }

    -- they are the first of longer ones
    pub shown_longer : (old new : Option (List ℕ)) (given more : List Entry) → Shown old new given → Shown old new (given ++ more)
    shown_longer old new given more s = record {
      first = s.first;
      rest = s.rest ++ more;
      both = sym (append_assoc s.first s.rest more) ∙ ap (λ (l : List Entry). l ++ more) s.both;
      seen = s.seen;
      mid = s.mid;
      lines = s.lines;
      front = subst (AppendsFront s.mid new) (sym (lines_append s.rest more)) (front_longer s.mid new (shown_lines accepted s.rest) (shown_lines accepted more) s.front);
    }

    -- a front of their lines is written
    pub shown_front : (old new : Option (List ℕ)) (given : List Entry) → Shown old new given → AppendsFront old new (shown_lines accepted given)
    shown_front old new given s =
        subst (AppendsFront old new) (sym (lines_append s.first s.rest) ∙ ap (shown_lines accepted) s.both)
        (front_on old s.mid new (shown_lines accepted s.first) (shown_lines accepted s.rest) s.lines s.front)

    -- the first of them were seen
    pub shown_saw : (old new : Option (List ℕ)) (given : List Entry) → Shown old new given → SawFront accepted saw old new (shown_entries accepted given)
    shown_saw old new given s = record {
      seen = shown_entries accepted s.first;
      begins = (shown_entries accepted s.rest, sym (entries_append s.first s.rest) ∙ ap (shown_entries accepted) s.both);
      are_seen = s.seen;
      more = take s.front.count (shown_lines accepted s.rest);
      lines = appends_on old s.mid new (shown_lines accepted s.first) (take s.front.count (shown_lines accepted s.rest)) (note_lines accepted.instances (shown_entries accepted s.first) ++ take s.front.count (shown_lines accepted s.rest)) s.lines s.front.front
          (ap (λ (l : List ℕ). l ++ take s.front.count (shown_lines accepted s.rest)) (lines_shown s.first));
    }

    -- none were
    pub saw_none : (old new : Option (List ℕ)) (out : List ℕ) → AppendsFront old new out → saw [] → SawFront accepted saw old new []
    saw_none old new out front seen = record {
      seen = [];
      begins = ([], refl);
      are_seen = seen;
      more = take front.count out;
      lines = front.front;
    }
