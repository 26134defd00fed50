-- What a whole run says, from what its words and its work say.
use Rattle.std.proofs.Common.{◌≡◌, ℕ, Bool, ◌&&◌, is_none, true, false, List, [], Option, Some, None, IfSome, Ok, Err, refl, sym, ◌∙◌, ap, subst, inl, inr}
use Rattle.std.proofs.KnownBytes.{Consumes-nil}
use Rattle.la_io.specs.Capture.{Told, Cut}
use Rattle.la_io.specs.Grown.{appends_nothing}
use Rattle.words.specs.Lexer.{Text}
use Rattle.words.specs.Settings.{Values, settings_of}
use Rattle.words.specs.Given.{word_fault_in}
use Rattle.words.specs.declared.kinds.WordsError.{WordsError}
use Rattle.words.specs.declared.kinds.WordsError.TheVariants as error
use Rattle.view_store.specs.Listings.{Listing, nothing}
use Rattle.run_status.specs.Causes.{WhereUnread}
use Rattle.run_status.specs.Notices.{status_at_words}
use Rattle.run_status.specs.declared.outcome.Outcome.{Outcome}
use Rattle.run_status.specs.declared.status.Status.{Status}
use Rattle.run_status.specs.declared.status.Status.TheVariants.{Bind, Capture, Check, Done, NoMemory, ReadFault, Stack, Words, WriteFault}
use Rattle.make_job.specs.Making.{MadeBy}
use Rattle.run_asks.specs.Asking.{NamesNoHead, is_decode, lists_notes}
use Rattle.run_asks.specs.Parting.{Saves}
use Rattle.ldecode.specs.Headline.{Does, DoesOn, Good, IsMade, IsWatched, RunTells, Saw, Tells, WorksOn}
use Rattle.ldecode.specs.Watching.{IsShelved, RunsShelved, RunsViewed, SawOf, ShelvesOn, ViewsOn}
use Rattle.ldecode.proofs.Shelving.{works_shelved}

-- what work and shelf say of a run
unfoldable pub does_work : (saves : Saves) (values : Values) (left_old left_new old new : Option (List ℕ)) (status : Status) → WorksOn saves values left_old left_new old new status → DoesOn saves values left_old left_new old new status
does_work saves values left_old left_new old new status w = record { bytes = w.bytes; told = w.told; taken = w.taken; at_end = w.at_end; does = inl w.works }

-- of a made capture nothing was read
pub does_make : (saves : Saves) (values : Values) → IsMade values → (left old new : Option (List ℕ)) (status : Status) → MadeBy values.seed values.count old new status → DoesOn saves values left left old new status
does_make saves values made left old new status m = record { bytes = []; told = Cut; taken = Consumes-nil left; at_end = λ e. cc; does = inr (record { job = made; none = refl; wrote = m }) }

-- where no viewer looks on, none saw any
pub unseen_does : (saves : Saves) (values : Values) → (IsWatched values → ⊥) → (left_old left_new old new : Option (List ℕ)) (status : Status) → DoesOn saves values left_old left_new old new status → ViewsOn saves values left_old left_new old new (record { status = status; seen = None })
unseen_does saves values not left_old left_new old new status d = record { does = d; saw = λ done watched. not watched }

pub unseen_is : (saves : Saves) (values : Values) → (IsWatched values → ⊥) → (left_old left_new old new : Option (List ℕ)) (status : Status) → DoesOn saves values left_old left_new old new status → (outcome : Outcome) → outcome ≡ record { status = status; seen = None } → ViewsOn saves values left_old left_new old new outcome
unseen_is saves values not left_old left_new old new status d outcome is = subst (ViewsOn saves values left_old left_new old new) (sym is) (unseen_does saves values not left_old left_new old new status d)

-- only a decoding of a whole capture has a viewer
pub not_watched : (values : Values) → is_decode values.job ≡ false → IsWatched values → ⊥
not_watched values not watched = by (is_decode values.job) not watched.1
  where
    by : (b : Bool) → b ≡ false → (b && is_none values.binary) ≡ true → ⊥
    by true is both = cc
    by false is both = cc

module _ (saves : Saves) (words : List Text) where
  -- the words have a fault, or there was no memory to read them
  words_tell : (why : WordsError) → IfSome (word_fault_in why) (λ fault. settings_of words ≡ Err fault) → (old : Option (List ℕ)) → Tells saves words [] Cut old old (status_at_words why)
  words_tell (error.Fault fault) is old = (is, refl, appends_nothing old)
  words_tell error.NoMemory is old = inr (appends_nothing old)

  words_refused : (why : WordsError) → IfSome (word_fault_in why) (λ fault. settings_of words ≡ Err fault) → (left old : Option (List ℕ)) → RunTells saves words left left old old (status_at_words why)
  words_refused why is left old = record { bytes = []; told = Cut; taken = Consumes-nil left; at_end = λ e. cc; tells = words_tell why is old }

  not_done : (why : WordsError) → status_at_words why ≡ Done → ⊥
  not_done (error.Fault fault) is = cc
  not_done error.NoMemory is = cc

  -- no viewer saw any
  pub refused_viewed : (why : WordsError) → IfSome (word_fault_in why) (λ fault. settings_of words ≡ Err fault) → (left old : Option (List ℕ)) (outcome : Outcome) → outcome ≡ record { status = status_at_words why; seen = None } → RunsViewed saves words left left old old outcome
  refused_viewed why is left old outcome same = subst (RunsViewed saves words left left old old) (sym same) (record { runs = words_refused why is left old; saw = λ done g. not_done why done })

  -- and a new shelf has none
  pub refused_shelved : (why : WordsError) → IfSome (word_fault_in why) (λ fault. settings_of words ≡ Err fault) → (left old : Option (List ℕ)) (shelf : Listing) → shelf ≡ nothing → (status : Status) → status ≡ status_at_words why → RunsShelved saves words left left old old shelf status
  unfolding words_refused
  refused_shelved why is left old shelf none status same =
      subst (RunsShelved saves words left left old old shelf) (sym same) (record { runs = words_refused why is left old; on_shelf = λ values good lists. none_shelved why is values good })
    where
      none_shelved : (why : WordsError) → IfSome (word_fault_in why) (λ fault. settings_of words ≡ Err fault) → (values : Values) → settings_of words ≡ Ok values → IsShelved values [] Cut old old shelf (status_at_words why)
      none_shelved (error.Fault fault) is values good = let both = sym is ∙ good in cc
      none_shelved error.NoMemory is values good = inr (tt, appends_nothing old, none)

  module _ (values : Values) (good : settings_of words ≡ Ok values) where
    -- what holds of the values of good words holds of these
    pub of_these : (P : Values → Type 0) → Good words P → P values
    of_these P g =
        let both = sym g.1 ∙ good in
        let same : g.0 ≡ values = cc in
        subst P same g.2

    does_tells : (bytes : List ℕ) (told : Told) (old new : Option (List ℕ)) (status : Status) → Does saves values bytes told old new status → Tells saves words bytes told old new status
    does_tells bytes told old new Done d = (values, good, d)
    does_tells bytes told old new (Words fault) (inl w) = absurd w
    does_tells bytes told old new (Words fault) (inr m) = absurd m.wrote
    does_tells bytes told old new (Stack fault) d = (values, good, d)
    does_tells bytes told old new (Bind fault) d = (values, good, d)
    does_tells bytes told old new (Check fault) d = (values, good, d)
    does_tells bytes told old new ReadFault d = (values, good, d)
    does_tells bytes told old new (Capture fault) d = (values, good, d)
    does_tells bytes told old new WriteFault d = (values, good, d)
    does_tells bytes told old new NoMemory d = inl (values, good, d)

    -- what is said of good words is said of these
    pub runs_of : (left_old left_new old new : Option (List ℕ)) (status : Status) → DoesOn saves values left_old left_new old new status → RunTells saves words left_old left_new old new status
    runs_of left_old left_new old new status d = record {
      bytes = d.bytes;
      told = d.told;
      taken = d.taken;
      at_end = d.at_end;
      tells = does_tells d.bytes d.told old new status d.does;
    }

    -- a refusal that holds where nothing was read, and what holds of a made capture
    pub unread_of : (status : Status) (P : Type 0) → WhereUnread (NamesNoHead values) status P → WhereUnread (Good words NamesNoHead) status P
    unread_of Done P u = tt
    unread_of (Words fault) P u = u
    unread_of (Stack fault) P u = u
    unread_of (Bind fault) P u = λ g. u (of_these NamesNoHead g)
    unread_of (Check fault) P u = λ g. u (of_these NamesNoHead g)
    unread_of ReadFault P u = tt
    unread_of (Capture fault) P u = tt
    unread_of WriteFault P u = tt
    unread_of NoMemory P u = tt

    saw_of : (bytes : List ℕ) (told : Told) (status : Status) (seen : Option ℕ) → SawOf values bytes told status seen → Saw words bytes told status seen
    saw_of bytes told status None saw = λ done g. saw done (of_these IsWatched g)
    saw_of bytes told status (Some count) saw = (saw.0, (values, good, (saw.1, saw.2)))

    -- a viewer saw what it saw
    pub viewed : (left_old left_new old new : Option (List ℕ)) (outcome : Outcome) → ViewsOn saves values left_old left_new old new outcome → RunsViewed saves words left_old left_new old new outcome
    unfolding runs_of
    viewed left_old left_new old new outcome v = record {
      runs = runs_of left_old left_new old new outcome.status v.does;
      saw = saw_of v.does.bytes v.does.told outcome.status outcome.seen v.saw;
    }

    -- a shelf has what it has
    pub on_shelf : (left_old left_new old new : Option (List ℕ)) (shelf : Listing) (status : Status) → ShelvesOn values left_old left_new old new shelf status → RunsShelved saves words left_old left_new old new shelf status
    unfolding runs_of does_work works_shelved
    on_shelf left_old left_new old new shelf status s = record {
      runs = runs_of left_old left_new old new status (does_work saves values left_old left_new old new status (works_shelved saves values left_old left_new old new shelf status s));
      on_shelf = λ other is. λ lists_other. subst (λ (v : Values). IsShelved v s.bytes s.told old new shelf status) (same_values other is) s.shelved;
    }
      where
        same_values : (other : Values) → settings_of words ≡ Ok other → values ≡ other
        same_values other is = let both = sym good ∙ is in cc

    -- no listing of notes is asked for
    pub unshelved : lists_notes values ≡ false → (left_old left_new old new : Option (List ℕ)) (shelf : Listing) (status : Status) → DoesOn saves values left_old left_new old new status → RunsShelved saves words left_old left_new old new shelf status
    unfolding runs_of
    unshelved not left_old left_new old new shelf status d = record {
      runs = runs_of left_old left_new old new status d;
      on_shelf = λ other is lists. absurd (none other is lists);
    }
      where
        none : (other : Values) → settings_of words ≡ Ok other → lists_notes other ≡ true → ⊥
        none other is lists = let both = sym good ∙ is in let same : values ≡ other = cc in let both = sym (ap lists_notes same ∙ lists) ∙ not in cc
