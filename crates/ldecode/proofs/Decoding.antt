-- What comes of a decoding, whoever looked on.
use Rattle.std.proofs.Common.{◌≡◌, ℕ, inl, inr, true, false, List, ◌++◌, Option, Result, Ok, Err, IfOk, IfErr, map, sym, subst}
use Rattle.std.proofs.KnownBytes.{Consumes-trans}
use Rattle.la_io.specs.Capture.{Told}
use Rattle.capture_any.specs.Listings.{Lists, OfAll, OfFewer, Says, SettledFront}
use Rattle.capture_any.specs.Reading.{form_of, pins_of}
use Rattle.capture_any.specs.declared.end.ListingEnd.{ListingEnd}
use Rattle.capture_any.specs.declared.end.ListingEnd.TheVariants as ends
use Rattle.capture_any.specs.declared.form.Form.{Form}
use Rattle.decoder_core.specs.Trees.{Node}
use Rattle.decoder_set.specs.Opening.{setup_of}
use Rattle.decoder_set.specs.declared.setup.Setup.{Setup}
use Rattle.note_order.specs.declared.entry.Entry.{Entry}
use Rattle.tree_runs.specs.Runs.{nodes_of}
use Rattle.stack_words.specs.Accepting.{Accepted}
use Rattle.stack_words.specs.Stacks.{stack_meaning}
use Rattle.words.specs.Settings.{Values}
use Rattle.words.specs.declared.kinds.Job.TheVariants.{Decode}
use Rattle.run_status.specs.Notices.{status_by, status_of}
use Rattle.run_status.specs.declared.status.Status.{Status}
use Rattle.run_asks.specs.Refusing.{RefusesOn}
use Rattle.run_asks.specs.Parting.{Saves}
use Rattle.run_asks.proofs.Forms.{head_later}
use Rattle.run_asks.proofs.Opening.{read_is_cut}
use Rattle.stack_open.specs.Opening.{IsOpened}
use Rattle.stack_open.specs.declared.opening.Opened.{Opened}
use Rattle.ldecode.specs.Headline.{DecodesOn, IsBegun, IsListed, WorksOn}
use Rattle.ldecode.specs.Watching.{IsSeen, IsSeenFront, is_whole}
use Rattle.ldecode.proofs.Working.{worked, works_refused}

-- a decoding of what was opened, told of a copy of its parents
module _ (values : Values) (job : values.job ≡ Decode) (left_old left_now left_new : Option (List ℕ)) (opened : Opened) (is : IsOpened values left_old left_now opened) (Whole Front : Accepted → List (Node Setup) → List ℕ → Type 0) where
  abbrev nodes_on : List (Option ℕ) → List (Node Setup)
  nodes_on parents = nodes_of (map setup_of opened.machines.items) parents

  abbrev Listed : List (Option ℕ) → ListingEnd → Type 0
  Listed parents end = Lists (form_of opened.capture) (pins_of opened.capture) (Whole (stack_meaning opened.stack) (nodes_on parents)) (Front (stack_meaning opened.stack) (nodes_on parents)) is.bytes is.told left_now left_new end

  decoded_here : (end : ListingEnd) → Listed opened.parents.items end → DecodesOn values Whole Front left_old left_new end
  decoded_here end lists = record {
    bytes = is.bytes ++ lists.bytes;
    told = lists.told;
    taken = Consumes-trans left_old left_now left_new is.bytes lists.bytes is.taken lists.taken;
    at_end = lists.at_end;
    decoded = record {
      head = record { form = form_of opened.capture; names = is.names; rate = is.rate; form_is = is.form_is; is = head_later (form_of opened.capture) is.bytes lists.bytes is.told lists.told is.names is.rate lists.later is.head };
      pins = pins_of opened.capture;
      accepted = stack_meaning opened.stack;
      nodes = nodes_on opened.parents.items;
      job = job;
      asks = is.asks;
      says = lists.says;
    };
  }

  pub decoded_of : (parents : List (Option ℕ)) → parents ≡ opened.parents.items → (end : ListingEnd) → Listed parents end → DecodesOn values Whole Front left_old left_new end
  decoded_of parents same end lists = decoded_here end (subst (λ (l : List (Option ℕ)). Listed l end) same lists)

front_on : (form : Form) (pins : List ℕ) (Front More : List ℕ → Type 0) → ((l : List ℕ) → Front l → More l) → (bytes : List ℕ) (told : Told) → SettledFront form pins Front bytes told → SettledFront form pins More bytes told
front_on form pins Front More more bytes told (OfAll front) = OfAll (more _ front)
front_on form pins Front More more bytes told (OfFewer count less wants front) = OfFewer count less wants (more _ front)

-- what follows of a decoding
module _ (values : Values) (Whole Front : Accepted → List (Node Setup) → List ℕ → Type 0) (left_old left_new : Option (List ℕ)) (end : ListingEnd) (d : DecodesOn values Whole Front left_old left_new end) where
  abbrev AllOf : (Accepted → List (Node Setup) → List ℕ → Type 0) → List ℕ → Type 0
  AllOf All = All d.decoded.accepted d.decoded.nodes

  module _ (All More : Accepted → List (Node Setup) → List ℕ → Type 0) where
    unfoldable pub by_says : (last : ListingEnd) → Says d.decoded.head.form d.decoded.pins (AllOf All) (AllOf More) d.bytes d.told last → DecodesOn values All More left_old left_new last
    by_says last says = record {
      bytes = d.bytes;
      told = d.told;
      taken = d.taken;
      at_end = d.at_end;
      decoded = record {
        head = d.decoded.head;
        pins = d.decoded.pins;
        accepted = d.decoded.accepted;
        nodes = d.decoded.nodes;
        job = d.decoded.job;
        asks = d.decoded.asks;
        says = says;
      };
    }

    pub less_says : ((l : List ℕ) → AllOf Whole l → AllOf All l) → ((l : List ℕ) → AllOf Front l → AllOf More l) → (last : ListingEnd) → Says d.decoded.head.form d.decoded.pins (AllOf Whole) (AllOf Front) d.bytes d.told last → Says d.decoded.head.form d.decoded.pins (AllOf All) (AllOf More) d.bytes d.told last
    less_says all more ends.Done s = (s.0, s.1, all _ s.2)
    less_says all more ends.Read s = (s.0, all _ s.1)
    less_says all more ends.Write s = front_on d.decoded.head.form d.decoded.pins (AllOf Front) (AllOf More) more d.bytes d.told s
    less_says all more (ends.Fault fault) s = (s.0, all _ s.1)
    less_says all more ends.NoMemory s = front_on d.decoded.head.form d.decoded.pins (AllOf Front) (AllOf More) more d.bytes d.told s

    -- whole where it is whole, and a front where it is a front
    unfoldable pub decodes_less : ((a : Accepted) (n : List (Node Setup)) (l : List ℕ) → Whole a n l → All a n l) → ((a : Accepted) (n : List (Node Setup)) (l : List ℕ) → Front a n l → More a n l) → DecodesOn values All More left_old left_new end
    decodes_less all more = by_says end (less_says (all d.decoded.accepted d.decoded.nodes) (more d.decoded.accepted d.decoded.nodes) end d.decoded.says)

    cut_says : ((l : List ℕ) → AllOf Whole l → AllOf More l) → ((l : List ℕ) → AllOf Front l → AllOf More l) → (last : ListingEnd) → Says d.decoded.head.form d.decoded.pins (AllOf Whole) (AllOf Front) d.bytes d.told last → SettledFront d.decoded.head.form d.decoded.pins (AllOf More) d.bytes d.told
    cut_says all more ends.Done s = OfAll (all _ s.2)
    cut_says all more ends.Read s = OfAll (all _ s.1)
    cut_says all more ends.Write s = front_on d.decoded.head.form d.decoded.pins (AllOf Front) (AllOf More) more d.bytes d.told s
    cut_says all more (ends.Fault fault) s = OfAll (all _ s.1)
    cut_says all more ends.NoMemory s = front_on d.decoded.head.form d.decoded.pins (AllOf Front) (AllOf More) more d.bytes d.told s

    -- cut short, a front of it whatever it is
    pub decodes_cut : ((a : Accepted) (n : List (Node Setup)) (l : List ℕ) → Whole a n l → More a n l) → ((a : Accepted) (n : List (Node Setup)) (l : List ℕ) → Front a n l → More a n l) → DecodesOn values All More left_old left_new ends.NoMemory
    decodes_cut all more = by_says ends.NoMemory (cut_says (all d.decoded.accepted d.decoded.nodes) (more d.decoded.accepted d.decoded.nodes) end d.decoded.says)

    whole_says : ((l : List ℕ) → AllOf Whole l → AllOf All l) → (last : ListingEnd) → is_whole (status_of last) ≡ true → Says d.decoded.head.form d.decoded.pins (AllOf Whole) (AllOf Front) d.bytes d.told last → Says d.decoded.head.form d.decoded.pins (AllOf All) (AllOf More) d.bytes d.told last
    whole_says all ends.Done whole s = (s.0, s.1, all _ s.2)
    whole_says all ends.Read whole s = (s.0, all _ s.1)
    whole_says all ends.Write whole s = cc
    whole_says all (ends.Fault fault) whole s = (s.0, all _ s.1)
    whole_says all ends.NoMemory whole s = cc

    front_says : ((l : List ℕ) → AllOf Front l → AllOf More l) → (last : ListingEnd) → is_whole (status_of last) ≡ false → Says d.decoded.head.form d.decoded.pins (AllOf Whole) (AllOf Front) d.bytes d.told last → Says d.decoded.head.form d.decoded.pins (AllOf All) (AllOf More) d.bytes d.told last
    front_says more ends.Done front s = cc
    front_says more ends.Read front s = cc
    front_says more ends.Write front s = front_on d.decoded.head.form d.decoded.pins (AllOf Front) (AllOf More) more d.bytes d.told s
    front_says more (ends.Fault fault) front s = cc
    front_says more ends.NoMemory front s = front_on d.decoded.head.form d.decoded.pins (AllOf Front) (AllOf More) more d.bytes d.told s

    -- a front of it was written
    pub decodes_front : is_whole (status_of end) ≡ false → ((a : Accepted) (n : List (Node Setup)) (l : List ℕ) → Front a n l → More a n l) → DecodesOn values All More left_old left_new end
    decodes_front front more = by_says end (front_says (more d.decoded.accepted d.decoded.nodes) end front d.decoded.says)

    -- it is whole
    pub decodes_whole : is_whole (status_of end) ≡ true → ((a : Accepted) (n : List (Node Setup)) (l : List ℕ) → Whole a n l → All a n l) → DecodesOn values All More left_old left_new end
    decodes_whole whole all = by_says end (whole_says (all d.decoded.accepted d.decoded.nodes) end whole d.decoded.says)

-- what was written, and what the status says of it
unfoldable pub works_decoded : (saves : Saves) (values : Values) (left_old left_new old new : Option (List ℕ)) (end : ListingEnd) → DecodesOn values (IsListed old new) (IsBegun old new) left_old left_new end → WorksOn saves values left_old left_new old new (status_of end)
works_decoded saves values left_old left_new old new end d = record {
  bytes = d.bytes;
  told = d.told;
  taken = d.taken;
  at_end = d.at_end;
  works = worked saves values d.bytes d.told old new end (λ is. read_is_cut d.decoded.head.form d.decoded.pins (IsListed old new d.decoded.accepted d.decoded.nodes) (IsBegun old new d.decoded.accepted d.decoded.nodes) d.bytes d.told end is d.decoded.says) (inr (inl d.decoded));
}

module _ (values : Values) (saw : List Entry → Type 0) (left_old left_new old new : Option (List ℕ)) where
  unfoldable pub written : (end : ListingEnd) → DecodesOn values (IsSeen saw old new) (IsSeenFront saw old new) left_old left_new end → DecodesOn values (IsListed old new) (IsBegun old new) left_old left_new end
  written end d = decodes_less values (IsSeen saw old new) (IsSeenFront saw old new) left_old left_new end d (IsListed old new) (IsBegun old new) (λ a n l all. all.whole) (λ a n l front. front.front)

-- a decoding whose status is told, whatever was seen
pub works_by : (saves : Saves) (values : Values) (saw : List Entry → Type 0) {K : Type 0} (X : Type 0) (bytes : K → Option (List ℕ)) (left_old left_new : Option (List ℕ)) (old new : K) (ended : Result ListingEnd Status)
    → IfOk ended (DecodesOn values (IsSeen saw (bytes old) (bytes new)) (IsSeenFront saw (bytes old) (bytes new)) left_old left_new) → IfErr ended (RefusesOn values left_old left_new) → IfErr ended (λ status. (new ≡ old) × X)
    → WorksOn saves values left_old left_new (bytes old) (bytes new) (status_by ended)
works_by saves values saw X bytes left_old left_new old new (Ok end) decodes refuses same = works_decoded saves values left_old left_new (bytes old) (bytes new) end (written values saw left_old left_new (bytes old) (bytes new) end decodes)
works_by saves values saw {K} X bytes left_old left_new old new (Err status) decodes refuses same = subst (λ (k : K). WorksOn saves values left_old left_new (bytes old) (bytes k) status) (sym same.0) (works_refused saves values left_old left_new (bytes old) status refuses)
