-- How a body goes on by a token.
use Rattle.std.proofs.Common.{◌≡◌, ℕ, ◌+◌, ◌-◌, ◌*◌, ◌/◌, ◌^◌, ◌≤◌, ◌<◌, List, [], ◌∷◌, ◌++◌, map, replicate, refl, sym, ◌∙◌, ap, arith, append_assoc, Option, Some, None, Result, Ok, Err, Bool, cond, nat_lt, nat_le, if◌then◌else◌}
use Rattle.std.proofs.lemmas.Bool.{cond-false, le-ltb, lt-leb}
use Rattle.std.proofs.lemmas.List.{append-nil}
use Rattle.std.proofs.Math.Nat.{div-eq_of_lt, lt-div-mul-add, mul-le-mul_right}
use Rattle.std.specs.List.{range_with_len}
use Rattle.la_base.specs.Naming.{same_name}
use Rattle.text_parts.specs.Places.{Placed}
use Rattle.la_io.specs.declared.fault.CaptureFault.{CaptureFault}
use Rattle.la_io.specs.declared.fault.CaptureFault.TheVariants as fault
use Rattle.la_io.specs.Capture.{Captured, Head, Ending, Clean, Faulty, Open, Ends}
use Rattle.capture_vcd.specs.Body.{Channel, Event, Reaches, Sets, Statement, Time, Change, Wrong, digit_bit, digits_at, event_of, first_time, last_time, samples_before, samples_to, time_behind, word_at, words_from}
use Rattle.capture_vcd.specs.Within.{Free, Within, hanging, statements_from, token_gives, within_behind}
use Rattle.capture_vcd.specs.Vcd.{body_by, settled_by}
use Rattle.text_parts.specs.Reading.{after_one, read_front}
use Rattle.capture_vcd.specs.Within.{statements_read}
use Rattle.capture_vcd.specs.Stretches.{TimesTo, digits_now, word_now}
use Rattle.capture_vcd.specs.Following.{BodyAt, is_one, levels_now, or_zero, word_bits}
use Rattle.text_parts.proofs.FrontLemmas.{front_none, front_some}
use Rattle.capture_vcd.proofs.Bodies.{first_stays, last_on, map_more, map_same, statements_more, word_same}
use Rattle.capture_vcd.proofs.Stretches.{map_run, stretch_is_run}
use Rattle.capture_vcd.proofs.Longer.{before_last}

pub word_is_now : (channels : List Channel) (events : List Event) → word_bits (levels_now channels events) ≡ word_now channels events
word_is_now [] events = refl
word_is_now (channel ∷ channels) events = ap (λ (n : ℕ). digit_bit channel.1 (digits_now channel.0 [] events) + 2 * n) (word_is_now channels events)

-- a change is the last one of its code
pub digits_set : (code so_far other digits : List ℕ) (events : List Event) → digits_now code so_far (events ++ Sets other digits ∷ []) ≡ cond (same_name code other) digits (digits_now code so_far events)
digits_set code so_far other digits [] = refl
digits_set code so_far other digits (Reaches time ∷ events) = digits_set code so_far other digits events
digits_set code so_far other digits (Sets c d ∷ events) = digits_set code (if same_name code c then d else so_far) other digits events

-- a time changes no level
digits_reach : (code so_far : List ℕ) (time : ℕ) (events : List Event) → digits_now code so_far (events ++ Reaches time ∷ []) ≡ digits_now code so_far events
digits_reach code so_far time [] = refl
digits_reach code so_far time (Reaches n ∷ events) = digits_reach code so_far time events
digits_reach code so_far time (Sets c d ∷ events) = digits_reach code (if same_name code c then d else so_far) time events

pub levels_reach : (channels : List Channel) (time : ℕ) (events : List Event) → levels_now channels events ≡ levels_now channels (events ++ Reaches time ∷ [])
levels_reach [] time events = refl
levels_reach (channel ∷ channels) time events = λ i. is_one channel.1 (sym (digits_reach channel.0 [] time events) i) ∷ levels_reach channels time events i

-- no later times
times_set : (end : ℕ) (events : List Event) (code digits : List ℕ) → TimesTo end events → TimesTo end (events ++ Sets code digits ∷ [])
times_set end [] code digits h = tt
times_set end (Reaches n ∷ events) code digits h = (h.0, times_set end events code digits h.1)
times_set end (Sets c d ∷ events) code digits h = times_set end events code digits h

times_reach : (end time : ℕ) (events : List Event) → end ≤ time → TimesTo end events → TimesTo time (events ++ Reaches time ∷ [])
times_reach end time [] later h = (omega arith, tt)
times_reach end time (Reaches n ∷ events) later h = (omega (arith, h.0, later), times_reach end time events later h.1)
times_reach end time (Sets c d ∷ events) later h = times_reach end time events later h

first_set : (events : List Event) (code digits : List ℕ) → first_time (events ++ Sets code digits ∷ []) ≡ first_time events
first_set [] code digits = refl
first_set (Reaches n ∷ events) code digits = refl
first_set (Sets c d ∷ events) code digits = first_set events code digits

first_none : (events : List Event) (time : ℕ) → first_time events ≡ None → first_time (events ++ Reaches time ∷ []) ≡ Some time
first_none [] time is = refl
first_none (Reaches n ∷ events) time is = cc
first_none (Sets c d ∷ events) time is = first_none events time is

-- one more token
statements_on : (items : List Placed) (token : Placed) (within : Within) → within_behind Free items ≡ within → statements_from Free (items ++ token ∷ []) ≡ statements_from Free items ++ (token_gives within token).0
statements_on items token within is =
    statements_more Free items (token ∷ []) ∙ ap (λ (w : Within). statements_from Free items ++ ((token_gives w token).0 ++ [])) is ∙ ap (λ (l : List Statement). statements_from Free items ++ l) (append-nil (token_gives within token).0)

within_more : (within : Within) (items more : List Placed) → within_behind within (items ++ more) ≡ within_behind (within_behind within items) more
within_more within [] more = refl
within_more within (item ∷ items) more = within_more (token_gives within item).1 items more

within_on : (items : List Placed) (token : Placed) (within : Within) → within_behind Free items ≡ within → within_behind Free (items ++ token ∷ []) ≡ (token_gives within token).1
within_on items token within is = within_more Free items (token ∷ []) ∙ ap (λ (w : Within). (token_gives w token).1) is

-- the events behind one more statement
events_on : (parts : List Statement) (part : Statement) (events : List Event) (event : Event) → read_front event_of [] parts ≡ (events, None) → event_of events part ≡ Ok event
    → read_front event_of [] (parts ++ part ∷ []) ≡ (events ++ event ∷ [], None)
events_on parts part events event read good =
    front_none event_of [] parts (part ∷ []) (ap (λ (r : List Event × Option CaptureFault). r.1) read)
    ∙ ap (λ (r : List Event × Option CaptureFault). read_front event_of r.0 (part ∷ [])) read
    ∙ ap (λ (r : Result Event CaptureFault). after_one (λ values rest. read_front event_of values rest) events [] r) good

-- samples before the last time stay
words_same : (channels : List Channel) (events more : List Event) (start down n end : ℕ) → last_time None events ≡ Some end → ((k : ℕ) → k < n → start + k * down < end)
    → words_from channels (events ++ more) start down n ≡ words_from channels events start down n
unfolding words_from
words_same channels events more start down n end is early =
    map_same (λ (k : ℕ). word_at channels (events ++ more) (start + k * down)) (λ (k : ℕ). word_at channels events (start + k * down)) 0 n (λ k less. word_same channels events more (start + k * down) end is (early k (omega (arith, less))))

-- at a time behind all events
end_at : (events : List Event) (time end : ℕ) (code so_far : List ℕ) → TimesTo end events → end ≤ time → digits_at time code so_far events ≡ digits_now code so_far events
end_at [] time end code so_far times late = refl
end_at (Reaches n ∷ events) time end code so_far times late =
    cond-false (nat_lt time n) so_far (digits_at time code so_far events) (le-ltb time n (omega (arith, times.0, late))) ∙ end_at events time end code so_far times.1 late
end_at (Sets c d ∷ events) time end code so_far times late = end_at events time end code (if same_name code c then d else so_far) times late

end_word : (channels : List Channel) (events : List Event) (time end : ℕ) → TimesTo end events → end ≤ time → word_at channels events time ≡ word_now channels events
end_word [] events time end times late = refl
end_word (channel ∷ channels) events time end times late = λ i. digit_bit channel.1 (end_at events time end channel.0 [] times late i) + 2 * end_word channels events time end times late i

-- the samples from the last time on are one run
end_run : (channels : List Channel) (events : List Event) (start down end first count : ℕ) → TimesTo end events → end ≤ start + first * down
    → words_from channels events start down (first + count) ≡ words_from channels events start down first ++ replicate count (word_now channels events)
unfolding words_from
end_run channels events start down end first count times late =
    let f = λ (k : ℕ). word_at channels events (start + k * down) in
    map_more f 0 first count
    ∙ ap (λ (l : List ℕ). map f (range_with_len 0 first) ++ l) (map_run f (0 + first) count (word_now channels events) (λ k low high.
    let above : first * down ≤ k * down = mul-le-mul_right down (omega (arith, low)) in
    end_word channels events (start + k * down) end times (omega (arith, above, late))))

no_words : (channels : List Channel) (events : List Event) (start down : ℕ) → words_from channels events start down 0 ≡ []
unfolding words_from
no_words channels events start down = refl

-- a fault of a body, whatever comes behind it
statements_with : (how : Ending) (items rest : List Placed) → (others : List Statement) × (statements_read how (items ++ rest) ≡ statements_from Free items ++ others)
statements_with Clean items rest = (_, ap (λ (l : List Statement). l ++ hanging (within_behind Free (items ++ rest))) (statements_more Free items rest) ∙ append_assoc (statements_from Free items) (statements_from (within_behind Free items) rest) (hanging (within_behind Free (items ++ rest))))
statements_with (Faulty fault) items rest = (_, statements_more Free items rest)
statements_with Open items rest = (_, statements_more Free items rest)

module _ (down : ℕ) (some : 0 < down) where
  -- no sample before the first time
  none_before : samples_before 0 down ≡ 0
  none_before = let less : 0 + down - 1 < down = omega (arith, some) in div-eq_of_lt less

  -- the first sample that isn't settled stands at the last time or behind it
  pub after_settled : (start last : ℕ) → last ≤ start + samples_before (last - start) down * down
  after_settled start last = let h : last - start + down - 1 < (last - start + down - 1) / down * down + down = lt-div-mul-add some in omega (arith, some, h)

  module _ (channels : List Channel) where
    -- what was settled stays
    settled_more : (events more : List Event) (start last : Option ℕ) → last_time None events ≡ last → settled_by down channels events Open start last ≡ settled_by down channels (events ++ more) Open start last
    settled_more events more None last is = refl
    settled_more events more (Some start) None is = refl
    settled_more events more (Some start) (Some last) is = sym (words_same channels events more start down (samples_before (last - start) down) last is (λ k less. before_last down some start last k less))

    settled_fault : (events : List Event) (start last : Option ℕ) (fault : CaptureFault) → settled_by down channels events (Faulty fault) start last ≡ settled_by down channels events Open start last
    settled_fault events None last fault = refl
    settled_fault events (Some start) None fault = refl
    settled_fault events (Some start) (Some last) fault = refl

    module _ (levels : List Bool) (within : Within) (start last : Option ℕ) (items : List Placed) (given : List ℕ) (body : BodyAt down channels levels within start last items given) (token : Placed) (after : Within) where
      -- a token that says nothing
      pub body_on : token_gives within token ≡ ([], after) → BodyAt down channels levels after start last (items ++ token ∷ []) given
      body_on gives = record {
        events = body.events;
        read = ap (λ (l : List Statement). read_front event_of [] l) (statements_on items token within body.leaves ∙ ap (λ (g : List Statement × Within). statements_from Free items ++ g.0) gives ∙ append-nil (statements_from Free items)) ∙ body.read;
        leaves = within_on items token within body.leaves ∙ ap (λ (g : List Statement × Within). g.1) gives;
        levels_are = body.levels_are;
        first = body.first;
        latest = body.latest;
        times = body.times;
        gave = body.gave;
      }

      module _ (part : Statement) (gives : token_gives within token ≡ (part ∷ [], after)) where
        parts_are : statements_from Free (items ++ token ∷ []) ≡ statements_from Free items ++ part ∷ []
        parts_are = statements_on items token within body.leaves ∙ ap (λ (g : List Statement × Within). statements_from Free items ++ g.0) gives

        read_on : (event : Event) → event_of body.events part ≡ Ok event → read_front event_of [] (statements_from Free (items ++ token ∷ [])) ≡ (body.events ++ event ∷ [], None)
        read_on event good = ap (λ (l : List Statement). read_front event_of [] l) parts_are ∙ events_on (statements_from Free items) part body.events event body.read good

        leaves_on : within_behind Free (items ++ token ∷ []) ≡ after
        leaves_on = within_on items token within body.leaves ∙ ap (λ (g : List Statement × Within). g.1) gives

        -- a fault
        pub body_fault : (fault : CaptureFault) → event_of body.events part ≡ Err fault
            → (head : Head) (how : Ending) (rest : List Placed) → Ends (body_by down head channels how (read_front event_of [] (statements_read how ((items ++ token ∷ []) ++ rest)))) given (Faulty fault)
        body_fault fault bad head how rest =
            let others = statements_with how (items ++ token ∷ []) rest in
            let front = statements_from Free items in
            let one : read_front event_of [] (front ++ part ∷ []) ≡ (body.events, Some fault) =
            front_none event_of [] front (part ∷ []) (ap (λ (r : List Event × Option CaptureFault). r.1) body.read)
            ∙ ap (λ (r : List Event × Option CaptureFault). read_front event_of r.0 (part ∷ [])) body.read
            ∙ ap (λ (r : Result Event CaptureFault). after_one (λ values rest. read_front event_of values rest) body.events [] r) bad in
            let all : read_front event_of [] (statements_read how ((items ++ token ∷ []) ++ rest)) ≡ (body.events, Some fault) =
            ap (λ (l : List Statement). read_front event_of [] l) (others.1 ∙ ap (λ (l : List Statement). l ++ others.0) parts_are)
            ∙ front_some event_of [] (front ++ part ∷ []) others.0 fault (ap (λ (r : List Event × Option CaptureFault). r.1) one) ∙ one in
            record {
              settled = ap (λ (r : List Event × Option CaptureFault). (body_by down head channels how r).settled) all
                  ∙ (λ i. settled_by down channels body.events (Faulty fault) (body.first i) (body.latest i)) ∙ settled_fault body.events start last fault ∙ sym body.gave;
              ending = ap (λ (r : List Event × Option CaptureFault). (body_by down head channels how r).ending) all;
            }

      -- a change
      pub body_changes : (code digits : List ℕ) (new : List Bool) → token_gives within token ≡ (Change code digits ∷ [], after) → new ≡ levels_now channels (body.events ++ Sets code digits ∷ [])
          → BodyAt down channels new after start last (items ++ token ∷ []) given
      body_changes code digits new gives levels_is = record {
        events = body.events ++ Sets code digits ∷ [];
        read = read_on (Change code digits) gives (Sets code digits) refl;
        leaves = leaves_on (Change code digits) gives;
        levels_are = levels_is;
        first = first_set body.events code digits ∙ body.first;
        latest = last_on None body.events (Sets code digits) ∙ body.latest;
        times = times_set (or_zero last) body.events code digits body.times;
        gave = body.gave ∙ settled_more body.events (Sets code digits ∷ []) start last body.latest;
      }

    time_good : (events : List Event) (at time : ℕ) (last : Option ℕ) → time < 2 ^ 60 → last_time None events ≡ last → or_zero last ≤ time → event_of events (Time at time) ≡ Ok (Reaches time)
    time_good events at time last small is order =
        cond-false (nat_le (2 ^ 60) time) _ _ (lt-leb (2 ^ 60) time small) ∙ ap (λ (o : Option ℕ). time_behind at time o) is ∙ by_last last order where
          by_last : (o : Option ℕ) → or_zero o ≤ time → time_behind at time o ≡ Ok (Reaches time)
          by_last None h = refl
          by_last (Some was) h = cond-false (nat_lt time was) _ _ (le-ltb time was h)

    module _ (levels : List Bool) (within : Within) (items : List Placed) (given : List ℕ) (token : Placed) (after : Within) (at time : ℕ) (small : time < 2 ^ 60) (gives : token_gives within token ≡ (Time at time ∷ [], after)) where
      -- the first time
      pub body_starts : BodyAt down channels levels within None None items given → BodyAt down channels levels after (Some time) (Some time) (items ++ token ∷ []) given
      body_starts body =
          let none : time - time ≡ 0 = omega arith in
          let events = body.events ++ Reaches time ∷ [] in record {
            events = events;
            read = read_on levels within None None items given body token after (Time at time) gives (Reaches time) (time_good body.events at time None small body.latest (omega arith));
            leaves = leaves_on levels within None None items given body token after (Time at time) gives;
            levels_are = body.levels_are ∙ levels_reach channels time body.events;
            first = first_none body.events time body.first;
            latest = last_on None body.events (Reaches time);
            times = times_reach 0 time body.events (omega arith) body.times;
            gave = body.gave ∙ sym (ap (λ (n : ℕ). words_from channels events time down (samples_before n down)) none ∙ ap (λ (n : ℕ). words_from channels events time down n) none_before ∙ no_words channels events time down);
          }

      -- a later time
      pub body_reaches : (start last count : ℕ) → last ≤ time → samples_before (last - start) down + count ≡ samples_before (time - start) down → BodyAt down channels levels within (Some start) (Some last) items given
          → BodyAt down channels levels after (Some start) (Some time) (items ++ token ∷ []) (given ++ replicate count (word_bits levels))
      body_reaches start last count order total body =
          let events = body.events ++ Reaches time ∷ [] in
          let first = samples_before (last - start) down in
          let run = stretch_is_run channels body.events [] start down last time first count body.times (after_settled start last) (λ k less. before_last down some start time k (omega (arith, less, total))) in
          let same = words_same channels body.events (Reaches time ∷ []) start down first last body.latest (λ k less. before_last down some start last k less) in
          let word : word_bits levels ≡ word_now channels body.events = ap word_bits body.levels_are ∙ word_is_now channels body.events in record {
            events = events;
            read = read_on levels within (Some start) (Some last) items given body token after (Time at time) gives (Reaches time) (time_good body.events at time (Some last) small body.latest order);
            leaves = leaves_on levels within (Some start) (Some last) items given body token after (Time at time) gives;
            levels_are = body.levels_are ∙ levels_reach channels time body.events;
            first = first_stays body.events (Reaches time ∷ []) start body.first;
            latest = last_on None body.events (Reaches time);
            times = times_reach last time body.events order body.times;
            gave = (λ i. (body.gave ∙ sym same) i ++ replicate count (word i)) ∙ sym run ∙ ap (λ (n : ℕ). words_from channels events start down n) total;
          }

    -- the ends of a body
    module _ (levels : List Bool) (within : Within) (start last : Option ℕ) (items : List Placed) (given : List ℕ) (body : BodyAt down channels levels within start last items given) (head : Head) where
      abbrev Body : Ending → Captured
      Body how = body_by down head channels how (read_front event_of [] (statements_read how items))

      -- it is cut
      pub body_cut : Ends (Body Open) given Open
      body_cut = record {
        settled = ap (λ (r : List Event × Option CaptureFault). (body_by down head channels Open r).settled) body.read ∙ (λ i. settled_by down channels body.events Open (body.first i) (body.latest i)) ∙ sym body.gave;
        ending = ap (λ (r : List Event × Option CaptureFault). (body_by down head channels Open r).ending) body.read;
      }

      -- its tokens have a fault
      pub body_feed : (fault : CaptureFault) → Ends (Body (Faulty fault)) given (Faulty fault)
      body_feed fault = record {
        settled = ap (λ (r : List Event × Option CaptureFault). (body_by down head channels (Faulty fault) r).settled) body.read ∙ (λ i. settled_by down channels body.events (Faulty fault) (body.first i) (body.latest i)) ∙ settled_fault body.events start last fault ∙ sym body.gave;
        ending = ap (λ (r : List Event × Option CaptureFault). (body_by down head channels (Faulty fault) r).ending) body.read;
      }

      -- it lacks its last token
      pub body_hangs : (at : ℕ) → hanging within ≡ Wrong at ∷ [] → Ends (Body Clean) given (Faulty (fault.Token at))
      body_hangs at hangs =
          let front = statements_from Free items in
          let all : read_front event_of [] (statements_read Clean items) ≡ (body.events, Some (fault.Token at)) =
          ap (λ (w : Within). read_front event_of [] (front ++ hanging w)) body.leaves ∙ ap (λ (l : List Statement). read_front event_of [] (front ++ l)) hangs
          ∙ front_none event_of [] front (Wrong at ∷ []) (ap (λ (r : List Event × Option CaptureFault). r.1) body.read)
          ∙ ap (λ (r : List Event × Option CaptureFault). read_front event_of r.0 (Wrong at ∷ [])) body.read in
          record {
            settled = ap (λ (r : List Event × Option CaptureFault). (body_by down head channels Clean r).settled) all ∙ (λ i. settled_by down channels body.events (Faulty (fault.Token at)) (body.first i) (body.latest i)) ∙ settled_fault body.events start last (fault.Token at) ∙ sym body.gave;
            ending = ap (λ (r : List Event × Option CaptureFault). (body_by down head channels Clean r).ending) all;
          }

      clean_read : hanging within ≡ [] → read_front event_of [] (statements_read Clean items) ≡ (body.events, None)
      clean_read none =
          ap (λ (w : Within). read_front event_of [] (statements_from Free items ++ hanging w)) body.leaves
          ∙ ap (λ (l : List Statement). read_front event_of [] l) (ap (λ (l : List Statement). statements_from Free items ++ l) none ∙ append-nil (statements_from Free items)) ∙ body.read

      -- it ends
      pub body_ends : (more : List ℕ) → hanging within ≡ [] → given ++ more ≡ settled_by down channels body.events Clean start last → Ends (Body Clean) (given ++ more) Clean
      body_ends more none settled = record {
        settled = ap (λ (r : List Event × Option CaptureFault). (body_by down head channels Clean r).settled) (clean_read none) ∙ (λ i. settled_by down channels body.events Clean (body.first i) (body.latest i)) ∙ sym settled;
        ending = ap (λ (r : List Event × Option CaptureFault). (body_by down head channels Clean r).ending) (clean_read none);
      }

    -- at a clean end the sample at the last time counts
    pub body_last : (levels : List Bool) (within : Within) (start last count : ℕ) (items : List Placed) (given : List ℕ) (body : BodyAt down channels levels within (Some start) (Some last) items given)
        → samples_before (last - start) down + count ≡ samples_to (last - start) down → given ++ replicate count (word_bits levels) ≡ settled_by down channels body.events Clean (Some start) (Some last)
    body_last levels within start last count items given body total =
        let word : word_bits levels ≡ word_now channels body.events = ap word_bits body.levels_are ∙ word_is_now channels body.events in
        (λ i. body.gave i ++ replicate count (word i)) ∙ sym (end_run channels body.events start down last (samples_before (last - start) down) count body.times (after_settled start last)) ∙ ap (λ (n : ℕ). words_from channels body.events start down n) total
