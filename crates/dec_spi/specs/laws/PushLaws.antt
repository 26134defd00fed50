-- One more event: what the whole list of events gives is what the state says that the events before
-- it left.
use Rattle.std.proofs.Common.{◌≡◌, ℕ, ◌≤◌, Bool, List, [], ◌∷◌, ◌++◌, Option, Some, None, refl, sym}
use Rattle.std.proofs.Common.{◌∙◌, ap, append_assoc}
use Rattle.std.specs.List.{flat_map}
use Rattle.std.proofs.lemmas.Grind.{flat_map-append}
use Rattle.std.proofs.lemmas.List.{append-nil}
use Rattle.la_base.specs.declared.wires.Out.{Out}
use Rattle.list_cuts.specs.Neighbours.{last_of}
use Rattle.list_cuts.specs.Parts.{Part, longer, ended, grow_open, end_open}
use Rattle.list_cuts.proofs.BetweenLaws.{between_begins, between_ends, between_joins, grow_open_at}
use Rattle.list_cuts.proofs.BetweenLaws.{end_open_at}
use Rattle.list_cuts.proofs.NeighbourLaws.{last_from_push}
use Rattle.sample_walks.specs.Events.{PushedEvents}
use Rattle.dec_spi.specs.declared.held.Held.{Held}
use Rattle.dec_spi.specs.declared.held.Held.TheVariants.{Fresh}
use Rattle.dec_spi.specs.declared.options.SpiOpts.{SpiOpts}
use Rattle.dec_spi.specs.Bus.{Event, Select, Deselect, Clock, words_outs, select_outs}
use Rattle.dec_spi.specs.Bus.{deselect_outs, begins, ends, stretches, stretch_by, stretch_outs}
use Rattle.dec_spi.specs.Bus.{events_outs}
use Rattle.dec_spi.specs.laws.Machine.{held_in, held_last, held_after, gives, next, spi_walk}
use Rattle.dec_spi.specs.laws.WordLaws.{no_words, no_held, words_push, held_push}

-- the last of some stretches, if there is one
data Ending : List (Part Event) → Type 0 where
  Empty : Ending []
  Last : (front : List (Part Event)) (stretch : Part Event) → Ending (front ++ stretch ∷ [])

ending : (list : List (Part Event)) → Ending list
ending [] = Empty
ending (s ∷ list) = behind (ending list)
  where
    behind : {others : List (Part Event)} → Ending others → Ending (s ∷ others)
    behind Empty = Last [] s
    behind (Last front stretch) = Last (s ∷ front) stretch

module _ (opts : SpiOpts) (some : 1 ≤ opts.bits) (most : opts.bits ≤ 32) where
  abbrev all_outs : List (Part Event) → List Out
  all_outs list = flat_map (stretch_outs opts) list

  abbrev held : Part Event → Held
  held stretch = held_last opts (Some stretch)

  -- what one more event gives that changes the last stretch alone
  module _ (e : Event) (grow : List (Part Event) → List (Part Event))
      (change : Part Event → Part Event) (silent : gives opts Fresh e ≡ [])
      (fresh : next opts Fresh e ≡ Fresh)
      (none : grow [] ≡ [])
      (at : (front : List (Part Event)) (stretch : Part Event)
      → grow (front ++ stretch ∷ []) ≡ front ++ change stretch ∷ [])
      (outs : (stretch : Part Event) → stretch_outs opts (change stretch)
      ≡ stretch_outs opts stretch ++ gives opts (held stretch) e)
      (kept : (stretch : Part Event) → held (change stretch) ≡ next opts (held stretch) e) where
    all_last : (front : List (Part Event)) (stretch : Part Event)
        → all_outs (front ++ stretch ∷ []) ≡ all_outs front ++ stretch_outs opts stretch
    all_last front stretch =
        flat_map-append (stretch_outs opts) front (stretch ∷ [])
        ∙ ap (λ (l : List Out). all_outs front ++ l) (append-nil (stretch_outs opts stretch))

    last_is : (front : List (Part Event)) (stretch : Part Event)
        → held_last opts (last_of (front ++ stretch ∷ [])) ≡ held stretch
    last_is front stretch = ap (held_last opts) (last_from_push front stretch None)

    grow_outs : (list : List (Part Event))
        → all_outs (grow list) ≡ all_outs list ++ gives opts (held_last opts (last_of list)) e
    grow_outs list = by (ending list)
      where
        by : {l : List (Part Event)} → Ending l
            → all_outs (grow l) ≡ all_outs l ++ gives opts (held_last opts (last_of l)) e
        by Empty = ap all_outs none ∙ sym silent
        by (Last front stretch) =
            ap all_outs (at front stretch)
            ∙ all_last front (change stretch)
            ∙ ap (λ (l : List Out). all_outs front ++ l) (outs stretch)
            ∙ sym (append_assoc (all_outs front) (stretch_outs opts stretch)
            (gives opts (held stretch) e))
            ∙ (λ i. sym (all_last front stretch) i ++ gives opts (sym (last_is front stretch) i) e)

    grow_held : (list : List (Part Event))
        → held_last opts (last_of (grow list)) ≡ next opts (held_last opts (last_of list)) e
    grow_held list = by (ending list)
      where
        by : {l : List (Part Event)} → Ending l
            → held_last opts (last_of (grow l)) ≡ next opts (held_last opts (last_of l)) e
        by Empty = ap (λ (l : List (Part Event)). held_last opts (last_of l)) none ∙ sym fresh
        by (Last front stretch) =
            ap (λ (l : List (Part Event)). held_last opts (last_of l)) (at front stretch)
            ∙ last_is front (change stretch)
            ∙ kept stretch
            ∙ ap (λ (h : Held). next opts h e) (sym (last_is front stretch))

  -- a clock joins a stretch
  clock_outs : (by : Option Event) (items : List Event) (k : ℕ) (out back : Bool)
      → stretch_outs opts (longer (Clock k out back) items by)
      ≡ stretch_by opts items by ++ gives opts (held_in opts by items) (Clock k out back)
  clock_outs (Some e) items k out back = sym (append-nil (stretch_by opts items (Some e)))
  clock_outs None [] k out back = refl
  clock_outs None (Select s ∷ clocks) k out back =
      append-nil (select_outs s ++ words_outs opts (clocks ++ Clock k out back ∷ []))
      ∙ ap (λ (l : List Out). select_outs s ++ l) (words_push opts some most clocks k out back)
      ∙ sym (append_assoc (select_outs s) (words_outs opts clocks)
      (gives opts (held_in opts None (Select s ∷ clocks)) (Clock k out back)))
      ∙ ap (λ (l : List Out). l ++ gives opts (held_in opts None (Select s ∷ clocks))
      (Clock k out back)) (sym (append-nil (select_outs s ++ words_outs opts clocks)))
  clock_outs None (Deselect s ∷ clocks) k out back = refl
  clock_outs None (Clock s a b ∷ clocks) k out back = refl

  clock_held : (by : Option Event) (items : List Event) (k : ℕ) (out back : Bool)
      → held (longer (Clock k out back) items by)
      ≡ next opts (held_in opts by items) (Clock k out back)
  clock_held (Some e) items k out back = refl
  clock_held None [] k out back = refl
  clock_held None (Select s ∷ clocks) k out back = held_push opts some most clocks k out back
  clock_held None (Deselect s ∷ clocks) k out back = refl
  clock_held None (Clock s a b ∷ clocks) k out back = refl

  -- a deselect ends it
  end_outs_by : (by : Option Event) (items : List Event) (k : ℕ)
      → stretch_outs opts (ended (Deselect k) items by)
      ≡ stretch_by opts items by ++ gives opts (held_in opts by items) (Deselect k)
  end_outs_by (Some e) items k = sym (append-nil (stretch_by opts items (Some e)))
  end_outs_by None [] k = refl
  end_outs_by None (Select s ∷ clocks) k =
      ap (λ (l : List Out). l ++ deselect_outs k)
      (sym (append-nil (select_outs s ++ words_outs opts clocks)))
  end_outs_by None (Deselect s ∷ clocks) k = refl
  end_outs_by None (Clock s a b ∷ clocks) k = refl

  end_held : (by : Option Event) (items : List Event) (k : ℕ)
      → held (ended (Deselect k) items by) ≡ next opts (held_in opts by items) (Deselect k)
  end_held (Some e) items k = refl
  end_held None [] k = refl
  end_held None (Select s ∷ clocks) k = refl
  end_held None (Deselect s ∷ clocks) k = refl
  end_held None (Clock s a b ∷ clocks) k = refl

  -- another select ends it too, and gives nothing more in it
  again_outs : (by : Option Event) (items : List Event) (k : ℕ)
      → stretch_outs opts (ended (Select k) items by) ≡ stretch_by opts items by
  again_outs (Some e) items k = refl
  again_outs None [] k = refl
  again_outs None (Select s ∷ clocks) k = refl
  again_outs None (Deselect s ∷ clocks) k = refl
  again_outs None (Clock s a b ∷ clocks) k = refl

  again_all : (list : List (Part Event)) (k : ℕ)
      → all_outs (end_open list (Select k)) ≡ all_outs list
  again_all [] k = refl
  again_all (s ∷ []) k = ap (λ (l : List Out). l ++ []) (again_outs s.ended_by s.items k)
  again_all (s ∷ t ∷ list) k =
      ap (λ (l : List Out). stretch_outs opts s ++ l) (again_all (t ∷ list) k)

  -- one more event
  outs_push : (es : List Event) (e : Event)
      → events_outs opts (es ++ e ∷ []) ≡ events_outs opts es ++ gives opts (held_after opts es) e
  outs_push es (Select k) =
      ap all_outs (between_begins begins ends (Select k) es refl)
      ∙ flat_map-append (stretch_outs opts) (end_open (stretches es) (Select k))
      (record { items = Select k ∷ []; ended_by = None } ∷ [])
      ∙ (λ i. again_all (stretches es) k i
      ++ (select_outs k ++ no_words opts some most i ++ [] ++ []))
  outs_push es (Deselect k) =
      ap all_outs (between_ends begins ends (Deselect k) es refl refl)
      ∙ grow_outs (Deselect k) (λ list. end_open list (Deselect k))
      (λ s. ended (Deselect k) s.items s.ended_by) refl refl refl
      (λ front s. end_open_at front s (Deselect k)) (λ s. end_outs_by s.ended_by s.items k)
      (λ s. end_held s.ended_by s.items k) (stretches es)
  outs_push es (Clock k out back) =
      ap all_outs (between_joins begins ends (Clock k out back) refl refl es)
      ∙ grow_outs (Clock k out back) (λ list. grow_open list (Clock k out back))
      (λ s. longer (Clock k out back) s.items s.ended_by) refl refl refl
      (λ front s. grow_open_at front s (Clock k out back))
      (λ s. clock_outs s.ended_by s.items k out back)
      (λ s. clock_held s.ended_by s.items k out back) (stretches es)

  kept_push : (es : List Event) (e : Event)
      → held_after opts (es ++ e ∷ []) ≡ next opts (held_after opts es) e
  kept_push es (Select k) =
      ap (λ (l : List (Part Event)). held_last opts (last_of l))
      (between_begins begins ends (Select k) es refl)
      ∙ ap (held_last opts)
      (last_from_push (end_open (stretches es) (Select k))
      (record { items = Select k ∷ []; ended_by = None }) None)
      ∙ no_held opts some most
  kept_push es (Deselect k) =
      ap (λ (l : List (Part Event)). held_last opts (last_of l))
      (between_ends begins ends (Deselect k) es refl refl)
      ∙ grow_held (Deselect k) (λ list. end_open list (Deselect k))
      (λ s. ended (Deselect k) s.items s.ended_by) refl refl refl
      (λ front s. end_open_at front s (Deselect k)) (λ s. end_outs_by s.ended_by s.items k)
      (λ s. end_held s.ended_by s.items k) (stretches es)
  kept_push es (Clock k out back) =
      ap (λ (l : List (Part Event)). held_last opts (last_of l))
      (between_joins begins ends (Clock k out back) refl refl es)
      ∙ grow_held (Clock k out back) (λ list. grow_open list (Clock k out back))
      (λ s. longer (Clock k out back) s.items s.ended_by) refl refl refl
      (λ front s. grow_open_at front s (Clock k out back))
      (λ s. clock_outs s.ended_by s.items k out back)
      (λ s. clock_held s.ended_by s.items k out back) (stretches es)

  pub spi_pushed : PushedEvents (spi_walk opts) (events_outs opts) (held_after opts)
  spi_pushed =
      record { no_outs = refl; no_kept = refl; outs_push = outs_push; kept_push = kept_push }
