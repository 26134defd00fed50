-- One link, where more is made, sent or received; and all that is due.
use Rattle.std.proofs.Common.{ℕ, Bool, List, [], ◌∷◌, ◌++◌, map, Option, Some, None, sym, subst, arith, length-append}
use Rattle.std.proofs.lemmas.List.{append-nil}
use Rattle.la_base.specs.declared.wires.Feed.TheVariants.{Run as RunFeed}
use Rattle.tree_runs.specs.Machines.{Definitions}
use Rattle.stack_laws.specs.Links.{Link, IsLink, IsNext, IsFree, EndsLast}
use Rattle.stack_laws.specs.Running.{State, is_over}
use Rattle.stack_laws.specs.Feeds.{ends_feed, feed_end, feeds_of}
use Rattle.stack_laws.specs.Legal.{due}
use Rattle.stack_laws.proofs.Lists.{front_more, front_next, ends_last-append}
use Rattle.stack_laws.proofs.Wires.{no_end_of_runs, no_end_of_packets, feed_end_is}

module _ {T : Type 0} (is_end : T → Bool) (slots : ℕ) (link : Link T) (is : IsLink is_end slots link) where
  pub link_made : (more : List T) → EndsLast is_end (link.made ++ more) → IsLink is_end slots (record link { made = link.made ++ more })
  link_made more last = record { sends = front_more link.sent link.made more is.sends; receives = is.receives; room = is.room; last = last }

  pub link_sent : (x : T) → IsNext link.sent x link.made → IsFree slots link → IsLink is_end slots (record link { sent = link.sent ++ x ∷ [] })
  link_sent x next free = record {
    sends = front_next link.sent link.made x next;
    receives = front_more link.received link.sent (x ∷ []) is.receives;
    room = omega (arith, free, length-append link.sent (x ∷ []));
    last = is.last;
  }

  pub link_took : (x : T) → IsNext link.received x link.sent → IsLink is_end slots (record link { received = link.received ++ x ∷ [] })
  link_took x next = record {
    sends = is.sends;
    receives = front_next link.received link.sent x next;
    room = let had = is.room in omega (arith, had, length-append link.received (x ∷ []));
    last = is.last;
  }

  pub link_sent_none : IsLink is_end slots (record link { sent = link.sent ++ [] })
  link_sent_none = subst (λ (l : List T). IsLink is_end slots (record link { sent = l })) (sym (append-nil link.sent)) is

  pub link_took_none : IsLink is_end slots (record link { received = link.received ++ [] })
  link_took_none = subst (λ (l : List T). IsLink is_end slots (record link { received = l })) (sym (append-nil link.received)) is

-- the end is the last of all that is due
pub due_last : (by : Definitions) (state : State) (place : Option (Option ℕ)) → EndsLast ends_feed (due by.whole state place)
due_last by state None = tt
due_last by state (Some None) = ends_last-append ends_feed (map RunFeed state.fed) (feed_end (is_over state)) (no_end_of_runs state.fed) (feed_end_is (is_over state)).1
due_last by state (Some (Some parent)) =
    ends_last-append ends_feed (feeds_of (by.whole parent (state.stages parent).consumed)) (feed_end (state.stages parent).closed)
    (no_end_of_packets (by.whole parent (state.stages parent).consumed)) (feed_end_is (state.stages parent).closed).1
