-- How many notes a viewer saw of a decoding.
use Rattle.std.proofs.Common.{◌≡◌, ℕ, inl, inr, true, false, List, length, Option, Some, None, Result, Ok, Err, IfOk, IfErr, refl, ◌∙◌, ap, subst}
use Rattle.std.proofs.lemmas.List.{length-map}
use Rattle.la_io.specs.Capture.{Told}
use Rattle.la_io.proofs.Fronts.{front_whole}
use Rattle.capture_any.specs.declared.end.ListingEnd.{ListingEnd}
use Rattle.capture_any.specs.declared.end.ListingEnd.TheVariants as ends
use Rattle.decoder_core.specs.Trees.{Node}
use Rattle.decoder_set.specs.declared.setup.Setup.{Setup}
use Rattle.note_order.specs.declared.entry.Entry.{Entry}
use Rattle.stack_words.specs.Accepting.{Accepted}
use Rattle.words.specs.Settings.{Values}
use Rattle.view_store.specs.Listings.{Listing}
use Rattle.shelf_watch.specs.Shelves.{pair_of}
use Rattle.run_status.specs.Notices.{is_done, status_by, status_of}
use Rattle.run_status.specs.declared.status.Status.{Status}
use Rattle.run_status.specs.declared.status.Status.TheVariants.{Bind, Capture, Check, Done, NoMemory, ReadFault, Stack, Words, WriteFault}
use Rattle.run_asks.specs.Refusing.{RefusesOn}
use Rattle.run_asks.specs.Parting.{Saves}
use Rattle.run_asks.proofs.Opening.{no_room}
use Rattle.ldecode.specs.Decoding.{decode_listing, decode_notes}
use Rattle.ldecode.specs.Headline.{DecodedAs, DecodesOn, HasNotes, HasSoMany, IsBegun, IsListed, IsWatched, WorksOn}
use Rattle.ldecode.specs.Watching.{IsSeen, IsSeenFront, IsShelved, IsShown, IsShownFront, ShelvesOn, ViewsOn}
use Rattle.ldecode.proofs.Decoding.{by_says, decodes_cut, decodes_less, works_decoded, written}
use Rattle.ldecode.proofs.Running.{does_work}
use Rattle.ldecode.proofs.Shelving.{works_shelved}
use Rattle.ldecode.proofs.Working.{works_refused}

pub done_is : (status : Status) → is_done status ≡ true → status ≡ Done
done_is Done is = refl
done_is (Words fault) is = cc
done_is (Stack fault) is = cc
done_is (Bind fault) is = cc
done_is (Check fault) is = cc
done_is ReadFault is = cc
done_is (Capture fault) is = cc
done_is WriteFault is = cc
done_is NoMemory is = cc

end_is : (end : ListingEnd) → Done ≡ status_of end → end ≡ ends.Done
end_is ends.Done is = refl
end_is ends.Read is = cc
end_is ends.Write is = cc
end_is (ends.Fault fault) is = cc
end_is ends.NoMemory is = cc

module _ (saves : Saves) (values : Values) (left_old left_new old new : Option (List ℕ)) where
  -- a run that isn't done
  pub not_done : (status : Status) → is_done status ≡ false → WorksOn saves values left_old left_new old new status → ViewsOn saves values left_old left_new old new (record { status = status; seen = None })
  not_done status not works = record { does = does_work saves values left_old left_new old new status works; saw = λ is. let same = ap is_done is in cc }

  module _ (watched : IsWatched values) (count : ℕ) where
    -- all notes were counted
    module _ (saw : List Entry → Type 0) (counts : (notes : List Entry) → saw notes → count ≡ length notes) where
      counted_done : (d : DecodesOn values (IsSeen saw old new) (IsSeenFront saw old new) left_old left_new ends.Done) → ViewsOn saves values left_old left_new old new (record { status = Done; seen = Some count })
      unfolding does_work works_decoded decodes_less written by_says
      counted_done d = record {
        does = does_work saves values left_old left_new old new Done (works_decoded saves values left_old left_new old new ends.Done (written values saw left_old left_new old new ends.Done d));
        saw = (refl, watched, (decodes_less values (IsSeen saw old new) (IsSeenFront saw old new) left_old left_new ends.Done d (HasSoMany count) (λ a n l. Unit {0}) (λ a n l all. counts (decode_notes a n l) all.seen) (λ a n l front. tt)).decoded);
      }

      pub counted : (ended : Result ListingEnd Status) → is_done (status_by ended) ≡ true → IfOk ended (DecodesOn values (IsSeen saw old new) (IsSeenFront saw old new) left_old left_new) → IfErr ended (RefusesOn values left_old left_new)
          → ViewsOn saves values left_old left_new old new (record { status = status_by ended; seen = Some count })
      counted (Ok ends.Done) is d r = counted_done d
      counted (Ok ends.Read) is d r = cc
      counted (Ok ends.Write) is d r = cc
      counted (Ok (ends.Fault fault)) is d r = cc
      counted (Ok ends.NoMemory) is d r = cc
      counted (Err Done) is d r = absurd r.refuses
      counted (Err (Words fault)) is d r = cc
      counted (Err (Stack fault)) is d r = cc
      counted (Err (Bind fault)) is d r = cc
      counted (Err (Check fault)) is d r = cc
      counted (Err ReadFault) is d r = cc
      counted (Err (Capture fault)) is d r = cc
      counted (Err WriteFault) is d r = cc
      counted (Err NoMemory) is d r = cc

    -- a shelf has all notes, and so many
    module _ (shelf : Listing) (counts : count ≡ length shelf.notes) where
      many : (a : Accepted) (n : List (Node Setup)) (l : List ℕ) → IsShown old new shelf a n l → HasSoMany count a n l
      many a n l shown = counts ∙ (ap length shown.notes ∙ length-map (decode_notes a n l) pair_of)

      many_decoded : (bytes : List ℕ) (told : Told) → DecodedAs values (IsShown old new shelf) (IsShownFront old new shelf) bytes told ends.Done → HasNotes values bytes told count
      many_decoded bytes told d = record {
        head = d.head;
        pins = d.pins;
        accepted = d.accepted;
        nodes = d.nodes;
        job = d.job;
        asks = d.asks;
        says = (d.says.0, d.says.1, many d.accepted d.nodes _ d.says.2);
      }

      pub all_seen : (status : Status) → is_done status ≡ true → ShelvesOn values left_old left_new old new shelf status → ViewsOn saves values left_old left_new old new (record { status = status; seen = Some count })
      unfolding does_work works_shelved
      all_seen status is s = record {
        does = does_work saves values left_old left_new old new status (works_shelved saves values left_old left_new old new shelf status s);
        saw = (done_is status is, watched, by (subst (IsShelved values s.bytes s.told old new shelf) (done_is status is) s.shelved));
      }
        where
          by : IsShelved values s.bytes s.told old new shelf Done → HasNotes values s.bytes s.told count
          by (inl (end, same, d)) = many_decoded s.bytes s.told (subst (DecodedAs values (IsShown old new shelf) (IsShownFront old new shelf) s.bytes s.told) (end_is end same) d)
          by (inr (refuses, none, is)) = absurd refuses

  -- there was no memory to look at the whole listing
  pub not_seen : (shelf : Listing) (status : Status) → is_done status ≡ true → ShelvesOn values left_old left_new old new shelf status → ViewsOn saves values left_old left_new old new (record { status = NoMemory; seen = None })
  not_seen shelf status is s = record { does = does_work saves values left_old left_new old new NoMemory (by (subst (IsShelved values s.bytes s.told old new shelf) (done_is status is) s.shelved)); saw = λ done. cc }
    where
      by : IsShelved values s.bytes s.told old new shelf Done → WorksOn saves values left_old left_new old new NoMemory
      by (inl (end, same, d)) =
          works_decoded saves values left_old left_new old new ends.NoMemory
          (decodes_cut values (IsShown old new shelf) (IsShownFront old new shelf) left_old left_new end (record { bytes = s.bytes; told = s.told; taken = s.taken; at_end = s.at_end; decoded = d }) (IsListed old new) (IsBegun old new)
          (λ a n l all. front_whole old new (decode_listing a n l) all.written) (λ a n l front. front.written))
      by (inr (refuses, none, is)) = absurd refuses

-- the shelf of a decoding that is done is ended
pub done_ended : (values : Values) (left_old left_new old new : Option (List ℕ)) (shelf : Listing) (status : Status) → is_done status ≡ true → ShelvesOn values left_old left_new old new shelf status → shelf.ended ≡ true
done_ended values left_old left_new old new shelf status is s = by (subst (IsShelved values s.bytes s.told old new shelf) (done_is status is) s.shelved)
  where
    at_done : (end : ListingEnd) → end ≡ ends.Done → DecodedAs values (IsShown old new shelf) (IsShownFront old new shelf) s.bytes s.told end → shelf.ended ≡ true
    at_done end is d = let here = subst (DecodedAs values (IsShown old new shelf) (IsShownFront old new shelf) s.bytes s.told) is d in here.says.2.ended

    by : IsShelved values s.bytes s.told old new shelf Done → shelf.ended ≡ true
    by (inl (end, same, d)) = at_done end (end_is end same) d
    by (inr (refuses, none, is)) = absurd refuses

-- there was no memory for a shelf, and nothing was read
pub no_shelf : (saves : Saves) (values : Values) (left written : Option (List ℕ)) → ViewsOn saves values left left written written (record { status = NoMemory; seen = None })
no_shelf saves values left written = record { does = does_work saves values left left written written NoMemory (works_refused saves values left left written NoMemory (no_room values left)); saw = λ done. cc }
