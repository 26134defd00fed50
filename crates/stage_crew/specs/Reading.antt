-- How far a reader has read its feed, and sent what that gave.
use Rattle.std.specs.Prelude.{◌≡◌, true, false, List, [], ◌++◌, map}
use Rattle.std.proofs.Common.{refl, ◌∙◌}
use Rattle.la_base.specs.declared.samples.Run.{Run}
use Rattle.tree_io.specs.declared.feeds.RunFeed.{Ghosts as FeedGhosts}
use Rattle.stage_ring.specs.Link.{received, rx_link, sent, tx_link}
use Rattle.stage_crew.specs.Pumping.{InPlace, Pumped}
use Rattle.stage_crew.specs.declared.reader.Reader.{Reader}
use Rattle.stage_crew.specs.Listening.{Listens, listens_further, listens_still}

module _ {A O : Type 0} (f : FeedGhosts A O) where
  -- the lists that the feed gave since it stood like this, and how far they were sent; it asks for no
  -- more where the feed has ended, or where it has heard that no more is wanted, which it was told
  pub record Fed (start : A) (reader : Reader A) : Type 0 where
    pub lists : List (List Run)
    pub gave : (earlier : List (List Run)) → f.gave start earlier
        → f.gave reader.feed.now (earlier ++ lists)
    pub origin : f.origin reader.feed.now ≡ f.origin start
    pub pumped : Pumped lists (f.held reader.feed.now) reader.pump (map sent reader.feeds.items)
    pub in_place : InPlace (f.held reader.feed.now) reader.pump
    pub at_end : reader.pump.over ≡ true → reader.stop_heard ≡ false → f.at_end reader.feed.now ≡ true
    pub heard : reader.stop_heard ≡ true → received reader.stop ≡ [] → ⊥
    pub obeys : reader.stop_heard ≡ true → reader.pump.over ≡ true

  -- its pump is in place, and over where it has heard of a stop
  pub record Obeys (reader : Reader A) : Type 0 where
    pub in_place : InPlace (f.held reader.feed.now) reader.pump
    pub over : reader.stop_heard ≡ true → reader.pump.over ≡ true

  -- it has the ends of the same links and was lent the same feed; what it has read and sent goes on; and
  -- it listens for a stop
  pub record ReadsOn (old new : Reader A) : Type 0 where
    pub lent : new.feed.ghost_name ≡ old.feed.ghost_name
    pub feeds : map tx_link new.feeds.items ≡ map tx_link old.feeds.items
    pub stop : rx_link new.stop ≡ rx_link old.stop
    pub keeps : (start : A) → Fed start old → Fed start new
    pub listens : Obeys old → Obeys new × Listens old new

  -- the same of what only reads and sends: it hears nothing, and asks for nothing where no more is to
  -- be asked for
  pub record Reads (old new : Reader A) : Type 0 where
    pub lent : new.feed.ghost_name ≡ old.feed.ghost_name
    pub feeds : map tx_link new.feeds.items ≡ map tx_link old.feeds.items
    pub stop : new.stop ≡ old.stop
    pub told : new.stop_heard ≡ old.stop_heard
    pub keeps : (start : A) → Fed start old → Fed start new
    pub obeys : Obeys old → Obeys new × (old.pump.over ≡ true → new.feed.now ≡ old.feed.now)

module _ {A O : Type 0} {f : FeedGhosts A O} where
  -- what does nothing goes on
  pub reads_still : (one : Reader A) → ReadsOn f one one
  reads_still one = record {
    lent = refl;
    feeds = refl;
    stop = refl;
    keeps = λ start had. had;
    listens = λ had. (had, listens_still one);
  }

  -- what goes on from what goes on goes on
  pub reads_further : (one two three : Reader A) → ReadsOn f one two → ReadsOn f two three
      → ReadsOn f one three
  reads_further one two three a b = record {
    lent = b.lent ∙ a.lent;
    feeds = b.feeds ∙ a.feeds;
    stop = b.stop ∙ a.stop;
    keeps = λ start had. b.keeps start (a.keeps start had);
    listens = λ had.
        let mid = a.listens had in
        let last = b.listens mid.0 in
        (last.0, listens_further one two three mid.1 last.1);
  }
