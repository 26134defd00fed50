-- What the feed over a made capture has given.
use Rattle.std.specs.Prelude.{◌≡◌, ◌≤◌, ◌^◌, true, List, [], ◌++◌, length}
use Rattle.la_base.specs.Runs.{samples_of}
use Rattle.la_base.specs.declared.samples.Run.{Run}
use Rattle.tree_io.specs.Feeds.{together}
use Rattle.capture_make.specs.Kept.{left_in}
use Rattle.make_job.specs.declared.made_feed.MadeFeed.{MadeFeed}

-- it gave these lists of runs since it was made, and what its source has left is behind them;
-- nothing where it is at its end
pub record GaveMade (feed : MadeFeed) (lists : List (List Run)) : Type 0 where
  pub split : left_in feed.first.value ≡ samples_of (together lists) ++ left_in feed.source
  pub few : length (left_in feed.first.value) ≤ 2 ^ 60
  pub ended : feed.ended ≡ true → left_in feed.source ≡ []
