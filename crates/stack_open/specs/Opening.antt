-- What stands before a decoding.
use Rattle.std.specs.Prelude.{ℕ, ◌≡◌, ◌≤◌, ◌<◌, true, All, List, [], Option, IfSome, length, map}
use Rattle.std.specs.Io.KnownBytes.{Consumes}
use Rattle.la_base.specs.declared.samples.Rate.{Rate}
use Rattle.la_io.specs.Capture.{Told}
use Rattle.capture_any.specs.Captures.{IsForm, ToldAt}
use Rattle.capture_any.specs.Reading.{Stands, form_of, is_open_of, pins_of}
use Rattle.decoder_set.specs.Opening.{HasConsumed, setup_of}
use Rattle.tree_runs.specs.Passing.{IsForest}
use Rattle.tree_runs.specs.Runs.{nodes_of}
use Rattle.stack_words.specs.Stacks.{instances_in, stack_meaning}
use Rattle.words.specs.Settings.{Values}
use Rattle.run_asks.specs.Asking.{AsksStack, HasHead, IsFormOf, setups_in}
use Rattle.stack_open.specs.declared.opening.Opened.{Opened}

-- a tree of decoders to which nothing has come stands at a capture behind its head, from which
-- these bytes were taken, and is what the values ask for
pub record IsOpened (values : Values) (left_old left_now : Option (List ℕ)) (opened : Opened)
    : Type 0 where
  pub is_open : is_open_of opened.capture ≡ true
  pub forest : IsForest opened.parents.items
  pub few : length opened.parents.items ≤ 24
  pub each : length opened.machines.items ≡ length opened.parents.items
  pub instances : length (instances_in opened.stack) ≡ length opened.parents.items
  pub kinds : map (λ decoder. (setup_of decoder).kind) opened.machines.items
      ≡ map (λ instance. instance.kind) (instances_in opened.stack)
  pub wanted : IfSome (stack_meaning opened.stack).binary
      (λ wanted. wanted.0 < length opened.parents.items)
  pub consumed : All (λ decoder. HasConsumed decoder []) opened.machines.items
  pub bytes : List ℕ
  pub told : Told
  pub taken : Consumes left_old left_now bytes
  pub at : ToldAt told left_now
  pub stands : Stands opened.capture bytes told []
  pub names : List (List ℕ)
  pub rate : Rate
  pub form_is : IsFormOf values (form_of opened.capture)
  pub fits : IsForm (form_of opened.capture)
  pub head : HasHead (form_of opened.capture) bytes told names rate
  pub asks : AsksStack values names rate (pins_of opened.capture) (stack_meaning opened.stack)
      (nodes_of (map setup_of opened.machines.items) opened.parents.items)
  pub setups : map setup_of opened.machines.items ≡ setups_in asks.stack
