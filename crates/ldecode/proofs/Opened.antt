-- What comes of the decoding of a part.
use Rattle.std.proofs.Common.{◌≡◌, ◌<◌, ◌++◌, ℕ, List, [], map, length, arith, Option, Some, None, sym, ap, subst, ◌∙◌, Bor, String, Global}
use Rattle.std.specs.Prelude.{option_map}
use Rattle.std.specs.Option.{option_copied}
use Rattle.std.specs.String.{string_bytes}
use Rattle.std.proofs.Math.Path.{transport}
use Rattle.capture_any.specs.Reading.{form_of, pins_of}
use Rattle.capture_any.specs.declared.end.ListingEnd.{ListingEnd}
use Rattle.check_laws.specs.Resuming.{IsCheckOn}
use Rattle.check_point.specs.declared.faults.CheckFault.{CheckFault}
use Rattle.decoder_core.specs.Trees.{Node}
use Rattle.decoder_core.specs.declared.machine.Machine.{Ghosts as MachineGhosts}
use Rattle.decoder_set.specs.Opening.{HasConsumed, setup_of}
use Rattle.decoder_set.specs.Setups.{outs_of}
use Rattle.decoder_set.specs.declared.any.AnyDecoder.{AnyDecoder}
use Rattle.decoder_set.specs.declared.setup.Setup.{Setup}
use Rattle.tree_runs.specs.Machines.{Stand}
use Rattle.tree_runs.specs.Runs.{StandOn, nodes_of}
use Rattle.stack_words.specs.Stacks.{stack_meaning}
use Rattle.decode_job.specs.Listing.{tree_output_behind}
use Rattle.decode_job.specs.Parting.{Behind, CutsCheck, PartLists as JobLists, WritesAll as JobAll, WritesCheck, WritesFront as JobFront, WritesUpTo, output_behind}
use Rattle.decode_job.specs.declared.part_end.PartEnd.{PartEnd}
use Rattle.words.specs.Settings.{Values}
use Rattle.words.specs.declared.kinds.Job.TheVariants.{Part}
use Rattle.run_status.specs.Notices.{status_of}
use Rattle.run_status.specs.declared.status.Status.TheVariants.{Check}
use Rattle.run_asks.specs.Parting.{Begun, CanBegin, CantBegin, Saves, places_of}
use Rattle.stack_open.specs.Opening.{IsOpened}
use Rattle.stack_open.specs.declared.opening.Opened.{Opened}
use Rattle.ldecode.specs.Headline.{WorksOn}
use Rattle.ldecode.specs.PartStatus.{end_of_part}
use Rattle.ldecode.specs.Parts.{CameBefore, IsCheckAt, PartLists, parents_on, part_listing, setups_on}
use Rattle.ldecode.proofs.Begun.{begun_behind, begun_few, begun_setups, parents_of_nodes, setups_of_nodes}
use Rattle.ldecode.proofs.PartTold.{part_ended, part_wrote}
use Rattle.ldecode.proofs.Working.{checking_fails, part_ends}
use Rattle.std.proofs.lemmas.List.{length-map}

-- a part of what was opened
module _ (saves : Saves) (values : Values) (left_old left_now : Option (List ℕ)) (opened : Opened) (is : IsOpened values left_old left_now opened) (job : values.job ≡ Part) where
  -- its checkpoint is refused
  refuses_on : (written : Option (List ℕ)) (fault : CheckFault) → CantBegin saves (map setup_of opened.machines.items) values.from fault → WorksOn saves values left_old left_now written written (Check fault)
  refuses_on written fault cant =
      checking_fails saves values (form_of opened.capture) is.form_is left_old left_now written is.bytes is.told is.taken is.at is.names is.rate is.head fault
      (record { job = job; stack = is.asks.stack; refused = subst (λ (l : List Setup). CantBegin saves l values.from fault) is.setups cant })

  -- the same by other names of the decoders and of the checkpoint's text
  pub refuses_by : (written : Option (List ℕ)) (fault : CheckFault) (decoders : List AnyDecoder) → decoders ≡ opened.machines.items → (asked : Option (List ℕ)) → asked ≡ values.from → CantBegin saves (map setup_of decoders) asked fault → WorksOn saves values left_old left_now written written (Check fault)
  refuses_by written fault decoders decoders_are asked asked_is cant =
      refuses_on written fault (subst (λ (l : List AnyDecoder). CantBegin saves (map setup_of l) values.from fault) decoders_are (subst (λ (from : Option (List ℕ)). CantBegin saves (map setup_of decoders) from fault) asked_is cant))

  -- it came to its end
  parts_on : (count : ℕ) → CanBegin saves (map setup_of opened.machines.items) values.from count → (left_new old new : Option (List ℕ)) (end : ListingEnd)
      → PartLists saves (stack_meaning opened.stack) (nodes_of (map setup_of opened.machines.items) opened.parents.items) values.from count (form_of opened.capture) (pins_of opened.capture) is.bytes is.told left_now left_new old new end
      → WorksOn saves values left_old left_new old new (status_of end)
  parts_on count can left_new old new end lists =
      part_ends saves values (form_of opened.capture) is.form_is left_old left_now old is.bytes is.told is.taken is.at is.names is.rate is.head (pins_of opened.capture) left_new new is.fits job (stack_meaning opened.stack)
      (nodes_of (map setup_of opened.machines.items) opened.parents.items) is.asks count (subst (λ (l : List Setup). CanBegin saves l values.from count) is.setups can) end lists

-- a checkpoint's text, as the code hands it on
pub seen_text : (seen : Option (Bor (String Global))) (kept : Option (String Global)) → option_copied seen ≡ kept → option_map (λ (text : Bor (String Global)). string_bytes text.now) seen ≡ option_map string_bytes kept
seen_text None kept is = ap (option_map string_bytes) is
seen_text (Some text) kept is = ap (option_map string_bytes) is

-- a part of decoders that went on from those that were opened came to its end
module _ (saves : Saves) (values : Values) (job : values.job ≡ Part) (left_old left_now left_new old new : Option (List ℕ)) (opened : Opened) (is : IsOpened values left_old left_now opened)
    (m : MachineGhosts AnyDecoder Setup) (outs : m.outputs ≡ outs_of) (setup : m.setup ≡ setup_of) (consumed : m.consumed ≡ HasConsumed) (asked : Option (List ℕ)) (same_text : asked ≡ values.from) (now : List AnyDecoder) (count : ℕ)
    (kinds : List ℕ) (kinds_are : kinds ≡ places_of (map setup_of opened.machines.items)) (begun : Begun saves opened.machines.items now asked count) (can : CanBegin saves (map setup_of opened.machines.items) asked count) where
  abbrev parents : List (Option ℕ)
  parents = opened.parents.items

  abbrev was : List Setup
  was = map setup_of opened.machines.items

  abbrev nodes : List (Node Setup)
  nodes = nodes_of was parents

  begun_here : Begun saves opened.machines.items now values.from count
  begun_here = subst (λ (from : Option (List ℕ)). Begun saves opened.machines.items now from count) same_text begun

  setups_same : map setup_of now ≡ was
  setups_same = begun_setups saves opened.machines.items now parents is.each values.from count begun_here

  count_is : length was ≡ length parents
  count_is = length-map opened.machines.items setup_of ∙ is.each

  gives : (earlier samples : List ℕ) → output_behind m now parents opened.stack earlier samples ≡ part_listing (stack_meaning opened.stack) nodes earlier samples
  gives earlier samples =
      (λ i. tree_output_behind (outs i) (stack_meaning opened.stack) (nodes_of (map (setup i) now) parents) earlier samples)
      ∙ ap (λ (l : List Setup). tree_output_behind outs_of (stack_meaning opened.stack) (nodes_of l parents) earlier samples) setups_same

  checks : (check samples : List ℕ) → IsCheckOn m.setup m.outputs m.consumed saves kinds parents (map m.setup now) check samples → IsCheckAt saves nodes check samples
  checks check samples on =
      let mine : IsCheckOn setup_of outs_of HasConsumed saves kinds parents (map setup_of now) check samples = transport (λ i. IsCheckOn (setup i) (outs i) (consumed i) saves kinds parents (map (setup i) now) check samples) on in
      let setups : was ≡ setups_on nodes = sym (setups_of_nodes was parents count_is) in
      let places : parents ≡ parents_on nodes = sym (parents_of_nodes was parents count_is) in
      transport (λ i. IsCheckOn setup_of outs_of HasConsumed saves ((kinds_are ∙ ap places_of setups) i) (places i) ((setups_same ∙ setups) i) check samples) mine

  behind : StandOn outs_of was parents (Stand HasConsumed opened.machines.items) [] → (earlier : List ℕ) → CameBefore saves nodes values.from earlier → Behind m now parents count earlier
  behind fresh earlier came =
      let stands = begun_behind saves opened.machines.items now parents is.each fresh earlier values.from count begun_here came in
      record {
        many = stands.0;
        stand = transport (λ i. StandOn (sym outs i) (map (sym setup i) now) parents (Stand (sym consumed i) now) earlier) stands.1;
      }

  pub part_comes : StandOn outs_of was parents (Stand HasConsumed opened.machines.items) [] → (end : PartEnd)
      → JobLists (WritesCheck m now parents opened.stack count old new saves kinds) (JobAll m now parents opened.stack count old new) (JobFront m now parents opened.stack count old new) (CutsCheck m now parents opened.stack count old new saves kinds) (WritesUpTo m now parents opened.stack count old new)
      (form_of opened.capture) (pins_of opened.capture) is.bytes is.told left_now left_new end → WorksOn saves values left_old left_new old new (status_of (end_of_part end))
  part_comes fresh end lists =
      let few = begun_few saves opened.machines.items now parents is.each values.from count begun_here in
      parts_on saves values left_old left_now opened is job count (subst (λ (from : Option (List ℕ)). CanBegin saves was from count) same_text can) left_new old new (end_of_part end)
      (record {
        bytes = lists.bytes;
        told = lists.told;
        taken = lists.taken;
        later = lists.later;
        at_end = lists.at_end;
        ends = part_ended m now parents opened.stack count saves kinds few old new (form_of opened.capture) (pins_of opened.capture) (is.bytes ++ lists.bytes) lists.told end lists.says;
        says = λ earlier came. part_wrote m now parents opened.stack count saves kinds few old new (form_of opened.capture) (pins_of opened.capture) (is.bytes ++ lists.bytes) lists.told
            (part_listing (stack_meaning opened.stack) nodes) (IsCheckAt saves nodes) gives checks earlier (behind fresh earlier came) end lists.says;
      })

-- the same by other names of the decoders and their parents, with the law of decoders that are new
pub part_comes_by : (saves : Saves) (values : Values) (job : values.job ≡ Part) (left_old left_now left_new old new : Option (List ℕ)) (opened : Opened) (is : IsOpened values left_old left_now opened)
    (m : MachineGhosts AnyDecoder Setup) (outs : m.outputs ≡ outs_of) (setup : m.setup ≡ setup_of) (consumed : m.consumed ≡ HasConsumed) (asked : Option (List ℕ)) (same_text : asked ≡ values.from) (now : List AnyDecoder) (count : ℕ) (kinds : List ℕ)
    (decoders : List AnyDecoder) (decoders_are : decoders ≡ opened.machines.items) (parents : List (Option ℕ)) (parents_are : parents ≡ opened.parents.items) (kinds_are : kinds ≡ places_of (map setup_of decoders))
    (begun : Begun saves decoders now asked count) (can : CanBegin saves (map setup_of decoders) asked count)
    (places : List (Option ℕ)) (places_are : places ≡ opened.parents.items) (law : ((j : ℕ) → j < length places → Stand m.consumed decoders j []) → StandOn m.outputs (map m.setup decoders) places (Stand m.consumed decoders) []) (end : PartEnd)
    → JobLists (WritesCheck m now parents opened.stack count old new saves kinds) (JobAll m now parents opened.stack count old new) (JobFront m now parents opened.stack count old new) (CutsCheck m now parents opened.stack count old new saves kinds) (WritesUpTo m now parents opened.stack count old new)
    (form_of opened.capture) (pins_of opened.capture) is.bytes is.told left_now left_new end → WorksOn saves values left_old left_new old new (status_of (end_of_part end))
part_comes_by saves values job left_old left_now left_new old new opened is m outs setup consumed asked same_text now count kinds decoders decoders_are parents parents_are kinds_are begun can places places_are law end lists =
    part_comes saves values job left_old left_now left_new old new opened is m outs setup consumed asked same_text now count kinds
    (kinds_are ∙ ap (λ (l : List AnyDecoder). places_of (map setup_of l)) decoders_are) (subst (λ (l : List AnyDecoder). Begun saves l now asked count) decoders_are begun) (subst (λ (l : List AnyDecoder). CanBegin saves (map setup_of l) asked count) decoders_are can)
    (here stand_at) end
    (subst (λ (l : List (Option ℕ)). JobLists (WritesCheck m now l opened.stack count old new saves kinds) (JobAll m now l opened.stack count old new) (JobFront m now l opened.stack count old new) (CutsCheck m now l opened.stack count old new saves kinds) (WritesUpTo m now l opened.stack count old new)
    (form_of opened.capture) (pins_of opened.capture) is.bytes is.told left_now left_new end) parents_are lists)
  where
    here : ((j : ℕ) → j < length opened.parents.items → Stand HasConsumed opened.machines.items j []) → StandOn outs_of (map setup_of opened.machines.items) opened.parents.items (Stand HasConsumed opened.machines.items) []
    here = transport (λ i. ((j : ℕ) → j < length (places_are i) → Stand (consumed i) (decoders_are i) j []) → StandOn (outs i) (map (setup i) (decoders_are i)) (places_are i) (Stand (consumed i) (decoders_are i)) []) law

    stand_at : (j : ℕ) → j < length opened.parents.items → Stand HasConsumed opened.machines.items j []
    stand_at j within = let each = is.each in (omega (arith, within, each), λ d. is.consumed j d (omega (arith, within, each)))
