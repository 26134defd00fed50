-- What a run of a tree of stages gave, once both ends of each link were tied.
use Rattle.std.proofs.Common.{◌≡◌, ◌<◌, ◌≤◌, ◌+◌, ◌⊎◌, inl, inr, ℕ, zero, suc, Bool, true, false, ◌||◌, List, [], ◌∷◌, ◌++◌, map, length, length-append, get_or, slice_get, Option, Some, None, refl, sym, ◌∙◌, ap, subst, arith, if◌then◌else◌}
use Rattle.std.specs.Prelude.{nat_lt}
use Rattle.std.proofs.lemmas.Bool.{cases_lt}
use Rattle.std.proofs.lemmas.List.{append-nil, length-map, length-replicate}
use Rattle.std.proofs.lemmas.List.Elements.{All-replicate}
use Rattle.std.proofs.lemmas.Option.{get_or_from_slice_get, slice_get-get_or, slice_get_past}
use Rattle.la_base.specs.declared.samples.Run.{Run}
use Rattle.la_base.specs.declared.wires.Feed.{Feed}
use Rattle.la_base.specs.declared.wires.Feed.TheVariants.{Run as RunFeed}
use Rattle.la_base.specs.declared.wires.Mark.{Mark}
use Rattle.la_base.specs.declared.wires.Mark.TheVariants.{End as EndMark}
use Rattle.la_base.specs.declared.wires.Out.{Out}
use Rattle.tree_io.specs.Feeds.{together}
use Rattle.decoder_core.specs.Inputs.{Item}
use Rattle.tree_io.specs.Feeds.{marks_of}
use Rattle.decoder_core.specs.Promises.{GivesNothing}
use Rattle.decoder_core.specs.declared.end.RunEnd.{RunEnd}
use Rattle.decoder_core.specs.declared.machine.Machine.{Ghosts as MachineGhosts}
use Rattle.tree_runs.specs.Machines.{Definitions, Stand, defined, near_at, near_of, outputs_at, whole_of}
use Rattle.tree_runs.specs.Passing.{IsForest}
use Rattle.tree_runs.specs.Reaching.{Reaches}
use Rattle.tree_runs.specs.Runs.{StandOn, input_on, samples_in}
use Rattle.stack_laws.specs.Links.{EndsLast, IsFront, Link, some}
use Rattle.stack_laws.specs.Feeds.{ends_marks, feeds_of, feed_end}
use Rattle.stack_laws.specs.Keeping.{Keeps, Serves}
use Rattle.stack_laws.specs.Laws.{IsLawful}
use Rattle.stack_laws.specs.Legal.{Fits}
use Rattle.stack_laws.specs.Moves.{Sending, View}
use Rattle.stack_laws.specs.Rests.{behind, near_behind, whole_behind}
use Rattle.stack_laws.specs.Running.{State}
use Rattle.stack_laws.specs.Settling.{AreSettled, IsTied, MachinesTell, SettledEndsFit, Tells, TellsRun}
use Rattle.stack_laws.specs.Views.{Ends, children_of, place_among, sender, state_of}
use Rattle.stack_laws.proofs.Batching.{batched_none}
use Rattle.stack_laws.proofs.Lists.{some-append}
use Rattle.stack_laws.proofs.Rests.{nothing_behind}
use Rattle.stage_ring.specs.Link.{known, received, sent, slots}
use Rattle.stage_ring.specs.declared.ends.Rx.{Rx}
use Rattle.stage_ring.specs.declared.ends.Tx.{Tx}
use Rattle.stage_run.specs.Inputs.{came, feeds_in, told_behind}
use Rattle.stage_run.proofs.Telling.{feeds_in-append, feeds_in_few}
use Rattle.stage_run.specs.Stages.{PartsMean, all_sent, blank, no_sending}
use Rattle.stage_run.specs.declared.input.Input.{Input}
use Rattle.stage_run.specs.declared.input.Input.TheVariants.{Samples, Packets}
use Rattle.stage_run.specs.declared.input.HalfRun.{HalfRun}
use Rattle.stage_run.specs.declared.stage.Parts.{Parts}
use Rattle.stage_crew.specs.Driving.{Drove, EndsWith}
use Rattle.tree_io.specs.Feeds.{real}
use Rattle.stack_threads.specs.Ties.{KnowsPackets, KnowsSamples, Tied, given_by, got_on, heard_by, heard_on, sent_on}
use Rattle.stack_threads.specs.Trees.{on_place, place_of}
use Rattle.stack_threads.proofs.Counting.{same_children, same_place_among}
use Rattle.stack_threads.proofs.Sending.{marks_front}

-- a stage that has received and made nothing
pub blank_keeps : (whole : List Item → List Out) (near : List Item → ℕ) → GivesNothing whole → (n : ℕ) → Keeps whole near (blank n)
blank_keeps whole near nothing n = record {
  takes = record { front = ([], refl); all = λ is. let no : false ≡ true = is in absurd cc };
  marks = record { shows = ap marks_of (sym nothing); last = tt; ends = refl };
  tells = ([], refl);
  floors = λ more heeds. tt;
  batched = batched_none whole near nothing;
  children = All-replicate (Serves whole [] [] false) n no_sending (record { made = ap (λ (l : List Out). feeds_of l ++ []) (sym nothing); places = λ more heeds. tt; last = tt; sends = ([], refl) });
}

-- a bound of the first of some numbers
most : (f : ℕ → ℕ) (n : ℕ) → (bound : ℕ) × ((i : ℕ) → i < n → f i ≤ bound)
most f zero = (0, λ i low. absurd (omega (arith, low)))
most f (suc n) =
    let rest = most f n in (
      rest.0 + f n,
      λ i low. elim (cases_lt i n) [
        | inl less ↦ let had = rest.1 i less in omega (arith, had)
        | inr same ↦ let last : i ≡ n = omega (arith, same, low) in subst (λ (k : ℕ). f k ≤ rest.0 + f n) (sym last) (omega arith)
      ],
    )

-- a link on which what was received, and then a rest that it has room for, is what was sent
tied_by : {T : Type 0} (many : ℕ) (made got rest sent : List T) → got ++ rest ≡ sent → length rest ≤ many → IsTied many (record { made = made; sent = sent; received = got })
tied_by many made got rest sent is few = record { receives = (rest, sym is); room = let n = ap length is in omega (arith, few, n, length-append got rest) }

-- it is one of more slots
wider : {T : Type 0} (few many : ℕ) (link : Link T) → few ≤ many → IsTied few link → IsTied many link
wider few many link low tied = record { receives = tied.receives; room = let room = tied.room in omega (arith, room, low) }

has_end : (marks : List Mark) → EndsWith EndMark marks → some ends_marks marks ≡ true
has_end marks ends = ap (some ends_marks) ends.1 ∙ some-append ends_marks ends.0 (EndMark ∷ []) ∙ or_true (some ends_marks ends.0)
  where
    or_true : (b : Bool) → (b || true) ≡ true
    or_true true = refl
    or_true false = refl

find : {X : Type 0} (xs : List X) (k : ℕ) → k < length xs → (x : X) × (slice_get xs k ≡ Some x)
find [] k low = absurd (omega (arith, low))
find (x ∷ xs) zero low = (x, refl)
find (x ∷ xs) (suc k) low = find xs k (omega (arith, low))

map_at : {X Y : Type 0} (f : X → Y) (xs : List X) (k : ℕ) (x : X) → slice_get xs k ≡ Some x → slice_get (map f xs) k ≡ Some (f x)
map_at f [] k x at = absurd cc
map_at f (y ∷ xs) zero x at = let same : y ≡ x = cc in ap (λ z. Some (f z)) same
map_at f (y ∷ xs) (suc k) x at = map_at f xs k x at

-- a part of the run, made of a machine: what it has behind an input that the machine stood for
pub record MadeOf {M S : Type 0} (m : MachineGhosts M S) (machine : M) (p : Parts M) : Type 0 where
  pub setup : m.setup p.machine ≡ m.setup machine
  pub means : (start : List Item) → m.consumed machine start
      → (view : View) × PartsMean m start p view × Keeps (whole_behind (m.outputs (m.setup machine)) start) (near_behind (λ input. m.near (m.setup machine) input 0) start) view

module _ {M S : Type 0} (m : MachineGhosts M S)
    (machines : List M) (parents : List (Option ℕ)) (forest : IsForest parents) (each : length machines ≡ length parents)
    (parts : List (Parts M)) (as_many : length parts ≡ length parents) (made_of : (j : ℕ) (p : Parts M) → slice_get parts j ≡ Some p → (machine : M) × (slice_get machines j ≡ Some machine) × MadeOf m machine p)
    (served : (j : ℕ) (p : Parts M) → slice_get parts j ≡ Some p → length p.children.items ≡ on_place (Some j) parents)
    (feeds : List (Tx HalfRun)) (marks : List (Rx Mark)) (gathers : length marks ≡ length parents)
    (tied : (j : ℕ) → j < length parents → Tied parents (map heard_by parts) (map given_by parts) (map sent_on feeds) (map got_on marks) j)
    (root_at : (j : ℕ) → slice_get parents j ≡ Some None → place_of parents j None < length feeds)
    (child_at : (j p : ℕ) → slice_get parents j ≡ Some (Some p) → (above : Parts M) → slice_get parts p ≡ Some above → place_of parents j (Some p) < length above.children.items)
    {gave_old gave_new : List (List Run) → Type 0} {took_old took_new : (ℕ → List Mark) → Type 0} {at_end : Bool} {result : RunEnd}
    (d : Drove gave_old gave_new took_old took_new at_end result (map sent feeds) (map received marks))
    (lawful : IsLawful parents (defined m.outputs m.near (map m.setup machines))) (fit : SettledEndsFit) (tell : MachinesTell m.outputs m.near (map m.setup machines) parents)
    (samples : List ℕ) (stood : StandOn m.outputs (map m.setup machines) parents (Stand m.consumed machines) samples) where
  abbrev n : ℕ
  n = length parents

  abbrev setups : List S
  setups = map m.setup machines

  abbrev start : ℕ → List Item
  start = input_on m.outputs setups parents samples

  abbrev by : Definitions
  by = behind (defined m.outputs m.near setups) start

  -- what an instance has
  record Settled (j : ℕ) : Type 0 where
    pub part : Parts M
    pub at : slice_get parts j ≡ Some part
    pub view : View
    pub means : PartsMean m (start j) part view
    pub keeps : Keeps (by.whole j) (by.near j) view
    pub rx : Rx Mark
    pub at_rx : slice_get marks j ≡ Some rx

  settled_at : (j : ℕ) → j < n → Settled j
  settled_at j low =
      let p = find parts j (omega (arith, low, as_many)) in
      let made = made_of j p.0 p.1 in
      let machine = made.0 in
      let stands : m.consumed machine (start j) = subst (λ (one : M). m.consumed one (start j)) (get_or_from_slice_get machines j machine machine made.1) ((stood j low).1 machine) in
      let had = made.2.means (start j) stands in
      let setup_at : Some (m.setup machine) ≡ slice_get setups j = sym (map_at m.setup machines j machine made.1) in
      let rx = find marks j (omega (arith, low, gathers)) in
      record {
        part = p.0;
        at = p.1;
        view = had.0;
        means = had.1;
        keeps = subst (λ (o : Option S). Keeps (whole_behind (outputs_at m.outputs o) (start j)) (near_behind (λ input. near_at m.near o input 0) (start j)) had.0) setup_at had.2;
        rx = rx.0;
        at_rx = rx.1;
      }

  abbrev pick : (j : ℕ) → (j < n) ⊎ (n ≤ j) → View
  pick j (inl low) = (settled_at j low).view
  pick j (inr past) = blank (length (children_of parents j))

  abbrev pick_marks : (j : ℕ) → (j < n) ⊎ (n ≤ j) → List Mark
  pick_marks j (inl low) = received (settled_at j low).rx
  pick_marks j (inr past) = []

  abbrev ends : Ends
  ends = record {
    views = λ j. pick j (cases_lt j n);
    roots = λ j. all_sent (feeds_in 0 (get_or (map sent feeds) (place_of parents j None) []));
    gathered = λ j. pick_marks j (cases_lt j n);
  }

  abbrev state : State
  state = state_of parents ends (together d.lists) true false

  keeps_by : (j : ℕ) (way : (j < n) ⊎ (n ≤ j)) → Keeps (by.whole j) (by.near j) (pick j way)
  keeps_by j (inl low) = (settled_at j low).keeps
  keeps_by j (inr past) = blank_keeps (by.whole j) (by.near j) (nothing_behind (whole_of m.outputs setups j) (lawful.prefix j) (start j)) (length (children_of parents j))

  each_by : (j : ℕ) (way : (j < n) ⊎ (n ≤ j)) → length (pick j way).children ≡ length (children_of parents j)
  each_by j (inl low) =
      let s = settled_at j low in
      ap length s.means.children ∙ length-map s.part.children.items (λ child. all_sent (sent child)) ∙ served j s.part s.at ∙ sym (same_children parents j)
  each_by j (inr past) = length-replicate (length (children_of parents j)) no_sending

  -- a root's link
  root_sent : (j : ℕ) → slice_get parents j ≡ Some None → (tx : Tx HalfRun) × (slice_get feeds (place_of parents j None) ≡ Some tx) × (get_or (map sent feeds) (place_of parents j None) [] ≡ sent tx)
  root_sent j at =
      let tx = find feeds (place_of parents j None) (root_at j at) in
      (tx.0, tx.1, get_or_from_slice_get (map sent feeds) (place_of parents j None) (sent tx.0) [] (map_at sent feeds (place_of parents j None) tx.0 tx.1))

  roots_by : (j : ℕ) → slice_get parents j ≡ Some None → ((ends.roots j).made ≡ map RunFeed (together d.lists) ++ feed_end true) × IsFront (ends.roots j).sent (ends.roots j).made
  roots_by j at =
      let r = root_sent j at in
      let fed = d.fed (place_of parents j None) (sent r.0) (map_at sent feeds (place_of parents j None) r.0 r.1) in
      (ap (feeds_in 0) r.2 ∙ fed, ([], sym (append-nil (feeds_in 0 (get_or (map sent feeds) (place_of parents j None) [])))))

  -- the input of an instance is tied
  samples_known : (input : Input) (tx : Tx HalfRun) → KnowsSamples (heard_on input) (sent_on tx) → (rest : List Feed) × (came input ++ rest ≡ feeds_in 0 (sent tx)) × (length rest ≤ slots tx)
  samples_known (Samples rx) tx knows = (
    feeds_in (told_behind 0 (received rx)) (known rx),
    sym (feeds_in-append 0 (received rx) (known rx)) ∙ ap (feeds_in 0) knows.all,
    (let few = knows.few in omega (arith, few, feeds_in_few (told_behind 0 (received rx)) (known rx))),
  )
  samples_known (Packets rx) tx knows = absurd knows

  packets_known : (input : Input) (tx : Tx Feed) → KnowsPackets (heard_on input) (sent_on tx) → (rest : List Feed) × (came input ++ rest ≡ sent tx) × (length rest ≤ slots tx)
  packets_known (Samples rx) tx knows = absurd knows
  packets_known (Packets rx) tx knows = (known rx, knows.all, knows.few)

  -- of a child its parent's end, among the ends of the parent's view
  child_sent : (j q : ℕ) → slice_get parents j ≡ Some (Some q) → (low : q < n) → (tx : Tx Feed) × (slice_get (map sent_on (settled_at q low).part.children.items) (place_of parents j (Some q)) ≡ Some (sent_on tx))
      × (get_or (settled_at q low).view.children (place_of parents j (Some q)) no_sending ≡ all_sent (sent tx))
  child_sent j q at low =
      let s = settled_at q low in
      let items = s.part.children.items in
      let place = place_of parents j (Some q) in
      let tx = find items place (child_at j q at s.part s.at) in
      (tx.0, map_at sent_on items place tx.0 tx.1, ap (λ (l : List (Sending Feed)). get_or l place no_sending) s.means.children ∙ get_or_from_slice_get (map (λ child. all_sent (sent child)) items) place (all_sent (sent tx.0)) no_sending (map_at (λ child. all_sent (sent child)) items place tx.0 tx.1))

  child_by : (j q : ℕ) → slice_get parents j ≡ Some (Some q) → q < n → (way : (q < n) ⊎ (n ≤ q)) → (tx : Tx Feed) × (view : Parts M) × (slice_get parts q ≡ Some view) × (slice_get (map sent_on view.children.items) (place_of parents j (Some q)) ≡ Some (sent_on tx))
      × (get_or (pick q way).children (place_of parents j (Some q)) no_sending ≡ all_sent (sent tx))
  child_by j q at low (inl less) = let c = child_sent j q at less in let s = settled_at q less in (c.0, s.part, s.at, c.1, c.2)
  child_by j q at low (inr past) = absurd (omega (arith, low, past))

  rest_of_input : (j : ℕ) → j < n → (way : (j < n) ⊎ (n ≤ j)) → (rest : List Feed) × ((pick j way).received ++ rest ≡ (sender parents ends j (slice_get parents j)).sent) × (room : ℕ) × (length rest ≤ room)
  rest_of_input j low (inr past) = absurd (omega (arith, low, past))
  rest_of_input j low (inl less) = on (get_or parents j None) (slice_get-get_or parents j None low)
    where
      on : (parent : Option ℕ) → slice_get parents j ≡ Some parent → (rest : List Feed) × ((settled_at j less).view.received ++ rest ≡ (sender parents ends j (slice_get parents j)).sent) × (room : ℕ) × (length rest ≤ room)
      on None at =
          let s = settled_at j less in
          let r = root_sent j at in
          let knows = (tied j low).root at (heard_by s.part) (sent_on r.0) (map_at heard_by parts j s.part s.at) (map_at sent_on feeds (place_of parents j None) r.0 r.1) in
          let k = samples_known s.part.input r.0 knows in
          (k.0, ap (λ (l : List Feed). l ++ k.0) s.means.received ∙ k.1 ∙ ap (feeds_in 0) (sym r.2) ∙ ap (λ (o : Option (Option ℕ)). (sender parents ends j o).sent) (sym at), slots r.0, k.2)
      on (Some q) at =
          let s = settled_at j less in
          let below = forest j q at in
          let c = child_by j q at (omega (arith, below, low)) (cases_lt q n) in
          let knows = (tied j low).child q at (heard_by s.part) (given_by c.1) (sent_on c.0) (map_at heard_by parts j s.part s.at) (map_at given_by parts q c.1 c.2) c.3 in
          let k = packets_known s.part.input c.0 knows in
          let place : place_among parents q j ≡ place_of parents j (Some q) = same_place_among parents q j (omega (arith, low)) in
          (k.0, ap (λ (l : List Feed). l ++ k.0) s.means.received ∙ k.1 ∙ ap (λ (x : Sending Feed). x.sent) (sym c.4) ∙ ap (λ (i : ℕ). (get_or (ends.views q).children i no_sending).sent) (sym place) ∙ ap (λ (o : Option (Option ℕ)). (sender parents ends j o).sent) (sym at), slots c.0, k.2)

  -- and its marks
  rest_of_marks : (j : ℕ) → j < n → (way : (j < n) ⊎ (n ≤ j)) → (rest : List Mark) × (pick_marks j way ++ rest ≡ (pick j way).marks.sent) × (room : ℕ) × (length rest ≤ room)
  rest_of_marks j low (inr past) = absurd (omega (arith, low, past))
  rest_of_marks j low (inl less) =
      let s = settled_at j less in
      let knows = (tied j low).marks (given_by s.part) (got_on s.rx) (map_at given_by parts j s.part s.at) (map_at got_on marks j s.rx s.at_rx) in
      (known s.rx, knows.all ∙ ap (λ (x : Sending Mark). x.sent) (sym s.means.marks), slots s.part.marks, knows.few)

  -- the slots of the links of an instance
  abbrev input_room : (j : ℕ) → (j < n) ⊎ (n ≤ j) → ℕ
  input_room j (inl low) = (rest_of_input j low (cases_lt j n)).2
  input_room j (inr past) = 0

  abbrev marks_room : (j : ℕ) → (j < n) ⊎ (n ≤ j) → ℕ
  marks_room j (inl low) = (rest_of_marks j low (cases_lt j n)).2
  marks_room j (inr past) = 0

  abbrev room : ℕ → ℕ
  room j = input_room j (cases_lt j n) + marks_room j (cases_lt j n)

  -- one number that is enough for all links
  abbrev many : ℕ
  many = (most room n).0

  no_room : (j : ℕ) (way : (j < n) ⊎ (n ≤ j)) → n ≤ j → input_room j way + marks_room j way ≡ 0
  no_room j (inl low) past = absurd (omega (arith, low, past))
  no_room j (inr out) past = refl

  enough : (j : ℕ) → (j < n) ⊎ (n ≤ j) → room j ≤ many
  enough j (inl low) = (most room n).1 j low
  enough j (inr past) = let none = no_room j (cases_lt j n) past in omega (arith, none)

  none_received : (j : ℕ) (way : (j < n) ⊎ (n ≤ j)) → n ≤ j → ((pick j way).received ≡ []) × (pick_marks j way ≡ []) × ((pick j way).marks.sent ≡ [])
  none_received j (inl low) past = absurd (omega (arith, low, past))
  none_received j (inr out) past = (refl, refl, refl)

  inputs_by : (j : ℕ) (way : (j < n) ⊎ (n ≤ j)) → IsTied (input_room j way) (state.stages j).input
  inputs_by j (inl low) =
      let rest = rest_of_input j low (cases_lt j n) in
      tied_by rest.2 (state.stages j).input.made (ends.views j).received rest.0 (sender parents ends j (slice_get parents j)).sent rest.1 rest.3
  inputs_by j (inr past) =
      let none : (sender parents ends j (slice_get parents j)).sent ≡ [] = ap (λ (o : Option (Option ℕ)). (sender parents ends j o).sent) (slice_get_past parents j past) in
      tied_by 0 (state.stages j).input.made (ends.views j).received [] (sender parents ends j (slice_get parents j)).sent (ap (λ (l : List Feed). l ++ []) (none_received j (cases_lt j n) past).0 ∙ sym none) (omega arith)

  marks_by : (j : ℕ) (way : (j < n) ⊎ (n ≤ j)) → IsTied (marks_room j way) (state.stages j).marks
  marks_by j (inl low) =
      let rest = rest_of_marks j low (cases_lt j n) in
      tied_by rest.2 (state.stages j).marks.made (ends.gathered j) rest.0 (ends.views j).marks.sent rest.1 rest.3
  marks_by j (inr past) =
      let none = none_received j (cases_lt j n) past in
      tied_by 0 (state.stages j).marks.made (ends.gathered j) [] (ends.views j).marks.sent (ap (λ (l : List Mark). l ++ []) none.1 ∙ sym none.2) (omega arith)

  settled : AreSettled parents by many ends (together d.lists) true state
  settled = record {
    keeps = λ j. keeps_by j (cases_lt j n);
    each = λ j. each_by j (cases_lt j n);
    roots = roots_by;
    inputs = λ j. let wide = enough j (cases_lt j n) in wider (input_room j (cases_lt j n)) many (state.stages j).input (omega (arith, wide)) (inputs_by j (cases_lt j n));
    marks = λ j. let wide = enough j (cases_lt j n) in wider (marks_room j (cases_lt j n)) many (state.stages j).marks (omega (arith, wide)) (marks_by j (cases_lt j n));
  }

  fits : Fits parents by many state
  fits = fit parents by many ends (together d.lists) true false settled

  abbrev taken : ℕ → List Mark
  taken j = d.taken j ++ (if nat_lt j d.ends then EndMark ∷ [] else [])

  -- what was gathered of an instance
  gathered_of : (j : ℕ) → j < n → (way : (j < n) ⊎ (n ≤ j)) → (rx : Rx Mark) × (slice_get (map received marks) j ≡ Some (received rx)) × (pick_marks j way ≡ received rx)
  gathered_of j low (inl less) = let s = settled_at j less in (s.rx, map_at received marks j s.rx s.at_rx, refl)
  gathered_of j low (inr past) = absurd (omega (arith, low, past))

  pub tells_run : (j : ℕ) → j < n → TellsRun result at_end (whole_of m.outputs setups j) (near_of m.near setups j) (start j) (input_on m.outputs setups parents (samples ++ samples_in d.lists) j) (λ more. input_on m.outputs setups parents ((samples ++ samples_in d.lists) ++ more) j) (taken j)
  tells_run j low =
      let g = gathered_of j low (cases_lt j n) in
      let got = ends.gathered j in
      let came = d.came j (received g.0) g.1 in
      let ends_got : EndsWith EndMark got = (came.0, g.2 ∙ came.1) in
      let tells : Tells (defined m.outputs m.near setups) start (input_on m.outputs setups parents (samples ++ samples_in d.lists)) (λ more. input_on m.outputs setups parents ((samples ++ samples_in d.lists) ++ more)) state j = tell many samples state fits j low in
      let all = (tells.gathered (has_end got ends_got)).1 in
      let last : EndsLast ends_marks got = subst (EndsLast ends_marks) (sym all.received) (fits.marks j).last in
      let front = marks_front got (d.taken j) d.done last ends_got (subst (λ (l : List Mark). Reaches d.done (d.taken j) (real l)) (sym g.2) (d.fronts j (received g.0) g.1)) (nat_lt j d.ends) (λ e. (d.by_end j e).0) in
      tells.told result at_end (taken j) (subst (IsFront (taken j)) all.received front.0) (λ e. (d.by_end j (sym front.1 ∙ e)).1) (λ e. front.1 ∙ (d.closes e).1 j (received g.0) g.1)
