-- A machine that is driven by its waits, over any decoder that keeps the laws.
use Rattle.std.proofs.Common.{◌≡◌, ℕ, ◌+◌, ◌-◌, ◌^◌, ◌≤◌, min, List, [], ◌∷◌, ◌++◌, map, take, drop, length, replicate, sym, ◌∙◌, ap, subst, arith, append_assoc, length-append, length-take, length-take-le, take-append-drop}
use Rattle.std.proofs.lemmas.List.{take_all, take-append-le, take-replicate, length-replicate}
use Rattle.la_base.specs.declared.samples.Run.{Run}
use Rattle.la_base.specs.declared.wires.Out.{Out}
use Rattle.la_base.specs.Samples.{samples}
use Rattle.wait_cond.specs.declared.alt.Alt.{Alt}
use Rattle.wait_cond.specs.declared.scan.Waiter.{Waiter}
use Rattle.wait_cond.specs.Stops.{IsStop, MetIn, NoneMet}
use Rattle.wait_cond.specs.Waiting.{Waits, alts_of, wait_from, consumed_by}
use Rattle.wait_cond.proofs.ChainLemmas.{none_in_longer, none_in_shorter, no_stop}
use Rattle.decoder_core.specs.Inputs.{Item, Sample, samples_in, counted_samples}
use Rattle.decoder_core.specs.Driving.{Drives, Sleeps}
use Rattle.decoder_core.specs.Promises.{IsQuiet}
use Rattle.decoder_core.proofs.Counting.{counted_more, counted_more_samples, samples_few, take_equal, samples_are, take_past}

module _ {L S : Type 0} (setup : L → S) (outs : S → List ℕ → List Out) (stands : L → List ℕ → Type 0) (alts : L → List Alt)
    (quiet : (machine : L) → IsQuiet (outs (setup machine)) (stands machine) (alts machine)) where
  -- no stop behind the last one: the outputs are those at it
  pub quiet_since : (machine : L) (from : ℕ) (list : List ℕ) → from ≤ length list → stands machine (take from list) → NoneMet list (alts machine) from (length list) → outs (setup machine) list ≡ outs (setup machine) (take from list)
  quiet_since machine from list within st none =
      let parts = take-append-drop from list in
      let n = length-take-le from list within in
      let none_here = subst (λ (l : List ℕ). NoneMet l (alts machine) (length (take from list)) (length l)) (sym parts)
      (subst (λ (k : ℕ). NoneMet list (alts machine) k (length list)) (sym n) none) in
      ap (λ (l : List ℕ). outs (setup machine) l) (sym parts) ∙ quiet machine (take from list) (drop from list) st none_here

  module _ (machine : L) (waiter : Waiter) (input : List Item) (d : Drives stands alts machine waiter input) where
    abbrev list : List ℕ
    list = counted_samples input

    pub list_len : length list ≡ consumed_by waiter
    list_len = d.waits.count

    from_within : wait_from waiter ≤ length list
    from_within = omega (arith, d.waits.stop, d.waits.count)

    -- what was put out is what was put out at the last stop
    pub outs_now : outs (setup machine) list ≡ outs (setup machine) (take (wait_from waiter) list)
    outs_now =
        quiet_since machine (wait_from waiter) list from_within d.machine_stands
        (subst (λ (l : List Alt). NoneMet list l (wait_from waiter) (length list)) d.cond (subst (λ (k : ℕ). NoneMet list (alts_of waiter) (wait_from waiter) k) (sym list_len) d.waits.none))

    -- equal samples that count
    pub part_counts : (run part : Run) → part.value ≡ run.value → part.len ≡ min run.len (2 ^ 60 - consumed_by waiter) → counted_samples (input ++ map Sample (samples run)) ≡ list ++ samples part
    part_counts run part same len =
        let room : 2 ^ 60 - length list ≡ 2 ^ 60 - consumed_by waiter = ap (λ (k : ℕ). 2 ^ 60 - k) list_len in
        counted_more_samples input (samples run)
        ∙ ap (λ (l : List ℕ). list ++ l)
        (ap (λ (k : ℕ). take k (samples run)) room ∙ ap (λ (l : List ℕ). take (2 ^ 60 - consumed_by waiter) l) (samples_are run)
        ∙ take_equal (2 ^ 60 - consumed_by waiter) run.len run.value
        ∙ (λ i. replicate (sym len i) (sym same i)) ∙ sym (samples_are part))

    -- nothing stopped: the driver goes on
    pub through : (later : Waiter) (more : List ℕ) (next : List Item) → counted_samples (input ++ next) ≡ list ++ more → Waits later (list ++ more) → wait_from later ≡ wait_from waiter → alts_of later ≡ alts_of waiter
        → Drives stands alts machine later (input ++ next) × (outs (setup machine) (counted_samples (input ++ next)) ≡ outs (setup machine) list)
    through later more next is waits from same =
        let cut : take (wait_from later) (list ++ more) ≡ take (wait_from waiter) list = ap (λ (k : ℕ). take k (list ++ more)) from ∙ take-append-le (wait_from waiter) list more from_within in
        let still = subst (λ (l : List ℕ). stands machine l) (sym cut) d.machine_stands in
        let after : Drives stands alts machine later (input ++ next) = record {
          waits = subst (λ (l : List ℕ). Waits later l) (sym is) waits;
          machine_stands = subst (λ (l : List ℕ). stands machine (take (wait_from later) l)) (sym is) still;
          cond = same ∙ d.cond;
        } in
        let within : wait_from later ≤ length (list ++ more) = omega (arith, from, from_within, length-append list more) in
        let none = subst (λ (l : List Alt). NoneMet (list ++ more) l (wait_from later) (length (list ++ more))) (same ∙ d.cond) (subst (λ (k : ℕ). NoneMet (list ++ more) (alts_of later) (wait_from later) k) (sym waits.count) waits.none) in (
          after,
          ap (λ (l : List ℕ). outs (setup machine) l) is ∙ quiet_since machine (wait_from later) (list ++ more) within still none ∙ ap (λ (l : List ℕ). outs (setup machine) l) cut ∙ sym outs_now,
        )

    -- a stop, seen from the last one
    pub seen_parts : (more : List ℕ) → take (wait_from waiter) list ++ (drop (wait_from waiter) list ++ more) ≡ list ++ more
    seen_parts more = sym (append_assoc (take (wait_from waiter) list) (drop (wait_from waiter) list) more) ∙ ap (λ (l : List ℕ). l ++ more) (take-append-drop (wait_from waiter) list)

    pub seen_len : length (take (wait_from waiter) list) ≡ wait_from waiter
    seen_len = length-take-le (wait_from waiter) list from_within

    pub stop_seen : (more : List ℕ) (at met : ℕ) → IsStop (list ++ more) (alts_of waiter) (wait_from waiter) at met
        → IsStop (take (wait_from waiter) list ++ (drop (wait_from waiter) list ++ more)) (alts machine) (length (take (wait_from waiter) list)) at met
    stop_seen more at met stop =
        subst (λ (l : List ℕ). IsStop l (alts machine) (length (take (wait_from waiter) list)) at met) (sym (seen_parts more))
        (subst (λ (k : ℕ). IsStop (list ++ more) (alts machine) k at met) (sym seen_len) (subst (λ (l : List Alt). IsStop (list ++ more) l (wait_from waiter) at met) d.cond stop))

    -- the samples up to a stop
    pub counted_front : (part : Run) (used at v : ℕ) → at + 1 ≡ length list + used → used ≤ part.len → part.value ≡ v → part.len ≤ 2 ^ 60 - consumed_by waiter
        → counted_samples (input ++ map Sample (replicate used v)) ≡ take (at + 1) (list ++ samples part)
    counted_front part used at v place within same room =
        counted_more_samples input (replicate used v)
        ∙ ap (λ (l : List ℕ). list ++ l) (take_all (2 ^ 60 - length list) (replicate used v) (omega (arith, length-replicate used v, list_len)))
        ∙ sym (take_past list (samples part) used (at + 1) place
        ∙ ap (λ (l : List ℕ). list ++ l) (ap (λ (l : List ℕ). take used l) (samples_are part ∙ ap (λ (w : ℕ). replicate part.len w) same) ∙ take-replicate used part.len v within))

    -- no more samples count
    pub spent : (run : Run) → 2 ^ 60 ≤ consumed_by waiter → counted_samples (input ++ map Sample (samples run)) ≡ list ++ []
    spent run full =
        let none : 2 ^ 60 - length list ≡ 0 = omega (arith, list_len) in
        counted_more_samples input (samples run) ∙ ap (λ (k : ℕ). list ++ take k (samples run)) none

    -- the quiet samples behind the last stop
    pub quiet_parts : NoneMet (take (wait_from waiter) list ++ drop (wait_from waiter) list) (alts machine) (length (take (wait_from waiter) list)) (length (take (wait_from waiter) list ++ drop (wait_from waiter) list))
        × (consumed_by waiter ≡ length (take (wait_from waiter) list ++ drop (wait_from waiter) list))
        × (take (wait_from waiter) list ++ drop (wait_from waiter) list ≡ list)
    quiet_parts =
        let parts = take-append-drop (wait_from waiter) list in
        let none = subst (λ (l : List Alt). NoneMet list l (wait_from waiter) (length list)) d.cond (subst (λ (k : ℕ). NoneMet list (alts_of waiter) (wait_from waiter) k) (sym list_len) d.waits.none) in (
          subst (λ (l : List ℕ). NoneMet l (alts machine) (length (take (wait_from waiter) list)) (length l)) (sym parts) (subst (λ (k : ℕ). NoneMet list (alts machine) k (length list)) (sym seen_len) none),
          sym list_len ∙ ap length (sym parts),
          parts,
        )

    -- more items, and those of them that count
    more_items : (earlier next : List Item) → (more : List ℕ) × (counted_samples (input ++ (earlier ++ next)) ≡ counted_samples (input ++ earlier) ++ more)
    more_items earlier next = (
      take (2 ^ 60 - length (counted_samples (input ++ earlier))) (samples_in next),
      ap counted_samples (sym (append_assoc input earlier next)) ∙ counted_more (input ++ earlier) next,
    )

    -- where items hold no stop up to a place, the earlier ones that end before it hold none
    pub asleep : (earlier next : List Item) (end : ℕ) → length (counted_samples (input ++ earlier)) ≤ end → NoneMet (counted_samples (input ++ (earlier ++ next))) (alts machine) (wait_from waiter) end → Sleeps alts machine waiter input earlier
    asleep earlier next end within none =
        let m = more_items earlier next in
        let short = counted_samples (input ++ earlier) in
        none_in_shorter short m.0 (alts machine) (wait_from waiter) (length short) (omega arith)
        (λ q after below. subst (λ (l : List ℕ). MetIn l (alts machine) (wait_from waiter) q 0) m.1 (none q after (omega (arith, below, within))))

    -- a wait that went on over items passed over no stop
    pub passed_over : (later : Waiter) (front earlier : List Item) (last : Item) → Drives stands alts machine later (input ++ front) → wait_from later ≡ wait_from waiter → front ≡ earlier ++ last ∷ [] → Sleeps alts machine waiter input earlier
    passed_over later front earlier last after from is =
        let whole = counted_samples (input ++ front) in
        let none : NoneMet whole (alts machine) (wait_from waiter) (length whole) =
        subst (λ (n : ℕ). NoneMet whole (alts machine) n (length whole)) from (subst (λ (l : List Alt). NoneMet whole l (wait_from later) (length whole)) after.cond
        (subst (λ (n : ℕ). NoneMet whole (alts_of later) (wait_from later) n) (sym after.waits.count) after.waits.none)) in
        let m = more_items earlier (last ∷ []) in
        let total : length whole ≡ length (counted_samples (input ++ earlier) ++ m.0) = ap (λ (l : List Item). length (counted_samples (input ++ l))) is ∙ ap length m.1 in
        asleep earlier (last ∷ []) (length whole) (omega (arith, total, length-append (counted_samples (input ++ earlier)) m.0))
        (subst (λ (l : List Item). NoneMet (counted_samples (input ++ l)) (alts machine) (wait_from waiter) (length whole)) is none)

    -- items that end with a stop: the earlier ones hold none, and all of them hold one
    module _ (front : List Item) (whole : List ℕ) (at met : ℕ) (is : counted_samples (input ++ front) ≡ take (at + 1) whole) (stop : IsStop whole (alts_of waiter) (wait_from waiter) at met) where
      own_stop : IsStop whole (alts machine) (wait_from waiter) at met
      own_stop = subst (λ (l : List Alt). IsStop whole l (wait_from waiter) at met) d.cond stop

      here : length (take (at + 1) whole) ≡ at + 1
      here = length-take-le (at + 1) whole (omega (arith, stop.within))

      pub before_stop : (earlier : List Item) (last : Item) → at + 1 ≡ length list + length front → front ≡ earlier ++ last ∷ [] → Sleeps alts machine waiter input earlier
      before_stop earlier last place parts =
          let count : length front ≡ length (earlier ++ last ∷ []) = ap length parts in
          let few : length (counted_samples (input ++ earlier)) ≡ length (list ++ take (2 ^ 60 - length list) (samples_in earlier)) = ap length (counted_more input earlier) in
          let within : length (counted_samples (input ++ earlier)) ≤ at =
          omega (arith, few, length-append list (take (2 ^ 60 - length list) (samples_in earlier)), length-take (2 ^ 60 - length list) (samples_in earlier), samples_few earlier, count, length-append earlier (last ∷ []), place) in
          let long : NoneMet (take (at + 1) whole ++ drop (at + 1) whole) (alts machine) (wait_from waiter) at =
          subst (λ (l : List ℕ). NoneMet l (alts machine) (wait_from waiter) at) (sym (take-append-drop (at + 1) whole)) own_stop.first in
          let short = none_in_shorter (take (at + 1) whole) (drop (at + 1) whole) (alts machine) (wait_from waiter) at (omega (arith, here)) long in
          asleep earlier (last ∷ []) at within
          (subst (λ (l : List Item). NoneMet (counted_samples (input ++ l)) (alts machine) (wait_from waiter) at) parts (subst (λ (l : List ℕ). NoneMet l (alts machine) (wait_from waiter) at) (sym is) short))

      pub awake : ¬ Sleeps alts machine waiter input front
      awake none =
          let short : NoneMet (take (at + 1) whole) (alts machine) (wait_from waiter) (at + 1) =
          subst (λ (n : ℕ). NoneMet (take (at + 1) whole) (alts machine) (wait_from waiter) n) here (subst (λ (l : List ℕ). NoneMet l (alts machine) (wait_from waiter) (length l)) is none) in
          let long : NoneMet whole (alts machine) (wait_from waiter) (at + 1) =
          subst (λ (l : List ℕ). NoneMet l (alts machine) (wait_from waiter) (at + 1)) (take-append-drop (at + 1) whole)
          (none_in_longer (take (at + 1) whole) (drop (at + 1) whole) (alts machine) (wait_from waiter) (at + 1) (omega (arith, here)) short) in
          no_stop whole (alts machine) (wait_from waiter) (at + 1) at met long (omega arith) own_stop

    -- what doesn't count is passed over
    pub passed : (next : List Item) → counted_samples (input ++ next) ≡ list → Drives stands alts machine waiter (input ++ next) × (outs (setup machine) (counted_samples (input ++ next)) ≡ outs (setup machine) list)
    passed next is = (
      record {
        waits = subst (λ (l : List ℕ). Waits waiter l) (sym is) d.waits;
        machine_stands = subst (λ (l : List ℕ). stands machine (take (wait_from waiter) l)) (sym is) d.machine_stands;
        cond = d.cond;
      },
      ap (λ (l : List ℕ). outs (setup machine) l) is,
    )
