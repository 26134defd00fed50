-- What a decoder of a serial line that stands for samples answers.
use Rattle.std.proofs.Common.{◌≡◌, ℕ, ◌+◌, ◌≤◌, List, [], ◌∷◌, ◌++◌, take, length, Option, refl}
use Rattle.std.proofs.Common.{sym, ◌∙◌, ap, subst}
use Rattle.std.proofs.Math.Nat.{ℕ_set}
use mathlib.Core.HLevel.{is_prop→PathP}
use mathlib.Core.List.{is_set as list_set}
use Rattle.la_base.specs.Samples.{is_high}
use Rattle.la_base.specs.declared.samples.Rate.{Rate}
use Rattle.la_base.specs.declared.wires.Out.{Out}
use Rattle.la_base.specs.declared.wires.Wire.TheVariants.{Uart as UartWire}
use Rattle.wait_cond.specs.declared.alt.Alt.{Alt}
use Rattle.list_cuts.specs.Neighbours.{last_of}
use Rattle.decoder_core.specs.Promises.{GivesFrom, IsFloor, Rests, StopsIn}
use Rattle.sample_walks.specs.Walks.{Walk, walked, given, EndsThere}
use Rattle.sample_walks.specs.Outputs.{SampleOuts}
use Rattle.sample_walks.specs.laws.WalkLaws.{walked_fits, outs_nothing, outs_prefix, outs_few}
use Rattle.sample_walks.specs.laws.WalkLaws.{outs_order}
use Rattle.sample_walks.specs.laws.HeldLaws.{held_quiet, held_one_stop, held_floor, held_near}
use Rattle.sample_walks.specs.laws.HeldLaws.{held_packets}
use Rattle.sample_walks.specs.laws.HeldLaws.{Stopped, held_stop}
use Rattle.dec_uart.specs.declared.held.Held.{Held}
use Rattle.dec_uart.specs.declared.held.Line.{Line}
use Rattle.dec_uart.specs.declared.held.Uart.{Uart}
use Rattle.dec_uart.specs.declared.options.UartOpts.{UartOpts}
use Rattle.dec_uart.specs.Frames.{last_bit, points_of, shape_of, uart_outs, uart_near}
use Rattle.dec_uart.specs.Opening.{line_of, alts_of, StandsFor}
use Rattle.dec_uart.specs.Ranges.{InRange, FastEnough}
use Rattle.dec_uart.specs.laws.Grown.{outs_walked, near_walked}
use Rattle.dec_uart.specs.laws.Holding.{alt_same, near_same, outs_same, held_same}
use Rattle.dec_uart.specs.laws.LineLaws.{first_bit, bits_rise, uart_on_wire, uart_sound}
use Rattle.dec_uart.specs.laws.Machine.{Kept, line_walk, line_near, held_of, held_alt as alt_of}
use Rattle.dec_uart.specs.laws.Machine.{held_near as near_by, stop_outs, stop_held}
use Rattle.dec_uart.specs.laws.Sound.{line_fits, line_timed}

-- options in range, at a rate that is high enough
module _ (opts : UartOpts) (rate : Rate) {most : ℕ} (ranges : InRange most opts)
    (fast : FastEnough opts rate) where
  abbrev walk : Walk Kept
  walk = line_walk (shape_of opts rate)

  abbrev fits : Kept → ℕ → Option ℕ → Type 0
  fits = line_fits (shape_of opts rate)

  abbrev timed : Kept → ℕ → Type 0
  timed = line_timed (shape_of opts rate)

  same : (list : List ℕ) → uart_outs opts rate list ≡ given walk list
  same = outs_walked (shape_of opts rate) (first_bit opts rate ranges fast)
      (bits_rise opts rate ranges fast)

  same_near : (list : List ℕ)
      → uart_near opts rate list ≡ line_near (walked walk list) (length list)
  same_near =
      near_walked (shape_of opts rate) (first_bit opts rate ranges fast)
      (bits_rise opts rate ranges fast)

  pub uart_promises : SampleOuts UartWire (uart_outs opts rate)
  uart_promises =
      let sound = uart_sound opts rate ranges fast in
      let outs = uart_outs opts rate in
      record {
        nothing = outs_nothing walk fits timed sound outs same;
        prefix = outs_prefix walk fits timed sound outs same;
        order = outs_order walk fits timed sound outs same;
        few = outs_few walk fits timed sound outs same;
        on_wire = uart_on_wire opts rate;
      }

  kept_fits : (list : List ℕ) → fits (walked walk list) (length list) (last_of list)
  kept_fits = walked_fits walk fits timed (uart_sound opts rate ranges fast)

  -- what a decoder waits for is what the walk does
  alt_is : (list : List ℕ) → walk.alts (walked walk list)
      ≡ alt_of opts rate (held_of (shape_of opts rate) (walked walk list)) ∷ []
  alt_is list =
      ap (λ (a : Alt). a ∷ [])
      (alt_same opts rate ranges.stop.0 (walked walk list) (length list) (last_of list)
      (kept_fits list))

  module _ (held : Held) (seen more : List ℕ) (ends : EndsThere walk seen)
      (is : held ≡ held_of (shape_of opts rate) (walked walk seen)) where
    alts_are : alt_of opts rate held ∷ [] ≡ walk.alts (walked walk seen)
    alts_are = ap (λ (h : Held). alt_of opts rate h ∷ []) is ∙ sym (alt_is seen)

    module _ (none : Rests (alt_of opts rate held ∷ []) seen more) where
      none_then : Rests (walk.alts (walked walk seen)) seen more
      none_then = subst (λ (alts : List Alt). Rests alts seen more) alts_are none

      pub quiet_is : uart_outs opts rate (seen ++ more) ≡ uart_outs opts rate seen
      quiet_is =
          held_quiet walk fits timed (uart_sound opts rate ranges fast) (uart_outs opts rate) same
          (walked walk seen) seen more ends refl none_then

      pub one_stop_is : EndsThere walk (seen ++ more) → more ≡ []
      one_stop_is =
          held_one_stop walk fits timed (uart_sound opts rate ranges fast)
          (uart_outs opts rate) same (walked walk seen) seen more ends refl none_then

      module _ (count result : ℕ) (count_is : count ≡ length (seen ++ more))
          (result_is : result ≡ near_by held count) where
        near_is : result ≡ line_near (walked walk seen) count
        near_is =
            result_is ∙ ap (λ (h : Held). near_by h count) is
            ∙ sym (near_same opts rate ranges.stop.0 (walked walk seen) count)

        pub floor_is : IsFloor (uart_outs opts rate) (seen ++ more) result
        floor_is =
            held_floor walk fits timed (uart_sound opts rate ranges fast) (uart_outs opts rate) same
            (walked walk seen) seen more ends refl none_then count result count_is near_is

        pub packets_are : GivesFrom (uart_outs opts rate) (seen ++ more) result
        packets_are =
            held_packets walk fits timed (uart_sound opts rate ranges fast) (uart_outs opts rate)
            same (walked walk seen) seen more ends refl none_then count result count_is near_is

        pub near_below : uart_near opts rate (seen ++ more) ≤ result
        near_below =
            held_near walk fits timed (uart_sound opts rate ranges fast) (uart_outs opts rate) same
            (walked walk seen) seen more ends refl none_then count result count_is near_is
            (uart_near opts rate) same_near

    module _ (at value met : ℕ)
        (s : StopsIn (alt_of opts rate held ∷ []) seen more at value met) where
      stop : Stopped walk fits (uart_outs opts rate) (walked walk seen) seen
          (seen ++ more) at value met
      stop = held_stop walk fits timed (uart_sound opts rate ranges fast) (uart_outs opts rate) same
          (walked walk seen) seen more ends refl at value met
          (subst (λ (alts : List Alt). StopsIn alts seen more at value met) alts_are s)

      pub loud_is : (earlier into : List Out)
          → into ≡ earlier ++ stop_outs opts rate held at (is_high value opts.rx)
          → (new : List Out) × (into ≡ earlier ++ new)
          × (uart_outs opts rate (take (at + 1) (seen ++ more))
          ≡ uart_outs opts rate seen ++ new)
      loud_is earlier into told = (
        stop_outs opts rate held at (is_high value opts.rx),
        told,
        stop.gives
            ∙ ap (λ (l : List Out). uart_outs opts rate seen ++ l)
            (outs_same opts rate ranges.stop.0
            (walked walk seen) at stop.before value stop.fit stop.moves
            ∙ ap (λ (h : Held). stop_outs opts rate h at (is_high value opts.rx)) (sym is)),
      )

      pub stands_there : (new : Held) → new ≡ stop_held opts held at (is_high value opts.rx)
          → EndsThere walk (take (at + 1) (seen ++ more))
          × (new ≡ held_of (shape_of opts rate) (walked walk (take (at + 1) (seen ++ more))))
      stands_there new kept = (
        stop.ends,
        kept
            ∙ ap (λ (h : Held). stop_held opts h at (is_high value opts.rx)) is
            ∙ sym (held_same opts rate ranges.stop.0
            (walked walk seen) at stop.before value stop.fit stop.moves)
            ∙ ap (held_of (shape_of opts rate)) stop.keeps,
      )

-- decoders with equal lines that hold the same are equal: the line says the rest
same_uart : (one other : Uart) → line_of one ≡ line_of other → one.held ≡ other.held → one ≡ other
same_uart one other line held =
    let points : one.points ≡ other.points =
    one.points_are ∙ ap (λ (l : Line). points_of l.opts l.rate) line ∙ sym other.points_are in
    let last : one.last ≡ other.last =
    one.last_is ∙ ap (λ (l : Line). last_bit l.opts) line ∙ sym other.last_is in
    λ i. record {
      line = line i;
      held = held i;
      points = points i;
      last = last i;
      points_are = is_prop→PathP (λ j. points j ≡ points_of (line j).opts (line j).rate)
          (λ j. list_set ℕ_set (points j) (points_of (line j).opts (line j).rate)) one.points_are
          other.points_are i;
      last_is = is_prop→PathP (λ j. last j ≡ last_bit (line j).opts)
          (λ j. ℕ_set (last j) (last_bit (line j).opts)) one.last_is other.last_is i;
    }

pub one_uart : (one other : Uart) (list : List ℕ) → line_of one ≡ line_of other → StandsFor one list
    → StandsFor other list → one ≡ other
one_uart one other list same stands also =
    let held : one.held ≡ other.held =
    stands.1 ∙ (λ i. held_of (shape_of (same i).opts (same i).rate)
    (walked (line_walk (shape_of (same i).opts (same i).rate)) list)) ∙ sym also.1 in
    same_uart one other same held

pub uart_quiet : (machine : Uart) (seen more : List ℕ) → StandsFor machine seen
    → Rests (alts_of machine) seen more → uart_outs machine.line.opts machine.line.rate
    (seen ++ more) ≡ uart_outs machine.line.opts machine.line.rate seen
uart_quiet machine seen more stands none =
    quiet_is machine.line.opts machine.line.rate machine.line.in_range machine.line.fast
    machine.held seen more stands.0 stands.1 none

pub uart_one_stop : (one other : Uart) (seen more : List ℕ) → line_of one ≡ line_of other
    → StandsFor one seen → StandsFor other (seen ++ more) → Rests (alts_of one) seen more
    → more ≡ []
uart_one_stop one other seen more setups stands also none =
    one_stop_is one.line.opts one.line.rate one.line.in_range one.line.fast one.held seen more
    stands.0 stands.1 none
    (subst (λ (own : Line). EndsThere (line_walk (shape_of own.opts own.rate)) (seen ++ more))
    (sym setups) also.0)
