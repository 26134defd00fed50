-- One more edge: what the whole list of edges gives is what the state says that the edges before it
-- left.
use Rattle.std.proofs.Common.{◌≡◌, ℕ, Bool, true, false, if◌then◌else◌, List, [], ◌∷◌, ◌++◌, length}
use Rattle.std.proofs.Common.{Option, Some, None, refl, ◌∙◌, ap}
use Rattle.std.specs.Prelude.{◌-◌, nat_le, nat_lt, ◌&&◌}
use Rattle.std.proofs.lemmas.List.{append-nil}
use Rattle.list_cuts.specs.Neighbours.{neighbours_from, last_of}
use Rattle.list_cuts.proofs.NeighbourLaws.{at_neighbours_append, at_neighbours_push, last_from_push}
use Rattle.la_base.specs.declared.wires.Out.{Out}
use Rattle.sample_walks.specs.Events.{PushedEvents}
use Rattle.dec_onewire.specs.declared.link.held.Held.{Held}
use Rattle.dec_onewire.specs.declared.link.options.Lengths.{Lengths}
use Rattle.dec_onewire.specs.Link.{Edge, To, Pulse, Signal, Reset, Presence, Bit, pulse_at, pulses}
use Rattle.dec_onewire.specs.Link.{is_reset, answers, signal_of, signal_outs, pulse_outs}
use Rattle.dec_onewire.specs.Link.{edges_outs, fall_of}
use Rattle.dec_onewire.specs.laws.LinkMachine.{answers_by, signal_by, gives, next, end_of}
use Rattle.dec_onewire.specs.laws.LinkMachine.{held_after, link_walk}

abbrev kept : Option ℕ → Option ℕ → Held
kept fall reset_end = record { fall = fall; reset_end = reset_end }

module _ (line : ℕ) (lengths : Lengths) where
  answers_same : (before : Option Pulse) (pulse : Pulse)
      → answers lengths before pulse ≡ answers_by lengths (end_of lengths before) pulse.fall
  answers_same None pulse = refl
  answers_same (Some before) pulse = by (is_reset lengths before)
    where
      by : (t : Bool) → (t && nat_le (pulse.fall - before.rise) lengths.window)
          ≡ answers_by lengths (if t then Some before.rise else None) pulse.fall
      by true = refl
      by false = refl

  signal_same : (before : Option Pulse) (pulse : Pulse)
      → signal_of lengths before pulse
      ≡ signal_by lengths (end_of lengths before) pulse.fall pulse.rise
  signal_same before pulse =
      ap (λ (t : Bool). if is_reset lengths pulse then Reset else if t then Presence
      else Bit (nat_lt (pulse.rise - pulse.fall) lengths.bit)) (answers_same before pulse)

  -- an edge gives what the pulse gives that it ends
  gives_is : (place n : ℕ) (last : Option Edge) (before : Option Pulse) (e : Edge)
      → neighbours_from (pulse_outs lengths) n before (pulse_at place last e)
      ≡ gives lengths (kept (fall_of last) (end_of lengths before)) e
  gives_is place n None before (To k true) = refl
  gives_is place n None before (To k false) = refl
  gives_is place n (Some (To f true)) before (To k true) = refl
  gives_is place n (Some (To f true)) before (To k false) = refl
  gives_is place n (Some (To f false)) before (To k false) = refl
  gives_is place n (Some (To f false)) before (To k true) =
      append-nil (signal_outs f k (signal_of lengths before (record { fall = f; rise = k })))
      ∙ ap (λ (s : Signal). signal_outs f k s) (signal_same before (record { fall = f; rise = k }))

  -- and leaves it as the last one
  kept_is : (place : ℕ) (last : Option Edge) (ps : List Pulse) (e : Edge)
      → kept (fall_of (Some e)) (end_of lengths (last_of (ps ++ pulse_at place last e)))
      ≡ next lengths (kept (fall_of last) (end_of lengths (last_of ps))) e
  kept_is place last ps e = by last e
    where
      same : (fall : Option ℕ) → kept fall (end_of lengths (last_of (ps ++ [])))
          ≡ kept fall (end_of lengths (last_of ps))
      same fall = ap (λ (l : List Pulse). kept fall (end_of lengths (last_of l))) (append-nil ps)

      by : (l : Option Edge) (e : Edge) → kept (fall_of (Some e))
          (end_of lengths (last_of (ps ++ pulse_at place l e)))
          ≡ next lengths (kept (fall_of l) (end_of lengths (last_of ps))) e
      by None (To k true) = same None
      by None (To k false) = same (Some k)
      by (Some (To f true)) (To k true) = same None
      by (Some (To f true)) (To k false) = same (Some k)
      by (Some (To f false)) (To k false) = same (Some k)
      by (Some (To f false)) (To k true) =
          ap (λ (p : Option Pulse). kept None (end_of lengths p))
          (last_from_push ps (record { fall = f; rise = k }) None)

  outs_push : (es : List Edge) (e : Edge) → edges_outs lengths (es ++ e ∷ [])
      ≡ edges_outs lengths es ++ gives lengths (held_after lengths es) e
  outs_push es e =
      ap (λ (ps : List Pulse). neighbours_from (pulse_outs lengths) 0 None ps)
      (at_neighbours_push pulse_at es e)
      ∙ at_neighbours_append (pulse_outs lengths) (pulses es) (pulse_at (length es) (last_of es) e)
      ∙ ap (λ (l : List Out). edges_outs lengths es ++ l)
      (gives_is (length es) (length (pulses es)) (last_of es) (last_of (pulses es)) e)

  kept_push : (es : List Edge) (e : Edge)
      → held_after lengths (es ++ e ∷ []) ≡ next lengths (held_after lengths es) e
  kept_push es e =
      (λ i. kept (fall_of (last_from_push es e None i))
      (end_of lengths (last_of (at_neighbours_push pulse_at es e i))))
      ∙ kept_is (length es) (last_of es) (pulses es) e

  pub link_pushed : PushedEvents (link_walk line lengths) (edges_outs lengths) (held_after lengths)
  link_pushed =
      record { no_outs = refl; no_kept = refl; outs_push = outs_push; kept_push = kept_push }
