-- The walk over a line is sound.
use Rattle.std.proofs.Common.{◌≡◌, inl, inr, ◌⊎◌, ℕ, ◌+◌, ◌≤◌, Bool, true, false, List, [], ◌∷◌}
use Rattle.std.proofs.Common.{length, Option, Some, None, refl, sym, ◌∙◌, ap, subst, arith}
use Rattle.std.specs.Prelude.{min}
use Rattle.std.proofs.Math.Nat.{le_refl}
use Rattle.std.proofs.lemmas.Bool.{true≢false}
use Rattle.std.proofs.lemmas.Nat.Bits.{bit_at-pow_same}
use Rattle.la_base.specs.Samples.{is_high}
use Rattle.la_base.specs.declared.wires.Wire.TheVariants.{OwLink as LinkWire}
use Rattle.wait_cond.specs.Meets.{Rises, Falls, MeetsAt}
use Rattle.decoder_core.specs.Promises.{NotesFrom, PacketsOn, packet_starts}
use Rattle.sample_walks.specs.Walks.{Between}
use Rattle.sample_walks.specs.Events.{is_some_event, SoundEvents}
use Rattle.sample_walks.specs.laws.AltLaws.{no_line, at_line, high_is, high_bit, low_is, low_bit}
use Rattle.sample_walks.specs.laws.AltLaws.{alone_none, alone_some}
use Rattle.dec_onewire.specs.declared.link.held.Held.{Held}
use Rattle.dec_onewire.specs.declared.link.options.Lengths.{Lengths}
use Rattle.dec_onewire.specs.Link.{Edge, To, Signal, Reset, Presence, Bit, edge_by, edge_at}
use Rattle.dec_onewire.specs.Link.{signal_outs, open_at}
use Rattle.dec_onewire.specs.laws.LinkMachine.{edge_alt, signal_by, rise_gives, gives, next}
use Rattle.dec_onewire.specs.laws.LinkMachine.{near_by, link_walk}

no_edge : (es : List Edge) → is_some_event es ≡ false → es ≡ []
no_edge [] none = refl
no_edge (e ∷ es) none = absurd (true≢false none)

-- the edges of a line
module _ (line q : ℕ) (before : Option ℕ) (now : ℕ) where
  abbrev is_edge : Bool
  is_edge = is_some_event (edge_at line q before now)

  -- where there is an edge, it stands at its sample with the level there
  some_edge : is_edge ≡ true → edge_at line q before now ≡ To q (is_high now line) ∷ []
  some_edge edge = from before edge
    where
      by : (was is : Bool) → is_some_event (edge_by q was is) ≡ true
          → edge_by q was is ≡ To q is ∷ []
      by false true some = refl
      by true false some = refl
      by false false some = absurd (true≢false (sym some))
      by true true some = absurd (true≢false (sym some))

      from : (b : Option ℕ) → is_some_event (edge_at line q b now) ≡ true
          → edge_at line q b now ≡ To q (is_high now line) ∷ []
      from None some = absurd (true≢false (sym some))
      from (Some own) some = by (is_high own line) (is_high now line) some

  one_edge : (edge_at line q before now ≡ []) ⊎ ((e : Edge) × (edge_at line q before now ≡ e ∷ []))
  one_edge = by is_edge refl
    where
      by : (b : Bool) → is_edge ≡ b
          → (edge_at line q before now ≡ []) ⊎ ((e : Edge) × (edge_at line q before now ≡ e ∷ []))
      by true some = inr (To q (is_high now line), some_edge some)
      by false none = inl (no_edge (edge_at line q before now) none)

  some_is : (e : Edge) → edge_at line q before now ≡ e ∷ [] → To q (is_high now line) ∷ [] ≡ e ∷ []
  some_is e is = sym (some_edge (ap (λ (es : List Edge). is_some_event es) is)) ∙ is

  -- a line that rises or falls has one, and the other way round
  moves_here : is_edge ≡ true → Rises before now line ⊎ Falls before now line
  moves_here edge = by before edge
    where
      at : (was : ℕ) (x y : Bool) → is_high was line ≡ x → is_high now line ≡ y
          → is_some_event (edge_by q x y) ≡ true
          → Rises (Some was) now line ⊎ Falls (Some was) now line
      at was false true low high some = inl (low_bit was line low, high_bit now line high)
      at was true false high low some = inr (high_bit was line high, low_bit now line low)
      at was false false low also some = absurd (true≢false (sym some))
      at was true true high also some = absurd (true≢false (sym some))

      by : (b : Option ℕ) → is_some_event (edge_at line q b now) ≡ true
          → Rises b now line ⊎ Falls b now line
      by None some = absurd (true≢false (sym some))
      by (Some was) some = at was (is_high was line) (is_high now line) refl refl some

  edge_here : Rises before now line ⊎ Falls before now line → is_edge ≡ true
  edge_here moves = by before moves
    where
      by : (b : Option ℕ) → Rises b now line ⊎ Falls b now line
          → is_some_event (edge_at line q b now) ≡ true
      by None some = elim some [ inl up ↦ absurd up | inr down ↦ absurd down ]
      by (Some was) some = elim some [
        | inl up ↦
            (λ i. is_some_event (edge_by q (low_is was line up.0 i) (high_is now line up.1 i)))
        | inr down ↦
            (λ i. is_some_event (edge_by q (high_is was line down.0 i) (low_is now line down.1 i)))
      ]

  -- which is what the alternative asks for
  module _ (from : ℕ) where
    edge_meets : is_edge ≡ true → MeetsAt (edge_alt line) before now from q
    edge_meets edge = record {
      lines = record {
        low = λ own one. no_line own one;
        high = λ own one. no_line own one;
        rise = λ own one. no_line own one;
        fall = λ own one. no_line own one;
        edge = at_line line (λ own. Rises before now own ⊎ Falls before now own) (moves_here edge);
        steady = λ own one. no_line own one;
      };
      skipped = λ some. absurd (some refl);
    }

    meets_edge : MeetsAt (edge_alt line) before now from q → is_edge ≡ true
    meets_edge meets = edge_here (meets.lines.edge line (bit_at-pow_same line))

-- the pulse that is open has begun before
abbrev Below : Option ℕ → ℕ → Type 0
Below None q = Unit {0}
Below (Some fall) q = fall ≤ q

abbrev pub link_fits : Held → ℕ → Option ℕ → Type 0
link_fits h q before = Below h.fall q

below_on : (fall : Option ℕ) (q : ℕ) → Below fall q → Below fall (q + 1)
below_on None q below = tt
below_on (Some f) q below = omega (arith, below)

open_on : (fall : Option ℕ) (q : ℕ) → Below fall q → open_at fall q ≤ open_at fall (q + 1)
open_on None q below = omega arith
open_on (Some f) q below = le_refl f

open_most : (fall : Option ℕ) (q : ℕ) → Below fall q → open_at fall q ≤ q
open_most None q below = le_refl q
open_most (Some f) q below = below

-- what a pulse gives
few_of : (f k : ℕ) (s : Signal) → length (signal_outs f k s) ≤ 16
few_of f k Reset = omega arith
few_of f k Presence = omega arith
few_of f k (Bit bit) = omega arith

least : (f q : ℕ) → f ≤ q → f ≤ min f q
least f q below = omega (arith, below)

most : (f q : ℕ) → min f q ≤ q + 1
most f q = omega arith

notes_of : (f q : ℕ) (s : Signal) → f ≤ q → NotesFrom f (signal_outs f q s)
notes_of f q Reset below = (least f q below, tt)
notes_of f q Presence below = (least f q below, tt)
notes_of f q (Bit bit) below = (least f q below, tt)

packets_of : (f q : ℕ) (s : Signal) → f ≤ q → Between f (q + 1) (packet_starts (signal_outs f q s))
packets_of f q Reset below = (least f q below, most f q)
packets_of f q Presence below = (least f q below, most f q)
packets_of f q (Bit bit) below = (least f q below, most f q)

on_of : (f q : ℕ) (s : Signal) → PacketsOn LinkWire (signal_outs f q s)
on_of f q Reset = (refl, tt)
on_of f q Presence = (refl, tt)
on_of f q (Bit bit) = (refl, tt)

module _ (lengths : Lengths) where
  rise_few : (fall reset_end : Option ℕ) (k : ℕ) → length (rise_gives lengths fall reset_end k) ≤ 16
  rise_few None reset_end k = omega arith
  rise_few (Some f) reset_end k = few_of f k (signal_by lengths reset_end f k)

  gives_few : (h : Held) (e : Edge) → length (gives lengths h e) ≤ 16
  gives_few h (To k true) = rise_few h.fall h.reset_end k
  gives_few h (To k false) = omega arith

  rise_notes : (fall reset_end : Option ℕ) (q : ℕ) → Below fall q
      → NotesFrom (open_at fall q) (rise_gives lengths fall reset_end q)
  rise_notes None reset_end q below = tt
  rise_notes (Some f) reset_end q below = notes_of f q (signal_by lengths reset_end f q) below

  rise_packets : (fall reset_end : Option ℕ) (q : ℕ) → Below fall q
      → Between (open_at fall q) (q + 1) (packet_starts (rise_gives lengths fall reset_end q))
  rise_packets None reset_end q below = omega arith
  rise_packets (Some f) reset_end q below = packets_of f q (signal_by lengths reset_end f q) below

  rise_on : (fall reset_end : Option ℕ) (q : ℕ)
      → PacketsOn LinkWire (rise_gives lengths fall reset_end q)
  rise_on None reset_end q = tt
  rise_on (Some f) reset_end q = on_of f q (signal_by lengths reset_end f q)

  gives_on : (h : Held) (e : Edge) → PacketsOn LinkWire (gives lengths h e)
  gives_on h (To k true) = rise_on h.fall h.reset_end k
  gives_on h (To k false) = tt

  notes_at : (h : Held) (q : ℕ) (level : Bool) → Below h.fall q
      → NotesFrom (near_by h q) (gives lengths h (To q level))
  notes_at h q true below = rise_notes h.fall h.reset_end q below
  notes_at h q false below = tt

  packets_at : (h : Held) (q : ℕ) (level : Bool) → Below h.fall q
      → Between (near_by h q) (near_by (next lengths h (To q level)) (q + 1))
      (packet_starts (gives lengths h (To q level)))
  packets_at h q true below = rise_packets h.fall h.reset_end q below
  packets_at h q false below = open_most h.fall q below

  fits_at : (h : Held) (q : ℕ) (level : Bool) → Below (next lengths h (To q level)).fall (q + 1)
  fits_at h q true = tt
  fits_at h q false = omega arith

  module _ (line : ℕ) where
    head_is : (P : Edge → Type 0) (q : ℕ) (before : Option ℕ) (now : ℕ) (e : Edge)
        → edge_at line q before now ≡ e ∷ [] → P (To q (is_high now line)) → P e
    head_is P q before now e is has = subst P (ap first (some_is line q before now e is)) has
      where
        first : List Edge → Edge
        first [] = e
        first (x ∷ xs) = x

    pub link_events : SoundEvents (link_walk line lengths) link_fits
    link_events = record {
      one = one_edge line;
      begin_fits = tt;
      fits_on = λ h q before now fit none. below_on h.fall q fit;
      next_fits =
          λ h q before now e fit is. head_is (λ (x : Edge). Below (next lengths h x).fall (q + 1)) q
          before now e is (fits_at h q (is_high now line));
      none = λ h q before now from fit set. no_edge (edge_at line q before now)
          (alone_none (edge_alt line) before now from q 0 (is_edge line q before now)
          (edge_meets line q before now from) (meets_edge line q before now from) set);
      some = λ h q before now from met fit set some.
          some_edge line q before now
          (alone_some (edge_alt line) before now from q met (is_edge line q before now)
          (edge_meets line q before now from) (meets_edge line q before now from) set some);
      few = gives_few;
      near_on = λ h q before fit. open_on h.fall q fit;
      notes = λ h q before now e fit is. head_is
          (λ (x : Edge). NotesFrom (near_by h q) (gives lengths h x)) q before now e is
          (notes_at h q (is_high now line) fit);
      packets =
          λ h q before now e fit is. head_is
          (λ (x : Edge). Between (near_by h q) (near_by (next lengths h x) (q + 1))
          (packet_starts (gives lengths h x))) q before now e is
          (packets_at h q (is_high now line) fit);
      on_wire = gives_on;
    }
