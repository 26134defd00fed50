-- The laws of edges: their walk is sound, and gives what the definition gives.
use Rattle.std.proofs.Common.{◌≡◌, inl, inr, ◌⊎◌, ℕ, ◌+◌, Bool, true, false, List, [], ◌∷◌, length}
use Rattle.std.proofs.Common.{Option, Some, None, refl, sym, ◌∙◌, ap, subst, arith}
use Rattle.std.proofs.Math.Nat.{le_refl}
use Rattle.std.proofs.lemmas.Bool.{true≢false}
use Rattle.std.proofs.lemmas.List.{map-append}
use Rattle.std.proofs.lemmas.Nat.Bits.{bit_at-pow_same}
use Rattle.la_base.specs.Samples.{is_high}
use Rattle.la_base.specs.declared.wires.Wire.TheVariants.{Nothing}
use Rattle.wait_cond.specs.Meets.{Rises, Falls, MeetsAt}
use Rattle.decoder_core.specs.Promises.{NotesFrom, PacketsOn, packet_starts}
use Rattle.sample_walks.specs.Walks.{Between, given}
use Rattle.sample_walks.specs.Events.{is_some_event, by_events, SoundEvents, PushedEvents}
use Rattle.sample_walks.specs.Edges.{Edge, To, edge_by, edge_at, edge_note, notes_of, edge_notes}
use Rattle.sample_walks.specs.Edges.{edge_alt, edge_walk}
use Rattle.sample_walks.specs.laws.AltLaws.{no_line, at_line, high_is, high_bit, low_is, low_bit}
use Rattle.sample_walks.specs.laws.AltLaws.{alone_none, alone_some}
use Rattle.sample_walks.specs.laws.EventWalks.{events_given}
use Rattle.sample_walks.specs.laws.EventDecoders.{EventDecoder}

-- where there is an edge, it stands at its sample with the level there
some_edge : (q : ℕ) (before : Option ℕ) (now : ℕ) → is_some_event (edge_at q before now) ≡ true
    → edge_at q before now ≡ To q (is_high now 0) ∷ []
some_edge q None now some = absurd (true≢false (sym some))
some_edge q (Some before) now some = by (is_high before 0) (is_high now 0) some
  where
    by : (was is : Bool) → is_some_event (edge_by q was is) ≡ true → edge_by q was is ≡ To q is ∷ []
    by false true some = refl
    by true false some = refl
    by false false some = absurd (true≢false (sym some))
    by true true some = absurd (true≢false (sym some))

no_edge : (es : List Edge) → is_some_event es ≡ false → es ≡ []
no_edge [] none = refl
no_edge (e ∷ es) none = absurd (true≢false none)

-- a line that rises or falls has an edge, and the other way round
module _ (q : ℕ) (before : Option ℕ) (now : ℕ) where
  abbrev is_edge : Bool
  is_edge = is_some_event (edge_at q before now)

  moves_here : is_edge ≡ true → Rises before now 0 ⊎ Falls before now 0
  moves_here edge = by before edge
    where
      at : (was : ℕ) (x y : Bool) → is_high was 0 ≡ x → is_high now 0 ≡ y
          → is_some_event (edge_by q x y) ≡ true → Rises (Some was) now 0 ⊎ Falls (Some was) now 0
      at was false true low high some = inl (low_bit was 0 low, high_bit now 0 high)
      at was true false high low some = inr (high_bit was 0 high, low_bit now 0 low)
      at was false false low also some = absurd (true≢false (sym some))
      at was true true high also some = absurd (true≢false (sym some))

      by : (b : Option ℕ) → is_some_event (edge_at q b now) ≡ true → Rises b now 0 ⊎ Falls b now 0
      by None some = absurd (true≢false (sym some))
      by (Some was) some = at was (is_high was 0) (is_high now 0) refl refl some

  edge_here : Rises before now 0 ⊎ Falls before now 0 → is_edge ≡ true
  edge_here moves = by before moves
    where
      by : (b : Option ℕ) → Rises b now 0 ⊎ Falls b now 0 → is_some_event (edge_at q b now) ≡ true
      by None some = elim some [ inl up ↦ absurd up | inr down ↦ absurd down ]
      by (Some was) some = elim some [
        | inl up ↦ (λ i. is_some_event (edge_by q (low_is was 0 up.0 i) (high_is now 0 up.1 i)))
        | inr down ↦
            (λ i. is_some_event (edge_by q (high_is was 0 down.0 i) (low_is now 0 down.1 i)))
      ]

  -- which is what the alternative asks for
  module _ (from : ℕ) where
    edge_meets : is_edge ≡ true → MeetsAt edge_alt before now from q
    edge_meets edge = record {
      lines = record {
        low = λ line one. no_line line one;
        high = λ line one. no_line line one;
        rise = λ line one. no_line line one;
        fall = λ line one. no_line line one;
        edge = at_line 0 (λ line. Rises before now line ⊎ Falls before now line) (moves_here edge);
        steady = λ line one. no_line line one;
      };
      skipped = λ some. absurd (some refl);
    }

    meets_edge : MeetsAt edge_alt before now from q → is_edge ≡ true
    meets_edge meets = edge_here (meets.lines.edge 0 (bit_at-pow_same 0))

abbrev fits : Unit {0} → ℕ → Option ℕ → Type 0
fits h q before = Unit {0}

one_edge : (q : ℕ) (before : Option ℕ) (now : ℕ)
    → (edge_at q before now ≡ []) ⊎ ((e : Edge) × (edge_at q before now ≡ e ∷ []))
one_edge q before now = by (is_edge q before now) refl
  where
    by : (b : Bool) → is_edge q before now ≡ b
        → (edge_at q before now ≡ []) ⊎ ((e : Edge) × (edge_at q before now ≡ e ∷ []))
    by true some = inr (To q (is_high now 0), some_edge q before now some)
    by false none = inl (no_edge (edge_at q before now) none)

some_is : (q : ℕ) (before : Option ℕ) (now : ℕ) (e : Edge) → edge_at q before now ≡ e ∷ []
    → To q (is_high now 0) ∷ [] ≡ e ∷ []
some_is q before now e is =
    sym (some_edge q before now (ap (λ (es : List Edge). is_some_event es) is)) ∙ is

note_on : (h : Unit {0}) (e : Edge) → PacketsOn Nothing (edge_note e ∷ [])
note_on h (To at level) = tt

pub edges_sound : SoundEvents edge_walk fits
edges_sound = record {
  one = one_edge;
  begin_fits = tt;
  fits_on = λ h q before now fit none. tt;
  next_fits = λ h q before now e fit is. tt;
  none = λ h q before now from fit set. no_edge (edge_at q before now)
      (alone_none edge_alt before now from q 0 (is_edge q before now) (edge_meets q before now from)
      (meets_edge q before now from) set);
  some = λ h q before now from met fit set some.
      some_edge q before now
      (alone_some edge_alt before now from q met (is_edge q before now)
      (edge_meets q before now from) (meets_edge q before now from) set some);
  few = λ h e. omega arith;
  near_on = λ h q before fit. omega arith;
  notes = λ h q before now e fit is. subst (λ (es : List Edge). NotesFrom q (notes_of es))
      (some_is q before now e is) (le_refl q, tt);
  packets =
      λ h q before now e fit is. subst
      (λ (es : List Edge). Between q (q + 1) (packet_starts (notes_of es)))
      (some_is q before now e is) (omega arith);
  on_wire = note_on;
}

edges_pushed : PushedEvents edge_walk notes_of (λ es. tt)
edges_pushed = record {
  no_outs = refl;
  no_kept = refl;
  outs_push = λ es e. map-append edge_note es (e ∷ []);
  kept_push = λ es e. refl;
}

pub edges_given : (list : List ℕ) → edge_notes list ≡ given (by_events edge_walk) list
unfolding edge_notes
edges_given list = events_given edge_walk notes_of (λ es. tt) edges_pushed list

abbrev pub edges : EventDecoder (Unit {0}) Edge
edges = record {
  walk = edge_walk;
  fits = fits;
  sound = edges_sound;
  outs = edge_notes;
  given_is = edges_given;
  near = length;
  near_is = λ list. refl;
}
