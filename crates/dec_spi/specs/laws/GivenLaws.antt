-- What an event gives: how much, from where on, and on which wire.
use Rattle.std.proofs.Common.{◌≡◌, ℕ, zero, suc, ◌+◌, ◌≤◌, ◌/◌, min, Bool, true, false, List, []}
use Rattle.std.proofs.Common.{◌∷◌, ◌++◌, length, map, Option, Some, None, refl, sym, ◌∙◌, ap, subst}
use Rattle.std.proofs.Common.{arith, if◌then◌else◌, ◌==◌, length-append}
use Rattle.std.specs.Prelude.{nat_lt}
use Rattle.std.proofs.Math.Nat.{le_refl, le-min, min-eq_left}
use Rattle.std.proofs.lemmas.List.{length-map}
use Rattle.std.proofs.lemmas.Bool.Decides.{nat_tests}
use Rattle.la_base.specs.declared.wires.Out.{Out}
use Rattle.la_base.specs.declared.wires.PacketKind.TheVariants.{SpiWord}
use Rattle.la_base.specs.declared.wires.Wire.TheVariants.{Spi as SpiWire}
use Rattle.list_cuts.proofs.TestLaws.{when_no}
use Rattle.decoder_core.specs.Outputs.{span_piece, span_packet}
use Rattle.decoder_core.specs.Promises.{NotesFrom, PacketsOn, packet_starts}
use Rattle.decoder_core.specs.laws.OutLaws.{NotesFrom-append, PacketsOn-append}
use Rattle.decoder_core.specs.laws.OutLaws.{packet_starts-append}
use Rattle.sample_walks.specs.Walks.{Between}
use Rattle.dec_spi.specs.declared.held.Held.{Held}
use Rattle.dec_spi.specs.declared.held.Held.TheVariants.{Fresh, Outside, Inside}
use Rattle.dec_spi.specs.declared.options.SpiOpts.{SpiOpts}
use Rattle.dec_spi.specs.Bus.{Event, Select, Deselect, Clock, is_low_first, bytes_of, pieces}
use Rattle.dec_spi.specs.Bus.{word_outs}
use Rattle.dec_spi.specs.laws.Machine.{with_bit, inside, begun, start_of, clock_gives, clock_next}
use Rattle.dec_spi.specs.laws.Machine.{gives, near_by}

-- the pieces of a word: at most four, and no notes and packets
bytes_len : (n number : ℕ) → length (bytes_of n number) ≡ n
bytes_len zero number = refl
bytes_len (suc n) number = let on = bytes_len n number in omega (arith, on)

module _ (class first last : ℕ) where
  abbrev piece : ℕ → Out
  piece byte = span_piece class first last byte

  map_notes : (p : ℕ) (bytes : List ℕ) → NotesFrom p (map piece bytes)
  map_notes p [] = tt
  map_notes p (byte ∷ bytes) = map_notes p bytes

  map_packets : (bytes : List ℕ) → packet_starts (map piece bytes) ≡ []
  map_packets [] = refl
  map_packets (byte ∷ bytes) = map_packets bytes

  map_on : (bytes : List ℕ) → PacketsOn SpiWire (map piece bytes)
  map_on [] = tt
  map_on (byte ∷ bytes) = map_on bytes

  module _ (bits number : ℕ) where
    pieces_few : (line : Option ℕ) → bits ≤ 32
        → length (pieces bits line class first last number) ≤ 4
    pieces_few None few = omega arith
    pieces_few (Some line) few =
        let one = length-map (bytes_of ((bits + 7) / 8) number) piece in
        let two = bytes_len ((bits + 7) / 8) number in
        omega (arith, one, two, few)

    pieces_notes : (p : ℕ) (line : Option ℕ)
        → NotesFrom p (pieces bits line class first last number)
    pieces_notes p None = tt
    pieces_notes p (Some line) = map_notes p (bytes_of ((bits + 7) / 8) number)

    pieces_packets : (line : Option ℕ)
        → packet_starts (pieces bits line class first last number) ≡ []
    pieces_packets None = refl
    pieces_packets (Some line) = map_packets (bytes_of ((bits + 7) / 8) number)

    pieces_on : (line : Option ℕ) → PacketsOn SpiWire (pieces bits line class first last number)
    pieces_on None = tt
    pieces_on (Some line) = map_on (bytes_of ((bits + 7) / 8) number)

module _ (opts : SpiOpts) where
  -- a word
  module _ (first last mosi miso : ℕ) where
    abbrev one : List Out
    one = pieces opts.bits opts.mosi 0 first last mosi

    abbrev two : List Out
    two = pieces opts.bits opts.miso 1 first last miso

    abbrev end : List Out
    end = span_packet SpiWord first last mosi miso ∷ []

    word_few : opts.bits ≤ 32 → length (word_outs opts first last mosi miso) ≤ 16
    word_few few =
        let a = length-append (one ++ two) end in
        let b = length-append one two in
        omega (
          arith,
          a,
          b,
          pieces_few 0 first last opts.bits mosi opts.mosi few,
          pieces_few 1 first
              last opts.bits miso opts.miso few,
        )

    word_notes : (p : ℕ) → p ≤ first → p ≤ last → NotesFrom p (word_outs opts first last mosi miso)
    word_notes p after within = (
      le-min after within,
      NotesFrom-append p (one ++ two) end
          (NotesFrom-append p one two (pieces_notes 0 first last opts.bits mosi p opts.mosi)
          (pieces_notes 1 first last opts.bits miso p opts.miso)) tt,
    )

    word_packets : packet_starts (word_outs opts first last mosi miso) ≡ min first last ∷ []
    word_packets =
        packet_starts-append (one ++ two) end
        ∙ ap (λ (l : List ℕ). l ++ packet_starts end)
        (packet_starts-append one two
        ∙ (λ i. pieces_packets 0 first last opts.bits mosi opts.mosi i
        ++ pieces_packets 1 first last opts.bits miso opts.miso i))

    word_on : PacketsOn SpiWire (word_outs opts first last mosi miso)
    word_on =
        PacketsOn-append SpiWire (one ++ two) end
        (PacketsOn-append SpiWire one two (pieces_on 0 first last opts.bits mosi opts.mosi)
        (pieces_on 1 first last opts.bits miso opts.miso)) (refl, tt)

  -- a clock in a stretch
  module _ (count mosi miso first k : ℕ) (out back : Bool) where
    abbrev start : ℕ
    start = start_of count first k

    abbrev whole : List Out
    whole = word_outs opts start k (with_bit (is_low_first opts) count mosi out)
        (with_bit (is_low_first opts) count miso back)

    clock_few : opts.bits ≤ 32 → length (clock_gives opts count mosi miso first k out back) ≤ 16
    clock_few few = by (nat_lt (count + 1) opts.bits)
      where
        by : (b : Bool) → length (if b then [] else whole) ≤ 16
        by true = omega arith
        by false =
            word_few start k (with_bit (is_low_first opts) count mosi out)
            (with_bit (is_low_first opts) count miso back) few

    clock_on : PacketsOn SpiWire (clock_gives opts count mosi miso first k out back)
    clock_on = by (nat_lt (count + 1) opts.bits)
      where
        by : (b : Bool) → PacketsOn SpiWire (if b then [] else whole)
        by true = tt
        by false =
            word_on start k (with_bit (is_low_first opts) count mosi out)
            (with_bit (is_low_first opts) count miso back)

    -- where the word that it belongs to began before it
    module _ (below : first ≤ k) where
      pub start_most : start ≤ k
      start_most = by (count == 0)
        where
          by : (b : Bool) → (if b then k else first) ≤ k
          by true = le_refl k
          by false = below

      pub clock_notes : NotesFrom start (clock_gives opts count mosi miso first k out back)
      clock_notes = by (nat_lt (count + 1) opts.bits)
        where
          by : (b : Bool) → NotesFrom start (if b then [] else whole)
          by true = tt
          by false =
              word_notes start k (with_bit (is_low_first opts) count mosi out)
              (with_bit (is_low_first opts) count miso back) start (le_refl start) start_most

      pub clock_packets : Between start
          (near_by (clock_next opts count mosi miso first k out back) (k + 1))
          (packet_starts (clock_gives opts count mosi miso first k out back))
      clock_packets = by (nat_lt (count + 1) opts.bits)
        where
          more_no : (n : ℕ) → (n + 1 == 0) ≡ false
          more_no n = grind (arith, nat_tests)

          by : (b : Bool)
              → Between start
              (near_by (if b then inside (count + 1) (with_bit (is_low_first opts) count mosi out)
              (with_bit (is_low_first opts) count miso back) start else begun) (k + 1))
              (packet_starts (if b then [] else whole))
          by true =
              subst (λ (n : ℕ). start ≤ n)
              (sym (when_no (count + 1 == 0) (k + 1) start (more_no count))) (le_refl start)
          by false =
              let same : min start k ≡ start = min-eq_left start_most in
              subst (λ (l : List ℕ). Between start (k + 1) l)
              (sym (word_packets start k (with_bit (is_low_first opts) count mosi out)
              (with_bit (is_low_first opts) count miso back)))
              (omega (arith, same), omega (arith, same, start_most))

  -- any event
  pub gives_few : opts.bits ≤ 32 → (held : Held) (e : Event) → length (gives opts held e) ≤ 16
  gives_few few held (Select k) = omega arith
  gives_few few Fresh (Deselect k) = omega arith
  gives_few few Outside (Deselect k) = omega arith
  gives_few few (Inside word) (Deselect k) = omega arith
  gives_few few Fresh (Clock k out back) = omega arith
  gives_few few Outside (Clock k out back) = omega arith
  gives_few few (Inside word) (Clock k out back) =
      clock_few word.count word.mosi word.miso word.first k out back few

  pub gives_on : (held : Held) (e : Event) → PacketsOn SpiWire (gives opts held e)
  gives_on held (Select k) = (refl, tt)
  gives_on Fresh (Deselect k) = tt
  gives_on Outside (Deselect k) = tt
  gives_on (Inside word) (Deselect k) = (refl, tt)
  gives_on Fresh (Clock k out back) = tt
  gives_on Outside (Clock k out back) = tt
  gives_on (Inside word) (Clock k out back) =
      clock_on word.count word.mosi word.miso word.first k out back
