-- What holds of the samples and the ending of raw bytes.
use Rattle.std.proofs.Common.{◌≡◌, ℕ, zero, suc, ◌+◌, ◌-◌, ◌*◌, ◌^◌, ◌≤◌, ◌<◌, ◌⊎◌, inl, inr, List, [], ◌∷◌, ◌++◌, take, map, replicate, length, refl, sym, ◌∙◌, ap, arith, length-append, Bool, true, false, nat_le, if◌then◌else◌}
use Rattle.std.proofs.lemmas.List.{map-append, append-nil, take-append-le, take_all}
use Rattle.std.proofs.Math.Seq.{take-append-add}
use Rattle.std.proofs.lemmas.Bool.Decides.{nat_tests}
use Rattle.list_cuts.specs.Groups.{groups, after_groups}
use Rattle.list_cuts.proofs.GroupLaws.{groups_append, groups_short, groups_longer}
use Rattle.la_base.specs.declared.samples.Rate.{Rate}
use Rattle.la_io.specs.declared.fault.CaptureFault.{CaptureFault}
use Rattle.la_io.specs.declared.fault.CaptureFault.TheVariants.{Bytes}
use Rattle.la_io.specs.Capture.{Told, Cut, Good, Faulty, Open}
use Rattle.capture_raw.specs.Raw.{unit_len, word_of, raw_samples, raw_names, raw_rest, raw_ending, raw_capture}

-- there are channels, so a unit has bytes
pub unit_some : (channels : ℕ) → 0 < channels → 0 < unit_len channels
unit_some channels some = omega arith

module _ (unit : ℕ) (some : 0 < unit) (pins : List ℕ) where
  module _ (front : List ℕ) (whole : ℕ) (is : length front ≡ whole * unit) where
    -- whole units, and what follows
    pub samples_after : (more : List ℕ) → raw_samples unit pins (front ++ more) ≡ raw_samples unit pins front ++ raw_samples unit pins more
    unfolding raw_samples
    samples_after more =
        ap (λ (l : List (List ℕ)). map (word_of pins) l) (groups_append unit some whole front more is)
        ∙ map-append (word_of pins) (groups unit front) (groups unit more)

    -- less than a unit gives nothing
    pub samples_at_end : (rest : List ℕ) → length rest < unit → raw_samples unit pins (front ++ rest) ≡ raw_samples unit pins front
    unfolding raw_samples
    samples_at_end rest short =
        ap (λ (l : List (List ℕ)). map (word_of pins) l)
        (groups_append unit some whole front rest is ∙ ap (λ (l : List (List ℕ)). groups unit front ++ l) (groups_short unit some rest short) ∙ append-nil (groups unit front))

  -- nothing gives nothing
  pub no_samples : [] ≡ raw_samples unit pins []
  unfolding raw_samples
  no_samples = sym (ap (λ (l : List (List ℕ)). map (word_of pins) l) (groups_short unit some [] some))

  -- more bytes give more samples behind those of the first
  pub samples_longer : (front more : List ℕ) → (rest : List ℕ) × (raw_samples unit pins (front ++ more) ≡ raw_samples unit pins front ++ rest)
  unfolding raw_samples
  samples_longer front more =
      let rest = groups unit (after_groups unit front ++ more) in
      (map (word_of pins) rest, ap (λ (l : List (List ℕ)). map (word_of pins) l) (groups_longer unit some front more) ∙ map-append (word_of pins) (groups unit front) rest)

map_replicate : (f : List ℕ → ℕ) (k : ℕ) (x : List ℕ) → map f (replicate k x) ≡ replicate k (f x)
map_replicate f zero x = refl
map_replicate f (suc k) x = ap (λ (l : List ℕ). f x ∷ l) (map_replicate f k x)

-- equal units give equal samples
pub equal_samples : (unit : ℕ) (pins bytes first : List ℕ) (k : ℕ) → groups unit bytes ≡ replicate k first → replicate k (word_of pins first) ≡ raw_samples unit pins bytes
unfolding raw_samples
equal_samples unit pins bytes first k is =
    sym (ap (λ (l : List (List ℕ)). map (word_of pins) l) is ∙ map_replicate (word_of pins) k first)

-- a front of a longer list: that of its own front, and more
front_longer : (most : ℕ) (front more : List ℕ) → (rest : List ℕ) × (take most (front ++ more) ≡ take most front ++ rest)
front_longer most front more = by_length (search (arith)) where
  by_length : (most ≤ length front) ⊎ (length front ≤ most) → (rest : List ℕ) × (take most (front ++ more) ≡ take most front ++ rest)
  by_length (inl long) = ([], take-append-le most front more long ∙ sym (append-nil (take most front)))
  by_length (inr short) =
      let over : most ≡ length front + (most - length front) = omega arith in
      (take (most - length front) more, ap (λ (n : ℕ). take n (front ++ more)) over ∙ take-append-add front more (most - length front) ∙ ap (λ (l : List ℕ). l ++ take (most - length front) more) (sym (take_all most front short)))

is_full : (count : ℕ) → 2 ^ 60 ≤ count → nat_le (2 ^ 60) count ≡ true
is_full count long = grind (arith, nat_tests)

not_full : (count : ℕ) → count < 2 ^ 60 → nat_le (2 ^ 60) count ≡ false
not_full count short = grind (arith, nat_tests)

full_is : (count : ℕ) → nat_le (2 ^ 60) count ≡ true → 2 ^ 60 ≤ count
full_is count full = grind (arith, nat_tests)

-- 2^60 bytes
pub ending_full : (unit count : ℕ) (told : Told) → 2 ^ 60 ≤ count → raw_ending unit count told ≡ Faulty Bytes
ending_full unit count told long = ap (λ (b : Bool). if b then Faulty Bytes else raw_rest unit count told) (is_full count long)

-- less
pub ending_rest : (unit count : ℕ) (told : Told) → count < 2 ^ 60 → raw_ending unit count told ≡ raw_rest unit count told
ending_rest unit count told short = ap (λ (b : Bool). if b then Faulty Bytes else raw_rest unit count told) (not_full count short)

-- bytes that are cut have a fault where there are 2^60 of them
cut_fault : (unit count : ℕ) (fault : CaptureFault) → raw_ending unit count Cut ≡ Faulty fault → 2 ^ 60 ≤ count
cut_fault unit count fault is = by_test (nat_le (2 ^ 60) count) refl where
  by_test : (b : Bool) → nat_le (2 ^ 60) count ≡ b → 2 ^ 60 ≤ count
  by_test true full = full_is count full
  by_test false short =
      let open_is : Open ≡ Faulty fault = sym (ap (λ (b : Bool). if b then Faulty Bytes else raw_rest unit count Cut) short) ∙ is in
      cc

module _ (channels : ℕ) (rate : Rate) (pins : List ℕ) where
  pub settled_is : (bytes : List ℕ) (told : Told) → (raw_capture channels rate pins bytes told).settled ≡ raw_samples (unit_len channels) pins (take (2 ^ 60) bytes)
  unfolding raw_capture
  settled_is bytes told = refl

  pub ending_is : (bytes : List ℕ) (told : Told) → (raw_capture channels rate pins bytes told).ending ≡ raw_ending (unit_len channels) (length bytes) told
  unfolding raw_capture
  ending_is bytes told = refl

  pub settled_longer : (front more : List ℕ) (told : Told) → 0 < channels
      → (rest : List ℕ) × ((raw_capture channels rate pins (front ++ more) told).settled ≡ (raw_capture channels rate pins front Cut).settled ++ rest)
  settled_longer front more told some =
      let longer = front_longer (2 ^ 60) front more in
      let samples = samples_longer (unit_len channels) (unit_some channels some) pins (take (2 ^ 60) front) longer.0 in
      (samples.0, settled_is (front ++ more) told ∙ ap (λ (l : List ℕ). raw_samples (unit_len channels) pins l) longer.1 ∙ samples.1 ∙ ap (λ (l : List ℕ). l ++ samples.0) (sym (settled_is front Cut)))

  same_when_full : (front more : List ℕ) (told : Told) → 2 ^ 60 ≤ length front → raw_capture channels rate pins (front ++ more) told ≡ raw_capture channels rate pins front Cut
  unfolding raw_capture
  same_when_full front more told full =
      let unit = unit_len channels in
      let settled = ap (λ (l : List ℕ). raw_samples unit pins l) (take-append-le (2 ^ 60) front more full) in
      let ending = ending_full unit (length (front ++ more)) told (omega (arith, length-append front more)) ∙ sym (ending_full unit (length front) Cut full) in
      λ i. record {
        head = Good (raw_names channels) rate.num rate.den;
        settled = settled i;
        ending = ending i;
      }

  pub fault_stays : (front more : List ℕ) (told : Told) (fault : CaptureFault) → (raw_capture channels rate pins front Cut).ending ≡ Faulty fault
      → raw_capture channels rate pins (front ++ more) told ≡ raw_capture channels rate pins front Cut
  fault_stays front more told fault is = same_when_full front more told (cut_fault (unit_len channels) (length front) fault (sym (ending_is front Cut) ∙ is))
