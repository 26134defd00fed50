-- A header with one more token.
use Rattle.std.proofs.Common.{◌≡◌, ◌≢◌, ℕ, zero, suc, ◌+◌, ◌<◌, ◌≤◌, ◌&&◌, ◌==◌, not, List, [], ◌∷◌, ◌++◌, map, length, refl, sym, ◌∙◌, ap, subst, arith, append_assoc, length-append, Option, Some, None, Bool, true, false, Result, Ok, Err, codes}
use Rattle.std.proofs.lemmas.Bool.{cond-true, cond-false, eqb-true}
use Rattle.std.proofs.lemmas.List.{append-nil, map-append}
use Rattle.std.specs.List.{range_with_len}
use Rattle.std.specs.declared.vec.Vec.{Vec}
use Rattle.std.specs.declared.alloc.Global.{Global}
use Rattle.text_parts.specs.Places.{Placed}
use Rattle.la_io.specs.declared.fault.CaptureFault.{CaptureFault}
use Rattle.rate_math.specs.Scale.{in_second}
use Rattle.capture_vcd.specs.Header.{Cut, Declared, Scale, Declares, Nothing, Pending, Section, channels_of, declared_by, first_at, header_from, is_keyword, joined, says, scale_of, variable_of}
use Rattle.capture_vcd.specs.Body.{Channel}
use Rattle.capture_vcd.specs.Vcd.{bits_in, bits_of, declared_in, scale_in}
use Rattle.text_parts.specs.Reading.{after_one, read_front}
use Rattle.capture_vcd.specs.Slots.{code_at}
use Rattle.la_base.specs.Naming.{same_name}
use Rattle.capture_vcd.specs.Gathered.{Opens, names_by, placed, scale_said, text_at, variable_by_words}
use Rattle.capture_vcd.specs.Gathering.{HeaderAt, HeaderFaulty, Keeps, KeepsWord, KeptOf, PartsAt, PartsDone, PendingAt, with_sections}
use Rattle.capture_vcd.specs.Places.{Below, channel_at, places_of}
use Rattle.capture_vcd.specs.declared.header.Header.{Header}
use Rattle.capture_vcd.specs.declared.place.Place.{Place}
use Rattle.capture_vcd.specs.declared.scale.Scale.{Scale as TimeScale}
use Rattle.capture_vcd.specs.declared.section.Word.{Word}
use Rattle.capture_vcd.specs.declared.section.Kind.{Kind}
use Rattle.capture_vcd.specs.declared.section.Kind.TheVariants as kind
use Rattle.capture_vcd.specs.Keeping.{scale_step, scale_words, variable_step}
use Rattle.capture_vcd.proofs.Kept.{scale_first, scale_more, scale_same, variable_more, variable_same}
use Rattle.text_parts.proofs.FrontLemmas.{front_none}
use Rattle.capture_vcd.proofs.Declaring.{names_len}

-- what several declare
channels_on : (a b : List Declared) → channels_of (a ++ b) ≡ channels_of a ++ channels_of b
channels_on [] b = refl
channels_on (Scale n m ∷ a) b = channels_on a b
channels_on (Declares v ∷ a) b = ap (λ (l : List (List ℕ)). v.names ++ l) (channels_on a b) ∙ sym (append_assoc v.names (channels_of a) (channels_of b))
channels_on (Nothing ∷ a) b = channels_on a b

bits_on : (a b : List Declared) → bits_in (a ++ b) ≡ bits_in a ++ bits_in b
bits_on [] b = refl
bits_on (Scale n m ∷ a) b = bits_on a b
bits_on (Declares v ∷ a) b = ap (λ (l : List Channel). bits_of v.code v.names 0 ++ l) (bits_on a b) ∙ sym (append_assoc (bits_of v.code v.names 0) (bits_in a) (bits_in b))
bits_on (Nothing ∷ a) b = bits_on a b

scale_on : (scale : Option (ℕ × ℕ)) (a b : List Declared) → scale_in scale (a ++ b) ≡ scale_in (scale_in scale a) b
scale_on scale [] b = refl
scale_on scale (Scale n m ∷ a) b = scale_on (Some (n, m)) a b
scale_on scale (Declares v ∷ a) b = scale_on scale a b
scale_on scale (Nothing ∷ a) b = scale_on scale a b

-- a code stays with more behind it, and the next one is found
code_stays : (codes more : List (Vec ℕ Global)) (n : ℕ) → n < length codes → code_at (codes ++ more) n ≡ code_at codes n
code_stays [] more n less = absurd (omega (arith, less))
code_stays (c ∷ cs) more zero less = refl
code_stays (c ∷ cs) more (suc n) less = code_stays cs more n (omega (arith, less))

code_new : (codes : List (Vec ℕ Global)) (code : Vec ℕ Global) → code_at (codes ++ code ∷ []) (length codes) ≡ code.items
code_new [] code = refl
code_new (c ∷ cs) code = code_new cs code

places_stay : (codes more : List (Vec ℕ Global)) (places : List Place) → Below (length codes) places → map (channel_at (codes ++ more)) places ≡ map (channel_at codes) places
places_stay codes more [] below = refl
places_stay codes more (p ∷ places) below = λ i. (code_stays codes more p.variable below.0 i, p.bit) ∷ places_stay codes more places below.1 i

below_more : (n m : ℕ) (places : List Place) → n ≤ m → Below n places → Below m places
below_more n m [] le below = tt
below_more n m (p ∷ places) le below = (omega (arith, below.0, le), below_more n m places le below.1)

below_join : (n : ℕ) (a b : List Place) → Below n a → Below n b → Below n (a ++ b)
below_join n [] b one two = two
below_join n (p ∷ a) b one two = (one.0, below_join n a b one.1 two)

-- the bits of a variable, from one on
abbrev places_at : ℕ → ℕ → ℕ → List Place
places_at variable first width = map (λ bit. record { variable = variable; bit = bit }) (range_with_len first width)

below_new : (n variable first width : ℕ) → variable < n → Below n (places_at variable first width)
below_new n variable first zero less = tt
below_new n variable first (suc width) less = (less, below_new n variable (first + 1) width less)

bits_new : (codes : List (Vec ℕ Global)) (code : Vec ℕ Global) (names : List (List ℕ)) (first : ℕ) → map (channel_at (codes ++ code ∷ [])) (places_at (length codes) first (length names)) ≡ bits_of code.items names first
bits_new codes code [] first = refl
bits_new codes code (name ∷ names) first = λ i. (code_new codes code i, first) ∷ bits_new codes code names (first + 1) i

names_by_len : (width : ℕ) (words : List Placed) → length (names_by width words) ≡ width
names_by_len width words = by_one (width == 1) refl where
  by_one : (t : Bool) → (width == 1) ≡ t → length (names_by width words) ≡ width
  by_one true e = ap length (cond-true (width == 1) _ _ e) ∙ sym (eqb-true width 1 e)
  by_one false e = ap length (cond-false (width == 1) _ _ e) ∙ names_len (text_at words 3) width

-- what is kept behind one more section
module _ (names : List (List ℕ)) (places : List Place) (codes : List (Vec ℕ Global)) (scale : Option TimeScale) (declared : List Declared) (kept : KeptOf names places codes scale declared) where
  pub kept_nothing : KeptOf names places codes scale (declared ++ Nothing ∷ [])
  kept_nothing = record {
    names_are = kept.names_are ∙ sym (channels_on declared (Nothing ∷ []) ∙ append-nil (channels_of declared));
    bits_are = kept.bits_are ∙ sym (bits_on declared (Nothing ∷ []) ∙ append-nil (bits_in declared));
    within = kept.within;
    scale_is = kept.scale_is ∙ sym (scale_on None declared (Nothing ∷ []));
  }

  pub kept_scale : (now : TimeScale) → KeptOf names places codes (Some now) (declared ++ Scale now.count (in_second now.unit) ∷ [])
  kept_scale now = record {
    names_are = kept.names_are ∙ sym (channels_on declared (Scale now.count (in_second now.unit) ∷ []) ∙ append-nil (channels_of declared));
    bits_are = kept.bits_are ∙ sym (bits_on declared (Scale now.count (in_second now.unit) ∷ []) ∙ append-nil (bits_in declared));
    within = kept.within;
    scale_is = sym (scale_on None declared (Scale now.count (in_second now.unit) ∷ []));
  }

  pub kept_variable : (words : List Placed) (width : ℕ) (code : Vec ℕ Global) (new_names : List (List ℕ)) (new_places : List Place) (new_codes : List (Vec ℕ Global)) → code.items ≡ text_at words 2
      → new_names ≡ names ++ names_by width words → new_places ≡ places ++ places_of (length codes) width → new_codes ≡ codes ++ code ∷ []
      → KeptOf new_names new_places new_codes scale (declared ++ Declares (variable_by_words width words) ∷ [])
  kept_variable words width code new_names new_places new_codes code_is names_is places_is codes_is =
      let v = variable_by_words width words in
      let wide : places_of (length codes) width ≡ places_at (length codes) 0 (length (names_by width words)) = ap (λ (n : ℕ). places_at (length codes) 0 n) (sym (names_by_len width words)) in
      record {
        names_are = names_is ∙ (λ i. kept.names_are i ++ sym (append-nil (names_by width words)) i) ∙ sym (channels_on declared (Declares v ∷ []));
        bits_are = (λ i. map (channel_at (codes_is i)) (places_is i)) ∙ map-append (channel_at (codes ++ code ∷ [])) places (places_of (length codes) width)
            ∙ (λ i. (places_stay codes (code ∷ []) places kept.within ∙ kept.bits_are) i
            ++ (ap (λ (l : List Place). map (channel_at (codes ++ code ∷ [])) l) wide ∙ bits_new codes code (names_by width words) 0 ∙ ap (λ (c : List ℕ). bits_of c (names_by width words) 0) code_is ∙ sym (append-nil (bits_of v.code v.names 0))) i)
            ∙ sym (bits_on declared (Declares v ∷ []));
        within = subst (λ (l : List Place). Below (length new_codes) l) (sym places_is)
            (subst (λ (l : List (Vec ℕ Global)). Below (length l) (places ++ places_of (length codes) width)) (sym codes_is)
            (below_join (length (codes ++ code ∷ [])) places (places_of (length codes) width) (below_more (length codes) _ places (omega (arith, length-append codes (code ∷ []))) kept.within)
            (below_new (length (codes ++ code ∷ [])) (length codes) 0 width (omega (arith, length-append codes (code ∷ []))))));
        scale_is = kept.scale_is ∙ sym (scale_on None declared (Declares v ∷ []));
      }

module _ (names : List (List ℕ)) (places : List Place) (codes_are : List (Vec ℕ Global)) (scale : Option TimeScale) (items : List Placed) where
  -- one more token
  goes_on : (sections : List Section) (pending : Pending) (token : Placed) → ((rest : List Placed) → header_from None (items ++ rest) ≡ with_sections sections (header_from pending rest))
      → (rest : List Placed) → header_from None ((items ++ token ∷ []) ++ rest) ≡ with_sections sections (header_from pending (token ∷ rest))
  goes_on sections pending token goes rest = ap (λ (l : List Placed). header_from None l) (append_assoc items (token ∷ []) rest) ∙ goes (token ∷ rest)

  -- it opens a section, or it is passed over
  module _ (at was : ℕ) (text : List ℕ) (words : List Word) (p : PartsAt kind.Outside was words names places codes_are scale items) where
    opened : (k : Kind) (at_now : ℕ) (now : List Word) (pending : Pending) → PendingAt k at_now now pending → ((rest : List Placed) → header_from None ((at, text) ∷ rest) ≡ header_from pending rest) → PartsAt k at_now now names places codes_are scale (items ++ (at, text) ∷ [])
    opened k at_now now pending opened_is step = record {
      sections = p.sections;
      declared = p.declared;
      pending = pending;
      goes = λ rest. goes_on p.sections p.pending (at, text) p.goes rest ∙ ap (λ (c : Cut). with_sections p.sections c) (ap (λ (q : Pending). header_from q ((at, text) ∷ rest)) p.opened ∙ step rest);
      read = p.read;
      opened = opened_is;
      kept = p.kept;
    }

    begun : (is_keyword (0, text) && not (says (codes "$end") (0, text))) ≡ true → (rest : List Placed) → header_from None ((at, text) ∷ rest) ≡ header_from (Some ((at, text), [])) rest
    begun is rest = cond-true (is_keyword (0, text) && not (says (codes "$end") (0, text))) _ _ is

    pub opens : (k : Kind) → Opens text k → PartsAt k at [] names places codes_are scale (items ++ (at, text) ∷ [])
    opens kind.Outside is = opened kind.Outside at [] None refl (λ rest. cond-false (is_keyword (0, text) && not (says (codes "$end") (0, text))) _ _ is)
    opens kind.Passed is = opened kind.Passed at [] (Some ((at, text), [])) ((at, text), [], refl, is.1) (begun is.0)
    opens kind.Definitions is = opened kind.Definitions at [] (Some ((at, text), [])) ((at, text), [], refl, is.1) (begun is.0)
    opens kind.Scale is = opened kind.Scale at [] (Some ((at, text), [])) ((at, text), [], refl, is.1, refl) (begun is.0)
    opens kind.Variable is = opened kind.Variable at [] (Some ((at, text), [])) (text, [], refl, is.1, refl) (begun is.0)

    -- an end that ends no section is passed over
    pub ends_none : text ≡ codes "$end" → PartsAt kind.Outside was words names places codes_are scale (items ++ (at, text) ∷ [])
    ends_none is = opened kind.Outside was words None refl (λ rest. ap (λ (t : List ℕ). header_from None ((at, t) ∷ rest)) is)

  -- it is a word of the section that is open
  module _ (at place : ℕ) (text : List ℕ) (words new : List Word) (no_end : says (codes "$end") (place, text) ≡ false) where
    word_on : (k : Kind) (p : PartsAt k at words names places codes_are scale items) (section : Placed × List Placed) (pending : Pending) → p.pending ≡ Some section → Some (section.0, section.1 ++ (place, text) ∷ []) ≡ pending → PendingAt k at new pending
        → PartsAt k at new names places codes_are scale (items ++ (place, text) ∷ [])
    word_on k p section pending was is opened_is = record {
      sections = p.sections;
      declared = p.declared;
      pending = pending;
      goes = λ rest. goes_on p.sections p.pending (place, text) p.goes rest
          ∙ ap (λ (c : Cut). with_sections p.sections c) (ap (λ (q : Pending). header_from q ((place, text) ∷ rest)) was
          ∙ cond-true (not (says (codes "$end") (place, text))) _ _ (ap not no_end) ∙ ap (λ (q : Pending). header_from q rest) is);
      read = p.read;
      opened = opened_is;
      kept = p.kept;
    }

    pub keeps : (k : Kind) → k ≢ kind.Outside → KeepsWord k words new place text → PartsAt k at words names places codes_are scale items → PartsAt k at new names places codes_are scale (items ++ (place, text) ∷ [])
    keeps kind.Outside some kept p = absurd (some refl)
    keeps kind.Passed some kept p = let o = p.opened in word_on kind.Passed p (o.0, o.1) _ o.2 refl (o.0, o.1 ++ (place, text) ∷ [], refl, o.3)
    keeps kind.Definitions some kept p = let o = p.opened in word_on kind.Definitions p (o.0, o.1) _ o.2 refl (o.0, o.1 ++ (place, text) ∷ [], refl, o.3)
    keeps kind.Scale some kept p =
        let o = p.opened in
        word_on kind.Scale p (o.0, o.1) _ o.2 refl (o.0, o.1 ++ (place, text) ∷ [], refl, o.3, kept ∙ ap (λ (l : List Placed). scale_step l (place, text)) o.4 ∙ sym (scale_more o.1 (place, text)))
    keeps kind.Variable some kept p =
        let o = p.opened in
        word_on kind.Variable p ((at, o.0), o.1) _ o.2 refl (o.0, o.1 ++ (place, text) ∷ [], refl, o.3, kept ∙ ap (λ (l : List Placed). variable_step l (place, text)) o.4 ∙ sym (variable_more o.1 (place, text)))

  -- it ends a section
  module _ (k : Kind) (at end_at : ℕ) (words : List Word) (p : PartsAt k at words names places codes_are scale items) (section : Placed × List Placed) (was : p.pending ≡ Some section) where
    abbrev S : Section
    S = record { keyword = section.0; words = section.1; end_at = end_at }

    module _ (not_last : same_name (codes "$enddefinitions") section.0.1 ≡ false) where
      closed : (rest : List Placed) → header_from None ((items ++ (end_at, codes "$end") ∷ []) ++ rest) ≡ with_sections (p.sections ++ S ∷ []) (header_from None rest)
      closed rest =
          goes_on p.sections p.pending (end_at, codes "$end") p.goes rest
          ∙ ap (λ (c : Cut). with_sections p.sections c) (ap (λ (q : Pending). header_from q ((end_at, codes "$end") ∷ rest)) was ∙ cond-false (same_name (codes "$enddefinitions") section.0.1) _ _ not_last)
          ∙ ap (λ (l : List Section). record { sections = l; body = (header_from None rest).body }) (sym (append_assoc p.sections (S ∷ []) (header_from None rest).sections))

      F : List Declared → List Section → List Declared × Option CaptureFault
      F values rest = read_front declared_by values rest

      read_on : (more : List Section) → read_front declared_by [] (p.sections ++ S ∷ more) ≡ after_one (λ values rest. read_front declared_by values rest) p.declared more (declared_by p.declared S)
      read_on more =
          front_none declared_by [] p.sections (S ∷ more) (ap (λ (r : List Declared × Option CaptureFault). r.1) p.read)
          ∙ ap (λ (r : List Declared × Option CaptureFault). read_front declared_by r.0 (S ∷ more)) p.read

      pub closes_good : (value : Declared) (at_now : ℕ) (now : List Word) (names_now : List (List ℕ)) (places_now : List Place) (codes_now : List (Vec ℕ Global)) (scale_now : Option TimeScale) → declared_by p.declared S ≡ Ok value
          → KeptOf names_now places_now codes_now scale_now (p.declared ++ value ∷ []) → PartsAt kind.Outside at_now now names_now places_now codes_now scale_now (items ++ (end_at, codes "$end") ∷ [])
      closes_good value at_now now names_now places_now codes_now scale_now is kept = record {
        sections = p.sections ++ S ∷ [];
        declared = p.declared ++ value ∷ [];
        pending = None;
        goes = closed;
        read = read_on [] ∙ ap (λ (r : Result Declared CaptureFault). after_one (λ values rest. read_front declared_by values rest) p.declared [] r) is;
        opened = refl;
        kept = kept;
      }

      pub closes_bad : (fault : CaptureFault) → declared_by p.declared S ≡ Err fault → HeaderFaulty (items ++ (end_at, codes "$end") ∷ []) fault
      closes_bad fault is rest =
          let more = (header_from None rest).sections in
          ap (λ (c : Cut). (declared_in c).1) (closed rest)
          ∙ ap (λ (l : List Section). (read_front declared_by [] l).1) (append_assoc p.sections (S ∷ []) more)
          ∙ ap (λ (r : List Declared × Option CaptureFault). r.1) (read_on more ∙ ap (λ (r : Result Declared CaptureFault). after_one (λ values rest. read_front declared_by values rest) p.declared more r) is)

    pub closes_last : same_name (codes "$enddefinitions") section.0.1 ≡ true → PartsDone names places codes_are scale (items ++ (end_at, codes "$end") ∷ [])
    closes_last last = record {
      sections = p.sections;
      declared = p.declared;
      whole = p.goes ((end_at, codes "$end") ∷ [])
          ∙ ap (λ (c : Cut). with_sections p.sections c) (ap (λ (q : Pending). header_from q ((end_at, codes "$end") ∷ [])) was ∙ cond-true (same_name (codes "$enddefinitions") section.0.1) _ _ last)
          ∙ ap (λ (l : List Section). record { sections = l; body = Some [] }) (append-nil p.sections);
      read = p.read;
      kept = p.kept;
    }

  -- by the kind of the section
  module _ (at end_at : ℕ) (words : List Word) where
    pub passed_closes : (p : PartsAt kind.Passed at words names places codes_are scale items) → PartsAt kind.Outside at words names places codes_are scale (items ++ (end_at, codes "$end") ∷ [])
    passed_closes p =
        let o = p.opened in
        closes_good kind.Passed at end_at words p (o.0, o.1) o.2 o.3.0 Nothing at words names places codes_are scale
        (cond-false (same_name (codes "$timescale") o.0.1) _ _ o.3.1 ∙ cond-false (same_name (codes "$var") o.0.1) _ _ o.3.2) (kept_nothing names places codes_are scale p.declared p.kept)

    pub last_closes : (p : PartsAt kind.Definitions at words names places codes_are scale items) → PartsDone names places codes_are scale (items ++ (end_at, codes "$end") ∷ [])
    last_closes p = let o = p.opened in closes_last kind.Definitions at end_at words p (o.0, o.1) o.2 o.3

    module _ (p : PartsAt kind.Scale at words names places codes_are scale items) where
      scale_is : (r : Result TimeScale CaptureFault) → scale_said r ≡ scale_of (first_at end_at (map placed words)) (joined (map placed words))
          → declared_by p.declared (record { keyword = p.opened.0; words = p.opened.1; end_at = end_at }) ≡ scale_said r
      scale_is r is =
          let o = p.opened in
          cond-true (same_name (codes "$timescale") o.0.1) _ _ o.3.1
          ∙ sym (is ∙ (λ i. scale_of (first_at end_at (o.4 i)) (joined (o.4 i))) ∙ (λ i. scale_of (scale_first end_at o.1 i) (joined (scale_words o.1))) ∙ scale_same (first_at end_at o.1) o.1)

      pub scale_closes : (now : TimeScale) → scale_said (Ok now) ≡ scale_of (first_at end_at (map placed words)) (joined (map placed words)) → PartsAt kind.Outside at words names places codes_are (Some now) (items ++ (end_at, codes "$end") ∷ [])
      scale_closes now is =
          let o = p.opened in
          closes_good kind.Scale at end_at words p (o.0, o.1) o.2 o.3.0 (Scale now.count (in_second now.unit)) at words names places codes_are (Some now) (scale_is (Ok now) is) (kept_scale names places codes_are scale p.declared p.kept now)

      pub scale_fails : (fault : CaptureFault) → scale_said (Err fault) ≡ scale_of (first_at end_at (map placed words)) (joined (map placed words)) → HeaderFaulty (items ++ (end_at, codes "$end") ∷ []) fault
      scale_fails fault is = let o = p.opened in closes_bad kind.Scale at end_at words p (o.0, o.1) o.2 o.3.0 fault (scale_is (Err fault) is)

    module _ (p : PartsAt kind.Variable at words names places codes_are scale items) where
      variable_is : declared_by p.declared (record { keyword = (at, p.opened.0); words = p.opened.1; end_at = end_at }) ≡ variable_of at (length names) (map placed words)
      variable_is =
          let o = p.opened in
          cond-false (same_name (codes "$timescale") o.0) _ _ o.3.1 ∙ cond-true (same_name (codes "$var") o.0) _ _ o.3.2
          ∙ ap (λ (l : List (List ℕ)). variable_of at (length l) o.1) (sym p.kept.names_are)
          ∙ sym (ap (λ (l : List Placed). variable_of at (length names) l) o.4 ∙ variable_same at (length names) o.1)

      pub none_closes : variable_of at (length names) (map placed words) ≡ Ok Nothing → PartsAt kind.Outside at words names places codes_are scale (items ++ (end_at, codes "$end") ∷ [])
      none_closes is =
          let o = p.opened in
          closes_good kind.Variable at end_at words p ((at, o.0), o.1) o.2 o.3.0 Nothing at words names places codes_are scale (variable_is ∙ is) (kept_nothing names places codes_are scale p.declared p.kept)

      pub variable_fails : (fault : CaptureFault) → variable_of at (length names) (map placed words) ≡ Err fault → HeaderFaulty (items ++ (end_at, codes "$end") ∷ []) fault
      variable_fails fault is = let o = p.opened in closes_bad kind.Variable at end_at words p ((at, o.0), o.1) o.2 o.3.0 fault (variable_is ∙ is)

      pub variable_closes : (width at_now : ℕ) (now : List Word) (code : Vec ℕ Global) (new_names : List (List ℕ)) (new_places : List Place) (new_codes : List (Vec ℕ Global)) (new_scale : Option TimeScale)
          → variable_of at (length names) (map placed words) ≡ Ok (Declares (variable_by_words width (map placed words))) → code.items ≡ text_at (map placed words) 2
          → new_names ≡ names ++ names_by width (map placed words) → new_places ≡ places ++ places_of (length codes_are) width → new_codes ≡ codes_are ++ code ∷ [] → new_scale ≡ scale
          → PartsAt kind.Outside at_now now new_names new_places new_codes new_scale (items ++ (end_at, codes "$end") ∷ [])
      variable_closes width at_now now code new_names new_places new_codes new_scale is code_is names_is places_is codes_is scale_is =
          let o = p.opened in
          let kept = kept_variable names places codes_are scale p.declared p.kept (map placed words) width code new_names new_places new_codes code_is names_is places_is codes_is in
          closes_good kind.Variable at end_at words p ((at, o.0), o.1) o.2 o.3.0 (Declares (variable_by_words width (map placed words))) at_now now new_names new_places new_codes new_scale (variable_is ∙ is)
          (subst (λ (s : Option TimeScale). KeptOf new_names new_places new_codes s (p.declared ++ Declares (variable_by_words width (map placed words)) ∷ [])) (sym scale_is) kept)

-- a word was kept, and nothing else changed
pub kept_on : (old new : Header) (at : ℕ) (text : List ℕ) (items : List Placed) → Keeps old new at text → PartsAt old.kind old.at new.words.items old.names old.places.items old.codes.items old.scale items → HeaderAt new items
kept_on old new at text items k p =
    subst (λ (x : Kind). PartsAt x new.at new.words.items new.names new.places.items new.codes.items new.scale items) (sym k.kind_stays)
    (subst (λ (x : ℕ). PartsAt old.kind x new.words.items new.names new.places.items new.codes.items new.scale items) (sym k.at_stays)
    (subst (λ (x : List (List ℕ)). PartsAt old.kind old.at new.words.items x new.places.items new.codes.items new.scale items) (sym k.names)
    (subst (λ (x : Vec Place Global). PartsAt old.kind old.at new.words.items old.names x.items new.codes.items new.scale items) (sym k.places)
    (subst (λ (x : Vec (Vec ℕ Global) Global). PartsAt old.kind old.at new.words.items old.names old.places.items x.items new.scale items) (sym k.codes)
    (subst (λ (x : Option TimeScale). PartsAt old.kind old.at new.words.items old.names old.places.items old.codes.items x items) (sym k.scale) p)))))
