-- What the parts of bytes are, from the front on.
use Rattle.std.proofs.Common.{◌≡◌, ℕ, suc, ◌^◌, ◌≤◌, ◌<◌, ◌==◌, ◌&&◌, nat_le, not, List, [], ◌∷◌, ◌++◌, length, refl, sym, ◌∙◌, ap, arith, length-append, append_assoc, Bool, true, false, cond}
use Rattle.std.proofs.lemmas.List.{append-nil}
use Rattle.std.proofs.lemmas.Bool.{cond-true, cond-false, le-leb, lt-leb, ne_eqb}
use Rattle.std.specs.List.{slice_split, onto_first}
use Rattle.text_parts.specs.Places.{Placed}
use Rattle.la_io.specs.declared.fault.CaptureFault.{CaptureFault}
use Rattle.la_io.specs.declared.fault.CaptureFault.TheVariants.{TooLong, Bytes}
use Rattle.la_io.specs.Capture.{Told, Ending, Clean, Faulty, Open}
use Rattle.byte_feed.specs.Parts.{Cutting, Fed, NoneEnds, behind, bytes_ending, ends, is_long, last_part, marked_from, parts_from, parts_in, told_ending, whole_part}

-- parts behind others
pub behind_on : (given items : List Placed) (fed : Fed) → behind given (behind items fed) ≡ behind (given ++ items) fed
behind_on given items fed = ap (λ (l : List Placed). record { items = l; ending = fed.ending }) (sym (append_assoc given items fed.items))

pub behind_end : (given : List Placed) (how : Ending) → behind given (ends how) ≡ record { items = given; ending = how }
behind_end given how = ap (λ (l : List Placed). record { items = l; ending = how }) (append-nil given)

-- how bytes end, by their number
pub ending_short : (count : ℕ) (told : Told) → count < 2 ^ 60 → bytes_ending count told ≡ told_ending told
ending_short count told short = cond-false (nat_le (2 ^ 60) count) _ _ (lt-leb (2 ^ 60) count short)

pub ending_full : (count : ℕ) (told : Told) → 2 ^ 60 ≤ count → bytes_ending count told ≡ Faulty Bytes
ending_full count told full = cond-true (nat_le (2 ^ 60) count) _ _ (le-leb (2 ^ 60) count full)

-- what a part is, by its length
pub is_short : (text : List ℕ) → length text < 65536 → is_long text ≡ false
is_short text short = lt-leb 65536 (length text) short

long_whole : (empties : Bool) (part : Placed) (rest : Fed) → 65536 ≤ length part.1 → whole_part empties part rest ≡ ends (Faulty (TooLong part.0))
long_whole empties part rest long = cond-true (is_long part.1) _ _ (le-leb 65536 (length part.1) long)

some_whole : (empties : Bool) (part : Placed) (rest : Fed) → 0 < length part.1 → length part.1 < 65536 → whole_part empties part rest ≡ behind (part ∷ []) rest
some_whole empties part rest some short =
    cond-false (is_long part.1) _ _ (is_short part.1 short) ∙ by_kind empties
  where
    by_kind : (empties : Bool) → cond (not empties && length part.1 == 0) rest (behind (part ∷ []) rest) ≡ behind (part ∷ []) rest
    by_kind true = refl
    by_kind false = cond-false (length part.1 == 0) _ _ (ne_eqb (length part.1) 0 (λ e. omega (arith, e, some)))

-- an empty part counts where it is to
pub any_whole : (part : Placed) (rest : Fed) → length part.1 < 65536 → whole_part true part rest ≡ behind (part ∷ []) rest
any_whole part rest short = cond-false (is_long part.1) _ _ (is_short part.1 short)

long_last : (how : Ending) (part : Placed) → 65536 ≤ length part.1 → last_part how part ≡ ends (Faulty (TooLong part.0))
long_last Clean part long = long_whole false part (ends Clean) long
long_last (Faulty fault) part long = cond-true (is_long part.1) _ _ (le-leb 65536 (length part.1) long)
long_last Open part long = cond-true (is_long part.1) _ _ (le-leb 65536 (length part.1) long)

module _ (cut : Cutting) where
  abbrev pub Split : List ℕ → List (List ℕ)
  Split bytes = slice_split cut.ends_part bytes

  -- bytes have a first part
  pub split_some : (bytes : List ℕ) → (part : List ℕ) × (parts : List (List ℕ)) × (slice_split cut.ends_part bytes ≡ part ∷ parts)
  split_some [] = ([], [], refl)
  split_some (b ∷ bytes) = let rest = split_some bytes in by_test (cut.ends_part b) rest.0 rest.1 rest.2 where
    by_test : (t : Bool) (part : List ℕ) (parts : List (List ℕ)) → Split bytes ≡ part ∷ parts
        → (first : List ℕ) × (others : List (List ℕ)) × (cond t ([] ∷ Split bytes) (onto_first b (Split bytes)) ≡ first ∷ others)
    by_test true part parts is = ([], Split bytes, refl)
    by_test false part parts is = (b ∷ part, parts, ap (λ (l : List (List ℕ)). onto_first b l) is)

  -- a part with more behind it
  pub before_some : (how : Ending) (part : Placed) (mark : ℕ) (parts : List (List ℕ)) (first : List ℕ) (others : List (List ℕ)) → parts ≡ first ∷ others
      → parts_in cut.empties how (part ∷ marked_from cut.next mark parts) ≡ whole_part cut.empties part (parts_in cut.empties how (marked_from cut.next mark parts))
  before_some how part mark parts first others is =
      ap (λ (l : List (List ℕ)). parts_in cut.empties how (part ∷ marked_from cut.next mark l)) is ∙ sym (ap (λ (l : List (List ℕ)). whole_part cut.empties part (parts_in cut.empties how (marked_from cut.next mark l))) is)

  part_before : (how : Ending) (part : Placed) (mark : ℕ) (bytes : List ℕ)
      → parts_in cut.empties how (part ∷ marked_from cut.next mark (Split bytes)) ≡ whole_part cut.empties part (parts_in cut.empties how (marked_from cut.next mark (Split bytes)))
  part_before how part mark bytes = let some = split_some bytes in before_some how part mark (Split bytes) some.0 some.1 some.2

  -- bytes none of which ends a part, and one that does, are a part
  split_word : (word rest : List ℕ) (b : ℕ) → NoneEnds cut word (length word) → cut.ends_part b ≡ true → Split (word ++ b ∷ rest) ≡ word ∷ Split rest
  split_word [] rest b plain last = cond-true (cut.ends_part b) _ _ last
  split_word (x ∷ word) rest b plain last =
      cond-false (cut.ends_part x) _ _ (plain 0 (omega arith))
      ∙ ap (λ (l : List (List ℕ)). onto_first x l) (split_word word rest b (λ k less. plain (suc k) (omega (arith, less))) last)

  -- and so are such bytes alone
  pub split_alone : (word : List ℕ) → NoneEnds cut word (length word) → slice_split cut.ends_part word ≡ word ∷ []
  split_alone [] plain = refl
  split_alone (x ∷ word) plain =
      cond-false (cut.ends_part x) _ _ (plain 0 (omega arith))
      ∙ ap (λ (l : List (List ℕ)). onto_first x l) (split_alone word (λ k less. plain (suc k) (omega (arith, less))))

  -- the first part begins with such bytes at the front
  split_begins : (word rest : List ℕ) → NoneEnds cut word (length word) → (more : List ℕ) × (parts : List (List ℕ)) × (Split (word ++ rest) ≡ (word ++ more) ∷ parts)
  split_begins [] rest plain = split_some rest
  split_begins (x ∷ word) rest plain =
      let next = split_begins word rest (λ k less. plain (suc k) (omega (arith, less))) in
      (next.0, next.1, cond-false (cut.ends_part x) _ _ (plain 0 (omega arith)) ∙ ap (λ (l : List (List ℕ)). onto_first x l) next.2)

  -- a part with its end
  pub one_part : (mark b : ℕ) (how : Ending) (word rest : List ℕ) → NoneEnds cut word (length word) → cut.ends_part b ≡ true
      → parts_from cut mark how (word ++ b ∷ rest) ≡ whole_part cut.empties (mark, word) (parts_from cut (cut.next mark word) how rest)
  unfolding parts_from
  one_part mark b how word rest plain last =
      ap (λ (l : List (List ℕ)). parts_in cut.empties how (marked_from cut.next mark l)) (split_word word rest b plain last) ∙ part_before how (mark, word) (cut.next mark word) rest

  pub some_part : (mark b : ℕ) (how : Ending) (word rest : List ℕ) → 0 < length word → length word < 65536 → NoneEnds cut word (length word) → cut.ends_part b ≡ true
      → parts_from cut mark how (word ++ b ∷ rest) ≡ behind ((mark, word) ∷ []) (parts_from cut (cut.next mark word) how rest)
  some_part mark b how word rest some short plain last = one_part mark b how word rest plain last ∙ some_whole cut.empties (mark, word) _ some short

  -- and one at the end
  pub last_one : (mark : ℕ) (word : List ℕ) → 0 < length word → length word < 65536 → NoneEnds cut word (length word) → parts_from cut mark Clean word ≡ behind ((mark, word) ∷ []) (ends Clean)
  unfolding parts_from
  last_one mark word some short plain =
      ap (λ (l : List (List ℕ)). parts_in cut.empties Clean (marked_from cut.next mark l)) (split_alone word plain) ∙ some_whole false (mark, word) (ends Clean) some short

  -- a part that is cut gives nothing
  pub cut_part : (mark : ℕ) (word : List ℕ) → length word < 65536 → NoneEnds cut word (length word) → parts_from cut mark Open word ≡ ends Open
  unfolding parts_from
  cut_part mark word short plain =
      ap (λ (l : List (List ℕ)). parts_in cut.empties Open (marked_from cut.next mark l)) (split_alone word plain) ∙ cond-false (is_long word) _ _ (is_short word short)

  pub full_part : (mark : ℕ) (word : List ℕ) (fault : CaptureFault) → length word < 65536 → NoneEnds cut word (length word) → parts_from cut mark (Faulty fault) word ≡ ends (Faulty fault)
  unfolding parts_from
  full_part mark word fault short plain =
      ap (λ (l : List (List ℕ)). parts_in cut.empties (Faulty fault) (marked_from cut.next mark l)) (split_alone word plain) ∙ cond-false (is_long word) _ _ (is_short word short)

  -- nothing has no part that counts
  pub no_part : (mark : ℕ) (how : Ending) → parts_from cut mark how [] ≡ ends how
  unfolding parts_from
  no_part mark Clean = refl
  no_part mark (Faulty fault) = refl
  no_part mark Open = refl

  pub long_first : (mark : ℕ) (how : Ending) (part : List ℕ) (parts : List (List ℕ)) → 65536 ≤ length part → parts_in cut.empties how (marked_from cut.next mark (part ∷ parts)) ≡ ends (Faulty (TooLong mark))
  long_first mark how part [] long = long_last how (mark, part) long
  long_first mark how part (next ∷ parts) long = long_whole cut.empties (mark, part) _ long

  -- a part that is too long ends it, whatever follows
  pub long_part : (mark : ℕ) (how : Ending) (word rest : List ℕ) → 65536 ≤ length word → NoneEnds cut word (length word) → parts_from cut mark how (word ++ rest) ≡ ends (Faulty (TooLong mark))
  unfolding parts_from
  long_part mark how word rest long plain =
      let first = split_begins word rest plain in
      ap (λ (l : List (List ℕ)). parts_in cut.empties how (marked_from cut.next mark l)) first.2
      ∙ long_first mark how (word ++ first.0) first.1 (omega (arith, long, length-append word first.0))
