-- One more word of a transaction: what the whole list of words gives is what the state says that
-- the words before it left.
use Rattle.std.proofs.Common.{◌≡◌, ℕ, ◌+◌, ◌-◌, ◌%◌, Bool, true, false, if◌then◌else◌, ◌==◌, List}
use Rattle.std.proofs.Common.{[], ◌∷◌, ◌++◌, length, refl, sym, ◌∙◌, ap, arith, length-append}
use Rattle.std.specs.Prelude.{◌^◌, min}
use Rattle.std.specs.List.{flat_map}
use Rattle.std.proofs.Math.Nat.{le_refl, mod-add-mod}
use Rattle.std.proofs.lemmas.Bool.Decides.{nat_tests}
use Rattle.std.proofs.lemmas.Grind.{flat_map-append}
use Rattle.std.proofs.lemmas.List.{append-nil}
use Rattle.std.proofs.lemmas.List.Elements.{filter-append}
use Rattle.la_base.specs.declared.wires.Out.{Out}
use Rattle.la_base.specs.declared.wires.Packet.{Packet}
use Rattle.decoder_core.specs.Outputs.{span_note}
use Rattle.list_cuts.proofs.AlongLaws.{along_push}
use Rattle.packet_walks.specs.laws.Steps.{Pushed}
use Rattle.dev_flash25.specs.declared.held.Command.{Command}
use Rattle.dev_flash25.specs.declared.held.Command.TheVariants.{Id, Status, WriteStatus, Read}
use Rattle.dev_flash25.specs.declared.held.Command.TheVariants.{FastRead, Program, EraseSector}
use Rattle.dev_flash25.specs.declared.held.Command.TheVariants.{EraseBlock, EraseChip, Other}
use Rattle.dev_flash25.specs.declared.held.Said.TheVariants.{Nothing, Dummy, Whole}
use Rattle.dev_flash25.specs.declared.held.Words.{Words}
use Rattle.dev_flash25.specs.declared.held.Words.TheVariants.{Begun}
use Rattle.dev_flash25.specs.declared.held.Open.{Open}
use Rattle.dev_flash25.specs.Flash.{is_word, mosi, words_in, command_of, word_note, status_outs}
use Rattle.dev_flash25.specs.Flash.{written_outs, address, read_outs, program_outs, in_page, reads}
use Rattle.dev_flash25.specs.Flash.{programs, behind, words_outs, data_summary, summary, last_in}
use Rattle.dev_flash25.specs.Flash.{words_summary, flash}
use Rattle.dev_flash25.specs.laws.Held.{has_number, has_dummy, room_of, whole_kept, dummy_kept}
use Rattle.dev_flash25.specs.laws.Held.{rest_kept, number_kept, said_kept, whole_begun, number_next}
use Rattle.dev_flash25.specs.laws.Held.{said_next, said_gives, count_summary, said_summary}
use Rattle.dev_flash25.specs.laws.Held.{words_kept, words_next, words_give, words_close, open_kept}
use Rattle.dev_flash25.specs.laws.Held.{open_next, open_gives, flash_steps}

-- the place of a byte of data, and how many there are
place_none : (n m : ℕ) → (n + 0) % m ≡ n % m
place_none n m = let same : n + 0 ≡ n = omega arith in ap (λ (k : ℕ). k % m) same

place_more : (n m : ℕ) (words : List Packet) (w : Packet)
    → (n + length (words ++ w ∷ [])) % m ≡ ((n + length words) % m + 1) % m
place_more n m words w =
    let more : n + length (words ++ w ∷ []) ≡ n + length words + 1 =
    omega (arith, length-append words (w ∷ [])) in
    ap (λ (k : ℕ). k % m) more ∙ sym (mod-add-mod (n + length words) m 1)

below_most : (n : ℕ) → min (n + 1) (2 ^ 60) ≡ min (min n (2 ^ 60)) (2 ^ 60 - 1) + 1
below_most n = omega arith

count_more : (words : List Packet) (w : Packet)
    → min (length (words ++ w ∷ [])) (2 ^ 60) ≡ min (min (length words) (2 ^ 60)) (2 ^ 60 - 1) + 1
count_more words w =
    ap (λ (k : ℕ). min k (2 ^ 60)) (length-append words (w ∷ [])) ∙ below_most (length words)

module _ (c : Command) where
  whole_none : (number : ℕ) → whole_kept c number [] ≡ whole_begun c number
  whole_none number = λ i. Whole number (place_none number (room_of c) i) 0

  whole_more : (number : ℕ) (words : List Packet) (w : Packet)
      → whole_kept c number (words ++ w ∷ []) ≡ number_next c (whole_kept c number words) w
  whole_more number words w =
      λ i. Whole number (place_more number (room_of c) words w i) (count_more words w i)

  dummy_more : (number : ℕ) (words : List Packet) (w : Packet)
      → dummy_kept c number (words ++ w ∷ []) ≡ number_next c (dummy_kept c number words) w
  dummy_more number [] w = whole_none number
  dummy_more number (dummy ∷ words) w = whole_more number words w

  rest_none : (number : ℕ)
      → rest_kept c number [] ≡ (if has_dummy c then Dummy number else whole_begun c number)
  rest_none number = by (has_dummy c)
    where
      by : (t : Bool) → (if t then Dummy number else whole_kept c number [])
          ≡ (if t then Dummy number else whole_begun c number)
      by true = refl
      by false = whole_none number

  rest_more : (number : ℕ) (words : List Packet) (w : Packet)
      → rest_kept c number (words ++ w ∷ []) ≡ number_next c (rest_kept c number words) w
  rest_more number words w = by (has_dummy c)
    where
      by : (t : Bool)
          → (if t then dummy_kept c number (words ++ w ∷ [])
          else whole_kept c number (words ++ w ∷ []))
          ≡ number_next c (if t then dummy_kept c number words else whole_kept c number words) w
      by true = dummy_more number words w
      by false = whole_more number words w

  number_more : (words : List Packet) (w : Packet)
      → number_kept c (words ++ w ∷ []) ≡ number_next c (number_kept c words) w
  number_more [] w = refl
  number_more (x ∷ []) w = refl
  number_more (x ∷ y ∷ []) w = rest_none _
  number_more (x ∷ y ∷ z ∷ others) w = rest_more _ others w

  said_more : (words : List Packet) (w : Packet)
      → said_kept c (words ++ w ∷ []) ≡ said_next c (said_kept c words) w
  said_more words w = by (has_number c)
    where
      by : (t : Bool) → (if t then number_kept c (words ++ w ∷ []) else Nothing)
          ≡ (if t then number_next c (if t then number_kept c words else Nothing) w
          else (if t then number_kept c words else Nothing))
      by true = number_more words w
      by false = refl

-- one more word behind an instruction
each_more : (f : Packet → List Out) (words : List Packet) (w : Packet)
    → flat_map f (words ++ w ∷ []) ≡ flat_map f words ++ f w
each_more f words w =
    flat_map-append f words (w ∷ [])
    ∙ ap (λ (l : List Out). flat_map f words ++ l) (append-nil (f w))

module _ (n : ℕ) (note : Out) where
  reads_more : (words : List Packet) (w : Packet)
      → note ∷ reads n (words ++ w ∷ [])
      ≡ note ∷ reads n words ++ read_outs ((n + length words) % 2 ^ 24) w
  reads_more words w =
      ap (λ (l : List Out). note ∷ l)
      (along_push (λ before word. read_outs ((n + length before) % 2 ^ 24) word) words w)

  programs_more : (words : List Packet) (w : Packet)
      → note ∷ programs n (words ++ w ∷ [])
      ≡ note ∷ programs n words ++ program_outs (in_page n (length words)) w
  programs_more words w =
      ap (λ (l : List Out). note ∷ l)
      (along_push (λ before word. program_outs (in_page n (length before)) word) words w)

behind_more : (c : Command) (words : List Packet) (w : Packet)
    → behind c (words ++ w ∷ []) ≡ behind c words ++ said_gives c (said_kept c words) w
behind_more Id [] w = refl
behind_more Id (x ∷ []) w = refl
behind_more Id (x ∷ y ∷ []) w = refl
behind_more Id (x ∷ y ∷ z ∷ others) w = refl
behind_more Status words w = each_more status_outs words w
behind_more WriteStatus words w = each_more written_outs words w
behind_more Read [] w = refl
behind_more Read (x ∷ []) w = refl
behind_more Read (x ∷ y ∷ []) w = refl
behind_more Read (x ∷ y ∷ z ∷ others) w = reads_more (address x y z) _ others w
behind_more FastRead [] w = refl
behind_more FastRead (x ∷ []) w = refl
behind_more FastRead (x ∷ y ∷ []) w = refl
behind_more FastRead (x ∷ y ∷ z ∷ []) w = refl
behind_more FastRead (x ∷ y ∷ z ∷ dummy ∷ others) w = reads_more (address x y z) _ others w
behind_more Program [] w = refl
behind_more Program (x ∷ []) w = refl
behind_more Program (x ∷ y ∷ []) w = refl
behind_more Program (x ∷ y ∷ z ∷ others) w = programs_more (address x y z) _ others w
behind_more EraseSector [] w = refl
behind_more EraseSector (x ∷ []) w = refl
behind_more EraseSector (x ∷ y ∷ []) w = refl
behind_more EraseSector (x ∷ y ∷ z ∷ others) w = refl
behind_more EraseBlock [] w = refl
behind_more EraseBlock (x ∷ []) w = refl
behind_more EraseBlock (x ∷ y ∷ []) w = refl
behind_more EraseBlock (x ∷ y ∷ z ∷ others) w = refl
behind_more EraseChip words w = refl
behind_more Other words w = refl

-- what the deselect gives
none_counted : (n : ℕ) → (n == 0) ≡ (min n (2 ^ 60) == 0)
none_counted n = grind (arith, nat_tests)

module _ (class first last : ℕ) where
  counted : (at n : ℕ)
      → data_summary class first last at n ≡ count_summary class first last at (min n (2 ^ 60))
  counted at n =
      ap (λ (t : Bool). if t then [] else span_note class first last (min n (2 ^ 60)) at ∷ [])
      (none_counted n)

module _ (first last : ℕ) where
  summary_is : (c : Command) (words : List Packet)
      → summary c first last words ≡ said_summary c first last (said_kept c words)
  summary_is Id [] = refl
  summary_is Id (x ∷ []) = refl
  summary_is Id (x ∷ y ∷ []) = refl
  summary_is Id (x ∷ y ∷ z ∷ others) = refl
  summary_is Status words = refl
  summary_is WriteStatus words = refl
  summary_is Read [] = refl
  summary_is Read (x ∷ []) = refl
  summary_is Read (x ∷ y ∷ []) = refl
  summary_is Read (x ∷ y ∷ z ∷ others) = counted 7 first last (address x y z) (length others)
  summary_is FastRead [] = refl
  summary_is FastRead (x ∷ []) = refl
  summary_is FastRead (x ∷ y ∷ []) = refl
  summary_is FastRead (x ∷ y ∷ z ∷ []) = refl
  summary_is FastRead (x ∷ y ∷ z ∷ dummy ∷ others) =
      counted 7 first last (address x y z) (length others)
  summary_is Program [] = refl
  summary_is Program (x ∷ []) = refl
  summary_is Program (x ∷ y ∷ []) = refl
  summary_is Program (x ∷ y ∷ z ∷ others) = counted 8 first last (address x y z) (length others)
  summary_is EraseSector [] = refl
  summary_is EraseSector (x ∷ []) = refl
  summary_is EraseSector (x ∷ y ∷ []) = refl
  summary_is EraseSector (x ∷ y ∷ z ∷ others) = refl
  summary_is EraseBlock [] = refl
  summary_is EraseBlock (x ∷ []) = refl
  summary_is EraseBlock (x ∷ y ∷ []) = refl
  summary_is EraseBlock (x ∷ y ∷ z ∷ others) = refl
  summary_is EraseChip words = refl
  summary_is Other words = refl

pub last_more : (word : Packet) (words : List Packet) (next : Packet)
    → last_in word (words ++ next ∷ []) ≡ next
last_more word [] next = refl
last_more word (x ∷ words) next = last_more x words next

behind_none : (c : Command) → behind c [] ≡ []
behind_none Id = refl
behind_none Status = refl
behind_none WriteStatus = refl
behind_none Read = refl
behind_none FastRead = refl
behind_none Program = refl
behind_none EraseSector = refl
behind_none EraseBlock = refl
behind_none EraseChip = refl
behind_none Other = refl

-- one more word of a transaction
words_tell : (words : List Packet) (w : Packet)
    → words_outs (words ++ w ∷ []) ≡ words_outs words ++ words_give (words_kept words) w
words_tell [] w =
    ap (λ (l : List Out). word_note 0 w (mosi w) 0 ∷ l) (behind_none (command_of (mosi w)))
words_tell (command ∷ words) w =
    ap (λ (l : List Out). word_note 0 command (mosi command) 0 ∷ l)
    (behind_more (command_of (mosi command)) words w)

words_keep : (words : List Packet) (w : Packet)
    → words_kept (words ++ w ∷ []) ≡ words_next (words_kept words) w
words_keep [] w = by (has_number (command_of (mosi w)))
  where
    by : (t : Bool) → Begun (command_of (mosi w)) w.start w.end (if t then Nothing else Nothing)
        ≡ Begun (command_of (mosi w)) w.start w.end Nothing
    by true = refl
    by false = refl
words_keep (command ∷ words) w =
    let c = command_of (mosi command) in
    λ i. Begun c command.start (last_more command words w i).end (said_more c words w i)

words_closing : (words : List Packet) → words_summary words ≡ words_close (words_kept words)
words_closing [] = refl
words_closing (command ∷ words) =
    summary_is command.start (last_in command words).end (command_of (mosi command)) words

-- one more packet of a transaction
module _ (first : Packet) (ps : List Packet) (p : Packet) where
  more_words : words_in (ps ++ p ∷ []) ≡ words_in ps ++ (if is_word p.kind then p ∷ [] else [])
  more_words = filter-append (λ packet. is_word packet.kind) ps (p ∷ [])

  tells : words_outs (words_in (ps ++ p ∷ []))
      ≡ words_outs (words_in ps) ++ open_gives (open_kept first ps) p
  tells = ap words_outs more_words ∙ by (is_word p.kind)
    where
      by : (t : Bool) → words_outs (words_in ps ++ (if t then p ∷ [] else []))
          ≡ words_outs (words_in ps) ++ (if t then words_give (words_kept (words_in ps)) p else [])
      by true = words_tell (words_in ps) p
      by false =
          ap words_outs (append-nil (words_in ps)) ∙ sym (append-nil (words_outs (words_in ps)))

  keeps : open_kept first (ps ++ p ∷ []) ≡ open_next (open_kept first ps) p
  keeps = ap opened more_words ∙ by (is_word p.kind)
    where
      opened : List Packet → Open
      opened words = record { start = first.start; words = words_kept words }

      by : (t : Bool) → opened (words_in ps ++ (if t then p ∷ [] else []))
          ≡ (if t then record {
            start = first.start;
            words = words_next (words_kept (words_in ps)) p;
          } else opened (words_in ps))
      by true =
          ap (λ (w : Words). record { start = first.start; words = w }) (words_keep (words_in ps) p)
      by false = ap opened (append-nil (words_in ps))

pub flash_pushed : Pushed flash flash_steps open_kept
flash_pushed = record {
  no_packets = refl;
  none_kept = λ first. refl;
  inside_push = tells;
  kept_push = keeps;
  closing_is = λ first ps. words_closing (words_in ps);
  near_after = λ first ps last. le_refl first.start;
}
