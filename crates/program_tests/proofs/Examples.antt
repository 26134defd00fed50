-- Worked examples of definitions that no public call reaches at these values.
use Rattle.std.proofs.Common.{◌≡◌, ◌∙◌, refl, ap, arith, ℕ, ℤ, Bool, true, false, List, [], ◌∷◌, ◌++◌, codes}
use Rattle.std.specs.Prelude.{Option, Some, None, Result, Ok, Err}
use Rattle.std.specs.Fmt.{decimal}
use Rattle.std.proofs.lemmas.Fmt.{decimal_digit, decimal_step}
use Rattle.text_parts.specs.Chains.{WordText}
use Rattle.words.specs.Settings.{few_or_many}
use Rattle.words.specs.declared.kinds.WordCount.{WordCount}
use Rattle.words.specs.declared.kinds.WordFault.{WordFault}
use Rattle.words.specs.declared.kinds.WordWhy.{WordWhy}
use Rattle.words.specs.declared.kinds.WordWhy.TheVariants as word_why
use Rattle.kind_table.specs.Kinds.{OptionRow, Text, Pin, Number, Choice}
use Rattle.kind_table.specs.declared.kinds.Asked.{Asked}
use Rattle.stack_words.specs.Instances.{Given, has_numbers}
use Rattle.stack_words.specs.Options.{options_at}
use Rattle.la_io.specs.declared.fault.CaptureFault.TheVariants as capture
use Rattle.stack_words.specs.declared.faults.StackFault.{StackFault}
use Rattle.stack_words.specs.declared.faults.StackWhy.{StackWhy}
use Rattle.stack_words.specs.declared.faults.StackWhy.TheVariants as stack_why
use Rattle.run_status.specs.Notices.{notice_of}
use Rattle.run_status.specs.declared.status.Status.TheVariants.{Capture, NoMemory}

-- A job that takes no words that are no options, as `make` does, and one that takes two or three, as no job does. There
-- are 9 words in all, and the first of those that are no options is word 3.

abbrev a : ℕ → WordText
a word = record { word = word; text = codes "a" }

abbrev counts : ℕ → ℕ → List WordText → Option WordFault
counts fewest most chains = few_or_many (record { fewest = fewest; most = most }) 9 chains

abbrev fault : ℕ → WordWhy → Option WordFault
fault word why = Some (record { word = word; at = 0; why = why })

none_of_none : counts 0 0 [] ≡ None
none_of_none = refl

one_of_none : counts 0 0 (a 3 ∷ []) ≡ fault 3 word_why.Extra
one_of_none = refl

one_of_two : counts 2 3 (a 3 ∷ []) ≡ fault 9 word_why.Few
one_of_two = refl

two_of_two : counts 2 3 (a 3 ∷ a 4 ∷ []) ≡ None
two_of_two = refl

three_of_three : counts 2 3 (a 3 ∷ a 4 ∷ a 5 ∷ []) ≡ None
three_of_three = refl

four_of_three : counts 2 3 (a 3 ∷ a 4 ∷ a 5 ∷ a 6 ∷ []) ≡ fault 6 word_why.Many
four_of_three = refl

-- The options of a kind that isn't there: a channel, two of which one has to be given, a number and a choice; for an
-- instance at byte 10 of word 0.

abbrev made_up : List OptionRow
made_up =
    record { name = codes "sck"; form = Pin true } ∷ record { name = codes "mosi"; form = Pin false } ∷ record { name = codes "miso"; form = Pin false }
    ∷ record { name = codes "bits"; form = Number 1 32 8 } ∷ record { name = codes "mode"; form = Choice (codes "msb" ∷ codes "lsb" ∷ []) } ∷ []

-- whether `bits` is 8 and `mode` is its first word
abbrev eight_and_first : Result (List Given) StackFault → Result (Bool × Bool) StackFault
eight_and_first (Ok given) =
    Ok (has_numbers made_up given (record { row = 3; number = 8 } ∷ []), has_numbers made_up given (record { row = 4; number = 0 } ∷ []))
eight_and_first (Err why) = Err why

abbrev options : Text → Result (Bool × Bool) StackFault
options text = eight_and_first (options_at made_up ((1 ∷ 2 ∷ []) ∷ []) 0 (10, text))

abbrev refused : ℕ → StackWhy → Result (Bool × Bool) StackFault
refused at why = Err (record { word = 0; at = at; why = why })

the_usual : options (codes "k:sck=D0:mosi=D1") ≡ Ok (true, true)
the_usual = refl

the_same : options (codes "k:bits=8:miso=D0:mode=msb:sck=D1") ≡ Ok (true, true)
the_same = refl

nine_bits : options (codes "k:sck=D0:miso=D1:bits=9") ≡ Ok (false, true)
nine_bits = refl

the_other_mode : options (codes "k:sck=D0:miso=D1:mode=lsb") ≡ Ok (true, false)
the_other_mode = refl

none_of_the_group : options (codes "k:sck=D0") ≡ refused 10 stack_why.Missing
none_of_the_group = refl

no_channel : options (codes "k:mosi=D0:bits=8") ≡ refused 10 stack_why.Missing
no_channel = refl

many_bits : options (codes "k:sck=D0:bits=33") ≡ refused 19 stack_why.Range
many_bits = refl

no_number : options (codes "k:sck=D0:bits=x") ≡ refused 19 stack_why.Value
no_number = refl

no_such_mode : options (codes "k:sck=D0:mode=x") ≡ refused 19 stack_why.Value
no_such_mode = refl

no_such_option : options (codes "k:sck=D0:cs=D1") ≡ refused 19 stack_why.Unknown
no_such_option = refl

-- What is told of a status that no run of a raw capture ends with.

no_text : notice_of (Capture capture.Bytes) ≡ codes "ldecode: capture at 0: Bytes\n"
no_text = ap (λ number. codes "ldecode: capture at " ++ number ++ codes ": " ++ codes "Bytes" ++ codes "\n") (decimal_digit 0 (omega arith))

seventy_five : decimal 75 ≡ codes "75"
seventy_five =
    decimal_step 75 (omega arith) (omega arith) ∙ ap (λ front. front ++ codes "5") (decimal_digit 7 (omega arith))

time_runs_back : (was now : ℤ) → notice_of (Capture (capture.TimeBack 75 was now)) ≡ codes "ldecode: capture at 75: TimeBack\n"
time_runs_back was now = ap (λ number. codes "ldecode: capture at " ++ number ++ codes ": " ++ codes "TimeBack" ++ codes "\n") seventy_five

memory_lacks : notice_of NoMemory ≡ codes "ldecode: out of memory\n"
memory_lacks = refl
