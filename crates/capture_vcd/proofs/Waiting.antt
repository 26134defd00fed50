-- Samples that are held back.
use Rattle.std.proofs.Common.{◌≡◌, ℕ, zero, suc, ◌+◌, ◌-◌, ◌^◌, ◌≤◌, ◌<◌, List, [], ◌∷◌, ◌++◌, map, replicate, sym, ◌∙◌, ap, subst, arith, append_assoc, Bool, Option, Some, None, Ok}
use Rattle.std.proofs.lemmas.List.{append-nil}
use Rattle.std.specs.declared.vec.Vec.{Vec}
use Rattle.std.specs.declared.alloc.Global.{Global}
use Rattle.text_parts.specs.Places.{Placed}
use Rattle.la_base.specs.declared.samples.Run.{Run}
use Rattle.la_io.specs.Capture.{Open, Clean}
use Rattle.capture_vcd.specs.Body.{Channel, Time, samples_before, samples_to}
use Rattle.capture_vcd.specs.Within.{token_gives}
use Rattle.capture_vcd.specs.Within as within
use Rattle.capture_vcd.specs.Following.{word_bits}
use Rattle.capture_vcd.specs.Slots.{channel_of, level_of}
use Rattle.capture_vcd.specs.Running.{BodyEnds, BodySettled, BodyStands, Flushes, IsRun, PartsStand, SameForm, TokenAnswers, hanging_of, held_in, last_of, start_of, waiting, word_in}
use Rattle.la_io.specs.Reading.{run_samples}
use Rattle.capture_vcd.specs.declared.slots.Slot.{Slot}
use Rattle.capture_vcd.specs.declared.body.Body.{Body}
use Rattle.capture_vcd.specs.declared.body.Pending.{Pending}
use Rattle.capture_vcd.specs.declared.body.Pending.TheVariants.{Free}
use Rattle.capture_vcd.proofs.Longer.{count_grows}
use Rattle.capture_vcd.proofs.Running.{parts_count, parts_reach, samples_are}

replicate_more : (n m x : ℕ) → replicate n x ++ replicate m x ≡ replicate (n + m) x
replicate_more zero m x = let none : m ≡ 0 + m = omega arith in ap (λ (k : ℕ). replicate k x) none
replicate_more (suc n) m x =
    let next : suc (n + m) ≡ suc n + m = omega arith in
    ap (λ (l : List ℕ). x ∷ l) (replicate_more n m x) ∙ ap (λ (k : ℕ). replicate k x) next

-- a run is its samples
pub run_is : (count word : ℕ) (run : Option Run) → IsRun count word run → run_samples run ≡ replicate count word
run_is count word None none = ap (λ (n : ℕ). replicate n word) (sym none)
run_is count word (Some run) is = samples_are run ∙ (λ i. replicate (is.0 i) (is.1 i))

-- the same of a length and a value
pub same_run : (count word len value : ℕ) → len ≡ count → value ≡ word → replicate len value ≡ replicate count word
same_run count word len value len_is value_is = λ i. replicate (len_is i) (value_is i)

-- where nothing is held back, all were given
pub all_given : (body : Body) (items : List Placed) (given : List ℕ) → held_in body ≡ 0 → BodyStands body items given → BodySettled body items given
all_given body items given none st = subst (λ (l : List ℕ). BodySettled body items l) (ap (λ (n : ℕ). given ++ replicate n (word_in body)) none ∙ append-nil given) st

pub no_waiting : (body : Body) (given : List ℕ) → held_in body ≡ 0 → given ++ waiting body ≡ given
no_waiting body given none = ap (λ (n : ℕ). given ++ replicate n (word_in body)) none ∙ append-nil given

pub none_waits : (body : Body) (items : List Placed) (given : List ℕ) → held_in body ≡ 0 → BodySettled body items given → BodyStands body items given
none_waits body items given none st = subst (λ (l : List ℕ). BodySettled body items l) (sym (ap (λ (n : ℕ). given ++ replicate n (word_in body)) none ∙ append-nil given)) st

-- behind a flush
pub settles : (old new : Body) (run : Option Run) (items : List Placed) (given : List ℕ) → Flushes old new run → BodyStands old items given → BodySettled new items (given ++ run_samples run)
settles old new run items given flush st =
    let all = given ++ run_samples run in
    let same : given ++ waiting old ≡ all = ap (λ (l : List ℕ). given ++ l) (sym (run_is (held_in old) (word_in old) run flush.gave)) in
    let Parts = λ (d : ℕ) (cs : Vec (Vec ℕ Global) Global) (ss : List Slot) (p : Pending) (s l : Option ℕ) (g : List ℕ). PartsStand d (map (channel_of cs.items) ss) ss p s l items g in
    subst (λ (d : ℕ). Parts d new.codes new.slots.items new.pending (start_of new.span) (last_of new.span) all) (sym flush.down)
    (subst (λ (cs : Vec (Vec ℕ Global) Global). Parts old.down cs new.slots.items new.pending (start_of new.span) (last_of new.span) all) (sym flush.codes)
    (subst (λ (ss : List Slot). Parts old.down old.codes ss new.pending (start_of new.span) (last_of new.span) all) (sym flush.slots)
    (subst (λ (p : Pending). Parts old.down old.codes old.slots.items p (start_of new.span) (last_of new.span) all) (sym flush.pending)
    (subst (λ (s : Option ℕ). Parts old.down old.codes old.slots.items old.pending s (last_of new.span) all) (sym flush.start)
    (subst (λ (l : Option ℕ). Parts old.down old.codes old.slots.items old.pending (start_of old.span) l all) (sym flush.latest)
    (subst (λ (g : List ℕ). Parts old.down old.codes old.slots.items old.pending (start_of old.span) (last_of old.span) g) same st))))))

pub flush_form : (old new : Body) (run : Option Run) → Flushes old new run → SameForm old new
flush_form old new run flush = record {
  down = flush.down;
  channels = λ i. map (channel_of (flush.codes i).items) (flush.slots i);
  codes = flush.codes;
}

-- a later time: the samples up to it are held back too
pub parts_held : (down : ℕ) (some : 0 < down) (channels : List Channel) (slots : List Slot) (pending : Pending) (start last : Option ℕ) (items : List Placed) (given : List ℕ) (token : Placed) (at time : ℕ) → time < 2 ^ 60 → pending ≡ Free
    → token_gives within.Free token ≡ (Time at time ∷ [], within.Free) → (s g l held : ℕ) → start ≡ Some s → last ≡ Some l → g ≤ l → l ≤ time → held ≡ samples_before (l - s) down - samples_before (g - s) down
    → PartsStand down channels slots pending start last items (given ++ replicate held (word_bits (map level_of slots)))
    → PartsStand down channels slots pending (Some s) (Some time) (items ++ token ∷ []) (given ++ replicate (samples_before (time - s) down - samples_before (g - s) down) (word_bits (map level_of slots)))
parts_held down some channels slots pending start last items given token at time small free gives s g l held start_is last_is before order held_is st =
    let word = word_bits (map level_of slots) in
    let count = samples_before (time - s) down - samples_before (l - s) down in
    let low : samples_before (g - s) down ≤ samples_before (l - s) down = count_grows down some Open (g - s) (l - s) (omega (arith, before)) in
    let high : samples_before (l - s) down ≤ samples_before (time - s) down = count_grows down some Open (l - s) (time - s) (omega (arith, order)) in
    let total : held + count ≡ samples_before (time - s) down - samples_before (g - s) down = omega (arith, low, high, held_is) in
    subst (λ (l : List ℕ). PartsStand down channels slots pending (Some s) (Some time) (items ++ token ∷ []) l)
    (append_assoc given (replicate held word) (replicate count word) ∙ ap (λ (l : List ℕ). given ++ l) (replicate_more held count word ∙ ap (λ (n : ℕ). replicate n word) total))
    (parts_reach down some channels slots pending start last items (given ++ replicate held word) token at time small free gives st s l count start_is last_is order (omega (arith, high)))

-- the end: the samples that are held back, and the last one
pub parts_all : (down : ℕ) (some : 0 < down) (channels : List Channel) (slots : List Slot) (pending : Pending) (start last : Option ℕ) (items : List Placed) (given : List ℕ) → hanging_of pending ≡ None
    → (s g l held : ℕ) → start ≡ Some s → last ≡ Some l → g ≤ l → held ≡ samples_before (l - s) down - samples_before (g - s) down
    → PartsStand down channels slots pending start last items (given ++ replicate held (word_bits (map level_of slots)))
    → BodyEnds down channels items (given ++ replicate (samples_to (l - s) down - samples_before (g - s) down) (word_bits (map level_of slots))) Clean
parts_all down some channels slots pending start last items given none s g l held start_is last_is before held_is st =
    let word = word_bits (map level_of slots) in
    let count = samples_to (l - s) down - samples_before (l - s) down in
    let low : samples_before (g - s) down ≤ samples_before (l - s) down = count_grows down some Open (g - s) (l - s) (omega (arith, before)) in
    let high : samples_before (l - s) down ≤ samples_to (l - s) down = count_grows down some Clean (l - s) (l - s) (omega arith) in
    let total : held + count ≡ samples_to (l - s) down - samples_before (g - s) down = omega (arith, low, high, held_is) in
    subst (λ (l : List ℕ). BodyEnds down channels items l Clean)
    (append_assoc given (replicate held word) (replicate count word) ∙ ap (λ (l : List ℕ). given ++ l) (replicate_more held count word ∙ ap (λ (n : ℕ). replicate n word) total))
    (parts_count down some channels slots pending start last items (given ++ replicate held word) none st s l start_is last_is count (omega (arith, high)))

-- a run, or none, as an answer
pub answers_run : (body : Body) (items : List Placed) (given : List ℕ) (run : Option Run) → BodyStands body items (given ++ run_samples run) → TokenAnswers body items given (Ok run)
answers_run body items given None st = subst (λ (l : List ℕ). BodyStands body items l) (append-nil given) st
answers_run body items given (Some run) st = st

module _ (down : ℕ) (channels : List Channel) (slots : List Slot) (pending : Pending) (start last : Option ℕ) (items : List Placed) (given : List ℕ) (held word : ℕ) where
  abbrev Parts : List ℕ → Type 0
  Parts given = PartsStand down channels slots pending start last items given

  -- nothing is held back
  pub parts_given : held ≡ 0 → Parts given → Parts (given ++ replicate held word)
  parts_given none st = subst Parts (sym (ap (λ (n : ℕ). given ++ replicate n word) none ∙ append-nil given)) st

  -- no run was given
  pub parts_no_run : Parts (given ++ replicate held word) → Parts ((given ++ []) ++ replicate held word)
  parts_no_run st = subst (λ (l : List ℕ). Parts (l ++ replicate held word)) (sym (append-nil given)) st

-- the levels stay, and so the word of what is held back
pub parts_levels : (down : ℕ) (channels : List Channel) (slots : List Slot) (pending : Pending) (start last : Option ℕ) (items : List Placed) (given : List ℕ) (held : ℕ) (levels : List Bool) → map level_of slots ≡ levels
    → PartsStand down channels slots pending start last items (given ++ replicate held (word_bits levels)) → PartsStand down channels slots pending start last items (given ++ replicate held (word_bits (map level_of slots)))
parts_levels down channels slots pending start last items given held levels same st =
    subst (λ (bs : List Bool). PartsStand down channels slots pending start last items (given ++ replicate held (word_bits bs))) (sym same) st
