-- What moves several items at once is a list of single offers or takes.
use Rattle.std.proofs.lemmas.List.{append-nil, append_assoc, length-append}
use Rattle.std.proofs.lemmas.Bool.Decides.{nat_tests}
use Rattle.std.proofs.Common.{◌≡◌, ◌+◌, ◌≤◌, ◌<◌, Bool, true, false, List, [], ◌∷◌, ◌++◌, length, nat_lt, refl, sym, ◌∙◌, ap, subst, arith}
use mathlib.Core.List.{IsPrefix}
use Rattle.stage_ring.specs.Link.{more, more_if}
use Rattle.stage_ring.specs.Singles.{Sender, Receiver, Offers, Takes}

offers_one_by_one : {T : Type 0} (pushed rest : List T) (a b : Sender T) → (b.link ≡ a.link) × (b.slots ≡ a.slots)
    → b.sent ≡ a.sent ++ pushed → a.free ≤ b.free + length pushed → (0 < length rest → b.free ≡ 0)
    → (0 < length rest → b.misses ≡ more a.misses) → (length rest ≡ 0 → b.misses ≡ a.misses) → Offers a (pushed ++ rest) (length pushed) b
offers_one_by_one [] [] a b same sent free full missed met =
    record { same = same; sent = sent ∙ append-nil a.sent; free = omega (arith, free); misses = met refl }
offers_one_by_one [] (x ∷ xs) a b same sent free full missed met =
    let none : b.free ≡ 0 = full (omega arith) in
    record { same = same; sent = sent ∙ append-nil a.sent; none_free = (omega (arith, free, none), none); misses = missed (omega arith) }
offers_one_by_one {T} (x ∷ xs) rest a b same sent free full missed met =
    let between : Sender T = record { link = a.link; slots = a.slots; sent = a.sent ++ x ∷ []; free = b.free + length xs; misses = a.misses } in (
      between,
      record { same = (refl, refl); sent = refl; free = omega (arith, free); misses = refl },
      offers_one_by_one xs rest between b same (sent ∙ sym (append_assoc a.sent (x ∷ []) xs)) (omega arith) full missed met,
    )

pub single_offers : {T : Type 0} (items pushed rest : List T) (a b : Sender T) → pushed ++ rest ≡ items → (b.link ≡ a.link) × (b.slots ≡ a.slots)
    → b.sent ≡ a.sent ++ pushed → a.free ≤ b.free + length pushed → (0 < length rest → b.free ≡ 0)
    → b.misses ≡ more_if (nat_lt (length pushed) (length items)) a.misses → Offers a items (length pushed) b
single_offers items pushed rest a b parts same sent free full misses =
    let long : length items ≡ length pushed + length rest = sym (ap length parts) ∙ length-append pushed rest in
    let short : 0 < length rest → nat_lt (length pushed) (length items) ≡ true = λ some. grind (arith, nat_tests, some, long) in
    let whole : length rest ≡ 0 → nat_lt (length pushed) (length items) ≡ false = λ none. grind (arith, nat_tests, none, long) in
    let at : (t : Bool) → nat_lt (length pushed) (length items) ≡ t → b.misses ≡ more_if t a.misses = λ t is. misses ∙ ap (λ (u : Bool). more_if u a.misses) is in
    subst (λ xs. Offers a xs (length pushed) b) parts
    (offers_one_by_one pushed rest a b same sent free full (λ some. at true (short some)) (λ none. at false (whole none)))

pub single_takes : {T : Type 0} (items : List T) (a b : Receiver T) → b.link ≡ a.link → b.received ≡ a.received ++ items → IsPrefix a.known (items ++ b.known) → b.misses ≡ a.misses → Takes a items b
single_takes [] a b same received known misses = record { same = same; received = received ∙ append-nil a.received; known = known; misses = misses }
single_takes {T} (x ∷ xs) a b same received known misses =
    let between : Receiver T = record { link = a.link; received = a.received ++ x ∷ []; known = xs ++ b.known; misses = a.misses } in (
      between,
      record { same = refl; received = refl; known = known; misses = refl },
      single_takes xs between b same (received ∙ sym (append_assoc a.received (x ∷ []) xs)) ([], append-nil (xs ++ b.known)) misses,
    )
