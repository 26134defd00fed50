-- Values name one form of capture, and it has one head.
use Rattle.std.proofs.Common.{◌≡◌, ℕ, ◌≤◌, List, [], ◌++◌, refl, sym, ◌∙◌, ap, subst}
use Rattle.std.proofs.Props.{props}
use Rattle.la_base.specs.declared.samples.Rate.{Rate}
use Rattle.la_io.specs.Capture.{Told, AtEnd, Cut, Head}
use Rattle.capture_any.specs.Captures.{HasNoHead, Later, capture_of}
use Rattle.std.proofs.lemmas.List.{append-nil}
use Rattle.capture_any.specs.declared.form.Form.{Form}
use Rattle.capture_any.specs.declared.form.Form.TheVariants.{Raw, Vcd, Csv}
use Rattle.capture_any.proofs.CaptureLaws.{head_stays}
use Rattle.words.specs.Rates.{RateNumbers, numbers_of}
use Rattle.words.specs.Settings.{Values}
use Rattle.run_asks.specs.Asking.{HasHead, IsFormOf, NamesNoHead}

-- rates with the same numbers are one
same_numbers : (num den : ℕ) (p q : (1 ≤ num) × (1 ≤ den)) → ◌≡◌ {A = Rate} (record { num = num; den = den; above_zero = p }) (record { num = num; den = den; above_zero = q })
same_numbers num den p q = let prop : IsProp ((1 ≤ num) × (1 ≤ den)) = hlevel props in λ i. record { num = num; den = den; above_zero = prop p q i }

pub one_rate : (a b : Rate) → a.num ≡ b.num → a.den ≡ b.den → a ≡ b
one_rate a b num den =
    subst (λ (n : ℕ). (q : (1 ≤ n) × (1 ≤ b.den)) → ◌≡◌ {A = Rate} a (record { num = n; den = b.den; above_zero = q })) num
    (subst (λ (d : ℕ). (q : (1 ≤ a.num) × (1 ≤ d)) → ◌≡◌ {A = Rate} a (record { num = a.num; den = d; above_zero = q })) den (λ q. same_numbers a.num a.den a.above_zero q)) b.above_zero

-- values name one form
pub one_form : (values : Values) (a b : Form) → IsFormOf values a → IsFormOf values b → a ≡ b
one_form values (Raw channels rate) (Raw others other) is also =
    let same : numbers_of rate ≡ numbers_of other = is.2 ∙ sym also.2 in
    let count : channels ≡ others = is.1 ∙ sym also.1 in
    let rates : rate ≡ other = one_rate rate other (ap (λ (n : RateNumbers). n.num) same) (ap (λ (n : RateNumbers). n.den) same) in
    λ i. Raw (count i) (rates i)
one_form values (Raw channels rate) (Vcd down) is also = let both = sym is.0 ∙ also.0 in cc
one_form values (Vcd down) (Raw channels rate) is also = let both = sym is.0 ∙ also.0 in cc
one_form values (Vcd down) (Vcd other) is also = ap Vcd (is.1 ∙ sym also.1)
one_form values (Raw channels rate) (Csv mode header other) is also = let both = sym is.0 ∙ also.0 in cc
one_form values (Vcd down) (Csv mode header other) is also = let both = sym is.0 ∙ also.0 in cc
one_form values (Csv mode header rate) (Raw channels other) is also = let both = sym is.0 ∙ also.0 in cc
one_form values (Csv mode header rate) (Vcd down) is also = let both = sym is.0 ∙ also.0 in cc
one_form values (Csv mode header rate) (Csv others told other) is also =
    let same : numbers_of rate ≡ numbers_of other = is.3 ∙ sym also.3 in
    let modes : mode ≡ others = is.1 ∙ sym also.1 in
    let headers : header ≡ told = is.2 ∙ sym also.2 in
    let rates : rate ≡ other = one_rate rate other (ap (λ (n : RateNumbers). n.num) same) (ap (λ (n : RateNumbers). n.den) same) in
    λ i. Csv (modes i) (headers i) (rates i)

-- they have one head with these bytes
pub one_head : (values : Values) (form other : Form) (bytes : List ℕ) (told : Told) (one : Head) → IsFormOf values form → IsFormOf values other → (capture_of form [] bytes told).head ≡ one → (capture_of other [] bytes told).head ≡ one
one_head values form other bytes told one is also head = ap (λ (f : Form). (capture_of f [] bytes told).head) (one_form values other form also is) ∙ head

-- a good head stays, as long as nothing comes behind a told end
pub head_later : (form : Form) (before bytes : List ℕ) (then now : Told) (names : List (List ℕ)) (rate : Rate) → Later then bytes now → HasHead form before then names rate → HasHead form (before ++ bytes) now names rate
head_later form before bytes AtEnd now names rate later head =
    let none = later.none refl in
    let still = later.still refl in
    subst (λ (l : List ℕ). HasHead form l now names rate) (sym (append-nil before) ∙ ap (λ (l : List ℕ). before ++ l) (sym none)) (subst (λ (t : Told). HasHead form before t names rate) (sym still) head)
head_later form before bytes Cut now names rate later head = head_stays.good form [] before bytes now names rate.num rate.den head

pub no_head_here : (values : Values) (form : Form) → IsFormOf values form → NamesNoHead values → HasNoHead form
no_head_here values form is n = subst HasNoHead (one_form values n.form form n.form_is is) n.no_head
