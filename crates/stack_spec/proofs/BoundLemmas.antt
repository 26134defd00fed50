-- Instances that are bound one after another.
use Rattle.std.proofs.Common.{◌≡◌, ℕ, zero, suc, ◌+◌, ◌<◌, ◌≤◌, Bool, true, false, if◌then◌else◌, List, [], ◌∷◌, ◌++◌, length, map, take, drop, get_or, Option, Result, Ok, Err, All, refl, sym, ◌∙◌, ap, subst, arith, append_assoc}
use Rattle.std.specs.List.{enumerate_from, flat_map}
use Rattle.std.proofs.lemmas.List.{append-nil, at_drop_all, take_all}
use Rattle.std.proofs.lemmas.List.Elements.{All-push}
use Rattle.text_parts.specs.Reading.{read_parts, then_read}
use Rattle.text_parts.proofs.ReadLemmas.{map-push}
use Rattle.la_base.specs.declared.samples.Rate.{Rate}
use Rattle.decoder_core.specs.declared.faults.OptFault.{OptFault}
use Rattle.kind_table.specs.Kinds.{kind_row}
use Rattle.decoder_set.specs.Faults.{too_slow}
use Rattle.decoder_set.specs.Opening.{HasConsumed, Opens}
use Rattle.decoder_set.specs.Opening as opening
use Rattle.kind_table.specs.Values.{in_range}
use Rattle.decoder_set.specs.declared.any.AnyDecoder.{AnyDecoder}
use Rattle.kind_table.specs.declared.values.OptValues.{OptValues}
use Rattle.decoder_set.specs.declared.setup.Setup.{Setup}
use Rattle.cond_words.specs.Binding.{is_pin, first_uses}
use Rattle.cond_words.specs.declared.faults.BindWhy.TheVariants as why
use Rattle.cond_words.specs.declared.faults.BindFault.{BindFault}
use Rattle.stack_spec.specs.Binding.{RowBound, channels, with_channels, values_of, BoundInstance, stack_pins, setup_of, bind_fault, opened_at, rows_bound, instance_bound, bound_at, bound_of}
use Rattle.stack_spec.specs.BindSteps.{BindsRows, BindsInstance, IsBound}
use Rattle.stack_spec.specs.declared.bound.Bound.{Bound}
use Rattle.stack_words.specs.Instances.{Instance}
use Rattle.stack_words.specs.Sound.{options_fit, parent_fits, is_right, right_from}
use Rattle.stack_words.proofs.OptionLemmas.{both}
use Rattle.stack_words.proofs.LinkLemmas.{flat_map-append}
use Rattle.stack_spec.proofs.RowLemmas.{parts_turn, rows_in_range, not_slow, slow}

module _ (most : ℕ) (names : List (List ℕ)) (rate : Rate) (pins : List ℕ) (entry : ℕ) (instance : Instance) (new : List ℕ) (values : OptValues)
    (b : BindsRows (rows_bound most names pins entry instance) pins new values.given) (fit : options_fit (kind_row instance.kind) instance.options ≡ true) where
  range : in_range most instance.kind values.given ≡ true
  range = ap (λ (l : List (Option ℕ)). in_range most instance.kind l) b.values_are ∙ rows_in_range most names pins entry instance b.rows b.reads fit

  same_speed : too_slow instance.kind values.given rate ≡ too_slow instance.kind (values_of b.rows) rate
  same_speed = ap (λ (l : List (Option ℕ)). too_slow instance.kind l rate) b.values_are

  bound_by : (slow : Bool) → too_slow instance.kind values.given rate ≡ slow
      → instance_bound most names rate pins entry instance ≡ (if slow then bind_fault entry 0 why.Rate else Ok (record { setup = setup_of rate instance b.rows; uses = channels b.rows }))
  bound_by slow is = ap (λ (r : Result (List RowBound) BindFault). then_read r (opened_at rate entry instance)) b.reads
      ∙ ap (λ (t : Bool). if◌then◌else◌ {A = Result BoundInstance BindFault} t (bind_fault entry 0 why.Rate) (Ok (record { setup = setup_of rate instance b.rows; uses = channels b.rows }))) (sym same_speed ∙ is)

  -- a decoder that was opened
  pub bound_ok : (decoder : AnyDecoder) → Opens most instance.kind values rate (Ok decoder) → BindsInstance (instance_bound most names rate pins entry instance) pins new decoder
  bound_ok decoder o = record {
    instance = record { setup = setup_of rate instance b.rows; uses = channels b.rows };
    reads = bound_by false (not_slow most instance.kind values.given rate range o.0);
    pins = b.pins;
    setup = o.1 ∙ (λ i. record { kind = instance.kind; values = record { given = b.values_are i }; rate = rate });
    consumed = o.2;
  }

  -- a decoder that can't be opened
  pub bound_slow : (reason : OptFault) → Opens most instance.kind values rate (Err reason) → instance_bound most names rate pins entry instance ≡ bind_fault entry 0 why.Rate
  bound_slow reason o = bound_by true (slow most instance.kind values.given rate reason range o)

-- the pins of channels in two parts
with_channels-append : (pins xs ys : List ℕ) → with_channels pins (xs ++ ys) ≡ with_channels (with_channels pins xs) ys
with_channels-append pins [] ys = ap (λ (l : List ℕ). with_channels l ys) (sym (append-nil pins))
with_channels-append pins (x ∷ xs) ys = by (is_pin pins x) (with_channels-append pins xs ys) (with_channels-append (pins ++ x ∷ []) xs ys)
  where
    by : (b : Bool) → with_channels pins (xs ++ ys) ≡ with_channels (with_channels pins xs) ys → with_channels (pins ++ x ∷ []) (xs ++ ys) ≡ with_channels (with_channels (pins ++ x ∷ []) xs) ys
        → pins ++ (if b then first_uses pins (xs ++ ys) else x ∷ first_uses (pins ++ x ∷ []) (xs ++ ys)) ≡ with_channels (pins ++ (if b then first_uses pins xs else x ∷ first_uses (pins ++ x ∷ []) xs)) ys
    by true old new = old
    by false old new = sym (append_assoc pins (x ∷ []) (first_uses (pins ++ x ∷ []) (xs ++ ys))) ∙ new ∙ ap (λ (l : List ℕ). with_channels l ys) (append_assoc pins (x ∷ []) (first_uses (pins ++ x ∷ []) xs))

stack_pins-push : (read : List BoundInstance) (instance : BoundInstance) → stack_pins (read ++ instance ∷ []) ≡ with_channels (stack_pins read) instance.uses
stack_pins-push read instance = ap (with_channels []) (flat_map-append (λ i. i.uses) read (instance ∷ []) ∙ ap (λ (l : List ℕ). flat_map (λ i. i.uses) read ++ l) (append-nil instance.uses))
    ∙ with_channels-append [] (flat_map (λ i. i.uses) read) instance.uses

enumerate_at : {X : Type 0} (n : ℕ) (xs : List X) (k : ℕ) (d : ℕ × X) (x : X) → k < length xs → x ≡ get_or xs k x → get_or (enumerate_from n xs) k d ≡ (n + k, x)
enumerate_at n [] k d x within is = absurd (omega (arith, within))
enumerate_at n (y ∷ ys) zero d x within is = (let same : n ≡ n + 0 = omega arith in (λ i. (same i, sym is i)))
enumerate_at n (y ∷ ys) (suc k) d x within is = enumerate_at (n + 1) ys k d x (omega (arith, within)) is ∙ (let same : n + 1 + k ≡ n + suc k = omega arith in ap (λ (m : ℕ). (m, x)) same)

enumerate_count : {X : Type 0} (n : ℕ) (xs : List X) → length {A = ℕ × X} (enumerate_from n xs) ≡ length xs
enumerate_count n [] = refl
enumerate_count n (x ∷ xs) = ap (λ (k : ℕ). suc k) (enumerate_count (n + 1) xs)

take_one : {X : Type 0} (xs : List X) (k : ℕ) (x : X) → k < length xs → x ≡ get_or xs k x → take (k + 1) xs ≡ take k xs ++ x ∷ []
take_one [] k x within is = absurd (omega (arith, within))
take_one (y ∷ ys) zero x within is = ap (λ z. z ∷ []) (sym is)
take_one (y ∷ ys) (suc k) x within is = (let next : suc k + 1 ≡ suc (k + 1) = omega arith in ap (λ (n : ℕ). take n (y ∷ ys)) next) ∙ ap (λ l. y ∷ l) (take_one ys k x (omega (arith, within)) is)

-- an instance of a sound stack has options that fit
pub options_right : (before xs : List Instance) (k : ℕ) (x : Instance) → right_from before xs ≡ true → k < length xs → x ≡ get_or xs k x → options_fit (kind_row x.kind) x.options ≡ true
options_right before [] k x all within is = absurd (omega (arith, within))
options_right before (y ∷ ys) zero x all within is =
    let right = both (is_right before y) (right_from (before ++ y ∷ []) ys) all in
    subst (λ (i : Instance). options_fit (kind_row i.kind) i.options ≡ true) (sym is) (both (parent_fits before y.kind y.parent) (options_fit (kind_row y.kind) y.options) right.0).1
options_right before (y ∷ ys) (suc k) x all within is = options_right (before ++ y ∷ []) ys k x (both (is_right before y) (right_from (before ++ y ∷ []) ys) all).1 (omega (arith, within)) is

-- the first k instances are bound
pub record BoundSoFar (most : ℕ) (names : List (List ℕ)) (rate : Rate) (instances : List Instance) (k : ℕ) (pins : List ℕ) (machines : List AnyDecoder) (parents : List (Option ℕ)) : Type 0 where
  pub read : List BoundInstance
  pub reads : bound_of most names rate instances ≡ read_parts (bound_at most names rate) read (drop k (enumerate_from 0 instances))
  pub pins_are : pins ≡ stack_pins read
  pub setups : map opening.setup_of machines ≡ map (λ instance. instance.setup) read
  pub consumed : All (λ decoder. HasConsumed decoder []) machines
  pub parents_are : parents ≡ map (λ instance. instance.parent) (take k instances)
  pub kinds : map (λ decoder. (opening.setup_of decoder).kind) machines ≡ map (λ instance. instance.kind) (take k instances)

-- nothing is bound yet
pub nothing_bound : (most : ℕ) (names : List (List ℕ)) (rate : Rate) (instances : List Instance) → BoundSoFar most names rate instances 0 [] [] []
nothing_bound most names rate instances = record {
  read = [];
  reads = refl;
  pins_are = refl;
  setups = refl;
  consumed = λ k d within. absurd (omega (arith, within));
  parents_are = refl;
  kinds = refl;
}

-- the setup of an instance that is bound is of its kind
kind_kept : (most : ℕ) (names : List (List ℕ)) (rate : Rate) (pins : List ℕ) (entry : ℕ) (instance : Instance) (b : BoundInstance) → instance_bound most names rate pins entry instance ≡ Ok b → b.setup.kind ≡ instance.kind
kind_kept most names rate pins entry instance b e = by (rows_bound most names pins entry instance) e
  where
    opened : (rows : List RowBound) (slow : Bool) → (if slow then bind_fault entry 0 why.Rate else Ok (record { setup = setup_of rate instance rows; uses = channels rows })) ≡ Ok b → b.setup.kind ≡ instance.kind
    opened rows true e = cc
    opened rows false e = let same : record { setup = setup_of rate instance rows; uses = channels rows } ≡ b = cc in ap (λ (x : BoundInstance). x.setup.kind) (sym same)

    by : (r : Result (List RowBound) BindFault) → then_read r (opened_at rate entry instance) ≡ Ok b → b.setup.kind ≡ instance.kind
    by (Ok rows) e = opened rows (too_slow instance.kind (values_of rows) rate) e
    by (Err fault) e = cc

module _ (most : ℕ) (names : List (List ℕ)) (rate : Rate) (instances : List Instance) (k : ℕ) (pins : List ℕ) (machines : List AnyDecoder) (parents : List (Option ℕ)) (s : BoundSoFar most names rate instances k pins machines parents)
    (instance : Instance) (within : k < length instances) (is : instance ≡ get_or instances k instance) where
  turn : bound_of most names rate instances ≡ then_read (instance_bound most names rate pins k instance) (λ b. read_parts (bound_at most names rate) (s.read ++ b ∷ []) (drop (k + 1) (enumerate_from 0 instances)))
  turn =
      let inside : k < length (enumerate_from 0 instances) = omega (arith, within, enumerate_count 0 instances) in
      let place : 0 + k ≡ k = omega arith in
      s.reads
      ∙ parts_turn (bound_at most names rate) s.read (enumerate_from 0 instances) k (k, instance) inside (enumerate_at 0 instances k (k, instance) instance within is ∙ ap (λ (m : ℕ). (m, instance)) place)
      ∙ ap (λ (l : List ℕ). then_read (instance_bound most names rate l k instance) (λ b. read_parts (bound_at most names rate) (s.read ++ b ∷ []) (drop (k + 1) (enumerate_from 0 instances)))) (sym s.pins_are)

  -- an instance more
  pub bound_more : (new : List ℕ) (decoder : AnyDecoder) → BindsInstance (instance_bound most names rate pins k instance) pins new decoder
      → BoundSoFar most names rate instances (k + 1) new (machines ++ decoder ∷ []) (parents ++ instance.parent ∷ [])
  bound_more new decoder b = record {
    read = s.read ++ b.instance ∷ [];
    reads = turn ∙ ap (λ (r : Result BoundInstance BindFault). then_read r (λ b. read_parts (bound_at most names rate) (s.read ++ b ∷ []) (drop (k + 1) (enumerate_from 0 instances)))) b.reads;
    pins_are = b.pins ∙ ap (λ (l : List ℕ). with_channels l b.instance.uses) s.pins_are ∙ sym (stack_pins-push s.read b.instance);
    setups = map-push opening.setup_of machines decoder ∙ (λ i. s.setups i ++ b.setup i ∷ []) ∙ sym (map-push (λ instance. instance.setup) s.read b.instance);
    consumed = All-push (λ decoder. HasConsumed decoder []) machines decoder s.consumed b.consumed;
    parents_are = ap (λ (l : List (Option ℕ)). l ++ instance.parent ∷ []) s.parents_are ∙ sym (map-push (λ instance. instance.parent) (take k instances) instance) ∙ ap (map (λ instance. instance.parent)) (sym (take_one instances k instance within is));
    kinds = map-push (λ decoder. (opening.setup_of decoder).kind) machines decoder
        ∙ (λ i. s.kinds i ++ (ap (λ (x : Setup). x.kind) b.setup ∙ kind_kept most names rate pins k instance b.instance b.reads) i ∷ [])
        ∙ sym (map-push (λ instance. instance.kind) (take k instances) instance) ∙ ap (map (λ instance. instance.kind)) (sym (take_one instances k instance within is));
  }

  -- an instance with a fault
  pub bound_stops : (reason : BindFault) → instance_bound most names rate pins k instance ≡ Err reason → bound_of most names rate instances ≡ Err reason
  bound_stops reason bad = turn ∙ ap (λ (r : Result BoundInstance BindFault). then_read r (λ b. read_parts (bound_at most names rate) (s.read ++ b ∷ []) (drop (k + 1) (enumerate_from 0 instances)))) bad

-- behind the last instance
pub bound_ends : (most : ℕ) (names : List (List ℕ)) (rate : Rate) (instances : List Instance) (k : ℕ) (bound : Bound) → BoundSoFar most names rate instances k bound.pins.items bound.machines.items bound.parents.items → length instances ≤ k
    → IsBound most names rate instances bound
bound_ends most names rate instances k bound s past = record {
  read = s.read;
  reads = s.reads ∙ at_drop_all (λ ps. read_parts (bound_at most names rate) s.read ps) (enumerate_from 0 instances) k (omega (arith, past, enumerate_count 0 instances));
  setups = s.setups;
  consumed = s.consumed;
  parents = s.parents_are ∙ ap (map (λ instance. instance.parent)) (take_all k instances past);
  pins = s.pins_are;
}

pub kinds_end : (most : ℕ) (names : List (List ℕ)) (rate : Rate) (instances : List Instance) (k : ℕ) (pins : List ℕ) (machines : List AnyDecoder) (parents : List (Option ℕ)) → BoundSoFar most names rate instances k pins machines parents → length instances ≤ k
    → map (λ decoder. (opening.setup_of decoder).kind) machines ≡ map (λ instance. instance.kind) instances
kinds_end most names rate instances k pins machines parents s past = s.kinds ∙ ap (map (λ instance. instance.kind)) (take_all k instances past)
