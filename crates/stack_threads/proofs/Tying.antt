-- One link that is tied.
use Rattle.std.proofs.Common.{◌≡◌, ◌≢◌, ◌⊎◌, inl, inr, ◌<◌, ℕ, zero, suc, Bool, true, false, List, [], ◌∷◌, ◌++◌, map, set, length, get_or, slice_get, take, ◌+◌, ◌≤◌, if◌then◌else◌, Option, Some, None, refl, sym, ◌∙◌, ap, subst, arith}
use Rattle.std.proofs.lemmas.Bool.{cases_eq}
use Rattle.std.proofs.lemmas.List.{take_more}
use Rattle.std.proofs.Math.Path.{transport}
use Rattle.std.specs.List.{AllZip}
use Rattle.la_base.specs.declared.wires.Feed.{Feed}
use Rattle.la_base.specs.declared.wires.Mark.{Mark}
use Rattle.tree_runs.specs.Passing.{same_place}
use Rattle.stage_ring.specs.Link.{Link, known, received, rx_link, sent, slots, tx_link}
use Rattle.stage_ring.specs.declared.ends.Tx.{Tx}
use Rattle.stage_ring.specs.declared.ends.Rx.{Rx}
use Rattle.stage_run.specs.Inputs.{came, feeds_in, input_link, reads_samples}
use Rattle.stage_run.specs.Stages.{Links, parts_links}
use Rattle.stage_run.specs.declared.input.Input.{Input}
use Rattle.stage_run.specs.declared.input.Input.TheVariants.{Samples, Packets}
use Rattle.stage_run.specs.declared.input.HalfRun.{HalfRun}
use Rattle.stage_run.specs.declared.stage.Parts.{Parts}
use Rattle.stack_threads.specs.Ties.{Alike, AllKnown, Given, Got, Heard, SameBut, Sent, Tied, given_by, got_on, sent_on}
use Rattle.stack_threads.specs.Trees.{Reads, Wired, on_place}

pub some_same : {A : Type 0} {a b : A} → Some a ≡ Some b → a ≡ b
some_same e = cc

-- what there is at a place
pub get_map : {A B : Type 0} (f : A → B) (xs : List A) (k : ℕ) (d : A) → k < length xs → slice_get (map f xs) k ≡ Some (f (get_or xs k d))
get_map f [] k d low = absurd (omega (arith, low))
get_map f (x ∷ xs) zero d low = refl
get_map f (x ∷ xs) (suc k) d low = get_map f xs k d (omega (arith, low))

pub at_place : {A B : Type 0} (f : A → B) (xs : List A) (k : ℕ) (d : A) (y : B) → k < length xs → slice_get (map f xs) k ≡ Some y → f (get_or xs k d) ≡ y
at_place f xs k d y within is = some_same (sym (get_map f xs k d within) ∙ is)

pub get_first : {A B : Type 0} (f : A → B) (xs : List A) (k : ℕ) → k < length xs → (y : B) × (slice_get (map f xs) k ≡ Some y)
get_first f [] k low = absurd (omega (arith, low))
get_first f (x ∷ xs) zero low = (f x, refl)
get_first f (x ∷ xs) (suc k) low = get_first f xs k (omega (arith, low))

-- what was put at a place
pub get_put : {A B : Type 0} (f : A → B) (xs : List A) (k : ℕ) (x : A) → k < length xs → slice_get (map f (set xs k x)) k ≡ Some (f x)
get_put f [] k x low = absurd (omega (arith, low))
get_put f (y ∷ xs) zero x low = refl
get_put f (y ∷ xs) (suc k) x low = get_put f xs k x (omega (arith, low))

-- all other places stay
pub but_put : {A B : Type 0} (f : A → B) (xs : List A) (k : ℕ) (x : A) → SameBut k (map f xs) (map f (set xs k x))
but_put f [] k x j other = refl
but_put f (y ∷ xs) zero x zero other = absurd (other refl)
but_put f (y ∷ xs) zero x (suc j) other = refl
but_put f (y ∷ xs) (suc k) x zero other = refl
but_put f (y ∷ xs) (suc k) x (suc j) other = but_put f xs k x j (λ e. other (ap suc e))

-- one end was replaced by one of which the same is so
pub put_same : {A B : Type 0} (f : A → B) (xs : List A) (k : ℕ) (d x : A) → f x ≡ f (get_or xs k d) → map f (set xs k x) ≡ map f xs
put_same f [] k d x same = refl
put_same f (y ∷ xs) zero d x same = ap (λ l. l ∷ map f xs) same
put_same f (y ∷ xs) (suc k) d x same = ap (λ l. f y ∷ l) (put_same f xs k d x same)

-- an end that sent the same
pub same_sent : {T : Type 0} (old new : Tx T) → sent new ≡ sent old → slots new ≡ slots old → sent_on new ≡ sent_on old
same_sent old new s n = λ i. record { items = s i; slots = n i }

pub known_all : {T : Type 0} (rx : Rx T) (old new : Tx T) → received rx ++ known rx ≡ sent new → length (known rx) ≤ slots new → sent new ≡ sent old → slots new ≡ slots old → AllKnown (got_on rx) (sent_on old)
known_all rx old new tied few s n = record { all = tied ∙ s; few = subst (λ (m : ℕ). length (known rx) ≤ m) n few }

module _ {M : Type 0} where
  pub alike_same : (p : Parts M) → Alike p p
  alike_same p = record { machine = refl; links = refl; came = refl; given = refl }

  pub alike_then : (p q r : Parts M) → Alike p q → Alike q r → Alike p r
  alike_then p q r a b = record { machine = b.machine ∙ a.machine; links = b.links ∙ a.links; came = b.came ∙ a.came; given = b.given ∙ a.given }

  pub alike_each : (ps : List (Parts M)) → AllZip Alike ps ps
  alike_each [] = tt
  alike_each (p ∷ ps) = (alike_same p, alike_each ps)

  pub alike_set : (ps : List (Parts M)) (k : ℕ) (d new : Parts M) → Alike (get_or ps k d) new → AllZip Alike ps (set ps k new)
  alike_set [] k d new a = tt
  alike_set (p ∷ ps) zero d new a = (a, alike_each ps)
  alike_set (p ∷ ps) (suc k) d new a = (alike_same p, alike_set ps k d new a)

  pub alike_both : (xs xs2 ys ys2 : List (Parts M)) → AllZip Alike xs xs2 → AllZip Alike ys ys2 → AllZip Alike (xs ++ ys) (xs2 ++ ys2)
  alike_both [] [] ys ys2 a b = b
  alike_both [] (x ∷ xs2) ys ys2 a b = absurd a
  alike_both (x ∷ xs) [] ys ys2 a b = absurd a
  alike_both (x ∷ xs) (y ∷ xs2) ys ys2 a b = (a.0, alike_both xs xs2 ys ys2 a.1 b)

  pub alike_each_then : (xs ys zs : List (Parts M)) → AllZip Alike xs ys → AllZip Alike ys zs → AllZip Alike xs zs
  alike_each_then [] [] [] a b = tt
  alike_each_then [] [] (z ∷ zs) a b = absurd b
  alike_each_then [] (y ∷ ys) zs a b = absurd a
  alike_each_then (x ∷ xs) [] zs a b = absurd a
  alike_each_then (x ∷ xs) (y ∷ ys) [] a b = absurd b
  alike_each_then (x ∷ xs) (y ∷ ys) (z ∷ zs) a b = (alike_then x y z a.0 b.0, alike_each_then xs ys zs a.1 b.1)

  -- alike parts have given the same, on the same links
  pub alike_given : (xs ys : List (Parts M)) → AllZip Alike xs ys → map given_by ys ≡ map given_by xs
  alike_given [] [] a = refl
  alike_given [] (y ∷ ys) a = absurd a
  alike_given (x ∷ xs) [] a = absurd a
  alike_given (x ∷ xs) (y ∷ ys) a = λ i. a.0.given i ∷ alike_given xs ys a.1 i

  pub alike_links : (xs ys : List (Parts M)) → AllZip Alike xs ys → map parts_links ys ≡ map parts_links xs
  alike_links [] [] a = refl
  alike_links [] (y ∷ ys) a = absurd a
  alike_links (x ∷ xs) [] a = absurd a
  alike_links (x ∷ xs) (y ∷ ys) a = λ i. a.0.links i ∷ alike_links xs ys a.1 i

  -- another end for the marks, of the same link and with the same sent
  pub marks_alike : (p : Parts M) (tx : Tx Mark) → sent_on tx ≡ sent_on p.marks → tx_link tx ≡ tx_link p.marks → Alike p (record { machine = p.machine; input = p.input; children = p.children; marks = tx })
  marks_alike p tx same link = record {
    machine = refl;
    links = ap (λ (l : Link). record { input = input_link p.input; samples = reads_samples p.input; children = map tx_link p.children.items; marks = l }) link;
    came = refl;
    given = ap (λ (m : Sent Mark). record { children = map sent_on p.children.items; marks = m }) same;
  }

  -- another end for the input, of the same link and with the same received
  pub samples_alike : (p : Parts M) (old new : Rx HalfRun) → p.input ≡ Samples old → received new ≡ received old → rx_link new ≡ rx_link old → Alike p (record { machine = p.machine; input = Samples new; children = p.children; marks = p.marks })
  samples_alike p old new is same link = record {
    machine = refl;
    links =
        ap (λ (l : Link). record { input = l; samples = true; children = map tx_link p.children.items; marks = tx_link p.marks }) link
        ∙ ap (λ (i : Input). record { input = input_link i; samples = reads_samples i; children = map tx_link p.children.items; marks = tx_link p.marks }) (sym is);
    came = ap (feeds_in 0) same ∙ sym (ap came is);
    given = refl;
  }

  pub packets_alike : (p : Parts M) (old new : Rx Feed) → p.input ≡ Packets old → received new ≡ received old → rx_link new ≡ rx_link old → Alike p (record { machine = p.machine; input = Packets new; children = p.children; marks = p.marks })
  packets_alike p old new is same link = record {
    machine = refl;
    links =
        ap (λ (l : Link). record { input = l; samples = false; children = map tx_link p.children.items; marks = tx_link p.marks }) link
        ∙ ap (λ (i : Input). record { input = input_link i; samples = reads_samples i; children = map tx_link p.children.items; marks = tx_link p.marks }) (sym is);
    came = same ∙ sym (ap came is);
    given = refl;
  }

  -- other ends for the children
  pub children_alike : (p : Parts M) (news : List (Tx Feed)) → map sent_on news ≡ map sent_on p.children.items → (record { children = map sent_on news; marks = sent_on p.marks }) ≡ given_by p
  children_alike p news same = ap (λ (l : List (Sent Feed)). record { children = l; marks = sent_on p.marks }) same

  pub children_links : (p : Parts M) (news : List (Tx Feed)) → map tx_link news ≡ map tx_link p.children.items → (record { input = input_link p.input; samples = reads_samples p.input; children = map tx_link news; marks = tx_link p.marks }) ≡ parts_links p
  children_links p news same = ap (λ (l : List Link). record { input = input_link p.input; samples = reads_samples p.input; children = l; marks = tx_link p.marks }) same

-- the input of a root is no link of packets
pub no_packets : {Z : Type 0} (input : Input) (old : Rx Feed) → input ≡ Packets old → reads_samples input ≡ true → Z
no_packets input old is samples = absurd (contra (sym (ap reads_samples is) ∙ samples))
  where
    contra : false ≡ true → ⊥
    contra e = cc

-- one more instance before a place
on_step : (c t : Bool) (n m : ℕ) → (if c then suc n else n) ≡ m → (if c then suc (if t then suc n else n) else (if t then suc n else n)) ≡ (if t then suc m else m)
on_step true true n m e = ap suc e
on_step true false n m e = e
on_step false true n m e = ap suc e
on_step false false n m e = e

on_last : (above : Option ℕ) (xs : List (Option ℕ)) (x : Option ℕ) (c : Bool) → c ≡ same_place x above → (if c then suc (on_place above xs) else on_place above xs) ≡ on_place above (xs ++ x ∷ [])
on_last above [] x c e = ap (λ (t : Bool). if t then 1 else 0) e
on_last above (y ∷ xs) x c e = on_step c (same_place y above) (on_place above xs) (on_place above (xs ++ x ∷ [])) (on_last above xs x c e)

pub on_next : (above : Option ℕ) (parents : List (Option ℕ)) (i : ℕ) (d : Option ℕ) (b : Bool) → i < length parents → b ≡ same_place (get_or parents i d) above → (if b then suc (on_place above (take i parents)) else on_place above (take i parents)) ≡ on_place above (take (i + 1) parents)
on_next above parents i d b within is = on_last above (take i parents) (get_or parents i d) b is ∙ sym (ap (on_place above) (take_more parents i d within))

-- parts in front, and behind
module _ {A B : Type 0} (f : A → B) where
  pub at_front : (xs ys : List A) (k : ℕ) (d : A) → k < length xs → slice_get (map f (xs ++ ys)) k ≡ Some (f (get_or xs k d))
  at_front [] ys k d low = absurd (omega (arith, low))
  at_front (x ∷ xs) ys zero d low = refl
  at_front (x ∷ xs) ys (suc k) d low = at_front xs ys k d (omega (arith, low))

  pub at_back : (xs ys : List A) (k : ℕ) (d : A) → k ≡ length xs → 0 < length ys → slice_get (map f (xs ++ ys)) k ≡ Some (f (get_or ys 0 d))
  at_back [] [] k d is some = absurd (omega (arith, some))
  at_back [] (y ∷ ys) zero d is some = refl
  at_back [] (y ∷ ys) (suc k) d is some = absurd (omega (arith, is))
  at_back (x ∷ xs) ys zero d is some = absurd (omega (arith, is))
  at_back (x ∷ xs) ys (suc k) d is some = at_back xs ys k d (omega (arith, is)) some

  -- the first behind was replaced, and one in front by one of which the same is so
  pub but_back : (xs xs2 ys : List A) (k : ℕ) (y : A) → map f xs2 ≡ map f xs → k ≡ length xs → SameBut k (map f (xs ++ ys)) (map f (xs2 ++ set ys 0 y))
  but_back [] [] ys k y same is j other = subst (λ (n : ℕ). SameBut n (map f ys) (map f (set ys 0 y))) (sym is) (but_put f ys 0 y) j other
  but_back [] (x2 ∷ xs2) ys k y same is j other = absurd cc
  but_back (x ∷ xs) [] ys k y same is j other = absurd cc
  but_back (x ∷ xs) (x2 ∷ xs2) ys zero y same is j other = absurd (omega (arith, is))
  but_back (x ∷ xs) (x2 ∷ xs2) ys (suc k) y same is zero other = let here : f x2 ≡ f x = cc in ap (λ (b : B). Some b) here
  but_back (x ∷ xs) (x2 ∷ xs2) ys (suc k) y same is (suc j) other = but_back xs xs2 ys k y (cc) (omega (arith, is)) j (λ e. other (ap suc e))

  pub back_put : (xs ys : List A) (k : ℕ) (y : A) → k ≡ length xs → 0 < length ys → slice_get (map f (xs ++ set ys 0 y)) k ≡ Some (f y)
  back_put [] [] k y is some = absurd (omega (arith, some))
  back_put [] (z ∷ ys) zero y is some = refl
  back_put [] (z ∷ ys) (suc k) y is some = absurd (omega (arith, is))
  back_put (x ∷ xs) ys zero y is some = absurd (omega (arith, is))
  back_put (x ∷ xs) ys (suc k) y is some = back_put xs ys k y (omega (arith, is)) some

pub none_some : {Z : Type 0} {o : Option (Option ℕ)} {p : ℕ} → o ≡ Some None → o ≡ Some (Some p) → Z
none_some {o = o} {p = p} a b = absurd (contra (sym a ∙ b))
  where
    contra : Some None ≡ Some (Some p) → ⊥
    contra e = cc

pub some_some : {p q : ℕ} → Some (Some p) ≡ Some (Some q) → p ≡ q
some_some e = cc

-- wired by the same links
pub wired_same : {parents : List (Option ℕ)} {s0 s1 : List Links} {f0 f1 m0 m1 : List Link} → s1 ≡ s0 → f1 ≡ f0 → m1 ≡ m0 → Wired parents s0 f0 m0 → Wired parents s1 f1 m1
wired_same {parents} a b c w = transport (λ i. Wired parents (sym a i) (sym b i) (sym c i)) w

pub reads_same : (parents : List (Option ℕ)) (s0 s1 : List Links) (f : List Link) (j : ℕ) → s1 ≡ s0 → Reads parents s0 f j → Reads parents s1 f j
reads_same parents s0 s1 f j a r = subst (λ (s : List Links). Reads parents s f j) (sym a) r

-- one more instance is tied, and those before it still are
pub tied_next : {parents : List (Option ℕ)} {h0 h1 : List Heard} {g0 g1 : List Given} {f0 f1 : List (Sent HalfRun)} {m0 m1 : List (Got Mark)} (i : ℕ)
    → SameBut i h0 h1 → g1 ≡ g0 → f1 ≡ f0 → SameBut i m0 m1
    → ((j : ℕ) → j < i → Tied parents h0 g0 f0 m0 j) → Tied parents h1 g1 f1 m1 i → (j : ℕ) → j < i + 1 → Tied parents h1 g1 f1 m1 j
tied_next {parents} {h0} {h1} {g0} {g1} {f0} {f1} {m0} {m1} i hears gives feeds gathers had new j low = by (cases_eq j i)
  where
    still : j ≢ i → Tied parents h0 g0 f0 m0 j → Tied parents h1 g1 f1 m1 j
    still other t = record {
      marks = λ g m at_g at_m. t.marks g m (ap (λ (l : List Given). slice_get l j) (sym gives) ∙ at_g) (sym (gathers j other) ∙ at_m);
      root = λ at h s at_h at_s. t.root at h s (sym (hears j other) ∙ at_h) (ap (λ (l : List (Sent HalfRun)). slice_get l (on_place None (take j parents))) (sym feeds) ∙ at_s);
      child = λ p at h above s at_h at_above at_s. t.child p at h above s (sym (hears j other) ∙ at_h) (ap (λ (l : List Given). slice_get l p) (sym gives) ∙ at_above) at_s;
    }

    by : (j ≡ i) ⊎ (j ≢ i) → Tied parents h1 g1 f1 m1 j
    by (inl same) = subst (λ (k : ℕ). Tied parents h1 g1 f1 m1 k) (sym same) new
    by (inr other) = still other (had j (omega (arith, low, other)))
