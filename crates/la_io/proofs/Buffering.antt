-- What a sink has got through a buffer before it.
use Rattle.std.proofs.Common.{◌≡◌, ℕ, ◌≤◌, List, [], ◌++◌, take, length, Option, Some, None, refl, sym, ◌∙◌, ap, subst, arith, append_assoc, length-append, length-take, take-take}
use Rattle.std.proofs.lemmas.List.{append-nil, take_at, append_cancel_left}
use Rattle.std.specs.Io.KnownBytes.{Appends, append_known}
use Rattle.la_io.specs.Causes.{AppendsFront}
use Rattle.la_io.specs.Grown.{appends_on}
use Rattle.la_io.specs.Buffer.{held_by, behind, got_by, BufferGoesOn, HandsOn}
use Rattle.la_io.specs.declared.buffered.Buffered.{Buffered}

-- bytes went to a sink and, behind it, to a buffer that was empty: the sink has a front of them
front_behind : (old new : Option (List ℕ)) (held more bytes : List ℕ) → AppendsFront (append_known old []) (append_known new held) bytes → Appends old new more → AppendsFront old new bytes
front_behind None new held more bytes front grew = record {
  count = 0;
  front = tt;
}
front_behind (Some xs) None held more bytes front grew = absurd grew
front_behind (Some xs) (Some ys) held more bytes front grew =
    let all : more ++ held ≡ take front.count bytes =
    append_cancel_left xs (more ++ held) (take front.count bytes)
    (sym (append_assoc xs more held) ∙ ap (λ (l : List ℕ). l ++ held) (sym grew) ∙ front.front ∙ ap (λ (l : List ℕ). l ++ take front.count bytes) (append-nil xs)) in
    let few : length more ≤ front.count = omega (arith, ap length all, length-append more held, length-take front.count bytes) in
    let is : more ≡ take (length more) bytes =
    sym (take_at more held (length more) refl) ∙ ap (λ (l : List ℕ). take (length more) l) all ∙ take-take (length more) front.count bytes few in
    record {
      count = length more;
      front = grew ∙ ap (λ (l : List ℕ). xs ++ l) is;
    }

-- what was held went on: the two together have what they had
pub still_got : (old mid new : Option (List ℕ)) (all held sent rest : List ℕ) → Appends old (append_known mid held) all → held ≡ sent ++ rest → Appends mid new sent → Appends old (append_known new rest) all
still_got None mid new all held sent rest got split sending = tt
still_got (Some xs) None new all held sent rest got split sending = absurd got
still_got (Some xs) (Some ys) None all held sent rest got split sending = absurd sending
still_got (Some xs) (Some ys) (Some zs) all held sent rest got split sending =
    ap (λ (l : List ℕ). l ++ rest) sending ∙ append_assoc ys sent rest ∙ ap (λ (l : List ℕ). ys ++ l) (sym split) ∙ got

nothing_held : (old new : Option (List ℕ)) (bytes : List ℕ) → Appends (append_known old []) (append_known new []) bytes → Appends old new bytes
nothing_held None new bytes got = tt
nothing_held (Some xs) None bytes got = absurd got
nothing_held (Some xs) (Some ys) bytes got = sym (append-nil ys) ∙ got ∙ ap (λ (l : List ℕ). l ++ bytes) (append-nil xs)

module _ {K : Type 0} (written : K → Option (List ℕ)) (goes_on : K → K → Type 0) (first : Buffered K) (old new : K) (bytes : List ℕ) (from : behind first ≡ old) (empty : held_by first ≡ []) where
  seen : (last : Buffered K) → (P : Option (List ℕ) → Option (List ℕ) → Type 0) → behind last ≡ new → P (written (behind first)) (written (behind last)) → P (written old) (written new)
  seen last P to inner =
      let Q : K → K → Type 0 = λ (a b : K). P (written a) (written b) in
      subst (λ (a : K). Q a new) from (subst (λ (b : K). Q (behind first) b) to inner)

  -- After a failed write through a buffer that was empty, the sink has got a front of what was given.
  pub front_through : (last : Buffered K) → AppendsFront (got_by written first) (got_by written last) bytes → BufferGoesOn written goes_on first last → behind last ≡ new → AppendsFront (written old) (written new) bytes
  front_through last front on to =
      let F : List ℕ → Type 0 = λ (held : List ℕ). AppendsFront (append_known (written (behind first)) held) (got_by written last) bytes in
      seen last (λ a b. AppendsFront a b bytes) to (front_behind (written (behind first)) (written (behind last)) (held_by last) on.1.bytes bytes (subst F empty front) on.1.grew)

  -- The same where the buffer handed on a part of what it held.
  pub front_handed : (mid last : Buffered K) → AppendsFront (got_by written first) (got_by written mid) bytes → BufferGoesOn written goes_on first mid → HandsOn written mid last → behind last ≡ new → AppendsFront (written old) (written new) bytes
  front_handed mid last front on handed to =
      let F : List ℕ → Type 0 = λ (held : List ℕ). Appends (append_known (written (behind first)) held) (got_by written last) (take front.count bytes) in
      let grew = appends_on (written (behind first)) (written (behind mid)) (written (behind last)) on.1.bytes handed.sent (on.1.bytes ++ handed.sent) on.1.grew handed.got refl in
      let got = still_got (got_by written first) (written (behind mid)) (written (behind last)) (take front.count bytes) (held_by mid) handed.sent (held_by last) front.front handed.split handed.got in
      let all : AppendsFront (append_known (written (behind first)) []) (got_by written last) bytes = record {
        count = front.count;
        front = subst F empty got;
      } in
      seen last (λ a b. AppendsFront a b bytes) to (front_behind (written (behind first)) (written (behind last)) (held_by last) (on.1.bytes ++ handed.sent) bytes all grew)

  -- Where all was handed on, the sink has got just what was given.
  pub all_handed : (mid last : Buffered K) → Appends (got_by written first) (got_by written mid) bytes → HandsOn written mid last → held_by last ≡ [] → behind last ≡ new → Appends (written old) (written new) bytes
  all_handed mid last got handed none to =
      let F : List ℕ → List ℕ → Type 0 = λ (a b : List ℕ). Appends (append_known (written (behind first)) a) (append_known (written (behind last)) b) bytes in
      let now = still_got (got_by written first) (written (behind mid)) (written (behind last)) bytes (held_by mid) handed.sent (held_by last) got handed.split handed.got in
      seen last (λ a b. Appends a b bytes) to (nothing_held (written (behind first)) (written (behind last)) bytes (subst (λ (a : List ℕ). F a []) empty (subst (λ (b : List ℕ). F (held_by first) b) none now)))
