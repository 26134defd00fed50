-- Chains that are read part by part.
use Rattle.std.proofs.Common.{◌≡◌, ℕ, zero, suc, ◌+◌, ◌<◌, ◌≤◌, List, [], ◌∷◌, ◌++◌, map, length, drop, get_or, Option, Some, Result, Ok, Err, refl, sym, ◌∙◌, ap, arith, append_assoc}
use Rattle.std.specs.List.{flat_map}
use Rattle.std.proofs.lemmas.List.{append-nil, at_drop_more, at_drop_all}
use Rattle.text_parts.specs.Chains.{WordText}
use Rattle.text_parts.specs.Places.{placed_from}
use Rattle.text_parts.specs.Reading.{read_parts, then_read}
use Rattle.text_parts.proofs.ReadLemmas.{read_more, read_stops, read_ends}
use Rattle.stack_words.specs.declared.faults.StackFault.{StackFault}
use Rattle.stack_words.specs.Instances.{Instance}
use Rattle.stack_words.specs.Chains.{Link, news, last_place, part_at, link_at, chain_by, all_of, chain_at}
use Rattle.stack_words.specs.Steps.{Links, Joins}

pub flat_map-append : {X Y : Type 0} (f : X → List Y) (xs ys : List X) → flat_map f (xs ++ ys) ≡ flat_map f xs ++ flat_map f ys
flat_map-append f [] ys = refl
flat_map-append f (x ∷ xs) ys = ap (λ (l : List _). f x ++ l) (flat_map-append f xs ys) ∙ sym (append_assoc (f x) (flat_map f xs) (flat_map f ys))

pub last_place-push : (links : List Link) (link : Link) → last_place (links ++ link ∷ []) ≡ Some link.place
last_place-push [] link = refl
last_place-push (first ∷ []) link = refl
last_place-push (first ∷ next ∷ links) link = last_place-push (next ∷ links) link

news-push : (links : List Link) (link : Link) → news (links ++ link ∷ []) ≡ news links ++ link.new
news-push links link = flat_map-append (λ l. l.new) links (link ∷ []) ∙ ap (λ (l : List Instance). news links ++ l) (append-nil link.new)

-- the first k parts of a chain are read
pub record ChainSoFar (earlier : List Instance) (word : ℕ) (parts : List (List ℕ)) (k at : ℕ) (instances : List Instance) (parent : Option ℕ) : Type 0 where
  pub links : List Link
  pub reads : read_parts (link_at earlier word) [] (placed_from 0 parts) ≡ read_parts (link_at earlier word) links (placed_from at (drop k parts))
  pub joined : instances ≡ earlier ++ news links
  pub last : parent ≡ last_place links

module _ (earlier : List Instance) (word : ℕ) (parts : List (List ℕ)) (k at : ℕ) (instances : List Instance) (parent : Option ℕ) (s : ChainSoFar earlier word parts k at instances parent)
    (part : List ℕ) (within : k < length parts) (is : part ≡ get_or parts k part) where
  here : link_at earlier word s.links (at, part) ≡ part_at instances parent word (at, part)
  here = λ i. part_at (sym s.joined i) (sym s.last i) word (at, part)

  -- a part more
  pub chain_more : (place : ℕ) (new : List Instance) → Links (part_at instances parent word (at, part)) instances new place
      → ChainSoFar earlier word parts (k + 1) (at + length part + 1) new (Some place)
  chain_more place new l = record {
    links = s.links ++ record { place = place; new = l.added } ∷ [];
    reads = s.reads ∙ read_more (link_at earlier word) s.links at parts k part (record { place = place; new = l.added }) within is (here ∙ l.reads);
    joined = l.joined ∙ ap (λ (x : List Instance). x ++ l.added) s.joined ∙ append_assoc earlier (news s.links) l.added ∙ ap (λ (x : List Instance). earlier ++ x) (sym (news-push s.links (record { place = place; new = l.added })));
    last = sym (last_place-push s.links (record { place = place; new = l.added }));
  }

  -- a part with a fault
  pub chain_stops : (fault : StackFault) → part_at instances parent word (at, part) ≡ Err fault → then_read (read_parts (link_at earlier word) [] (placed_from 0 parts)) (λ links. Ok (news links)) ≡ Err fault
  chain_stops fault bad = ap (λ (r : Result (List Link) StackFault). then_read r (λ links. Ok (news links))) (s.reads ∙ read_stops (link_at earlier word) s.links at parts k part fault within is (here ∙ bad))

-- behind the last part
pub chain_ends : (earlier : List Instance) (word : ℕ) (parts : List (List ℕ)) (k at : ℕ) (instances : List Instance) (parent : Option ℕ) → ChainSoFar earlier word parts k at instances parent → length parts ≤ k
    → Joins (then_read (read_parts (link_at earlier word) [] (placed_from 0 parts)) (λ links. Ok (news links))) earlier instances
chain_ends earlier word parts k at instances parent s past = record {
  added = news s.links;
  reads = ap (λ (r : Result (List Link) StackFault). then_read r (λ links. Ok (news links))) (s.reads ∙ read_ends (link_at earlier word) s.links at parts k past);
  joined = s.joined;
}

-- the first k chains are read
pub record ChainsSoFar (chains : List WordText) (k : ℕ) (instances : List Instance) : Type 0 where
  pub lists : List (List Instance)
  pub reads : read_parts chain_at [] chains ≡ read_parts chain_at lists (drop k chains)
  pub joined : instances ≡ all_of lists

module _ (chains : List WordText) (k : ℕ) (instances : List Instance) (s : ChainsSoFar chains k instances) (chain : WordText) (within : k < length chains) (is : chain ≡ get_or chains k chain) where
  turn : read_parts chain_at s.lists (drop k chains) ≡ then_read (chain_by instances chain) (λ new. read_parts chain_at (s.lists ++ new ∷ []) (drop (k + 1) chains))
  turn = at_drop_more (λ cs. read_parts chain_at s.lists cs) chains k chain within
      ∙ ap (λ (c : WordText). read_parts chain_at s.lists (c ∷ drop (k + 1) chains)) (sym is)
      ∙ ap (λ (e : List Instance). then_read (chain_by e chain) (λ new. read_parts chain_at (s.lists ++ new ∷ []) (drop (k + 1) chains))) (sym s.joined)

  -- a chain more
  pub chains_more : (new : List Instance) → Joins (chain_by instances chain) instances new → ChainsSoFar chains (k + 1) new
  chains_more new j = record {
    lists = s.lists ++ j.added ∷ [];
    reads = s.reads ∙ turn ∙ ap (λ (r : Result (List Instance) StackFault). then_read r (λ more. read_parts chain_at (s.lists ++ more ∷ []) (drop (k + 1) chains))) j.reads;
    joined = j.joined ∙ ap (λ (x : List Instance). x ++ j.added) s.joined ∙ ap (λ (x : List Instance). all_of s.lists ++ x) (sym (append-nil j.added)) ∙ sym (flat_map-append (λ l. l) s.lists (j.added ∷ []));
  }

  -- a chain with a fault
  pub chains_stop : (fault : StackFault) → chain_by instances chain ≡ Err fault → then_read (read_parts chain_at [] chains) (λ lists. Ok (all_of lists)) ≡ Err fault
  chains_stop fault bad = ap (λ (r : Result (List (List Instance)) StackFault). then_read r (λ lists. Ok (all_of lists)))
      (s.reads ∙ turn ∙ ap (λ (r : Result (List Instance) StackFault). then_read r (λ more. read_parts chain_at (s.lists ++ more ∷ []) (drop (k + 1) chains))) bad)

-- behind the last chain
pub chains_end : (chains : List WordText) (k : ℕ) (instances : List Instance) → ChainsSoFar chains k instances → length chains ≤ k → then_read (read_parts chain_at [] chains) (λ lists. Ok (all_of lists)) ≡ Ok instances
chains_end chains k instances s past = ap (λ (r : Result (List (List Instance)) StackFault). then_read r (λ lists. Ok (all_of lists))) (s.reads ∙ at_drop_all (λ cs. read_parts chain_at s.lists cs) chains k past) ∙ ap (λ (x : List Instance). Ok x) (sym s.joined)

-- an element of a list, as it is seen
pub map_at : {X Y : Type 0} (f : X → Y) (xs : List X) (k : ℕ) (x : X) → k < length xs → x ≡ get_or xs k x → f x ≡ get_or (map f xs) k (f x)
map_at f [] k x within is = absurd (omega arith)
map_at f (y ∷ xs) zero x within is = ap f is
map_at f (y ∷ xs) (suc k) x within is = map_at f xs k x (omega arith) is
